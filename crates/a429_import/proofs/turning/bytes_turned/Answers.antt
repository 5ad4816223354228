use Rattle.std.proofs.Common.{◌∙◌, arith}
use Rattle.a429_import.proofs.TurningFacts.{bytes_turned-is}
use Rattle.a429_import.proofs.turning.bytes_turned.Goals as goal

pub returns : goal.returns
returns c = c.swap_bytes.ensures ∙ omega (arith, bytes_turned-is c.args.word (omega arith))
