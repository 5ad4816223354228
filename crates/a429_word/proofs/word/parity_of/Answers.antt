use Rattle.std.proofs.Common.{arith}
use Rattle.a429_word.proofs.WordBits.{parity-counted}
use Rattle.a429_word.proofs.word.parity_of.Goals as goal

pub returns : goal.returns
returns c = parity-counted c.args.number (omega arith)
