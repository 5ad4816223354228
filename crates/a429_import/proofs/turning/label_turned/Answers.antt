use Rattle.std.proofs.Common.{◌∙◌, arith, ap}
use Rattle.a429_word.specs.Word.{label_of}
use Rattle.a429_import.proofs.TurningFacts.{label_turned-is}
use Rattle.a429_import.proofs.turning.label_turned.Goals as goal

pub returns : goal.returns
returns c = label_turned-is c.args.word c.from.result (omega arith) (c.from.ensures ∙ c.label.ensures ∙ ap label_of c.from_u32.ensures)
