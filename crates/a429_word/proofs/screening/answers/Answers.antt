use Rattle.std.proofs.Common.{◌∙◌, arith}
use Rattle.a429_word.proofs.ScreeningLanes.{answer-lanes}
use Rattle.a429_word.proofs.screening.answers.Goals as goal

pub returns : goal.returns
returns c =
    answer-lanes c.args.words c.parities.result c.from.result c.args.label c.requires (omega arith)
    (c.from.ensures ∙ c.reverse_bits.ensures) c.parities.ensures
