use Rattle.std.proofs.Common.{◌∙◌}
use Rattle.a429_ldu.proofs.FillingDigits.{five_at}
use Rattle.a429_ldu.proofs.filling.semis_at.Goals as goal

pub kept-requires : goal.kept-requires
kept-requires c =
    (five_at c.args.bytes.now c.args.at c.digit_at.result c.digit_at-2.result c.digit_at-3.result c.digit_at-4.result c.digit_at-5.result
    c.at_most_five.result c.requires.within
    c.digit_at.ensures.value c.digit_at-2.ensures.value c.digit_at-3.ensures.value c.digit_at-4.ensures.value c.digit_at-5.ensures.value
    c.digit_at.ensures.small c.digit_at-2.ensures.small c.digit_at-3.ensures.small c.digit_at-4.ensures.small c.digit_at-5.ensures.small
    c.at_most_five.ensures).kept

pub returns : goal.returns
returns c =
    c.kept.ensures
    ∙ (five_at c.args.bytes.now c.args.at c.digit_at.result c.digit_at-2.result c.digit_at-3.result c.digit_at-4.result c.digit_at-5.result
    c.at_most_five.result c.requires.within
    c.digit_at.ensures.value c.digit_at-2.ensures.value c.digit_at-3.ensures.value c.digit_at-4.ensures.value c.digit_at-5.ensures.value
    c.digit_at.ensures.small c.digit_at-2.ensures.small c.digit_at-3.ensures.small c.digit_at-4.ensures.small c.digit_at-5.ensures.small
    c.at_most_five.ensures).front
