use Rattle.std.proofs.Common.{arith, true}
use Rattle.a429_ldu.specs.CheckWord.{fed_bits}
use Rattle.a429_ldu.proofs.CheckWordDown.{eight_same}
use Rattle.a429_ldu.proofs.check_words.ordered_eight.Goals as goal

pub returns : goal.returns
returns c =
    eight_same (fed_bits true) (fed_bits c.args.low_first) c.args.bytes c.ordered.result c.ordered-2.result c.ordered-3.result
    c.ordered-4.result c.ordered-5.result c.ordered-6.result c.ordered-7.result c.ordered-8.result
    (omega arith) c.ordered.ensures c.ordered-2.ensures c.ordered-3.ensures c.ordered-4.ensures c.ordered-5.ensures c.ordered-6.ensures
    c.ordered-7.ensures c.ordered-8.ensures
