use Rattle.std.proofs.Common.{arith}
use Rattle.a429_search.proofs.SearchingFacts.{fewest_is}
use Rattle.a429_search.proofs.searching.merged.Goals.{then-is_whole, else-is_whole}
use Rattle.a429_search.proofs.searching.merged.Goals as goal

pub returns-clause-few : goal.returns-clause-few
returns-clause-few c = λ whole k h is at.
    let few = fewest_is c.args.next.now c.in-Some.place c.index-next-place.result c.in-Some.ensures.some c.index-next-place.is k h is in
    elim c.if-is_whole.branch [
      | then-is_whole w ↦ omega (arith, few, at.since, c.at-2.ensures.give_ups, w.give_ups-is)
      | else-is_whole w ↦ let off = w.if-is_whole.false in absurd (cc (whole, off))
    ]
