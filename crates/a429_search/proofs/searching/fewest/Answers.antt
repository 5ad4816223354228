use Rattle.std.proofs.Common.{arith}
use Rattle.a429_search.proofs.SearchingFacts.{fewest_of}
use Rattle.a429_search.proofs.searching.fewest.Goals as goal

pub returns-clause-some : goal.returns-clause-some
returns-clause-some c =
    fewest_of c.args.hypotheses.now c.loop-place.best c.loop-place.place c.loop-place.invariant.0
    (omega (arith, c.loop-place-test.false)) c.loop-place.invariant.1
