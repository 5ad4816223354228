use Rattle.std.proofs.Common.{◌≡◌, length}
use Rattle.a429_search.proofs.trail.with_heard.Given as goal

abbrev pub invariant-loop-at : goal.invariant-loop-at
invariant-loop-at l = length l.found.items ≡ l.at
