use Rattle.std.proofs.Common.{ℕ, ◌≤◌, List, length}
use Rattle.a429_merge.specs.Order.{lists_of}
use Rattle.a429_merge.specs.Bounded.{HasRests}
use Rattle.a429_merge.proofs.bounded.least_left.Given as goal

abbrev pub invariant-loop-pair : goal.invariant-loop-pair
invariant-loop-pair l = (zs : List ℕ) → HasRests (lists_of l.search.lists.now) l.passed zs → l.least ≤ length zs
