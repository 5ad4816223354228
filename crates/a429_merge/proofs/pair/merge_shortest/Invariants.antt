use Rattle.std.proofs.Common.{length, ◌-◌, ◌+◌}
use Rattle.a429_merge.proofs.PairFacts.{Walk}
use Rattle.a429_merge.proofs.pair.merge_shortest.Given as goal

abbrev pub invariant-loop-i : goal.invariant-loop-i
invariant-loop-i l = Walk l.left l.right l.i l.j l.merged.items

abbrev pub decreases-loop-i : goal.decreases-loop-i
decreases-loop-i l = (length l.left - l.i) + (length l.right - l.j)
