use Rattle.std.proofs.Common.{◌≡◌, ◌++◌, length}
use Rattle.a429_profile.specs.Profile.{Contents}
use Rattle.a429_link.specs.Assignment.{Assigned}
use Rattle.a429_search.specs.Frontier.{AreCovered, AreSame}
use Rattle.a429_search.proofs.trail.Trail.leave_out.Given as goal

abbrev pub invariant-loop-hypothesis : goal.invariant-loop-hypothesis
invariant-loop-hypothesis l = record {
  covers : (p : Contents) (t : Assigned)
      → AreCovered p l.fn.hypotheses.items t → AreCovered p (l.moved.items ++ l.hypothesis-iterator.rest.items) t;
  many : length (l.moved.items ++ l.hypothesis-iterator.rest.items) ≡ length l.fn.hypotheses.items;
  same : AreSame l.fn.hypotheses.items (l.moved.items ++ l.hypothesis-iterator.rest.items);
}
