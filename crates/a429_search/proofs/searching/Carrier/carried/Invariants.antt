use Rattle.std.proofs.Common.{◌≡◌, ◌<◌, ℕ, None, Some, slice_get}
use Rattle.a429_link.specs.Assignment.{Assigned, IsSound}
use Rattle.a429_search.specs.declared.searching.Hypothesis.{Hypothesis}
use Rattle.a429_search.specs.Frontier.{AreAt, AreCarried, AreCovered, AreReal, Covers}
use Rattle.a429_search.specs.Recorded.{MayBeTo, number_of}
use Rattle.a429_search.proofs.searching.Carrier.carried.Given as goal

abbrev pub invariant-loop-place : goal.invariant-loop-place
invariant-loop-place l =
    (l.self.budget.cut ≡ None → (t : Assigned) → IsSound l.profile t → MayBeTo l.profile l.attempt t → (k : ℕ) (h : Hypothesis)
    → k < l.place → slice_get l.hypotheses k ≡ Some h → Covers l.profile h t → AreCovered l.profile l.next.items t)
    × AreAt (number_of l.attempt.start) l.next.items
    × (AreReal l.profile l.hypotheses → AreCarried l.profile l.hypotheses l.attempt l.next.items)
    × (l.self.budget.entry ≡ l.attempt.at)
