use Rattle.std.proofs.Common.{◌≡◌, ◌<◌, ℕ, None, get_or, ◌++◌, ◌∷◌, []}
use Rattle.a429_merge.specs.declared.bounded.Step.{Step}
use Rattle.a429_merge.specs.Order.{lists_of}
use Rattle.a429_merge.specs.Bounded.{IsHopeless}
use Rattle.a429_merge.proofs.OrderFacts.{left_count}
use Rattle.a429_merge.proofs.bounded.+extend.Given as goal

abbrev pub decreases-extend : goal.decreases-extend
decreases-extend l = left_count (lists_of l.search.now.lists.now) l.passed.now

abbrev pub invariant-loop-step : goal.invariant-loop-step
invariant-loop-step l =
    (l.path.merged.items ≡ l.fn.path.merged.items) ×
    (l.budget.entry ≡ l.fn.budget.entry) ×
    (l.budget.cut ≡ None → l.fn.budget.cut ≡ None) ×
    (l.budget.cut ≡ None → (k : ℕ) (d : Step) → k < l.step-index
    → IsHopeless l.search.profile.now l.search.wanted.count l.search.wanted.check (lists_of l.search.lists.now)
    (get_or l.step-items k d).passed.items (l.fn.path.merged.items ++ (get_or l.step-items k d).word ∷ []))
