use Rattle.std.proofs.Common.{All, ◌≡◌}
use Rattle.a429_merge.specs.Order.{lists_of}
use Rattle.a429_merge.specs.Bounded.{IsPair}
use Rattle.a429_merge.proofs.bounded.pairs_of.Given as goal

abbrev pub invariant-loop-left : goal.invariant-loop-left
invariant-loop-left l = All (IsPair (lists_of l.lists)) l.pairs.items × (l.budget.cut ≡ l.fn.budget.cut) × (l.budget.entry ≡ l.fn.budget.entry)

abbrev pub invariant-loop-right : goal.invariant-loop-right
invariant-loop-right l = All (IsPair (lists_of l.lists)) l.pairs.items × (l.budget.cut ≡ l.fn.budget.cut) × (l.budget.entry ≡ l.fn.budget.entry)
