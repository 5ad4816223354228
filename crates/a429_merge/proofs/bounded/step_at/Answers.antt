use Rattle.std.proofs.Common.{rules, ◌≡◌, Some, slice_index, slice_get, sym, subst}
use Rattle.a429_merge.specs.Order.{lists_of, words_at, IsNext}
use Rattle.a429_merge.proofs.HopelessFacts.{next_before, same_next}
use Rattle.a429_merge.proofs.bounded.step_at.Goals as goal

pub returns-then-not-is_first-clause-none : goal.returns-then-not-is_first-clause-none
returns-then-not-is_first-clause-none c w next =
    let L = lists_of c.args.lists.now in
    let ps = c.args.passed.now in
    let got : slice_get (words_at L c.args.i) (slice_index ps c.args.i) ≡ Some c.in-Some.word = search rules in
    let same : c.in-Some.word ≡ w = same_next L ps c.args.i c.in-Some.word w got next in
    next_before L ps c.args.i w
    (λ none. absurd (cc (c.if-not-is_first.ensures.1 (λ j m. subst (λ v. ¬ IsNext L ps j v) (sym same) (none j m)))))
