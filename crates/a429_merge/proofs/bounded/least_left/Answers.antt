use Rattle.std.proofs.Common.{◌≤◌, ℕ, All, sym, subst, arith, length, drop, slice_index}
use Rattle.a429_merge.specs.Order.{lists_of, words_at}
use Rattle.a429_merge.specs.Bounded.{IsPair}
use Rattle.a429_merge.proofs.PairFacts.{least}
use Rattle.a429_merge.proofs.bounded.least_left.Goals as goal

pub loop-pair-preserved : goal.loop-pair-preserved
loop-pair-preserved c zs has =
    let L = lists_of c.args.search.now.lists.now in
    let ps = c.args.passed.now in
    let p = c.pair-item.result in
    let rest = λ (i : ℕ). drop (slice_index ps i) (words_at L i) in
    let k = c.loop-pair.pair-index in
    let items = c.deref-pair-items.result.now in
    let are : All (IsPair L) items = subst (All (IsPair L)) (sym c.deref-pair-items.ensures.value) c.args.search.now.are_pairs in
    let pair : IsPair L p = subst (IsPair L) (sym c.pair-item.is) (are k p c.loop-pair-test.true) in
    let both : c.length_from-both.result ≤ length zs =
    rw (c.length_from-both.ensures, c.words_at-left.ensures, c.words_at-right.ensures)
    (least zs (rest p.left) (rest p.right) (has p.left pair.in_left) (has p.right pair.in_right)) in
    omega (arith, both, c.max-least.ensures, c.from.ensures, c.loop-pair.invariant zs has)
