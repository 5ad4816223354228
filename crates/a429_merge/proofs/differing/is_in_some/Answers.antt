use Rattle.std.proofs.Common.{◌≡◌, ◌∙◌, sym, subst, below_more}
use Rattle.a429_link.specs.Run.{IsSubsequenceOf}
use Rattle.a429_merge.specs.Order.{lists_of, words_at}
use Rattle.a429_merge.proofs.PairFacts.{row_read}
use Rattle.a429_merge.proofs.differing.is_in_some.Goals as goal

pub loop-list-preserved : goal.loop-list-preserved
loop-list-preserved c =
    let lists = c.args.lists.now in
    let i = c.loop-list.list-index in
    let read : words_at (lists_of lists) i ≡ c.deref.result.now =
    row_read lists i c.list-item.result c.loop-list-test.true c.list-item.is ∙ sym c.deref.ensures.value in
    below_more _ _ c.loop-list.invariant
    (λ has. let found = c.is_subsequence.ensures.1 (subst (λ xs. IsSubsequenceOf c.args.words.now xs) read has) in
    absurd (cc (found, c.if-is_subsequence.false)))
