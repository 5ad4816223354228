use Rattle.std.proofs.Common.{◌≤◌, ℕ, Vec, Global, sum_by, take, ◌+◌, ◌++◌, ap, ◌≡◌, ◌<◌, [], length, sym, ◌∙◌, subst, arith, below_more}
use Rattle.std.proofs.lemmas.List.{get_or_default, length-append}
use Rattle.std.proofs.lemmas.List.Sums.{sum_by_more}
use Rattle.a429_link.specs.Run.{IsSubsequenceOf}
use Rattle.a429_merge.specs.Order.{lists_of, words_at}
use Rattle.a429_link.proofs.Subsequence.{sub_none}
use Rattle.a429_merge.proofs.SubsequenceFacts.{sub_trans, sub_before, sub_append, sub_all}
use Rattle.a429_merge.proofs.OrderFacts.{inside_given}
use Rattle.a429_merge.proofs.PairFacts.{row_read}
use Rattle.a429_merge.proofs.one_by_one.merge_one_by_one.Goals as goal

pub loop-list-preserved : goal.loop-list-preserved
loop-list-preserved c =
    let lists = c.args.lists.now in
    let i = c.loop-list.list-index in
    let old = c.loop-list.merged.items in
    let new = c.in_ok-merged.merged.items in
    let kept : IsSubsequenceOf old new = subst (λ xs. IsSubsequenceOf xs new) c.deref.ensures.value c.in_ok-merged.ensures.left in
    let read : words_at (lists_of lists) i ≡ c.list-item.result.items =
    row_read lists i c.list-item.result c.loop-list-test.true c.list-item.is in
    let here : IsSubsequenceOf (words_at (lists_of lists) i) new =
    subst (λ xs. IsSubsequenceOf xs new) (c.deref-in-loop-list.ensures.value ∙ sym read) c.in_ok-merged.ensures.right in
    let long : Vec ℕ Global → ℕ = λ list. length list.items in
    let item = c.list-item.result.items in
    let both = old ++ item in
    let has_old : IsSubsequenceOf c.deref.result.now both =
    subst (λ xs. IsSubsequenceOf xs both) (sym c.deref.ensures.value) (sub_before old old item (sub_all old)) in
    let has_item : IsSubsequenceOf c.deref-in-loop-list.result.now both =
    subst (λ xs. IsSubsequenceOf xs both) (sym c.deref-in-loop-list.ensures.value)
    (sub_append [] old item item (sub_none old) (sub_all item)) in
    let short : length new ≤ length both = c.in_ok-merged.ensures.shortest both has_old has_item in
    let more : sum_by long (take (i + 1) lists) ≡ sum_by long (take i lists) + long c.list-item.result =
    sum_by_more long lists i c.list-item.result c.loop-list-test.true
    ∙ ap (λ (n : ℕ). sum_by long (take i lists) + n) (ap long (sym c.list-item.is)) in
    let before = c.loop-list.invariant.few in
    record {
      each =
          below_more (λ k. IsSubsequenceOf (words_at (lists_of lists) k) new) i
          (λ k l. sub_trans (words_at (lists_of lists) k) old new (c.loop-list.invariant.each k l) kept) here;
      few = omega (arith, short, more, length-append old item);
      cut = c.spend.ensures.cut ∙ c.loop-list.invariant.cut;
      entry = c.spend.ensures.entry ∙ c.loop-list.invariant.entry;
    }

pub returns-clause-kept : goal.returns-clause-kept
returns-clause-kept c k d l =
    let lists = c.args.lists.now in
    let inside : k < length lists = inside_given lists k l in
    subst (λ xs. IsSubsequenceOf xs c.loop-list.merged.items) (get_or_default (lists_of lists) k [] d l)
    (c.loop-list.invariant.each k (omega arith))
