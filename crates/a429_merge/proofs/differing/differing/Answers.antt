use Rattle.std.proofs.Common.{◌≡◌, ◌<◌, [], length, sym, ap, ◌∙◌, subst, arith, below_more}
use Rattle.std.proofs.lemmas.List.{get_or_default}
use Rattle.a429_link.specs.Run.{IsSubsequenceOf}
use Rattle.a429_merge.specs.Order.{lists_of, words_at}
use Rattle.a429_merge.proofs.SubsequenceFacts.{sub_trans}
use Rattle.a429_merge.proofs.OrderFacts.{inside_lists, inside_given}
use Rattle.a429_merge.proofs.PairFacts.{row_read}
use Rattle.a429_merge.proofs.differing.differing.Goals as goal

pub loop-list-preserved-then-is_in_some : goal.loop-list-preserved-then-is_in_some
loop-list-preserved-then-is_in_some c =
    let lists = c.args.lists.now in
    let kept = c.loop-list.kept.items in
    let i = c.loop-list.list-index in
    let read : c.deref.result.now ≡ words_at (lists_of lists) i =
    c.deref.ensures.value ∙ sym (row_read lists i c.list-item.result c.loop-list-test.true c.list-item.is) in
    let found = c.is_in_some.ensures.0 c.if-is_in_some.true in
    let j = found.0 in
    let same = c.deref-in-loop-list.ensures.value in
    let inside : j < length (lists_of kept) = inside_lists kept j (omega (arith, found.1, ap length same)) in
    let has : IsSubsequenceOf (words_at (lists_of lists) i) (words_at (lists_of kept) j) =
    subst (λ xs. IsSubsequenceOf xs (words_at (lists_of kept) j)) read
    (subst (λ vs. IsSubsequenceOf c.deref.result.now (words_at (lists_of vs) j)) same found.2) in
    record {
      all =
          λ zs each. below_more _ _ (c.loop-list.invariant.all zs each)
          (sub_trans (words_at (lists_of lists) i) (words_at (lists_of kept) j) zs has (each j [] inside));
      only = c.loop-list.invariant.only;
      few = c.loop-list.invariant.few;
      most = omega (arith, c.loop-list.invariant.most);
      cut = c.spend.ensures.cut ∙ c.loop-list.invariant.cut;
      entry = c.spend.ensures.entry ∙ c.loop-list.invariant.entry;
    }

pub loop-list-preserved : goal.loop-list-preserved
loop-list-preserved c =
    let lists = c.args.lists.now in
    let i = c.loop-list.list-index in
    let read : c.in_ok-from_slice.field-0.items ≡ words_at (lists_of lists) i = c.in_ok-from_slice.ensures.items
    ∙ c.deref-in-loop-list-2.ensures.value ∙ sym (row_read lists i c.list-item.result c.loop-list-test.true c.list-item.is) in
    record {
      all = λ zs each.
          let both = c.in_ok-keep.ensures.all zs each in
          below_more _ _ (c.loop-list.invariant.all zs both.0) (subst (λ xs. IsSubsequenceOf xs zs) read both.1);
      only =
          λ zs each. c.in_ok-keep.ensures.only zs (c.loop-list.invariant.only zs each)
          (subst (λ xs. IsSubsequenceOf xs zs) (sym read) (each i [] (inside_lists lists i c.loop-list-test.true)));
      few = omega (arith, c.len.ensures, c.if-len-gt-MOST_ATTEMPTS.false);
      most = omega (arith, c.in_ok-keep.ensures.count, c.loop-list.invariant.most);
      cut = c.spend.ensures.cut ∙ c.loop-list.invariant.cut;
      entry = c.spend.ensures.entry ∙ c.loop-list.invariant.entry;
    }

pub returns-clause-all : goal.returns-clause-all
returns-clause-all c zs each k d l =
    let lists = c.args.lists.now in
    let inside : k < length lists = inside_given lists k l in
    subst (λ xs. IsSubsequenceOf xs zs) (get_or_default (lists_of lists) k [] d l) (c.loop-list.invariant.all zs each k (omega arith))
