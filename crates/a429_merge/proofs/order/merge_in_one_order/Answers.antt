use Rattle.std.proofs.Common.{◌≡◌, ◌<◌, length, sym, subst, ◌∙◌, ap, arith, slice_index}
use Rattle.std.proofs.lemmas.List.{with_items_is}
use Rattle.a429_merge.specs.Order.{lists_of, words_at, IsFree, IsAllPassed, passed_with}
use Rattle.a429_merge.proofs.OrderFacts.{Merging, merging_more, all_kept, no_order, passes_fewer, inside_lists, inside_given, Passes, ComesNext, left_count}
use Rattle.a429_merge.proofs.order.merge_in_one_order.Goals as goal
use Rattle.a429_merge.proofs.order.merge_in_one_order.Goals.{After-pass}

next : (c : After-pass) → ComesNext (lists_of c.args.lists.now) c.loop-word.passed.items c.in-Some.word
next c =
    let n = c.in-Some.ensures.next in
    subst (λ ps. ComesNext (lists_of c.args.lists.now) ps c.in-Some.word) c.deref.ensures.value
    (n.0, inside_lists c.args.lists.now n.0 n.1, n.2)

long : (c : After-pass) → length c.pass.new.passed ≡ length c.loop-word.passed.items
long c = c.pass.auto.passed ∙ ap length c.deref_mut.ensures.value

passes : (c : After-pass) → Passes (lists_of c.args.lists.now) c.loop-word.passed.items c.pass.new.passed c.in-Some.word
passes c i l =
    let inside : i < length c.pass.new.passed = omega (arith, long c, c.loop-word.invariant.merging.counted) in
    subst (λ ps. slice_index c.pass.new.passed i ≡ passed_with (words_at (lists_of c.args.lists.now) i) (slice_index ps i) c.in-Some.word)
    c.deref_mut.ensures.value (c.pass.ensures i inside)

pub loop-word-smaller : goal.loop-word-smaller
loop-word-smaller c =
    let a = (goal.at.loop-word-smaller c).After-pass in
    let L = lists_of c.args.lists.now in
    let ps = c.loop-word.passed.items in
    let items = with_items_is c.loop-word.passed c.pass.new.passed (long a ∙ sym c.loop-word.passed.ok.0) in
    subst (λ qs. left_count L qs < left_count L ps) (sym items)
    (passes_fewer L ps c.pass.new.passed c.in-Some.word c.loop-word.invariant.merging.counted
    (long a ∙ c.loop-word.invariant.merging.counted) (passes a) (next a))

pub loop-word-preserved : goal.loop-word-preserved
loop-word-preserved c =
    let a = (goal.at.loop-word-preserved c).After-pass in
    let L = lists_of c.args.lists.now in
    let ps = c.loop-word.passed.items in
    let qs = c.pass.new.passed in
    let w = c.in-Some.word in
    let free : IsFree L ps w = subst (λ ps. IsFree L ps w) c.deref.ensures.value c.in-Some.ensures.free in
    let more = merging_more L ps qs c.loop-word.merged.items w c.loop-word.invariant.merging (long a) (passes a) (next a) free in
    let items = with_items_is c.loop-word.passed qs (long a ∙ sym c.loop-word.passed.ok.0) in
    record {
      merging =
          subst (λ qs. Merging L qs c.push.new.self.items) (sym items)
          (subst (λ ms. Merging L qs ms) (sym c.in_ok-push.ensures.items) more);
      cut = c.in-Some.ensures.cut ∙ c.loop-word.invariant.cut;
      entry = c.in-Some.ensures.entry ∙ c.loop-word.invariant.entry;
    }

pub returns-then-are_passed-clause-kept : goal.returns-then-are_passed-clause-kept
returns-then-are_passed-clause-kept c =
    let L = lists_of c.args.lists.now in
    let all : IsAllPassed L c.loop-word.passed.items =
    subst (λ ps. IsAllPassed L ps) c.deref-2.ensures.value (c.are_passed.ensures.0 c.if-are_passed.true) in
    all_kept L c.loop-word.passed.items c.loop-word.merged.items c.loop-word.invariant.merging.kept all

pub returns-clause-none : goal.returns-clause-none
returns-clause-none c =
    let L = lists_of c.args.lists.now in
    let ps = c.deref.result.now in
    let same : c.deref-2.result.now ≡ ps = c.deref-2.ensures.value ∙ sym c.deref.ensures.value in
    no_order L ps
    (λ i l w. c.in_default.ensures.none i (inside_given c.args.lists.now i l) w)
    (λ all. let found = c.are_passed.ensures.1 (subst (λ ps. IsAllPassed L ps) (sym same) all) in
    absurd (cc (found, c.if-are_passed.false)))
