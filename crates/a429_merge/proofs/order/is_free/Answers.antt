use Rattle.std.proofs.Common.{◌<◌, length, refl, sym, ◌∙◌, subst, arith, below_more, slice_index}
use Rattle.a429_merge.specs.Order.{IsLater}
use Rattle.a429_merge.proofs.OrderFacts.{inside_lists, inside_given}
use Rattle.a429_merge.proofs.order.is_free.Goals as goal

pub returns-then-comes_later-clause-is : goal.returns-then-comes_later-clause-is
returns-then-comes_later-clause-is c =
    let k = slice_index c.args.passed.now c.loop-i.i in
    let later = subst (λ xs. IsLater xs k c.args.word) c.words_at.ensures (c.comes_later.ensures.is.0 c.if-comes_later.true) in
    ((λ h. absurd (cc h)), (λ free. absurd (free c.loop-i.i (inside_lists c.args.lists.now c.loop-i.i c.loop-i-test.true) later)))

pub loop-i-preserved : goal.loop-i-preserved
loop-i-preserved c =
    let k = slice_index c.args.passed.now c.loop-i.i in
    record {
      none = below_more _ _ c.loop-i.invariant.none
          (λ later. let found = c.comes_later.ensures.is.1 (subst (λ xs. IsLater xs k c.args.word) (sym c.words_at.ensures) later) in
          absurd (cc (found, c.if-comes_later.false)));
      cut = c.comes_later.ensures.cut ∙ c.loop-i.invariant.cut;
      entry = c.comes_later.ensures.entry ∙ c.loop-i.invariant.entry;
    }

pub returns-clause-is : goal.returns-clause-is
returns-clause-is c = (
  (λ h i l. c.loop-i.invariant.none i (let m : i < length c.args.lists.now = inside_given c.args.lists.now i l in omega arith)),
  (λ h. refl),
)
