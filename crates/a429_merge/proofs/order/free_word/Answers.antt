use Rattle.std.proofs.Common.{◌≡◌, ℕ, ◌∙◌, sym, ap, subst, List, below_more, slice_get, slice_index}
use Rattle.a429_merge.specs.Order.{lists_of, IsFree}
use Rattle.a429_merge.proofs.order.free_word.Goals as goal

pub returns-then-is_free-clause-free : goal.returns-then-is_free-clause-free
returns-then-is_free-clause-free c = c.is_free.ensures.is.0 c.if-is_free.true

pub loop-i-preserved : goal.loop-i-preserved
loop-i-preserved c =
    let k = slice_index c.args.passed.now c.loop-i.i in
    record {
      none = below_more _ _ c.loop-i.invariant.none (λ w next free.
          let read = sym c.in-Some.is ∙ c.next_word.ensures ∙ ap (λ (xs : List ℕ). slice_get xs k) c.words_at.ensures ∙ next in
          let same : w ≡ c.in-Some.word = cc read in
          let found = c.is_free.ensures.is.1 (subst (λ v. IsFree (lists_of c.args.lists.now) c.args.passed.now v) same free) in
          absurd (cc (found, c.if-is_free.false)));
      cut = c.is_free.ensures.cut ∙ c.loop-i.invariant.cut;
      entry = c.is_free.ensures.entry ∙ c.loop-i.invariant.entry;
    }
