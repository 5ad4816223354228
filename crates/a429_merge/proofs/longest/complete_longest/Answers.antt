use Rattle.std.proofs.Common.{IfNone, ◌∙◌, subst, below_more}
use Rattle.a429_merge.specs.Order.{lists_of, words_at, HasEach}
use Rattle.a429_merge.specs.Fill.{CanBeCompleted}
use Rattle.a429_merge.proofs.longest.complete_longest.Goals as goal

pub loop-i-preserved : goal.loop-i-preserved
loop-i-preserved c =
    let L = lists_of c.args.lists.now in
    let list = words_at L c.loop-i.i in
    record {
      none = below_more _ _ c.loop-i.invariant.none
          (subst (λ o. IfNone o (HasEach list L → ¬ CanBeCompleted c.args.profile.now c.args.wanted.count c.args.wanted.check list))
          c.in-None.is c.in_ok-words.ensures.none);
      cut = c.in_ok-words.ensures.cut ∙ c.loop-i.invariant.cut;
      entry = c.in_ok-words.ensures.entry ∙ c.loop-i.invariant.entry;
    }
