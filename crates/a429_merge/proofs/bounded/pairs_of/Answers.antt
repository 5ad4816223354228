use Rattle.std.proofs.Common.{All, IfSome, sym, subst, ◌∙◌}
use Rattle.std.proofs.lemmas.List.Elements.{All-push}
use Rattle.a429_merge.specs.Order.{lists_of}
use Rattle.a429_merge.specs.Bounded.{IsPair}
use Rattle.a429_merge.proofs.bounded.pairs_of.Goals as goal

pub loop-left-preserved : goal.loop-left-preserved
loop-left-preserved c =
    let P = IsPair (lists_of c.args.lists.now) in
    let pair = subst (λ o. IfSome o P) c.in-Some.is c.in_ok-pair.ensures.some in (
      subst (All P) (sym c.in_ok-push-in-Some.ensures.items)
          (All-push P c.loop-left.pairs.items c.in-Some.pair c.loop-left.invariant.0 pair),
      c.in_ok-pair.ensures.cut ∙ c.loop-left.invariant.1,
      c.in_ok-pair.ensures.entry ∙ c.loop-left.invariant.2,
    )
