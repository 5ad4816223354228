use Rattle.std.proofs.Common.{ap, inr, is_some, subst, sym, ◌∙◌}
use Rattle.a429_word.proofs.Outcomes.{not_some}
use Rattle.a429_profile.specs.Profile.{Contents}
use Rattle.a429_search.specs.Frontier.{AreCarried, AreReal}
use Rattle.a429_search.proofs.SearchingFacts.{is_refused, none_left}
use Rattle.a429_search.proofs.searching.Carrier.fits.Goals as goal

pub returns-clause-refused : goal.returns-clause-refused
returns-clause-refused c = λ yes.
    is_refused c.args.decoded.now.profile c.args.decoded.now.items c.args.from c.args.to c.args.hypotheses.now c.in_ok-attempt.attempt
    c.profile.result.now c.profile.ensures.is c.in_ok-attempt.ensures.is
    (none_left c.profile.result.now c.args.hypotheses.now c.in_ok-next.next.items c.in_ok-attempt.attempt
    (sym c.deref.ensures.value ∙ c.are_none.ensures.none c.if-not-are_none.false)
    (c.in_ok-next.ensures.covers (not_some _ (sym c.cut.ensures.some ∙ ap is_some c.in-None.is))))

pub returns-then-not-are_none-clause-fits : goal.returns-then-not-are_none-clause-fits
returns-then-not-are_none-clause-fits c = λ yes.
    let hyps = c.args.hypotheses.now in
    let next = c.in_ok-next.next.items in
    inr (
      c.in_ok-attempt.attempt,
      c.in_ok-attempt.ensures.is,
      next,
      subst (λ (q : Contents). AreReal q hyps → AreCarried q hyps c.in_ok-attempt.attempt next) c.profile.ensures.is c.in_ok-next.ensures.only,
      λ none. c.are_none.ensures.some c.if-not-are_none.true (c.deref.ensures.value ∙ none),
    )
