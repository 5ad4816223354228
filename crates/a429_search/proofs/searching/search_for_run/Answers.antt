use Rattle.std.proofs.Common.{◌≡◌, ◌∙◌, ℕ, IfSome, Option, Some, ap, arith, slice_get, subst, sym, take}
use Rattle.a429_link.specs.Attempt.{attempts, latest}
use Rattle.a429_explain.specs.Guess.{IsGuess}
use Rattle.a429_search.specs.declared.searching.Hypothesis.{Hypothesis}
use Rattle.a429_search.specs.Frontier.{FitsNone, FitsSome, IsAtRequest}
use Rattle.a429_search.specs.Recorded.{IsRequestAt}
use Rattle.a429_search.proofs.FrontierFacts.{CoverNext}
use Rattle.a429_search.proofs.SearchingFacts.{at_request, covers_on, is_refused, no_cut, no_run_at, none_cut, some_left, start_covers}
use Rattle.a429_search.proofs.SoundFacts.{sure_at_first, sure_before, sure_begins, sure_next, whole_if_heard}
use Rattle.a429_search.proofs.searching.search_for_run.Goals as goal

pub take-requires : goal.take-requires
take-requires c =
    let p = c.args.decoded.now.profile in
    let items = c.args.decoded.now.items in
    record {
      whole =
          whole_if_heard p c.profile-profile.ensures.sound items c.attempts.from c.next_request-to.result
          c.in_ok-attempt.attempt c.requires c.next_request-to.ensures.inside c.in_ok-attempt.ensures.is;
    }

pub misfit-requires-clause-refused : goal.misfit-requires-clause-refused
misfit-requires-clause-refused c =
    let told = c.in_ok-take.ensures.refused c.if-not-branch.true in
    is_refused c.args.decoded.now.profile c.args.decoded.now.items c.attempts.from c.next_request-to.result c.take.new.self.hypotheses.items
    c.in_ok-attempt.attempt c.profile-profile.result.now c.profile-profile.ensures.is c.in_ok-attempt.ensures.is
    (subst (λ l. FitsNone c.profile-profile.result.now l c.in_ok-attempt.attempt) (sym (ap (λ v. v.items) told.0)) told.3)

pub misfit-requires-clause-left : goal.misfit-requires-clause-left
misfit-requires-clause-left c =
    let told = c.in_ok-take.ensures.refused c.if-not-branch.true in
    λ none. c.attempts.invariant.some told.2 (sym (ap (λ v. v.items) told.0) ∙ none)

pub returns-then-not-branch : goal.returns-then-not-branch
returns-then-not-branch c =
    let p = c.args.decoded.now.profile in
    let items = c.args.decoded.now.items in
    let entry = c.in_ok-misfit.misfit.entry in
    let told = c.in_ok-take.ensures.refused c.if-not-branch.true in (
      omega (arith, c.in_ok-misfit.ensures.inside, c.next_request-to.ensures.inside),
      no_run_at p c.profile-profile.ensures.sound
          (λ these run. ((c.runs_record_what_can_be_assigned.ensures p these c.profile-profile.ensures.sound).0 run).1) items
          c.attempts.from entry c.take.new.self.hypotheses.items
          (subst (λ l. CoverNext p (attempts p (take c.attempts.from items)) l) (sym (ap (λ v. v.items) told.0))
          (c.attempts.invariant.covers told.2))
          c.in_ok-misfit.ensures.refused,
      λ uncut.
          let none = no_cut _ _ (sym c.or-cut.ensures ∙ uncut) in
          sure_before p c.profile-profile.ensures.sound
          (λ these good. c.runs_record_what_can_be_assigned.ensures p these good) items
          c.attempts.from entry c.attempts.search.hypotheses.items c.requires
          (omega (arith, c.in_ok-misfit.ensures.inside, c.next_request-to.ensures.inside))
          (c.attempts.invariant.sure (sym told.1 ∙ none.0))
          (subst (λ l. FitsSome p items l c.attempts.from entry) (ap (λ v. v.items) told.0)
          (c.in_ok-misfit.ensures.fits none.1)),
    )

pub attempts-preserved : goal.attempts-preserved
attempts-preserved c =
    let p = c.args.decoded.now.profile in
    let items = c.args.decoded.now.items in
    let from = c.attempts.from in
    let old = c.attempts.invariant in
    let here : IsRequestAt p items from = old.request (omega (arith, c.attempts-test.true, c.len.ensures)) in
    let cuts = c.in_ok-take.ensures.cuts in
    record {
      inside = c.next_request-to.ensures.inside;
      request = c.next_request-to.ensures.request;
      left_out =
          at_request p items c.attempts.search.left_out c.attempts.search.unsure from c.in_ok-attempt.attempt.at c.take.new.self.left_out
          c.in_ok-attempt.ensures.at here old.left_out old.unsure cuts.0;
      unsure =
          at_request p items c.attempts.search.left_out c.attempts.search.unsure from c.in_ok-attempt.attempt.at c.take.new.self.unsure
          c.in_ok-attempt.ensures.at here old.left_out old.unsure cuts.1;
      some = c.in_ok-take.ensures.some c.if-not-branch.false;
      sure = λ sure.
          let took = c.in_ok-take.ensures.sure c.if-not-branch.false sure in
          sure_next p c.profile-profile.ensures.sound items from c.next_request-to.result
          c.attempts.search.hypotheses.items
          c.take.new.self.hypotheses.items c.in_ok-attempt.attempt c.profile-profile.result.now c.requires
          c.next_request-to.ensures.inside
          c.profile-profile.ensures.is c.in_ok-attempt.ensures.is (old.sure took.0) took.1;
      covers =
          λ whole. covers_on p c.profile-profile.ensures.sound items from c.next_request-to.result
          _ c.attempts.search.hypotheses.items c.take.new.self.hypotheses.items
          c.in_ok-attempt.attempt c.profile-profile.result.now c.profile-profile.ensures.is c.in_ok-attempt.ensures.is
          (λ none. old.covers (none_cut c.attempts.search.left_out none)) (c.in_ok-take.ensures.covers c.if-not-branch.false whole);
    }

pub attempts-init : goal.attempts-init
attempts-init c =
    let p = c.args.decoded.now.profile in
    let items = c.args.decoded.now.items in
    let from = c.first_request-from.result in
    let hyps = c.in_ok-search.search.hypotheses.items in
    let uncut = c.in_ok-search.ensures.uncut in
    record {
      inside = c.first_request-from.ensures.inside;
      request = c.first_request-from.ensures.request;
      left_out = subst (λ o. IsAtRequest p items o) (sym uncut.0) tt;
      unsure = subst (λ o. IsAtRequest p items o) (sym uncut.1) tt;
      some = λ _. some_left hyps c.in_ok-search.ensures.start;
      sure = λ sure. sure_at_first p items from hyps c.first_request-from.ensures.none c.in_ok-search.ensures.start;
      covers = λ whole.
          subst (λ l. CoverNext p l hyps) (sym c.first_request-from.ensures.none)
          (start_covers p (latest p (take from items)) hyps c.in_ok-search.ensures.start);
    }

pub returns-in-Some : goal.returns-in-Some
returns-in-Some c =
    let p = c.args.decoded.now.profile in
    let items = c.args.decoded.now.items in
    let some =
    subst (λ (o : Option _). IfSome o (λ g. (k : ℕ) × (h : Hypothesis) × (slice_get c.attempts.search.hypotheses.items k ≡ Some h)))
    c.in-Some.is c.in_ok-guess.ensures.some in (
      subst (λ (o : Option _). IfSome o (IsGuess p items)) c.in-Some.is c.in_ok-guess.ensures.guess,
      record {
        at = c.attempts.invariant.unsure;
        sure = λ none.
            sure_begins p c.profile-profile.ensures.sound
            (λ these good. c.runs_record_what_can_be_assigned.ensures p these good) items c.attempts.from
            c.attempts.search.hypotheses.items some.0 some.1 c.requires (omega (arith, c.attempts-test.false, c.len.ensures)) some.2
            (c.attempts.invariant.sure none);
      },
    )
