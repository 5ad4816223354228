use Rattle.std.proofs.Common.{◌≡◌, ◌<◌, length, slice_get, sym, ◌∙◌, arith}
use Rattle.a429_explain.specs.Attempts.{roles}
use Rattle.a429_explain.specs.Decoded.{HeardValue, sight_at, forms_of}
use Rattle.a429_explain.specs.Whole.{wanted}
use Rattle.a429_explain.proofs.AttemptsFacts.{asked_is, roles_long}
use Rattle.a429_explain.proofs.WholeFacts.{other_here, other_same, other_none, request_doubt}
use Rattle.a429_explain.proofs.block.other_request.Goals as goal
use Rattle.a429_explain.proofs.block.other_request.Goals.{After-asked, in-Some+else-count-request, in_default}

-- the word that is looked at is one of the recording's
inside : (a : After-asked) (h : HeardValue) → a.args.roles.now ≡ roles (forms_of h.profile.codes h.items) → a.loop-at.at < length h.items
inside a h e = let long = roles_long h.profile.codes h.items a.args.roles.now e in omega (arith, long, a.loop-at-test.true, a.requires)

-- the words that are asked for are those of a request there
wants : (a : After-asked) (h : HeardValue) → a.args.roles.now ≡ roles (forms_of h.profile.codes h.items)
    → a.asked.result ≡ wanted (sight_at h.profile.codes (slice_get h.items a.loop-at.at))
wants a h e = a.asked.ensures ∙ asked_is h.profile.codes h.items a.args.roles.now a.loop-at.at _ e (inside a h e)

pub returns-then-count-request-clause-first : goal.returns-then-count-request-clause-first
returns-then-count-request-clause-first c = λ h e.
    let a = (goal.at.returns-then-count-request-clause-first c).After-asked in
    sym (c.loop-at.invariant h e
    ∙ other_here h.profile.codes c.args.request.count h.items c.loop-at.at c.args.request.group.to c.in-Some.count c.loop-at-test.true
    (inside a h e) (sym c.in-Some.is ∙ wants a h e) c.if-count-request.true)

pub returns-then-count-request-clause-fits : goal.returns-then-count-request-clause-fits
returns-then-count-request-clause-fits c = λ h e.
    let a = (goal.at.returns-then-count-request-clause-fits c).After-asked in
    request_doubt h.profile.codes h.items c.loop-at.at c.in-Some.count (sym c.in-Some.is ∙ wants a h e)

pub loop-at-preserved : goal.loop-at-preserved
loop-at-preserved c = λ h e.
    let a = (goal.at.loop-at-preserved c).After-asked in
    c.loop-at.invariant h e ∙ elim c.match-asked.branch [
      | in-Some+else-count-request w ↦
          other_same h.profile.codes c.args.request.count h.items c.loop-at.at c.args.request.group.to w.in-Some.count c.loop-at-test.true
          (inside a h e) (sym w.in-Some.is ∙ wants a h e) w.if-count-request.false
      | in_default w ↦
          other_none h.profile.codes c.args.request.count h.items c.loop-at.at c.args.request.group.to c.loop-at-test.true (inside a h e)
          (sym w.in_default.is ∙ wants a h e)
    ]
