use Rattle.std.proofs.Common.{◌≡◌, Option, IfOk, OnOk, sym, ◌∙◌, subst}
use Rattle.std.proofs.lemmas.Result.{IfErr-weaker, on_ok_weaker}
use Rattle.a429_ldu.specs.declared.forms.Form.{Form}
use Rattle.a429_sink.specs.Anywhere.{glimpses_form}
use Rattle.a429_sink.specs.Glimpsed.{FollowsForm, glimpse_of}
use Rattle.a429_sink.proofs.GlimpsedFacts.{free_follows, free_taken, glimpse_fault, glimpse_sight}
use Rattle.a429_sink.proofs.LoneFacts.{form_seen}
use Rattle.a429_sink.proofs.glimpsed.GlimpsedSink.see.Goals as goal

pub returns-in-Form-clause-allowed : goal.returns-in-Form-clause-allowed
returns-in-Form-clause-allowed c =
    on_ok_weaker c.see_form.result
    (glimpse_sight c.args.profile.now (glimpse_of c.args.self.now) c.args.seen _ (sym c.in-Form.is ∙ c.form.ensures.computed)).1
    c.see_form.ensures.allowed

pub returns-in-Form-clause-taken : goal.returns-in-Form-clause-taken
returns-in-Form-clause-taken c =
    let p = c.args.profile.now in
    subst (λ (x : Option Form). OnOk c.see_form.result
    (glimpse_of c.see_form.new.self ≡ glimpses_form p c.args.seen.bus c.args.seen.word x (glimpse_of c.args.self.now)))
    (sym (form_seen p c.args.seen.bus c.args.seen.word _ (sym c.in-Form.is ∙ c.form.ensures.computed))) c.see_form.ensures.taken

pub returns-in-Form-clause-follows : goal.returns-in-Form-clause-follows
returns-in-Form-clause-follows c =
    let p = c.args.profile.now in
    subst (λ (x : Option Form).
    IfOk c.see_form.result (FollowsForm p c.args.seen.bus c.args.seen.word x c.args.self.now c.see_form.new.self))
    (sym (form_seen p c.args.seen.bus c.args.seen.word _ (sym c.in-Form.is ∙ c.form.ensures.computed))) c.see_form.ensures.follows

pub returns-in-Form-clause-fault : goal.returns-in-Form-clause-fault
returns-in-Form-clause-fault c =
    let p = c.args.profile.now in
    let is = sym c.in-Form.is ∙ c.form.ensures.computed in
    IfErr-weaker c.see_form.result _ _
    (λ f. glimpse_fault p c.args.self.now c.args.seen _ f is (form_seen p c.args.seen.bus c.args.seen.word _ is)) c.see_form.ensures.fault

pub returns-in-Free-clause-taken : goal.returns-in-Free-clause-taken
returns-in-Free-clause-taken c =
    let p = c.args.profile.now in
    free_taken p c.args.seen (glimpse_of c.args.self.now)
    (form_seen p c.args.seen.bus c.args.seen.word _ (sym c.in-Free.is ∙ c.form.ensures.computed))

pub returns-in-Free-clause-follows : goal.returns-in-Free-clause-follows
returns-in-Free-clause-follows c =
    let p = c.args.profile.now in
    free_follows p c.args.seen c.args.self.now (form_seen p c.args.seen.bus c.args.seen.word _ (sym c.in-Free.is ∙ c.form.ensures.computed))

pub returns-in-NoForm-clause-fault : goal.returns-in-NoForm-clause-fault
returns-in-NoForm-clause-fault c =
    (glimpse_sight c.args.profile.now (glimpse_of c.args.self.now) c.args.seen _ (sym c.in-NoForm.is ∙ c.form.ensures.computed)).0
