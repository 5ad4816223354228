use Rattle.std.proofs.Common.{Option, sym, ap, ◌∙◌}
use Rattle.std.proofs.lemmas.Result.{IfErr-weaker}
use Rattle.a429_word.specs.declared.bus.Bus.TheVariants as bus
use Rattle.a429_ldu.specs.declared.forms.Form.{Form}
use Rattle.a429_sink.specs.Lone.{keeps_form}
use Rattle.a429_sink.proofs.LoneFacts.{fault_on, form_seen}
use Rattle.a429_sink.proofs.lone.LoneSink.see_answer.Goals as goal

pub returns-in-Form-clause-fault : goal.returns-in-Form-clause-fault
returns-in-Form-clause-fault c =
    let p = c.args.profile.now in
    IfErr-weaker c.give.result _ _
    (λ f. fault_on p c.args.self.now c.args.word _ f (sym c.in-Form.is ∙ c.form.ensures.computed)) c.give.ensures.fault

pub returns-in-Free-clause-taken : goal.returns-in-Free-clause-taken
returns-in-Free-clause-taken c =
    let p = c.args.profile.now in
    sym c.rests.ensures ∙ ap (λ (x : Option Form). keeps_form p bus.B c.args.word x c.args.self.now)
    (sym (form_seen p bus.B c.args.word _ (sym c.in-Free.is ∙ c.form.ensures.computed)))
