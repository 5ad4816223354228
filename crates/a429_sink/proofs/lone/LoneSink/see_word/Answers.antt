use Rattle.std.proofs.Common.{Option, sym, ap, ◌∙◌}
use Rattle.a429_word.specs.declared.bus.Bus.TheVariants as bus
use Rattle.a429_ldu.specs.declared.forms.Form.{Form}
use Rattle.a429_sink.specs.Lone.{keeps_form}
use Rattle.a429_sink.proofs.LoneFacts.{form_seen}
use Rattle.a429_sink.proofs.lone.LoneSink.see_word.Goals as goal

pub returns-in-Form : goal.returns-in-Form
returns-in-Form c =
    let p = c.args.profile.now in
    c.take_word.ensures ∙ ap (λ (x : Option Form). keeps_form p bus.A c.args.word x c.args.self.now)
    (sym (form_seen p bus.A c.args.word _ (sym c.in-Form.is ∙ c.form.ensures.computed)))

pub returns-in-Free : goal.returns-in-Free
returns-in-Free c =
    let p = c.args.profile.now in
    sym c.rests.ensures ∙ ap (λ (x : Option Form). keeps_form p bus.A c.args.word x c.args.self.now)
    (sym (form_seen p bus.A c.args.word _ (sym c.in-Free.is ∙ c.form.ensures.computed)))

pub returns-in-NoForm : goal.returns-in-NoForm
returns-in-NoForm c =
    let p = c.args.profile.now in
    sym c.rests-in-NoForm.ensures ∙ ap (λ (x : Option Form). keeps_form p bus.A c.args.word x c.args.self.now)
    (sym (form_seen p bus.A c.args.word _ (sym c.in-NoForm.is ∙ c.form.ensures.computed)))
