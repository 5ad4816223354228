use Rattle.std.proofs.Common.{ap, ◌∙◌}
use Rattle.a429_ldu.specs.Sight.{form_in}
use Rattle.a429_word.proofs.SheetFacts.{◌▹◌}
use Rattle.a429_view.specs.History.{reason_text}
use Rattle.a429_view.proofs.history.put_stopped.Goals as goal

pub returns : goal.returns
returns g c = c.put.ensures ▹ c.put_number.ensures
    ▹ (rw (c.reason.ensures ∙ ap (λ s. reason_text (form_in s)) c.form.ensures.computed) at c.put-2.ensures)
