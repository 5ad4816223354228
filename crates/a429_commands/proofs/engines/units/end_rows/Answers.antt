use Rattle.std.proofs.Common.{◌∙◌, refl, ap}
use Rattle.std.proofs.lemmas.Bool.{false_from_ne_true}
use Rattle.a429_cert.proofs.Options.{on_err}
use Rattle.a429_commands.specs.Verdict.{status_of_answer}
use Rattle.a429_view.specs.Verdict.{no_text}
use Rattle.a429_commands.proofs.UnitsFacts.{waited_and}
use Rattle.a429_commands.proofs.engines.units.end_rows.Goals as goal

pub returns-in_ok-finish-in-Ok-clause-ended : goal.returns-in_ok-finish-in-Ok-clause-ended
returns-in_ok-finish-in-Ok-clause-ended g c = rw c.in-Ok.is (refl, c.in_ok-finish-in-Ok.ensures.ok)

pub returns-in_ok-write_answer-in-Err-clause-ended : goal.returns-in_ok-write_answer-in-Err-clause-ended
returns-in_ok-write_answer-in-Err-clause-ended g c =
    let works = false_from_ne_true _ (λ failed. absurd (cc (c.in_ok-write_answer-in-Err.ensures.device.1 failed))) in
    let two = c.in_ok-write_answer-in-Err.ensures.status ∙ ap status_of_answer c.in-Err.is in
    let written = rw c.in-Err.is at c.in_ok-write_answer-in-Err.ensures.written in
    rw (two, c.in-Err.is) (refl, (c.put_waiting.new.self, c.in_ok-put_waiting-in-Err.ensures.ok, written.all works))

pub returns-in_err-write_answer-in-Err-clause-part : goal.returns-in_err-write_answer-in-Err-clause-part
returns-in_err-write_answer-in-Err-clause-part g c =
    let written = rw c.in-Err.is at c.write_answer.ensures.written in
    rw c.in-Err.is
    (on_err _ (waited_and g.W.Write.contents c.args.rows.now c.put_waiting.new.self c.write_answer.new.out
    (no_text c.in-Err.field-0) c.in_ok-put_waiting-in-Err.ensures.ok written.prefix))
