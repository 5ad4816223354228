use Rattle.std.proofs.Common.{◌∙◌, ap, refl, Err}
use Rattle.std.proofs.lemmas.Bool.{false_from_ne_true}
use Rattle.std.proofs.lemmas.Result.{err_from_is_err_and}
use Rattle.a429_commands.specs.Ends.{answered, cut_off, refused}
use Rattle.a429_commands.proofs.engines.text.write_at_once.Goals as goal

pub returns-in_err-put_by-in-Ok : goal.returns-in_err-put_by-in-Ok
returns-in_err-put_by-in-Ok g c =
    let p = err_from_is_err_and c.from_residual.result c.from_residual.ensures.1 in
    let prefix = c.in_err-put_by-in-Ok.ensures.prefix in
    rw c.in-Ok.is (cut_off prefix.0 (p.1 ∙ ap Err p.2) prefix.1 (c.in_err-put_by-in-Ok.ensures.device.0 refl) prefix.2)

pub returns-in_ok-put_by-in-Ok : goal.returns-in_ok-put_by-in-Ok
returns-in_ok-put_by-in-Ok g c =
    let text = c.in_ok-put_by-in-Ok.ensures.ok in
    rw c.in-Ok.is
    (answered _ text.0 refl text.1 (false_from_ne_true _ (λ failed. absurd (cc (c.in_ok-put_by-in-Ok.ensures.device.1 failed)))) text.2)

pub returns-in-Err : goal.returns-in-Err
returns-in-Err g c = rw c.in-Err.is (refused _ refl refl refl)
