use Rattle.std.proofs.Common.{◌∙◌, ap, refl, Err}
use Rattle.std.proofs.lemmas.Bool.{false_from_ne_true}
use Rattle.std.proofs.lemmas.Result.{err_from_is_err_and}
use Rattle.a429_commands.specs.Ends.{answered, cut_off, refused}
use Rattle.a429_commands.proofs.engines.text.write_text.Goals as goal

pub returns-in_err-page : goal.returns-in_err-page
returns-in_err-page g c =
    let p = err_from_is_err_and c.from_residual.result c.from_residual.ensures.1 in
    refused p.0 p.1 (p.2, tt) refl

pub returns-in_err-put_by : goal.returns-in_err-put_by
returns-in_err-put_by g c =
    let p = err_from_is_err_and c.from_residual-in_err-put_by.result c.from_residual-in_err-put_by.ensures.1 in
    let prefix = c.in_err-put_by.ensures.prefix in
    cut_off prefix.0 (p.1 ∙ ap Err p.2) prefix.1 (c.in_err-put_by.ensures.device.0 refl) prefix.2

pub returns : goal.returns
returns g c =
    let text = c.in_ok-put_by.ensures.ok in
    answered _ text.0 refl text.1 (false_from_ne_true _ (λ failed. absurd (cc (c.in_ok-put_by.ensures.device.1 failed)))) text.2
