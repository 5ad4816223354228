use Rattle.std.proofs.Common.{◌≡◌, ◌∙◌, Err, None, ap, refl}
use Rattle.std.proofs.lemmas.Result.{err_from_is_err_and}
use Rattle.a429_commands.specs.declared.fault.RunFault.TheVariants as run
use Rattle.a429_commands.specs.Check.{certificate_of, of_told, told_text, verdict_status}
use Rattle.a429_commands.specs.Ends.{after_file, in_file, of_text, refused}
use Rattle.a429_commands.proofs.EndsFacts.{ends_as}
use Rattle.a429_commands.proofs.engines.check.write_found.Goals as goal

pub returns-in_err-page : goal.returns-in_err-page
returns-in_err-page g c =
    let p = err_from_is_err_and c.from_residual.result c.from_residual.ensures.1 in
    after_file None refl (refused _ (p.1 ∙ ap Err p.2) (refl, refl) refl)

pub returns-in_err-write_certificate : goal.returns-in_err-write_certificate
returns-in_err-write_certificate g c =
    let p = err_from_is_err_and c.from_residual-in_err-write_certificate.result c.from_residual-in_err-write_certificate.ensures.1 in
    let left = c.in_err-write_certificate.ensures.err in
    in_file left.0 (p.1 ∙ ap Err p.2) (c.args.told, refl, left.1) left.2 refl

pub returns : goal.returns
returns g c =
    let t = c.args.told in
    let promise = of_text (λ status text. (status ≡ verdict_status t.verdict) × (text ≡ told_text t)) (λ text. text ≡ told_text t) ⊥ in
    after_file (certificate_of t.verdict) c.in_ok-write_certificate.ensures.ok
    (ends_as promise ((of_told (λ w. w ≡ t) (λ e. e ≡ run.Memory)).after (certificate_of t.verdict))
    (λ status text h. record { told = t; is = refl; certificate_is = refl; status_is = h.0; text_is = h.1 }) (λ e text never. never)
    (λ text h. (verdict_status t.verdict, record { told = t; is = refl; certificate_is = refl; status_is = refl; text_is = h }))
    (λ e h. absurd h.1) c.write_at_once.ensures)
