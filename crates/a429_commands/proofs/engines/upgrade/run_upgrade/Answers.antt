use Rattle.std.proofs.Common.{◌≡◌, ◌∙◌, ◌++◌, Err, Some, None, ap, refl, sym}
use Rattle.std.proofs.lemmas.Bool.{false_from_ne_true}
use Rattle.std.proofs.lemmas.Result.{err_from_is_err_and}
use Rattle.a429_commands.specs.Ends.{after_file, answered, cut_off, in_file, refused}
use Rattle.a429_commands.specs.Upgrade.{upgraded, version_two_line}
use Rattle.a429_commands.proofs.UpgradeFacts.{of_none, upgraded_of}
use Rattle.a429_commands.proofs.engines.upgrade.run_upgrade.Goals as goal

pub returns-in_err-found : goal.returns-in_err-found
returns-in_err-found g c =
    let p = err_from_is_err_and c.from_residual.result c.from_residual.ensures.1 in
    after_file None refl (refused _ (p.1 ∙ ap Err p.2) (refl, refl, c.in_err-found.ensures.device.0 refl) refl)

pub returns-in_err-put_version_two : goal.returns-in_err-put_version_two
returns-in_err-put_version_two g c =
    let p = err_from_is_err_and c.from_residual-in_err-put_version_two.result c.from_residual-in_err-put_version_two.ensures.1 in
    let left = c.in_err-put_version_two.ensures.err in
    let text = version_two_line ++ left.0 in
    let of = upgraded_of _ _ c.in_ok-found.found left.0 c.if-found.true c.in_ok-found.ensures.taken left.1 in
    in_file text (p.1 ∙ ap Err p.2) (of.0, of.1, sym of.2)
    (record { why = c.in_err-put_version_two.ensures.device refl; front = left.2 }) refl

pub returns-in_err-put : goal.returns-in_err-put
returns-in_err-put g c =
    let p = err_from_is_err_and c.from_residual-in_err-put.result c.from_residual-in_err-put.ensures.1 in
    let whole = c.in_ok-put_version_two.ensures.ok in
    let works = c.in_ok-put_version_two.ensures.works in
    let of = upgraded_of _ _ c.in_ok-found.found whole.0 c.if-found.true c.in_ok-found.ensures.taken whole.1 in
    after_file (Some (version_two_line ++ whole.0)) (works.1, whole.2)
    (cut_off _ (p.1 ∙ ap Err p.2) (0, record { of = of; works = works.0; status_is = refl; text_is = refl })
    (c.in_err-put.ensures.device.0 refl) c.in_err-put.ensures.err)

pub returns-in_ok-put : goal.returns-in_ok-put
returns-in_ok-put g c =
    let whole = c.in_ok-put_version_two.ensures.ok in
    let works = c.in_ok-put_version_two.ensures.works in
    let of = upgraded_of _ _ c.in_ok-found.found whole.0 c.if-found.true c.in_ok-found.ensures.taken whole.1 in
    let done = false_from_ne_true _ (λ failed. absurd (cc (c.in_ok-put.ensures.device.1 failed))) in
    after_file (Some (version_two_line ++ whole.0)) (works.1, whole.2)
    (answered 0 _ refl (record { of = of; works = works.0; status_is = refl; text_is = refl }) done c.in_ok-put.ensures.ok)

pub returns-in_err-put-2 : goal.returns-in_err-put-2
returns-in_err-put-2 g c =
    let p = err_from_is_err_and c.from_residual-in_err-put-2.result c.from_residual-in_err-put-2.ensures.1 in
    let works = false_from_ne_true _ (λ failed. absurd (cc (c.in_ok-found.ensures.device.1 failed))) in
    let of =
    of_none _ _ c.in_ok-found.found (λ bytes. None ≡ upgraded bytes) c.if-found.false c.in_ok-found.ensures.taken (λ bytes is. sym is) in
    after_file None refl (cut_off _ (p.1 ∙ ap Err p.2) (
      2,
      record { of = of; works = works; status_is = refl; text_is = refl },
    ) (c.in_err-put-2.ensures.device.0 refl) c.in_err-put-2.ensures.err)

pub returns-in_ok-put-2 : goal.returns-in_ok-put-2
returns-in_ok-put-2 g c =
    let works = false_from_ne_true _ (λ failed. absurd (cc (c.in_ok-found.ensures.device.1 failed))) in
    let of =
    of_none _ _ c.in_ok-found.found (λ bytes. None ≡ upgraded bytes) c.if-found.false c.in_ok-found.ensures.taken (λ bytes is. sym is) in
    let done = false_from_ne_true _ (λ failed. absurd (cc (c.in_ok-put-2.ensures.device.1 failed))) in
    after_file None refl
    (answered 2 _ refl (record { of = of; works = works; status_is = refl; text_is = refl }) done c.in_ok-put-2.ensures.ok)
