use Rattle.std.proofs.Common.{[], ◌∙◌, ap, sym, subst}
use Rattle.std.proofs.lemmas.Result.{err_from_is_err_and}
use Rattle.toml.specs.View.{table_view}
use Rattle.a429_profile.proofs.ProfileFaults.{fault_of-codes, fault_of-check}
use Rattle.a429_profile.specs.Clash.{first_clash}
use Rattle.a429_profile.specs.Profile.{ApartAfter}
use Rattle.a429_profile.proofs.ProfileLookup.{ApartAfter-first_clash}
use Rattle.a429_profile.proofs.profile.read_document.Goals as goal

pub returns-in_err-codes-clause-err : goal.returns-in_err-codes-clause-err
returns-in_err-codes-clause-err c =
    let p = err_from_is_err_and c.from_residual.result c.from_residual.ensures.1 in
    rw (p.1, p.2) (λ known. fault_of-codes (table_view c.args.doc.now) _ (c.in_err-codes.ensures known))

pub returns-in_err-check-clause-err : goal.returns-in_err-check-clause-err
returns-in_err-check-clause-err c =
    let p = err_from_is_err_and c.from_residual-in_err-check.result c.from_residual-in_err-check.ensures.1 in
    rw (p.1, p.2) (λ known. fault_of-check (table_view c.args.doc.now) _ c.in_ok-codes.ensures.0 c.in_err-check.ensures)

pub keyed-requires : goal.keyed-requires
keyed-requires c =
    ApartAfter-first_clash c.in_ok-codes.codes c.in_ok-entries.entries.items
    (ap (first_clash c.in_ok-codes.codes) (sym c.as_slice.ensures.value) ∙ sym c.in-Ok.ensures ∙ c.in_default-clash.is)

pub places_of-requires-clause-apart : goal.places_of-requires-clause-apart
places_of-requires-clause-apart c =
    let apart : ApartAfter [] c.in_ok-entries.entries.items =
    ApartAfter-first_clash c.in_ok-codes.codes c.in_ok-entries.entries.items
    (ap (first_clash c.in_ok-codes.codes) (sym c.as_slice.ensures.value) ∙ sym c.in-Ok.ensures ∙ c.in_default-clash.is)
    in
    subst (ApartAfter []) (sym c.in-Ok-keyed.ensures.entries) apart
