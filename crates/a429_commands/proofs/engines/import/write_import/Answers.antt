use Rattle.std.proofs.Common.{refl}
use Rattle.std.proofs.lemmas.Result.{IfErr-weaker, err_from_is_err_and}
use Rattle.a429_commands.specs.Ends.{refused}
use Rattle.a429_commands.proofs.ImportFacts.{ends_by}
use Rattle.a429_commands.proofs.engines.import.write_import.Goals as goal

pub returns-in_err-map-clause-err : goal.returns-in_err-map-clause-err
returns-in_err-map-clause-err g c =
    let p = err_from_is_err_and c.from_residual.result c.from_residual.ensures.1 in
    rw (p.1, p.2) (refused _ refl c.in_err-map.ensures.err refl)

pub returns-in_err-page-clause-err : goal.returns-in_err-page-clause-err
returns-in_err-page-clause-err g c =
    let p = err_from_is_err_and c.from_residual-in_err-page.result c.from_residual-in_err-page.ensures.1 in
    rw (p.1, p.2) (refused _ refl c.in_ok-map.ensures.ok.0 refl)

pub returns-clause-err : goal.returns-clause-err
returns-clause-err g c =
    IfErr-weaker c.import_by-report.result _ _ (λ e h. ends_by c.in_ok-map.map _ c.in_ok-map.ensures.ok h) c.import_by-report.ensures.err
