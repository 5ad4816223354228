use Rattle.std.proofs.Common.{refl}
use Rattle.std.proofs.lemmas.Result.{IfErr-weaker, IfOk-weaker, err_from_is_err_and}
use Rattle.a429_parts.specs.Keeping.{taken}
use Rattle.a429_commands.specs.Ends.{refused}
use Rattle.a429_commands.specs.Side.{NoRows, SidesRowsUntil, SidesSomeRows}
use Rattle.a429_commands.proofs.EndsFacts.{ends_under}
use Rattle.a429_commands.proofs.engines.side.write_side.Goals as goal

pub returns-in_err-profile-clause-err : goal.returns-in_err-profile-clause-err
returns-in_err-profile-clause-err g c =
    let p = err_from_is_err_and c.from_residual.result c.from_residual.ensures.1 in
    rw (p.1, p.2) (refused _ refl c.in_err-profile.ensures.err refl)

pub returns-in_err-page-clause-err : goal.returns-in_err-page-clause-err
returns-in_err-page-clause-err g c =
    let p = err_from_is_err_and c.from_residual-in_err-page.result c.from_residual-in_err-page.ensures.1 in
    rw (p.1, p.2) (refused _ refl c.in_ok-profile.ensures.ok.0 refl)

pub returns-clause-ok : goal.returns-clause-ok
returns-clause-ok g c =
    IfOk-weaker c.side_by-counts.result _ _
    (λ counts is. record { contents = c.in_ok-profile.profile; is_profile = c.in_ok-profile.ensures.ok; sided = is })
    c.side_by-counts.ensures.ok

pub returns-clause-err : goal.returns-clause-err
returns-clause-err g c =
    let t = taken c.args.rec.now c.side_by-counts.new.rec in
    IfErr-weaker c.side_by-counts.result _ _ (λ e h. ends_under NoRows (SidesRowsUntil c.args.side)
    (SidesSomeRows c.args.side) c.in_ok-profile.profile t c.side_by-counts.new.rec.failed c.args.profile.now c.in_ok-profile.ensures.ok h)
    c.side_by-counts.ensures.err
