use Rattle.std.proofs.Common.{◌∙◌, Err, ap, refl}
use Rattle.std.proofs.lemmas.Result.{err_from_is_err_and}
use Rattle.a429_commands.specs.Check.{IsToldOfHeard}
use Rattle.a429_commands.specs.Ends.{after_file, heard, refused, unheard_causes}
use Rattle.a429_commands.specs.Fault.{ComesBy}
use Rattle.std.specs.Prelude.{None}
use Rattle.a429_commands.proofs.CheckFacts.{of_one}
use Rattle.a429_commands.proofs.engines.check.run_by_rule.Goals as goal

pub returns-in_err-told : goal.returns-in_err-told
returns-in_err-told g c =
    let p = err_from_is_err_and c.from_residual.result c.from_residual.ensures.1 in
    after_file None refl (refused _ (p.1 ∙ ap Err p.2) (refl, c.in_err-told.ensures.err) refl)

pub returns : goal.returns
returns g c =
    let rec = heard g.R.Read.remaining c.args.rec.now c.told_on.new.rec in
    let found = c.in_ok-told.ensures in
    of_one c.in_ok-told.told (IsToldOfHeard c.args.rule c.args.profile.now rec) (ComesBy (unheard_causes c.args.profile.now rec))
    (found.told, found.device) found.told.0.is_profile.0 c.write_found.ensures
