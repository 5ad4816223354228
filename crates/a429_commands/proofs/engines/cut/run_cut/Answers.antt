use Rattle.std.proofs.Common.{◌∙◌, Err, ap, refl}
use Rattle.std.proofs.lemmas.Result.{err_from_is_err_and}
use Rattle.a429_parts.proofs.PartsFacts.{same_parts}
use Rattle.a429_commands.specs.Ends.{refused}
use Rattle.a429_commands.proofs.CutFacts.{by_profile}
use Rattle.a429_commands.proofs.engines.cut.run_cut.Goals as goal

pub returns-in_err-profile-clause-ends : goal.returns-in_err-profile-clause-ends
returns-in_err-profile-clause-ends g c =
    let p = err_from_is_err_and c.from_residual.result c.from_residual.ensures.1 in
    refused _ (p.1 ∙ ap Err p.2) (c.in_err-profile.ensures.err, same_parts (g.P.Parts.known c.args.parts.now)) refl

pub returns-clause-ends : goal.returns-clause-ends
returns-clause-ends g c = by_profile c.args.profile.now c.in_ok-profile.profile _ _ c.in_ok-profile.ensures.ok c.cut_by-status.ensures.ends
