use Rattle.std.proofs.Common.{◌∙◌, ap, Err, refl}
use Rattle.std.proofs.lemmas.Result.{err_from_is_err_and}
use Rattle.a429_parts.specs.Keeping.{taken}
use Rattle.a429_commands.specs.Ends.{refused}
use Rattle.a429_commands.proofs.EndsFacts.{ends_under}
use Rattle.a429_commands.proofs.engines.relay.write_while_reading.Goals as goal

pub returns-in_err-profile : goal.returns-in_err-profile
returns-in_err-profile g c =
    let p = err_from_is_err_and c.from_residual.result c.from_residual.ensures.1 in
    refused _ (p.1 ∙ ap Err p.2) c.in_err-profile.ensures.err refl

pub returns-in_err-page : goal.returns-in_err-page
returns-in_err-page g c =
    let p = err_from_is_err_and c.from_residual-in_err-page.result c.from_residual-in_err-page.ensures.1 in
    refused _ (p.1 ∙ ap Err p.2) c.in_ok-profile.ensures.ok.0 refl

pub returns : goal.returns
returns g c =
    let t = taken c.args.rec.now c.put_under-status.new.rec in
    ends_under g.T.Relay.says g.T.Relay.stops g.T.Relay.begins c.in_ok-profile.profile t c.put_under-status.new.rec.failed
    c.args.profile.now c.in_ok-profile.ensures.ok c.put_under-status.ensures
