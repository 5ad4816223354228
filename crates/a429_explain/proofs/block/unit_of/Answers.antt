use Rattle.std.proofs.Common.{rules, arith}
use Rattle.a429_explain.proofs.AttemptsFacts.{roles_long}
use Rattle.a429_explain.proofs.block.unit_of.Goals as goal

pub returns-in-None-clause-err : goal.returns-in-None-clause-err
returns-in-None-clause-err c = search rules

pub other_request-requires : goal.other_request-requires
other_request-requires c =
    let long = roles_long c.args.decoded.now.profile.codes c.args.decoded.now.items c.args.roles.now c.requires.roles in
    omega (arith, long, c.requires.request.inside)
