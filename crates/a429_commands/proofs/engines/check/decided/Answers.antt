use Rattle.a429_cert.specs.Explained.{items_of}
use Rattle.a429_commands.specs.declared.engines.rule.Rule.TheVariants as rule
use Rattle.a429_commands.proofs.CheckFacts.{decided, found}
use Rattle.a429_commands.proofs.engines.check.decided.Goals as goal

pub returns-clause-verdict : goal.returns-clause-verdict
returns-clause-verdict c =
    let e = c.decide.ensures in
    let p = c.args.profile.now in
    let items = items_of c.args.entries.now in
    found rule.Decide p items (λ d. d.verdict) c.decide.result e.explained e.accepted e.version e.doubted
    (decided p items c.decide.result e.exact e.of_check e.impossible e.first) e.no_form e.without_loss
