use Rattle.a429_cert.specs.Explained.{items_of}
use Rattle.a429_commands.specs.declared.engines.rule.Rule.TheVariants as rule
use Rattle.a429_commands.proofs.CheckFacts.{checked, found}
use Rattle.a429_commands.proofs.engines.check.verdict_by.Goals as goal

pub returns-in-Check : goal.returns-in-Check
returns-in-Check c =
    let e = c.check.ensures in
    rw c.in-Check.is
    (found rule.Check c.args.profile.now (items_of c.args.entries.now) (λ v. v) c.check.result e.explained e.accepted e.version e.doubted
    (checked c.args.profile.now (items_of c.args.entries.now) c.check.result e.first e.impossible) e.no_form e.without_loss)
