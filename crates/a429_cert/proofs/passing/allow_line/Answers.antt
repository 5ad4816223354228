use Rattle.std.proofs.Common.{refl}
use Rattle.a429_cert.specs.declared.line.CertLine.TheVariants.{Moved}
use Rattle.a429_cert.proofs.LikelyFacts.{refused_line}
use Rattle.a429_cert.proofs.passing.allow_line.Goals as goal

pub returns-then-may_record-clause-listed : goal.returns-then-may_record-clause-listed
returns-then-may_record-clause-listed c = λ text says. (Moved c.args.line, says, refl, c.may_record.ensures.yes c.if-may_record.true)

pub returns-else-may_record-clause-refused : goal.returns-else-may_record-clause-refused
returns-else-may_record-clause-refused c =
    λ text says. refused_line c.args.link.now.profile text c.args.line c.args.n c.args.link.now.state says
    (c.may_record.ensures.no c.if-may_record.false)
