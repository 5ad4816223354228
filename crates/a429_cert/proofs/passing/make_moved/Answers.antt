use Rattle.a429_cert.proofs.PassingStep.{state_differs}
use Rattle.a429_cert.proofs.passing.make_moved.Goals as goal

pub returns-else-stands-clause-refused : goal.returns-else-stands-clause-refused
returns-else-stands-clause-refused c =
    state_differs c.args.link.now.profile c.args.line c.args.link.now.state c.make.new.link.state c.args.at c.in-Ok.ensures.made
    (c.stands.ensures.no c.if-stands.false)
