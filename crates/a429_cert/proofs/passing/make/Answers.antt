use Rattle.std.proofs.Common.{rules, ◌∙◌, sym}
use Rattle.a429_cert.proofs.PassingStep.{faults_of}
use Rattle.a429_cert.proofs.passing.make.Goals as goal

pub returns-in-Some-clause-refused : goal.returns-in-Some-clause-refused
returns-in-Some-clause-refused c =
    faults_of c.args.link.now.profile c.args.act c.args.next c.in-Some.step c.args.link.now.state c.apply.result
    (sym c.step_with.ensures ∙ c.in-Some.is) c.apply.ensures.fault

pub returns-in-None-clause-refused : goal.returns-in-None-clause-refused
returns-in-None-clause-refused c = search rules
