use Rattle.a429_commands.specs.Output.{output}
use Rattle.a429_commands.proofs.CheckFacts.{broken, gained}
use Rattle.a429_commands.proofs.engines.check.write_certificate.Goals as goal

pub returns-in-Explained-clause-ok : goal.returns-in-Explained-clause-ok
returns-in-Explained-clause-ok g c =
    rw c.in-Explained.is
    (gained (output g.W.Write.contents c.args.out.now c.write_text.new.out) c.in-Explained.certificate c.write_text.result
    c.write_text.ensures.written c.write_text.ensures.device)

pub returns-in-Explained-clause-err : goal.returns-in-Explained-clause-err
returns-in-Explained-clause-err g c =
    rw c.in-Explained.is
    (broken (output g.W.Write.contents c.args.out.now c.write_text.new.out) c.in-Explained.certificate c.write_text.result
    c.write_text.ensures.written c.write_text.ensures.device)
