use Rattle.std.proofs.Common.{Option, length, subst, ap, arith}
use Rattle.a429_ldu.specs.declared.freedom.Freedom.{Freedom}
use Rattle.a429_view.specs.Line.{Adds}
use Rattle.a429_view.specs.Trace.{free_text}
use Rattle.a429_view.proofs.LineFacts.{◌▹◌, within}
use Rattle.a429_view.proofs.trace.text.add_freedom.Goals as goal

pub returns-in-Some : goal.returns-in-Some
returns-in-Some c =
    subst (λ (o : Option Freedom).
    Adds c.args.line.now c.add_else.new.line 48 (free_text c.args.profile.now.codes c.args.bus c.args.word o)) c.in-Some.ensures.first
    (within 48 ((rw c.freedom.ensures.text at c.put.ensures) ▹ c.add_else.ensures)
    (omega (arith, c.freedom.ensures.most, ap length c.freedom.ensures.text)))
