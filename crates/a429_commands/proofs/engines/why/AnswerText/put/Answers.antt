use Rattle.std.proofs.Common.{refl}
use Rattle.a429_word.proofs.SheetFacts.{◌▹◌}
use Rattle.a429_commands.specs.Why.{why_text}
use Rattle.a429_commands.proofs.engines.why.AnswerText.put.Goals as goal

pub returns-clause-first : goal.returns-clause-first
returns-clause-first g c = (why_text c.args.self.now, refl, c.put_verdict.ensures ▹ c.put_if_any.ensures)

pub returns-clause-all : goal.returns-clause-all
returns-clause-all g c = λ _. (why_text c.args.self.now, (c.status_of.ensures, refl), c.put_verdict.ensures ▹ c.put_if_any.ensures)
