use Rattle.std.proofs.Common.{refl}
use Rattle.a429_word.proofs.SheetFacts.{◌▹◌}
use Rattle.a429_commands.specs.Check.{told_text}
use Rattle.a429_commands.proofs.engines.check.ToldText.put.Goals as goal

pub returns-clause-first : goal.returns-clause-first
returns-clause-first g c = (told_text c.args.self.now, refl, c.put_verdict.ensures ▹ c.put_note.ensures)

pub returns-clause-all : goal.returns-clause-all
returns-clause-all g c = λ _. (told_text c.args.self.now, (c.status_of.ensures, refl), c.put_verdict.ensures ▹ c.put_note.ensures)
