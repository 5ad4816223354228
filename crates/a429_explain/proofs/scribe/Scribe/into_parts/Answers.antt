use Rattle.a429_explain.proofs.scribe.Scribe.into_parts.Goals as goal

pub returns-clause-text : goal.returns-clause-text
returns-clause-text c = c.new.ensures
