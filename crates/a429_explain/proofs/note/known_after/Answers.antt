use Rattle.std.proofs.Common.{sym}
use Rattle.a429_explain.proofs.NextFacts.{request_likely, end_likely}
use Rattle.a429_explain.proofs.note.known_after.Goals as goal

pub returns-in-Awaiting-clause-text : goal.returns-in-Awaiting-clause-text
returns-in-Awaiting-clause-text c = sym (request_likely c.args.line (c.is_act.ensures c.if-not-is_act.false) c.in-Awaiting.is)

pub returns-in-Waiting-clause-text : goal.returns-in-Waiting-clause-text
returns-in-Waiting-clause-text c = sym (end_likely c.args.line (c.is_act.ensures c.if-not-is_act.false) c.in-Waiting.is)
