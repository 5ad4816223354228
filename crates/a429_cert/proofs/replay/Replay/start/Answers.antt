use Rattle.std.proofs.Common.{rules}
use Rattle.a429_cert.proofs.replay.Replay.start.Goals as goal

pub returns-clause-lines : goal.returns-clause-lines
returns-clause-lines c = search rules

pub returns-clause-version : goal.returns-clause-version
returns-clause-version c = search rules
