use Rattle.std.proofs.Common.{rules}
use Rattle.a429_link.proofs.source.Source.hear.Goals as goal

pub returns-in-Waiting-Nak : goal.returns-in-Waiting-Nak
returns-in-Waiting-Nak c = search rules

pub returns-then-count : goal.returns-then-count
returns-then-count c = search rules
