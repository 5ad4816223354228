use Rattle.std.proofs.Common.{◌∙◌, ap, sym}
use Rattle.a429_commands.specs.Verdict.{of_stream}
use Rattle.a429_commands.proofs.VerdictFacts.{stream_fault}
use Rattle.a429_commands.proofs.engines.verdict.of_certificate.Goals as goal

pub returns-in-Read-clause-err : goal.returns-in-Read-clause-err
returns-in-Read-clause-err c = c.fault_of.ensures ∙ stream_fault c.in-Read.fault ∙ ap of_stream (sym c.in-Read.is)
