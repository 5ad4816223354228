use Rattle.std.proofs.Common.{refl}
use Rattle.a429_link.specs.Run.{delivered}
use Rattle.a429_cert.proofs.ExplainedFacts.{in_some_run}
use Rattle.a429_cert.proofs.laws.what_explains_is_a_run.Goals as goal

pub returns : goal.returns
returns c =
    λ p text e. in_some_run p text e.items (delivered p e.first e.steps)
    (record { first = e.first; steps = e.steps; explains = e.explains; delivers = refl })
