use Rattle.std.proofs.Common.{◌∙◌}
use Rattle.a429_import.proofs.ParityFacts.{bad-is}
use Rattle.a429_import.proofs.parity.Verdict.mark.Goals as goal

pub returns-in-Bad : goal.returns-in-Bad
returns-in-Bad c = rw c.in-Bad.is (c.from_u32-in-Bad.ensures ∙ bad-is c.args.word _ (c.to_u32.ensures ∙ c.good-in-Bad.ensures))
