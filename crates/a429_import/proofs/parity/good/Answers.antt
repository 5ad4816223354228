use Rattle.a429_import.proofs.ParityFacts.{good-is}
use Rattle.a429_import.proofs.parity.good.Goals as goal

pub returns : goal.returns
returns c = good-is c.args.word _ c.with_odd_parity.ensures.value
