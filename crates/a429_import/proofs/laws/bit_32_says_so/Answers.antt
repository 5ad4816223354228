use Rattle.a429_import.proofs.ParityFacts.{good-odd, judged-stays}
use Rattle.a429_import.proofs.laws.bit_32_says_so.Goals as goal

pub returns : goal.returns
returns c = record { good = good-odd; stays = judged-stays }
