use Rattle.a429_ldu.proofs.FillingWords.{semis_put}
use Rattle.a429_ldu.proofs.filling.full_word.Goals as goal

pub returns : goal.returns
returns c = semis_put c.args.frame c.args.semis c.with_odd_parity.result c.requires.semis c.with_odd_parity.ensures.value
