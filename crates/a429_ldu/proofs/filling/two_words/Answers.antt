use Rattle.std.proofs.Common.{arith}
use Rattle.a429_ldu.proofs.FillingWords.{two_made}
use Rattle.a429_ldu.proofs.filling.two_words.Goals as goal

pub returns : goal.returns
returns c =
    λ codes e. two_made codes c.args.bytes c.args.frame _ _ c.full_word.result c.full_word-2.result (omega arith) (omega arith)
    (omega arith) (omega arith) (omega arith) (omega arith) e (omega arith) (omega arith) c.full_word.ensures c.full_word-2.ensures
