use Rattle.std.proofs.Common.{◌<◌, ◌/◌, ℕ, bit_and, arith}
use Rattle.std.proofs.lemmas.Nat.{and_le_r}
use Rattle.a429_merge.proofs.FillFacts.{first_semis}
use Rattle.a429_merge.proofs.fill.numbered_word.Goals as goal

pub returns-in-None : goal.returns-in-None
returns-in-None c =
    let n = c.args.number in
    let small : (m : ℕ) → bit_and m 15 < 16 = λ m. let most = and_le_r m 15 in omega arith in
    absurd (c.new.ensures.none c.in-None.is
    (first_semis c.args.size (bit_and n 15) (bit_and (n / 16) 15) (bit_and (n / 256) 15) (bit_and (n / 4096) 15) (bit_and (n / 65536) 15)
    c.requires.some c.requires.most (small n) (small (n / 16)) (small (n / 256)) (small (n / 4096)) (small (n / 65536))))
