use Rattle.std.proofs.Common.{◌≡◌, ◌/◌, arith}
use Rattle.a429_word.specs.Digits.{numeral}
use Rattle.a429_word.proofs.word.Word.hex.Goals as goal

pub returns : goal.returns
unfolding numeral
returns c =
    let w = c.args.self in
    let a : w / 16777216 / 16 ≡ w / 268435456 = omega arith in
    let b : w / 65536 / 16 ≡ w / 1048576 = omega arith in
    let d : w / 256 / 16 ≡ w / 4096 = omega arith in
    let e : w / 1 / 16 ≡ w / 16 = omega arith in
    rw (c.hex_pair-a.ensures, c.hex_pair-b.ensures, c.hex_pair-c.ensures, c.hex_pair-d.ensures, a, b, d, e)
