use Rattle.std.proofs.Common.{◌≡◌, ◌/◌, ◌%◌, ◌*◌, ◌^◌, ◌<◌, ◌∙◌, ap, arith, bit_and}
use Rattle.std.proofs.lemmas.Nat.{and_mask}
use Rattle.a429_word.proofs.HexPairs.{hex_pairs-at}
use Rattle.a429_word.proofs.word.Word.hex_pair.Goals as goal

pub returns : goal.returns
returns c =
    let x = c.args.self / 2 ^ (8 * c.args.place) in
    let byte : bit_and (c.to_u32.result / 2 ^ (8 * c.args.place)) 255 ≡ x % 256 =
    and_mask (c.to_u32.result / 2 ^ (8 * c.args.place)) 8 ∙ ap (λ n. n / 2 ^ (8 * c.args.place) % 256) c.to_u32.ensures in
    let inside : x % 256 < 256 = omega arith in
    let pair = hex_pairs-at (x % 256) inside in
    let upper : x % 256 / 16 ≡ x / 16 % 16 = omega arith in
    let lower : x % 256 % 16 ≡ x % 16 = omega arith in
    rw (byte, pair.0, pair.1, upper, lower)
