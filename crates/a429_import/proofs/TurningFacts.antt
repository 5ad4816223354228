-- Words with bits in another order, by shifts.
use Rattle.std.proofs.Common.{◌≡◌, ℕ, ◌+◌, ◌*◌, ◌/◌, ◌%◌, ◌<◌, ◌-◌, ◌^◌, ◌∙◌, arith}
use Rattle.a429_word.specs.Word.{sum_below, number_at, label_of}
use Rattle.a429_word.proofs.WordBits.{number_at-is}
use Rattle.a429_import.specs.Turning.{bytes_turned, label_turned}

four : (f : ℕ → ℕ) → sum_below 4 f ≡ f 0 + f 1 + f 2 + f 3
unfolding sum_below
four f = omega arith

pub bytes_turned-is : (w : ℕ)
    → w < 4294967296 → bytes_turned w ≡ w % 256 * 16777216 + w / 256 % 256 * 65536 + w / 65536 % 256 * 256 + w / 16777216
bytes_turned-is w h =
    let a : number_at w 1 8 ≡ w / 1 % 256 = number_at-is w 0 8 in
    let b : number_at w 9 8 ≡ w / 256 % 256 = number_at-is w 8 8 in
    let d : number_at w 17 8 ≡ w / 65536 % 256 = number_at-is w 16 8 in
    let e : number_at w 25 8 ≡ w / 16777216 % 256 = number_at-is w 24 8 in
    four (λ j. number_at w (8 * j + 1) 8 * 2 ^ (8 * (3 - j))) ∙ omega arith

pub label_turned-is : (w l : ℕ) → w < 4294967296 → l ≡ label_of w → w / 256 * 256 + l ≡ label_turned w
label_turned-is w l h e =
    let high : number_at w 9 24 ≡ w / 256 % 16777216 = number_at-is w 8 24 in
    rw (high, e) (omega arith)
