-- Bit 32, by a mask and a sum.
use Rattle.std.proofs.Common.{◌≡◌, ℕ, ◌+◌, ◌-◌, ◌*◌, ◌/◌, ◌%◌, ◌^◌, ◌<◌, ◌∙◌, sym, ap, arith, bit_and, refl}
use Rattle.std.proofs.lemmas.Nat.{and_mask}
use Rattle.a429_word.specs.Word.{number_at, count_of_ones, HasOddParity}
use Rattle.a429_word.proofs.WordBits.{number_at-is, number_at-lt}
use Rattle.a429_word.proofs.WordMade.{odd_made}
use Rattle.a429_import.specs.Parity.{with_bit_32, odd_below, judged}
use Rattle.a429_import.specs.declared.parity.Verdict.{Verdict}
use Rattle.a429_import.specs.declared.parity.Verdict.TheVariants as verdict

low : (w : ℕ) → bit_and w 2147483647 ≡ number_at w 1 31
low w =
    let whole : w / 2 ^ 0 % 2 ^ 31 ≡ w % 2 ^ 31 = ap (λ n. n % 2 ^ 31) (omega arith) in
    and_mask w 31 ∙ sym (number_at-is w 0 31 ∙ whole)

pub good-is : (w r : ℕ)
    → r ≡ bit_and w 2147483647 + (1 - count_of_ones (bit_and w 2147483647) % 2) * 2 ^ 31 → r ≡ with_bit_32 w (1 - odd_below w)
good-is w r e = e ∙ ap (λ n. n + (1 - count_of_ones n % 2) * 2 ^ 31) (low w)

other_bit : (n o : ℕ) → n < 2147483648 → (n + (1 - o % 2) * 2147483648 + 2147483648) % 4294967296 ≡ n + o % 2 * 2147483648
other_bit n o h = omega arith

pub bad-is : (w r : ℕ) → r ≡ with_bit_32 w (1 - odd_below w) → (r + 2147483648) % 4294967296 ≡ with_bit_32 w (odd_below w)
bad-is w r e = rw e (other_bit (number_at w 1 31) (count_of_ones (number_at w 1 31)) (number_at-lt w 0 31))

-- ---- what the bit says

pub good-odd : (w : ℕ) → HasOddParity (with_bit_32 w (1 - odd_below w))
good-odd w = odd_made (number_at w 1 31) _ (number_at-lt w 0 31) refl

pub others-stay : (w b : ℕ) → number_at (with_bit_32 w b) 1 31 ≡ number_at w 1 31
others-stay w b =
    let n = number_at w 1 31 in
    let small : n < 2147483648 = number_at-lt w 0 31 in
    let low : with_bit_32 w b / 1 % 2147483648 ≡ n = omega arith in
    number_at-is (with_bit_32 w b) 0 31 ∙ low

pub judged-stays : (v : Verdict) (w : ℕ) → number_at (judged v w) 1 31 ≡ number_at w 1 31
judged-stays verdict.Received w = refl
judged-stays verdict.Good w = others-stay w (1 - odd_below w)
judged-stays verdict.Bad w = others-stay w (odd_below w)
