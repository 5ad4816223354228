-- The numbers in a word as shifts and masks read them.
use Rattle.std.proofs.Common.{◌≡◌, ℕ, ◌+◌, ◌*◌, ◌/◌, ◌%◌, bit_and, refl, sym, ◌∙◌, arith}
use Rattle.std.proofs.lemmas.Nat.{and_mask}
use Rattle.a429_word.specs.Word.{number_at}
use Rattle.a429_word.proofs.WordBits.{masked_from, number_at-is}
use Rattle.a429_side.specs.Side.{with_code}

pub kind-masked : (w : ℕ) → bit_and (w / 268435456) 7 ≡ number_at w 29 3
kind-masked w = masked_from w 29 28 3 refl

pub code-masked : (w : ℕ) → bit_and (w / 16777216) 15 ≡ number_at w 25 4
code-masked w = masked_from w 25 24 4 refl

pub destination-masked : (w : ℕ) → bit_and (w / 65536) 255 ≡ number_at w 17 8
destination-masked w = masked_from w 17 16 8 refl

pub ruleset numbers = (kind-masked, code-masked, destination-masked)

-- a word with another destination code
lower-masked : (w : ℕ) → bit_and w 65535 ≡ number_at w 1 16
lower-masked w = and_mask w 16 ∙ low w ∙ sym (number_at-is w 0 16)
  where
    low : (w : ℕ) → w % 65536 ≡ w / 1 % 65536
    low w = omega arith

upper-masked : (w : ℕ) → bit_and (w / 16777216) 127 ≡ number_at w 25 7
upper-masked w = masked_from w 25 24 7 refl

pub coded : (w v code d : ℕ) → v ≡ w → d ≡ code → bit_and v 65535 + d * 65536 + bit_and (v / 16777216) 127 * 16777216 ≡ with_code code w
coded w v code d e f = rw (e, f, lower-masked w, upper-masked w) refl
