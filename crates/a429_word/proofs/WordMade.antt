-- A word put together from its parts.
use Rattle.std.proofs.Common.{◌≡◌, ℕ, suc, ◌+◌, ◌-◌, ◌*◌, ◌/◌, ◌%◌, ◌^◌, ◌<◌, ◌≤◌, refl, sym, ap, ◌∙◌, arith, bit_or}
use Rattle.std.specs.Int.{reverse_bits_onto}
use Rattle.std.proofs.lemmas.Nat.{or_shifted, or_comm, shr_high, mod_low}
use Rattle.std.proofs.lemmas.Nat.Bits.{bit_at_cat_low}
use Rattle.a429_word.specs.Word.{sum_below, bit, number_at, label_of, sdi_of, field_of, ssm_of, count_of_ones, HasOddParity}
use Rattle.a429_word.proofs.WordBits.{sum_below-same, number_at-is, label-is, reversed_twice, same_below_parity, same_from_halves}

-- what `Word::with_parity` promises
pub record HasParts (w l d f s : ℕ) : Type 0 where
  pub label : label_of w ≡ l
  pub sdi : sdi_of w ≡ d
  pub field : field_of w ≡ f
  pub ssm : ssm_of w ≡ s
  pub parity : HasOddParity w

-- a reversed byte is a byte
pub reversed-lt : (n : ℕ) → reverse_bits_onto 8 n 0 < 256
unfolding reverse_bits_onto
reversed-lt n = omega arith

-- bits below the others are added
pub or_below : (m a k b : ℕ) → m ≡ a * 2 ^ k → b < 2 ^ k → bit_or m b ≡ m + b
or_below m a k b e h = rw e (or_shifted a k b h)

-- the parts below the parity bit, side by side
joined : (r d f s : ℕ) → r < 256 → d ≤ 3 → f < 2 ^ 19 → s ≤ 3 →
    bit_or (bit_or (bit_or (s * 536870912 % 4294967296) (f * 1024 % 4294967296)) (d * 256 % 4294967296)) r ≡ s * 536870912 + f * 1024 + d
    * 256 + r
joined r d f s hr hd hf hs =
    let es : s * 536870912 % 4294967296 ≡ s * 536870912 = omega arith in
    let ef : f * 1024 % 4294967296 ≡ f * 1024 = omega arith in
    let ed : d * 256 % 4294967296 ≡ d * 256 = omega arith in
    let e1 = or_below (s * 536870912) s 29 (f * 1024) refl (omega arith) in
    let e2 = or_below (s * 536870912 + f * 1024) (s * 524288 + f) 10 (d * 256) (omega arith) (omega arith) in
    let e3 = or_below (s * 536870912 + f * 1024 + d * 256) (s * 2097152 + f * 4 + d) 8 r (omega arith) (omega arith) in
    rw (es, ef, ed, e1, e2) e3

-- and the parity bit above them
topped : (n t : ℕ) → n < 2 ^ 31 → t ≤ 1 → bit_or n (t * 2147483648 % 4294967296) ≡ t * 2147483648 + n
topped n t h ht =
    let e : t * 2147483648 % 4294967296 ≡ t * 2147483648 = omega arith in
    rw e (or_comm n (t * 2147483648) ∙ or_shifted t 31 n h)

-- a part is read back
label-made : (w n l : ℕ) → l < 256 → w ≡ n * 256 + reverse_bits_onto 8 l 0 → label_of w ≡ l
label-made w n l h e =
    let small = reversed-lt l in
    let low : w % 256 ≡ reverse_bits_onto 8 l 0 = omega arith in
    sym (label-is w) ∙ ap (λ x. reverse_bits_onto 8 x 0) low ∙ reversed_twice l h

number_at-made : (w a first count n b : ℕ)
    → b < 2 ^ first → n < 2 ^ count → w ≡ (a * 2 ^ count + n) * 2 ^ first + b → number_at w (suc first) count ≡ n
number_at-made w a first count n b hb hn e =
    number_at-is w first count ∙ ap (λ x. x / 2 ^ first % 2 ^ count) e ∙ ap (λ x. x % 2 ^ count) (shr_high (a * 2 ^ count + n) first b hb)
    ∙ mod_low a count n hn

-- the parity bit counts with the ones below it
parity-topped : (n t : ℕ) → n < 2 ^ 31 → t ≤ 1 → count_of_ones (t * 2147483648 + n) % 2 ≡ (count_of_ones n % 2 + t) % 2
unfolding sum_below
parity-topped n t h ht =
    let w = t * 2147483648 + n in
    let low : sum_below 31 (λ j. bit w (j + 1)) ≡ sum_below 31 (λ j. bit n (j + 1)) =
    sum_below-same 31 (λ j. bit w (j + 1)) (λ j. bit n (j + 1)) (λ j k. bit_at_cat_low t 31 n (j + 1 - 1) (omega arith)) in
    let high : bit w 32 ≡ t = omega arith in
    let none : bit n 32 ≡ 0 = omega arith in
    omega arith

-- the parity bit makes the parity odd
odd_with_top : (p : ℕ) → p < 2 → (p + (1 - p)) % 2 ≡ 1
odd_with_top p h = omega arith

-- the parts as shifts and ors put them together
pub parts_joined : (l d f s a b r : ℕ) → d ≤ 3 → f < 2 ^ 19 → s ≤ 3 → a ≡ s → b ≡ d → r ≡ reverse_bits_onto 8 l 0 →
    bit_or (bit_or (bit_or (a * 536870912 % 4294967296) (f * 1024 % 4294967296)) (b * 256 % 4294967296)) r ≡ s * 536870912 + f * 1024 + d
    * 256 + reverse_bits_onto 8 l 0
parts_joined l d f s a b r hd hf hs ea eb er = rw (ea, eb, er) (joined (reverse_bits_onto 8 l 0) d f s (reversed-lt l) hd hf hs)

pub parts_below : (l d f s n : ℕ)
    → d ≤ 3 → f < 2 ^ 19 → s ≤ 3 → n ≡ s * 536870912 + f * 1024 + d * 256 + reverse_bits_onto 8 l 0 → n < 2 ^ 31
parts_below l d f s n hd hf hs e = let small = reversed-lt l in omega arith

-- a number and the parity bit above it
pub odd_topped : (n t : ℕ)
    → n < 2 ^ 31 → t ≡ count_of_ones n % 2 → bit_or n ((1 - t) * 2147483648 % 4294967296) ≡ n + (1 - count_of_ones n % 2) * 2147483648
odd_topped n t h e = topped n (1 - t) h (omega arith) ∙ ap (λ p. (1 - p) * 2147483648 + n) e ∙ omega arith

pub odd_made : (n w : ℕ) → n < 2 ^ 31 → w ≡ n + (1 - count_of_ones n % 2) * 2147483648 → HasOddParity w
odd_made n w h e =
    let t = 1 - count_of_ones n % 2 in
    let order : w ≡ t * 2147483648 + n = omega arith in
    ap (λ x. count_of_ones x % 2) order ∙ parity-topped n t h (omega arith) ∙ odd_with_top (count_of_ones n % 2) (omega arith)

-- a word of parts and the parity bit
pub made : (l d f s n w : ℕ) → l < 256 → d ≤ 3 → f < 2 ^ 19 → s ≤ 3 → n ≡ s * 536870912 + f * 1024 + d * 256 + reverse_bits_onto 8 l 0
    → w ≡ n + (1 - count_of_ones n % 2) * 2147483648 → HasParts w l d f s
made l d f s n w hl hd hf hs en ew =
    let r = reverse_bits_onto 8 l 0 in
    let t = 1 - count_of_ones n % 2 in
    let hr : r < 256 = reversed-lt l in
    record {
      label = label-made w (t * 8388608 + s * 2097152 + f * 4 + d) l hl (omega arith);
      sdi = number_at-made w (t * 2097152 + s * 524288 + f) 8 2 d r hr (omega arith) (omega arith);
      field = number_at-made w (t * 4 + s) 10 19 f (d * 256 + r) (omega arith) hf (omega arith);
      ssm = number_at-made w t 29 2 s (f * 1024 + d * 256 + r) (omega arith) (omega arith) (omega arith);
      parity = odd_made n w (parts_below l d f s n hd hf hs en) ew;
    }

-- ---- what the parts leave

-- the ones below the parity bit determine it
parity_bit-known : (p t u : ℕ) → (p + t % 2) % 2 ≡ 1 → (p + u % 2) % 2 ≡ 1 → t % 2 ≡ u % 2
parity_bit-known p t u ht hu = omega arith

-- the ones of a word, those below the parity bit apart
parity-of_halves : (w : ℕ) → w < 2 ^ 32 → count_of_ones w % 2 ≡ (count_of_ones (w % 2147483648) % 2 + w / 2147483648 % 2) % 2
parity-of_halves w h =
    let halves : w ≡ w / 2147483648 % 2 * 2147483648 + w % 2147483648 = omega arith in
    ap (λ x. count_of_ones x % 2) halves ∙ parity-topped (w % 2147483648) (w / 2147483648 % 2) (omega arith) (omega arith)

-- words of odd parity that are alike in the four fields are one
pub same_from_fields : (v w : ℕ) → v < 2 ^ 32 → w < 2 ^ 32 → HasOddParity v → HasOddParity w → label_of v ≡ label_of w → sdi_of v ≡ sdi_of w
    → field_of v ≡ field_of w → ssm_of v ≡ ssm_of w → v ≡ w
same_from_fields v w hv hw ov ow label sdi field ssm =
    let low = same_below_parity v w label sdi field ssm in
    let one = sym (parity-of_halves v hv) ∙ ov in
    let other = ap (λ n. (count_of_ones n % 2 + w / 2147483648 % 2) % 2) low ∙ sym (parity-of_halves w hw) ∙ ow in
    same_from_halves v w hv hw low (parity_bit-known (count_of_ones (v % 2147483648) % 2) (v / 2147483648) (w / 2147483648) one other)
