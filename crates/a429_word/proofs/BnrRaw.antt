-- The raw number of a BNR word, as a mask and a subtraction give it.
use Rattle.std.proofs.Common.{◌≡◌, ℕ, suc, ◌+◌, ◌-◌, ◌*◌, ◌/◌, ◌%◌, ◌^◌, ◌<◌, ◌≤◌, sym, ap, ◌∙◌, inl, inr, arith, bit_and, ℤ, pos, neg_ℤ, ◌-ℤ◌, ◌≤ℤ◌, ◌<ℤ◌, w32, mul-one, mul-zero, mul_comm, mul_assoc, pow-suc}
use Rattle.std.proofs.lemmas.Int.{ints}
use Rattle.std.proofs.Math.Nat.{pow-le-pow_right}
use mir.Val.{to_z, of_z}
use Rattle.std.specs.Int.RustNames.{FitsSigned}
use Rattle.std.proofs.lemmas.Nat.{one_shl, shr-shr, mod-pow-add}
use Rattle.std.proofs.lemmas.Bool.{cases_lt}
use Rattle.std.proofs.lemmas.Nat.Bits.{bit_at-lt}
use Rattle.a429_word.specs.Word.{sum_below, bit, number_at, field_of}
use Rattle.a429_word.specs.Bnr.{raw_of}
use Rattle.a429_word.proofs.WordBits.{masked_from, number_at-is, number_at-lt}

-- the mask of s ones
masked_data : (w s : ℕ) → 1 ≤ s → s ≤ 18 → bit_and (w / 2 ^ (28 - s)) (1 * 2 ^ s % 4294967296 - 1) ≡ number_at w (29 - s) s
masked_data w s h1 h2 =
    let e : 1 * 2 ^ s % 2 ^ 32 ≡ 2 ^ s = one_shl s 32 (omega arith) in
    rw e (masked_from w (29 - s) (28 - s) s (omega arith))

pub data-is : (n w s : ℕ) (d : ℤ) → 1 ≤ s → s ≤ 18 → n ≡ w → d ≡ to_z w32 (bit_and (n / 2 ^ (28 - s)) (1 * 2 ^ s % 4294967296 - 1))
    → d ≡ to_z w32 (number_at w (29 - s) s)
data-is n w s d h1 h2 e is = is ∙ ap (to_z w32) (masked_data n s h1 h2 ∙ ap (λ x. number_at x (29 - s) s) e)

-- how large the numbers get
pub bounds : (w s : ℕ) → 1 ≤ s → s ≤ 18 → (2 ^ s ≤ 262144) × (number_at w (29 - s) s < 2 ^ s) × (1 * 2 ^ s % 4294967296 ≡ 2 ^ s)
bounds w s h1 h2 =
    let e : 29 - s ≡ suc (28 - s) = omega arith in
    (pow-le-pow_right {n = 2} (omega arith) h2, rw e (number_at-lt w (28 - s) s), one_shl s 32 (omega arith))

-- where the sign is 1, and where it is 0
pub negative : (q p b m : ℕ) (d : ℤ) → p ≤ 262144 → q < p → b ≡ 1 → m ≡ p → d ≡ to_z w32 q →
    FitsSigned w32 (to_z w32 (of_z w32 d) -ℤ to_z w32 m)
    × (to_z w32 (of_z w32 (to_z w32 (of_z w32 d) -ℤ to_z w32 m)) ≡ pos q -ℤ pos (p * b))
negative q p b m d hp hq eb em ed = rw (eb, em, ed, mul-one) (omega (arith, ints), omega (arith, ints))

pub positive : (q p b : ℕ) (d : ℤ) → p ≤ 262144 → q < p → b ≡ 0 → d ≡ to_z w32 q → to_z w32 (of_z w32 d) ≡ pos q -ℤ pos (p * b)
positive q p b d hp hq eb ed = rw (eb, ed) (omega (arith, ints))

pub bit-clear : (w i : ℕ) → (bit w i ≡ 1 → ⊥) → bit w i ≡ 0
bit-clear w i h = omega (arith, h, bit_at-lt w (i - 1))

-- ---- where it lies

in_range : (p q b : ℕ) → q < p → b < 2 → (neg_ℤ (pos p) ≤ℤ (pos q -ℤ pos (p * b))) × ((pos q -ℤ pos (p * b)) <ℤ pos p)
in_range p q b small bit = elim (cases_lt b 1) [
  | inl lt ↦ let e : b ≡ 0 = omega arith in rw (e, mul-zero) (omega (arith, ints), omega (arith, ints))
  | inr ge ↦ let e : b ≡ 1 = omega arith in rw (e, mul-one) (omega (arith, ints), omega (arith, ints))
]

pub raw_of-within : (w s : ℕ) → 1 ≤ s → s ≤ 18 → (neg_ℤ (pos (2 ^ s)) ≤ℤ raw_of w s) × (raw_of w s <ℤ pos (2 ^ s))
raw_of-within w s h1 h2 = in_range (2 ^ s) (number_at w (29 - s) s) (bit w 29) (bounds w s h1 h2).1 (bit_at-lt w 28)

-- ---- one part and one sign

same_parts : (p a b c d : ℕ) → a < p → c < p → b < 2 → d < 2 → pos a -ℤ pos (p * b) ≡ pos c -ℤ pos (p * d) → (a ≡ c) × (b ≡ d)
same_parts p a b c d ha hc hb hd e = elim (cases_lt b 1) [
  | inl lt ↦ let eb : b ≡ 0 = omega arith in elim (cases_lt d 1) [
    | inl l ↦ let ed : d ≡ 0 = omega arith in let f = rw (eb, ed, mul-zero) at e in (omega (arith, ints), omega arith)
    | inr g ↦ let ed : d ≡ 1 = omega arith in let f = rw (eb, ed, mul-zero, mul-one) at e in absurd (omega (arith, ints))
  ]
  | inr ge ↦ let eb : b ≡ 1 = omega arith in elim (cases_lt d 1) [
    | inl l ↦ let ed : d ≡ 0 = omega arith in let f = rw (eb, ed, mul-zero, mul-one) at e in absurd (omega (arith, ints))
    | inr g ↦ let ed : d ≡ 1 = omega arith in let f = rw (eb, ed, mul-one) at e in (omega (arith, ints), omega arith)
  ]
]

-- the data field is what lies below the raw number's part, that part and the sign
field_split : (w s t : ℕ) → 1 ≤ s → t + s ≡ 18 → field_of w ≡ bit w 29 * 2 ^ 18 + (number_at w (29 - s) s * 2 ^ t + number_at w 11 t)
field_split w s t h e =
    let x = w / 2 ^ 10 in
    let place : 29 - s ≡ suc (10 + t) = omega arith in
    let part : number_at w (29 - s) s ≡ x / 2 ^ t % 2 ^ s =
    ap (λ f. number_at w f s) place ∙ number_at-is w (10 + t) s ∙ ap (λ n. n % 2 ^ s) (sym (shr-shr w 10 t)) in
    let low : number_at w 11 t ≡ x % 2 ^ t = number_at-is w 10 t in
    let below : x % 2 ^ (s + t) ≡ (x / 2 ^ t % 2 ^ s) * 2 ^ t + x % 2 ^ t = mod-pow-add x s t in
    let count : s + t ≡ 18 = omega arith in
    let whole : x % 2 ^ 19 ≡ (x / 2 ^ 18 % 2 ^ 1) * 2 ^ 18 + x % 2 ^ 18 = mod-pow-add x 1 18 in
    let sign : x / 2 ^ 18 ≡ w / 2 ^ 28 = shr-shr w 10 18 in
    number_at-is w 10 19 ∙ whole ∙ ap (λ n. n % 2 ^ 1 * 2 ^ 18 + x % 2 ^ 18) sign
    ∙ ap (λ n. bit w 29 * 2 ^ 18 + n) (ap (λ n. x % 2 ^ n) (sym count) ∙ below ∙ ap (λ n. n * 2 ^ t + x % 2 ^ t) (sym part)
    ∙ ap (λ n. number_at w (29 - s) s * 2 ^ t + n) (sym low))

pub field_from_raw : (v w s : ℕ)
    → 1 ≤ s → s ≤ 18 → raw_of v s ≡ raw_of w s → number_at v 11 (18 - s) ≡ number_at w 11 (18 - s) → field_of v ≡ field_of w
field_from_raw v w s h1 h2 raw rest =
    let same =
    same_parts (2 ^ s) (number_at v (29 - s) s) (bit v 29) (number_at w (29 - s) s) (bit w 29) (bounds v s h1 h2).1 (bounds w s h1 h2).1
    (bit_at-lt v 28) (bit_at-lt w 28) raw in
    let total : 18 - s + s ≡ 18 = omega arith in
    field_split v s (18 - s) h1 total
    ∙ ap (λ n. n * 2 ^ 18 + (number_at v (29 - s) s * 2 ^ (18 - s) + number_at v 11 (18 - s))) same.1
    ∙ ap (λ n. bit w 29 * 2 ^ 18 + (n * 2 ^ (18 - s) + number_at v 11 (18 - s))) same.0
    ∙ ap (λ n. bit w 29 * 2 ^ 18 + (number_at w (29 - s) s * 2 ^ (18 - s) + n)) rest
    ∙ sym (field_split w s (18 - s) h1 total)

-- ---- in s + 1 bits

-- the sign's bit counts p, and its double is taken away
signed : (p a b : ℕ) → pos a -ℤ pos (p * b) ≡ pos (a + b * p) -ℤ pos (2 * p * b)
signed p a b = omega (arith, ints, mul_comm b p, mul_assoc 2 p b)

pub raw_of-bits : (w s : ℕ) → 1 ≤ s → s ≤ 18 → raw_of w s ≡ pos (number_at w (29 - s) (s + 1)) -ℤ pos (2 ^ (s + 1) * bit w 29)
unfolding sum_below
raw_of-bits w s h1 h2 =
    let up : s + 1 ≡ suc s = omega arith in
    let last : 29 - s + s ≡ 29 = omega arith in
    let bits : number_at w (29 - s) (s + 1) ≡ number_at w (29 - s) s + bit w 29 * 2 ^ s =
    ap (number_at w (29 - s)) up ∙ ap (λ i. number_at w (29 - s) s + bit w i * 2 ^ s) last in
    let double : 2 ^ (s + 1) ≡ 2 * 2 ^ s = ap (λ n. 2 ^ n) up ∙ pow-suc 2 s ∙ mul_comm (2 ^ s) 2 in
    rw (bits, double) (signed (2 ^ s) (number_at w (29 - s) s) (bit w 29))
