-- A raw number as bits of a word.
use Rattle.std.proofs.Common.{◌≡◌, ℕ, suc, ◌+◌, ◌-◌, ◌*◌, ◌/◌, ◌%◌, ◌^◌, ◌<◌, ◌≤◌, sym, ap, ◌∙◌, arith, ℤ, pos, ◌-ℤ◌, ◌+ℤ◌, neg_ℤ, ◌≤ℤ◌, ◌<ℤ◌, mul-one, mul-zero}
use Rattle.std.proofs.lemmas.Int.{ints}
use Rattle.std.proofs.lemmas.Nat.{shr-shr, div-mul-add, mod-mul-add, pow-add, shl-shr, shl_below, field_of as nat_field_of}
use Rattle.std.proofs.Math.Pow.{mod-mod-pow}
use Rattle.std.proofs.Math.Nat.{pow-le-pow_right}
use Rattle.a429_word.specs.Word.{number_at, field_of}
use Rattle.a429_word.specs.Bnr.{raw_of}
use Rattle.a429_word.proofs.WordBits.{number_at-is, field_of-above, field_of-below}

-- a number below 2 * p as a part below p and a top bit, which counts - p
pub record IsTwosComplement (p code : ℕ) (raw : ℤ) : Type 0 where
  pub within : code < 2 * p
  pub value : raw ≡ pos (code % p) -ℤ pos (p * (code / p))

-- with the top bit, and without
pub code-negative : (p k : ℕ) (raw : ℤ)
    → 0 < p → raw <ℤ pos 0 → neg_ℤ (pos p) ≤ℤ raw → pos k ≡ raw +ℤ pos (2 * p) → IsTwosComplement p k raw
code-negative p k raw some below low is =
    let least : p ≤ k = omega (arith, ints) in
    let most : k < 2 * p = omega (arith, ints) in
    let e : k ≡ 1 * p + (k - p) = omega arith in
    let small : k - p < p = omega arith in
    let q : k / p ≡ 1 = ap (λ x. x / p) e ∙ div-mul-add 1 p (k - p) small in
    let r : k % p ≡ k - p = ap (λ x. x % p) e ∙ mod-mul-add 1 p (k - p) small in
    record { within = most; value = rw (q, r, mul-one) (omega (arith, ints)) }

pub code-positive : (p k : ℕ) (raw : ℤ) → raw ≡ pos k → raw <ℤ pos p → IsTwosComplement p k raw
code-positive p k raw is high =
    let small : k < p = omega (arith, ints) in
    let e : k ≡ 0 * p + k = omega arith in
    let q : k / p ≡ 0 = ap (λ x. x / p) e ∙ div-mul-add 0 p k small in
    let r : k % p ≡ k = ap (λ x. x % p) e ∙ mod-mul-add 0 p k small in
    record { within = omega arith; value = rw (q, r, mul-zero) (omega (arith, ints)) }

-- the data field's upper s + 1 bits are the part and the top bit
upper : (w s t code : ℕ)
    → t + s ≡ 18 → field_of w ≡ code * 2 ^ t → (w / 2 ^ (10 + t) % 2 ^ s ≡ code % 2 ^ s) × (w / 2 ^ 28 % 2 ≡ code / 2 ^ s)
upper w s t code e field =
    let x = w / 2 ^ (10 + t) in
    let above : x % 2 ^ (1 + s) ≡ code = field_of-above w t (1 + s) (omega arith) ∙ ap (λ n. n / 2 ^ t) field ∙ shl-shr code t in
    let place : 10 + t + s ≡ 28 = omega arith in (
      sym (mod-mod-pow x 1 s) ∙ ap (λ n. n % 2 ^ s) above,
      ap (λ n. w / 2 ^ n % 2) (sym place) ∙ ap (λ n. n % 2) (sym (shr-shr w (10 + t) s)) ∙ sym (nat_field_of x 1 s)
          ∙ ap (λ n. n / 2 ^ s) above,
    )

-- a word whose field is these bits, moved up, has the raw number
pub raw-made : (w s code : ℕ) (raw : ℤ) → 1 ≤ s → s ≤ 18 → IsTwosComplement (2 ^ s) code raw → field_of w ≡ code * 2 ^ (18 - s)
    → (raw_of w s ≡ raw) × (number_at w 11 (18 - s) ≡ 0)
raw-made w s code raw h1 h2 is field =
    let parts = upper w s (18 - s) code (omega arith) field in
    let first : 29 - s ≡ suc (10 + (18 - s)) = omega arith in
    let bits : number_at w (29 - s) s ≡ code % 2 ^ s = ap (λ f. number_at w f s) first ∙ number_at-is w (10 + (18 - s)) s ∙ parts.0 in
    (rw (bits, parts.1) (sym is.value), field_of-below w code (18 - s) (omega arith) field)

-- how large they get
pub pow_at_most : (s : ℕ) → s ≤ 18 → 2 ^ s ≤ 262144
pow_at_most s h = pow-le-pow_right {n = 2} (omega arith) h

-- these bits fit into the field
pub code-room : (s code : ℕ)
    → s ≤ 18 → code < 2 * 2 ^ s → (code * 2 ^ (18 - s) < 524288) × (code * 2 ^ (18 - s) % 4294967296 ≡ code * 2 ^ (18 - s))
code-room s code h small =
    let up : s + 1 + (18 - s) ≡ 19 = omega arith in
    let below : code < 2 ^ (s + 1) = rw (pow-add 2 s 1) (omega arith) in
    let fits : code * 2 ^ (18 - s) < 2 ^ (s + 1 + (18 - s)) = shl_below code (s + 1) (18 - s) below in
    let fits19 : code * 2 ^ (18 - s) < 2 ^ 19 = rw up at fits in
    (fits19, omega arith)
