-- Decimal digits packed four bits each, and the BCD word that has them in its data field.
use Rattle.std.proofs.Common.{◌≡◌, ℕ, zero, suc, ◌+◌, ◌-◌, ◌*◌, ◌/◌, ◌%◌, ◌^◌, ◌<◌, ◌≤◌, refl, sym, ap, ◌∙◌, arith, inl, inr, cond, eqb, true, false, Bool, mul_assoc, mul-le-mul_right}
use Rattle.std.proofs.lemmas.Nat.{pow-add, shr-shr, shl-shr, div-mul-add, div_below, shl_below}
use Rattle.std.proofs.lemmas.Bool.{cases_lt, eqb-true, eqb-false}
use Rattle.std.proofs.Math.Nat.{div-div-eq-div-mul, pow-le-pow_right, add-mul-div_right, div-lt_iff_lt-mul}
use Rattle.std.proofs.Math.Pow.{mod-mod-pow}
use Rattle.a429_word.specs.Word.{number_at, field_of}
use Rattle.a429_word.specs.Bcd.{digit_of, decimal_of, AreDecimal}
use Rattle.a429_word.proofs.Powers.{pow-10_pos, pow-16_pos, pow-16}
use Rattle.a429_word.proofs.WordBits.{number_at-is, field_of-above, field_of-below}
use Rattle.a429_word.proofs.BcdDigits.{decimal_of-none, decimal_of-more}

-- ---- packing

-- what the lowest count digits of v, four bits each, are as one number
pub record IsPacked (p count v : ℕ) : Type 0 where
  pub within : p < 16 ^ count
  pub digits : (j : ℕ) → j < count → p / 16 ^ j % 16 ≡ v / 10 ^ j % 10

pub packed-none : (v : ℕ) → IsPacked 0 0 v
packed-none v = record { within = omega arith; digits = λ j h. absurd (omega arith) }

-- a digit put above leaves those below
digit-below : (p d j place : ℕ) → j < place → (p + d * 16 ^ place) / 16 ^ j % 16 ≡ p / 16 ^ j % 16
digit-below p d j place h =
    let x = place - suc j in
    let up : place ≡ x + 1 + j = omega arith in
    let powers : 16 ^ place ≡ 16 ^ (x + 1) * 16 ^ j = ap (λ n. 16 ^ n) up ∙ pow-add 16 (x + 1) j in
    let moved : d * 16 ^ place ≡ d * 16 ^ x * 16 * 16 ^ j = ap (λ n. d * n) powers ∙ sym (mul_assoc d (16 ^ (x + 1)) (16 ^ j))
    ∙ ap (λ n. n * 16 ^ j) (ap (λ n. d * n) (pow-add 16 x 1) ∙ sym (mul_assoc d (16 ^ x) 16)) in
    let quotient : (p + d * 16 ^ place) / 16 ^ j ≡ p / 16 ^ j + d * 16 ^ x * 16 =
    ap (λ n. (p + n) / 16 ^ j) moved ∙ add-mul-div_right p (d * 16 ^ x * 16) (pow-16_pos j) in
    rw quotient (omega arith)

-- and is the highest
digit-top : (p d place : ℕ) → p < 16 ^ place → d < 16 → (p + d * 16 ^ place) / 16 ^ place % 16 ≡ d
digit-top p d place low small =
    let turned : p + d * 16 ^ place ≡ d * 16 ^ place + p = omega arith in
    ap (λ n. n / 16 ^ place % 16) turned ∙ ap (λ n. n % 16) (div-mul-add d (16 ^ place) p low) ∙ omega arith

-- a digit more
pub packed-more : (p place v d : ℕ) → IsPacked p place v → d ≡ v / 10 ^ place % 10 → IsPacked (p + d * 16 ^ place) (place + 1) v
packed-more p place v d is e =
    let small : d ≤ 9 = omega arith in
    let product : d * 16 ^ place ≤ 9 * 16 ^ place = mul-le-mul_right (16 ^ place) small in
    record {
      within = rw (pow-add 16 place 1) (omega (arith, is.within));
      digits = λ j inside. elim (cases_lt j place) [
        | inl lt ↦ digit-below p d j place lt ∙ is.digits j lt
        | inr ge ↦
            let last : place ≡ j = omega arith in
            ap (λ i. (p + d * 16 ^ place) / 16 ^ i % 16) (sym last) ∙ digit-top p d place is.within (omega arith) ∙ e
            ∙ ap (λ i. v / 10 ^ i % 10) last
      ];
    }

-- the loop's sum and shift stay in range
pub digit-room : (place packed rest : ℕ) → place < 5 → packed < 16 ^ place
    → (packed + rest % 10 * 2 ^ (4 * place) % 4294967296 < 1048576) × (rest % 10 * 2 ^ (4 * place) % 4294967296 ≡ rest % 10 * 16 ^ place)
digit-room place packed rest h low =
    let few : place ≤ 4 = omega arith in
    let p = 16 ^ place in
    let most : p ≤ 65536 = pow-le-pow_right {n = 16} (omega arith) few in
    let digit : rest % 10 ≤ 9 = omega arith in
    let product : rest % 10 * p ≤ 9 * p = mul-le-mul_right p digit in
    let same : rest % 10 * 2 ^ (4 * place) % 4294967296 ≡ rest % 10 * p =
    ap (λ x. rest % 10 * x % 4294967296) (pow-16 place) ∙ omega arith in
    (rw same (omega arith), same)

-- what is left of the number
pub next-digit : (rest v place : ℕ) → rest ≡ v / 10 ^ place → rest / 10 ≡ v / 10 ^ (place + 1)
next-digit rest v place e = ap (λ n. n / 10) e ∙ div-div-eq-div-mul v (10 ^ place) 10 ∙ ap (λ n. v / n) (sym (pow-add 10 place 1))

-- ---- the word

-- the first digit is below 8
first-below : (p k v : ℕ) → 1 ≤ k → v < 8 * 10 ^ (k - 1) → IsPacked p k v → p < 8 * 16 ^ (k - 1)
first-below p k v h small is =
    let j = k - 1 in
    let up : k ≡ 1 + j = omega arith in
    let whole : 16 ^ k ≡ 16 * 16 ^ j = ap (λ x. 16 ^ x) up ∙ pow-add 16 1 j in
    let within : p / 16 ^ j < 16 = div_below p (16 ^ j) 16 (pow-16_pos j) (rw (← whole) is.within) in
    let first : v / 10 ^ j < 8 = div_below v (10 ^ j) 8 (pow-10_pos j) small in
    let same : p / 16 ^ j % 16 ≡ v / 10 ^ j % 10 = is.digits j (omega arith) in
    (div-lt_iff_lt-mul (pow-16_pos j)).0 (omega arith)

-- moved up, and down further
shifted : (p a b : ℕ) → p * 2 ^ a / 2 ^ (a + b) ≡ p / 2 ^ b
shifted p a b = sym (shr-shr (p * 2 ^ a) a b) ∙ ap (λ x. x / 2 ^ b) (shl-shr p a)

-- the bits from a digit's lowest up to bit 29
upper : (w k i p : ℕ)
    → 1 ≤ i → i ≤ k → k ≤ 5 → field_of w ≡ p * 2 ^ (20 - 4 * k) → w / 2 ^ (30 - 4 * i) % 2 ^ (4 * i - 1) ≡ p / 16 ^ (k - i)
upper w k i p h1 h2 h3 field =
    let a = 20 - 4 * k in
    let t = 20 - 4 * i in
    let place : 30 - 4 * i ≡ 10 + t = omega arith in
    let apart : t ≡ a + 4 * (k - i) = omega arith in
    ap (λ x. w / 2 ^ x % 2 ^ (4 * i - 1)) place ∙ field_of-above w t (4 * i - 1) (omega arith) ∙ ap (λ x. x / 2 ^ t) field
    ∙ ap (λ x. p * 2 ^ a / 2 ^ x) apart ∙ shifted p a (4 * (k - i)) ∙ ap (λ x. p / x) (pow-16 (k - i))

-- a digit's bits, of which the first digit has three
digit-by_test : (w k i p : ℕ) (t : Bool) → eqb i 1 ≡ t → 1 ≤ i → i ≤ k → k ≤ 5 → p < 8 * 16 ^ (k - 1) → field_of w ≡ p * 2 ^ (20 - 4 * k)
    → number_at w (31 - 4 * i) (cond t 3 4) ≡ p / 16 ^ (k - i) % 16
digit-by_test w k i p true e h1 h2 h3 small field =
    let one : i ≡ 1 = eqb-true i 1 e in
    let first : 31 - 4 * i ≡ suc (30 - 4 * i) = omega arith in
    let three : 3 ≡ 4 * i - 1 = omega arith in
    let last : k - 1 ≡ k - i = omega arith in
    let low : p / 16 ^ (k - i) < 8 = div_below p (16 ^ (k - i)) 8 (pow-16_pos (k - i)) (rw (← last) small) in
    ap (λ f. number_at w f 3) first ∙ number_at-is w (30 - 4 * i) 3 ∙ ap (λ x. w / 2 ^ (30 - 4 * i) % 2 ^ x) three
    ∙ upper w k i p h1 h2 h3 field ∙ omega arith
digit-by_test w k i p false e h1 h2 h3 small field =
    let more : 2 ≤ i = at_least_two i h1 (eqb-false i 1 e) in
    let first : 31 - 4 * i ≡ suc (30 - 4 * i) = omega arith in
    let width : 4 * i - 5 + 4 ≡ 4 * i - 1 = omega arith in
    let x = w / 2 ^ (30 - 4 * i) in
    ap (λ f. number_at w f 4) first ∙ number_at-is w (30 - 4 * i) 4 ∙ sym (mod-mod-pow x (4 * i - 5) 4) ∙ ap (λ n. x % 2 ^ n % 16) width
    ∙ ap (λ n. n % 16) (upper w k i p h1 h2 h3 field)
  where
    at_least_two : (n : ℕ) → 1 ≤ n → (n ≡ 1 → ⊥) → 2 ≤ n
    at_least_two n h ne = omega arith

-- a word's field is these digits, moved up
record HasDigits (w k v p : ℕ) : Type 0 where
  least : 1 ≤ k
  most : k ≤ 5
  small : v < 8 * 10 ^ (k - 1)
  packed : IsPacked p k v
  field : field_of w ≡ p * 2 ^ (20 - 4 * k)

-- so digit i is the number's digit, and the first j of them its first j
digit-is : (w k i v p : ℕ) → 1 ≤ i → i ≤ k → HasDigits w k v p → digit_of w i ≡ v / 10 ^ (k - i) % 10
digit-is w k i v p h1 h2 has =
    digit-by_test w k i p (eqb i 1) refl h1 h2 has.most (first-below p k v has.least has.small has.packed) has.field
    ∙ has.packed.digits (k - i) (omega (arith, has.least))

decimal-is : (w k v p j : ℕ) → j ≤ k → HasDigits w k v p → decimal_of w j ≡ v / 10 ^ (k - j)
decimal-is w k v p zero h has =
    let least : 1 ≤ k = has.least in
    let up : k ≡ k - 1 + 1 = omega arith in
    let power : 10 ^ k ≡ 10 ^ (k - 1) * 10 = ap (λ x. 10 ^ x) up ∙ pow-add 10 (k - 1) 1 in
    let some = pow-10_pos (k - 1) in
    let low : v / 10 ^ k < 1 = div_below v (10 ^ k) 1 (omega arith) (omega (arith, has.small)) in
    let nought : k - 0 ≡ k = omega arith in
    decimal_of-none w ∙ rw nought (omega arith)
decimal-is w k v p (suc j) h has =
    let low = decimal-is w k v p j (omega arith) has in
    let here = digit-is w k (suc j) v p (omega arith) h has in
    let x = k - suc j in
    let up : k - j ≡ x + 1 = omega arith in
    let next : v / 10 ^ (k - j) ≡ v / 10 ^ x / 10 =
    ap (λ n. v / n) (ap (λ n. 10 ^ n) up ∙ pow-add 10 x 1) ∙ sym (div-div-eq-div-mul v (10 ^ x) 10) in
    decimal_of-more w j ∙ rw (low, here, next) (omega arith)

-- what `Word::bcd_word` promises of the data field
pub record IsBcd (w k v : ℕ) : Type 0 where
  pub digits : AreDecimal w k
  pub value : decimal_of w k ≡ v
  pub unused : number_at w 11 (20 - 4 * k) ≡ 0

pub bcd-made : (w k v p : ℕ) → 1 ≤ k → k ≤ 5 → v < 8 * 10 ^ (k - 1) → IsPacked p k v → field_of w ≡ p * 2 ^ (20 - 4 * k) → IsBcd w k v
bcd-made w k v p h1 h2 small packed field =
    let has : HasDigits w k v p = record { least = h1; most = h2; small = small; packed = packed; field = field } in
    let none : k - k ≡ 0 = omega arith in
    record {
      digits = λ i g1 g2. let e = digit-is w k i v p g1 g2 has in omega arith;
      value = decimal-is w k v p k (omega arith) has ∙ ap (λ x. v / 10 ^ x) none ∙ omega arith;
      unused = field_of-below w p (20 - 4 * k) (omega arith) field;
    }

-- the digits fit into the field
pub bcd-room : (k v p : ℕ) → 1 ≤ k → k ≤ 5 → v < 8 * 10 ^ (k - 1) → IsPacked p k v
    → (p * 2 ^ (20 - 4 * k) < 524288) × (p * 2 ^ (20 - 4 * k) % 4294967296 ≡ p * 2 ^ (20 - 4 * k))
bcd-room k v p h1 h2 small is =
    let low = first-below p k v h1 small is in
    let eight : 8 * 16 ^ (k - 1) ≡ 2 ^ (3 + 4 * (k - 1)) = ap (λ x. 8 * x) (sym (pow-16 (k - 1))) ∙ sym (pow-add 2 3 (4 * (k - 1))) in
    let up : 3 + 4 * (k - 1) + (20 - 4 * k) ≡ 19 = omega arith in
    let fits : p * 2 ^ (20 - 4 * k) < 2 ^ (3 + 4 * (k - 1) + (20 - 4 * k)) =
    shl_below p (3 + 4 * (k - 1)) (20 - 4 * k) (rw (← eight) low) in
    let fits19 : p * 2 ^ (20 - 4 * k) < 2 ^ 19 = rw up at fits in
    (fits19, omega arith)
