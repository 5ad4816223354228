-- How many digits a number has.
use Rattle.std.proofs.Common.{◌≡◌, ℕ, ◌+◌, ◌-◌, ◌*◌, ◌/◌, ◌%◌, ◌^◌, ◌<◌, ◌≤◌, List, [], ◌∷◌, ◌++◌, length, take, length-append, ap, ◌∙◌, refl, arith, inl, inr}
use Rattle.std.specs.Fmt.{decimal}
use Rattle.std.proofs.Math.Seq.{take-append_seam}
use Rattle.std.proofs.lemmas.Bool.{cases_lt}
use Rattle.std.proofs.lemmas.Fmt.{decimal_digit, decimal_step}
use Rattle.itoa.proofs.Decimal.{decimal_two, length_one, length_two, length_pair, length_four}

-- three digits, the first of which is known
pub decimal_three : (n first : ℕ) → first * 100 ≤ n → n < first * 100 + 100 → 0 < first → first < 10
    → decimal n ≡ (48 + first) ∷ (48 + (n - first * 100) / 10) ∷ (48 + (n - first * 100) % 10) ∷ []
decimal_three n first lo hi some small =
    let hundreds : n / 10 / 10 ≡ first = omega arith in
    let tens : n / 10 % 10 ≡ (n - first * 100) / 10 = omega arith in
    let ones : n % 10 ≡ (n - first * 100) % 10 = omega arith in
    rw (decimal_step n (omega arith) (omega arith), decimal_two (n / 10) (omega arith) (omega arith), hundreds, tens, ones) refl

pub length_three : (n : ℕ) → 100 ≤ n → n < 1000 → length (decimal n) ≡ 3
length_three n lo hi = length_pair n lo (omega arith) ∙ ap (λ k. k + 2) (length_one (n / 100) (omega arith))

pub length_at_four : (n : ℕ) → 1000 ≤ n → n < 10000 → length (decimal n) ≡ 4
length_at_four n lo hi = length_pair n (omega arith) (omega arith) ∙ ap (λ k. k + 2) (length_two (n / 100) (omega arith) (omega arith))

pub length_eight : (n : ℕ) → 100000000 ≤ n → n < 2 ^ 64 → length (decimal n) ≡ length (decimal (n / 100000000)) + 8
length_eight n lo hi =
    let twice : n / 10000 / 10000 ≡ n / 100000000 = omega arith in
    omega (arith, length_four n (omega arith) hi, length_four (n / 10000) (omega arith) (omega arith), ap (λ m. length (decimal m)) twice)

pub length_sixteen : (n : ℕ) → 10000000000000000 ≤ n → n < 2 ^ 64 → length (decimal n) ≡ length (decimal (n / 10000000000000000)) + 16
length_sixteen n lo hi =
    let twice : n / 100000000 / 100000000 ≡ n / 10000000000000000 = omega arith in
    omega
    (arith, length_eight n (omega arith) hi, length_eight (n / 100000000) (omega arith) (omega arith), ap (λ m. length (decimal m)) twice)

-- ---- the next number

without_last : (xs : List ℕ) (x : ℕ) → take (length (xs ++ x ∷ []) - 1) (xs ++ x ∷ []) ≡ xs
without_last xs x =
    let count : length (xs ++ x ∷ []) - 1 ≡ length xs = omega (arith, length-append xs (x ∷ [])) in
    ap (λ k. take k (xs ++ x ∷ [])) count ∙ take-append_seam xs (x ∷ [])

-- it has another last digit alone, where that is not 0
pub decimal-next : (n : ℕ)
    → n + 1 < 2 ^ 64 → 0 < (n + 1) % 10 → decimal (n + 1) ≡ take (length (decimal n) - 1) (decimal n) ++ (48 + (n + 1) % 10) ∷ []
decimal-next n small some = elim (cases_lt n 10) [
  | inl low ↦
      let same : (n + 1) % 10 ≡ n + 1 = omega arith in
      rw (decimal_digit (n + 1) (omega arith), decimal_digit n low, same) refl
  | inr high ↦
      let tens : (n + 1) / 10 ≡ n / 10 = omega arith in
      rw (decimal_step (n + 1) (omega arith) small, decimal_step n high (omega arith), tens, without_last (decimal (n / 10)) (48 + n % 10))
      refl
]
