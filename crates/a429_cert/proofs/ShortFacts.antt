-- Decimal numbers below 1,000, put down digit by digit.
use Rattle.std.proofs.Common.{◌≡◌, ◌∙◌, ◌+◌, ◌-◌, ◌*◌, ◌/◌, ◌%◌, ◌<◌, ◌≤◌, ℕ, List, [], ◌∷◌, ◌++◌, refl, sym, ap, arith, append_assoc}
use Rattle.std.specs.Fmt.{decimal}
use Rattle.std.proofs.lemmas.Fmt.{decimal_digit, decimal_step}

pub one_digit : (n : ℕ) (old new : List ℕ) → n < 10 → new ≡ old ++ (48 + n) ∷ [] → new ≡ old ++ decimal n
one_digit n old new most a = a ∙ ap (λ t. old ++ t) (sym (decimal_digit n most))

two_is : (n : ℕ) → 10 ≤ n → n < 100 → decimal n ≡ (48 + n / 10) ∷ (48 + n % 10) ∷ []
two_is n least most = decimal_step n least (omega arith) ∙ ap (λ t. t ++ (48 + n % 10) ∷ []) (decimal_digit (n / 10) (omega arith))

pub two_digits : (n : ℕ) (old new : List ℕ) → 10 ≤ n → n < 100 → new ≡ old ++ (48 + n / 10) ∷ (48 + n % 10) ∷ [] → new ≡ old ++ decimal n
two_digits n old new least most a = a ∙ ap (λ t. old ++ t) (sym (two_is n least most))

three_is : (n : ℕ) → 100 ≤ n → n < 1000 → decimal n ≡ (48 + n / 100) ∷ (48 + n / 10 % 10) ∷ (48 + n % 10) ∷ []
three_is n least most =
    let first : n / 10 / 10 ≡ n / 100 = omega arith in
    decimal_step n (omega arith) (omega arith) ∙ ap (λ t. t ++ (48 + n % 10) ∷ []) (two_is (n / 10) (omega arith) (omega arith))
    ∙ ap (λ d. (48 + d) ∷ (48 + n / 10 % 10) ∷ (48 + n % 10) ∷ []) first

-- the digit that counts 100, and the two behind it
pub three_digits : (n h : ℕ) (old mid new : List ℕ) → 1 ≤ h → 100 * h ≤ n → n < 100 * h + 100 → n < 1000 → mid ≡ old ++ (48 + h) ∷ []
    → new ≡ mid ++ (48 + (n - 100 * h) / 10) ∷ (48 + (n - 100 * h) % 10) ∷ [] → new ≡ old ++ decimal n
three_digits n h old mid new some least most short a b =
    let first : n / 100 ≡ h = omega arith in
    let second : n / 10 % 10 ≡ (n - 100 * h) / 10 = omega arith in
    let third : n % 10 ≡ (n - 100 * h) % 10 = omega arith in
    let pair = (48 + (n - 100 * h) / 10) ∷ (48 + (n - 100 * h) % 10) ∷ [] in
    let is : decimal n ≡ (48 + h) ∷ pair = three_is n (omega arith) short ∙ rw (first, second, third) refl in
    b ∙ ap (λ t. t ++ pair) a ∙ append_assoc old ((48 + h) ∷ []) pair ∙ ap (λ t. old ++ t) (sym is)
