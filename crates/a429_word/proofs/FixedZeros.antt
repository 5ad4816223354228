-- Trailing zeros of a number, as factors of 2 and of 5.
use Rattle.std.proofs.Common.{◌≡◌, ◌≢◌, ℕ, zero, suc, ◌+◌, ◌*◌, ◌/◌, ◌%◌, ◌-◌, ◌^◌, ◌<◌, ◌≤◌, sym, ap, ◌∙◌, arith, mul_assoc}
use Rattle.std.specs.Int.{bit_at, w128}
use Rattle.std.specs.Int.Count.{count_trailing_zeros, trailing_of_zero}
use Rattle.std.proofs.lemmas.Nat.Bits.{bit_at-trailing_zeros}
use Rattle.std.proofs.lemmas.Nat.{mod-pow-add, div-add-mod', mul-pow, div-mul-add, mod_below}
use Rattle.std.proofs.Math.Nat.{zero-mod, mod-eq-sub-div-mul}
use Rattle.a429_word.proofs.Powers.{tens_le}

-- ---- powers of ten

-- 5 ^ k shifted by k
pub tens_shifted : (k five : ℕ) → k ≤ 18 → five ≡ 5 ^ k → five * 2 ^ k % 18446744073709551616 ≡ 10 ^ k
tens_shifted k five h e =
    let ten : five * 2 ^ k ≡ 10 ^ k = ap (λ x. x * 2 ^ k) e ∙ sym (mul-pow 5 2 k) in
    let most : 10 ^ k ≤ 10 ^ 18 = tens_le k h in
    omega arith

-- ---- factors of 2 and of 5

pub no_low_bits : (k n : ℕ) → ((i : ℕ) → i < k → bit_at n i ≡ 0) → n % 2 ^ k ≡ 0
no_low_bits zero n h = omega arith
no_low_bits (suc k) n h =
    let up : suc k ≡ 1 + k = omega arith in
    let low = no_low_bits k n (λ i l. h i (omega arith)) in
    ap (λ x. n % 2 ^ x) up ∙ mod-pow-add n 1 k ∙ rw (low, h k (omega arith)) (omega arith)

-- a number has as many factors of 2 as its lowest bits are 0
pub lowest_one : (n : ℕ) → n < 2 ^ 128 → count_trailing_zeros 128 n < 128
    → (n % 2 ^ count_trailing_zeros 128 n ≡ 0) × (n / 2 ^ count_trailing_zeros 128 n % 2 ≡ 1)
lowest_one zero fits h = absurd (omega (arith, trailing_of_zero 128))
lowest_one (suc m) fits h =
    let bits = bit_at-trailing_zeros w128 (suc m) (omega arith) fits in
    (no_low_bits _ (suc m) bits.2, bits.1)

pub low_zeros : (n k : ℕ) → n < 2 ^ 128 → k ≤ count_trailing_zeros 128 n → n % 2 ^ k ≡ 0
low_zeros zero k fits h = zero-mod (2 ^ k)
low_zeros (suc m) k fits h = no_low_bits k (suc m) (λ i l. (bit_at-trailing_zeros w128 (suc m) (omega arith) fits).2 i (omega arith))

-- an odd number has no trailing zero, nor has what it is a multiple of
pub odd_ends : (n p rest : ℕ) → n % 2 ≡ 1 → n ≡ rest * p → rest % 10 ≢ 0
odd_ends n p rest odd parts tens =
    let ten : rest ≡ 2 * (5 * (rest / 10)) = omega arith in
    let even : n ≡ 2 * (5 * (rest / 10) * p) = parts ∙ ap (λ x. x * p) ten ∙ mul_assoc 2 (5 * (rest / 10)) p in
    omega arith

-- as many twos as fives are as many tens
pub tens_dropped : (n rest zeros d : ℕ)
    → zeros ≤ d → n % 2 ^ zeros ≡ 0 → n / 2 ^ zeros ≡ rest * 5 ^ zeros → n ≡ rest * 10 ^ (d - (d - zeros))
tens_dropped n rest zeros d less twos parts =
    let two = 2 ^ zeros in
    let five = 5 ^ zeros in
    let whole : n ≡ n / two * two = sym (div-add-mod' n two) ∙ ap (λ x. n / two * two + x) twos ∙ omega arith in
    let same : d - (d - zeros) ≡ zeros = omega arith in
    let ten : five * two ≡ 10 ^ zeros = sym (mul-pow 5 2 zeros) in
    whole ∙ ap (λ x. x * two) parts ∙ mul_assoc rest five two ∙ ap (λ x. rest * x) ten ∙ ap (λ x. rest * 10 ^ x) (sym same)

-- ---- quotients that are guessed

-- a guess is the quotient where what is left of the number is less than the divisor
pub guess_is : (n d q : ℕ) → q * d ≤ n → n - q * d < d → (q ≡ n / d) × (n - q * d ≡ n % d)
guess_is n d q low high =
    let parts : n ≡ q * d + (n - q * d) = omega arith in
    let quotient : n / d ≡ q = ap (λ x. x / d) parts ∙ div-mul-add q d (n - q * d) high in
    (sym quotient, sym (mod-eq-sub-div-mul n d ∙ ap (λ x. n - x * d) quotient))

-- a product over a number, from the quotient of one factor and what remains of it
pub upper_parts : (a b m : ℕ) → 0 < m → a / m * b + a % m * b / m ≡ a * b / m
upper_parts a b m some =
    let r = a % m * b in
    let rest : r / m * m + r % m ≡ r = div-add-mod' r m in
    let whole : a / m * m + a % m ≡ a = div-add-mod' a m in
    let both : a * b ≡ (a / m * b + r / m) * m + r % m = ap (λ x. x * b) (sym whole) ∙ grind (arith, rest) in
    sym (ap (λ x. x / m) both ∙ div-mul-add (a / m * b + r / m) m (r % m) (mod_below r m some))
