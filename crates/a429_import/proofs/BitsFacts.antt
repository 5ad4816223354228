-- Numbers at bits that are side by side, by shifts.
use Rattle.std.proofs.Common.{◌≡◌, ℕ, zero, suc, ◌+◌, ◌-◌, ◌*◌, ◌/◌, ◌%◌, ◌^◌, ◌<◌, ◌≤◌, true, false, refl, sym, ap, ◌∙◌, arith, pow-suc, mul-le-mul_right}
use Rattle.std.specs.Int.{bit_at, reverse_bits_onto}
use Rattle.std.proofs.lemmas.Nat.{pow-add, pow_pos, shr-shr}
use Rattle.std.proofs.lemmas.Nat.Bits.{bit_at-suc, bit_at-lt}
use Rattle.std.proofs.Math.Nat.{mod-eq_of_lt, pow-le-pow_right, mul-div_cancel}
use Rattle.a429_word.specs.Word.{sum_below, number_at, label_of}
use Rattle.a429_word.proofs.WordBits.{sum_below-same, number_at-is, label-is, reversed_twice}
use Rattle.a429_import.specs.declared.bits.Bits.{Bits}
use Rattle.a429_import.specs.Bits.{AreInWord, placed}

sum_below-times : (k c : ℕ) (f : ℕ → ℕ) → sum_below k (λ j. f j * c) ≡ sum_below k f * c
unfolding sum_below
sum_below-times zero c f = omega arith
sum_below-times (suc k) c f = let e = sum_below-times k c f in omega arith

-- ---- the lowest bit first

-- a number of k bits is the sum of these
sum_of_bits : (k n : ℕ) → n < 2 ^ k → sum_below k (λ j. bit_at n j * 2 ^ j) ≡ n
sum_of_bits k n h =
    let places : sum_below k (λ j. bit_at n j * 2 ^ j) ≡ number_at n 1 k =
    sum_below-same k (λ j. bit_at n j * 2 ^ j) (λ j. bit_at n (1 + j - 1) * 2 ^ j) (λ j _. ap (λ i. bit_at n i * 2 ^ j) (omega arith)) in
    let whole : n / 2 ^ 0 % 2 ^ k ≡ n % 2 ^ k = ap (λ m. m % 2 ^ k) (omega arith) in
    places ∙ number_at-is n 0 k ∙ whole ∙ mod-eq_of_lt h

moved_up : (k low n : ℕ) → 1 ≤ low → n < 2 ^ k → sum_below k (λ j. bit_at n j * 2 ^ (low + j - 1)) ≡ n * 2 ^ (low - 1)
moved_up k low n first h =
    let term : (j : ℕ) → j < k → bit_at n j * 2 ^ (low + j - 1) ≡ bit_at n j * 2 ^ j * 2 ^ (low - 1) = λ (j : ℕ) (_ : j < k).
    let e : low + j - 1 ≡ j + (low - 1) = omega arith in
    rw (e, pow-add 2 j (low - 1)) (omega arith)
    in
    sum_below-same k (λ j. bit_at n j * 2 ^ (low + j - 1)) (λ j. bit_at n j * 2 ^ j * 2 ^ (low - 1)) term
    ∙ sum_below-times k (2 ^ (low - 1)) (λ j. bit_at n j * 2 ^ j) ∙ ap (λ s. s * 2 ^ (low - 1)) (sum_of_bits k n h)

-- ---- the highest bit first

reverse-more : (k n a : ℕ) → reverse_bits_onto (suc k) n a ≡ 2 * reverse_bits_onto k n a + bit_at n k
unfolding reverse_bits_onto
reverse-more zero n a = omega arith
reverse-more (suc k) n a =
    reverse-more k (n / 2) (a * 2 + n % 2) ∙ ap (λ b. 2 * reverse_bits_onto k (n / 2) (a * 2 + n % 2) + b) (sym (bit_at-suc n k))

-- the reversed bits are the sum
sum_reversed : (k n : ℕ) → sum_below k (λ j. bit_at n j * 2 ^ (k - 1 - j)) ≡ reverse_bits_onto k n 0
unfolding sum_below reverse_bits_onto
sum_reversed zero n = refl
sum_reversed (suc k) n =
    let term : (j : ℕ) → j < k → bit_at n j * 2 ^ (suc k - 1 - j) ≡ bit_at n j * 2 ^ (k - 1 - j) * 2 = λ (j : ℕ) (h : j < k).
    let e : suc k - 1 - j ≡ suc (k - 1 - j) = omega arith in
    rw (e, pow-suc 2 (k - 1 - j)) (omega arith)
    in
    let low = sum_below-same k (λ j. bit_at n j * 2 ^ (suc k - 1 - j)) (λ j. bit_at n j * 2 ^ (k - 1 - j) * 2) term
    ∙ sum_below-times k 2 (λ j. bit_at n j * 2 ^ (k - 1 - j)) ∙ ap (λ s. s * 2) (sum_reversed k n) in
    let top : suc k - 1 - k ≡ 0 = omega arith in
    let last : bit_at n k * 2 ^ (suc k - 1 - k) ≡ bit_at n k = rw top (omega arith) in
    ap (λ s. s + bit_at n k * 2 ^ (suc k - 1 - k)) low ∙ ap (λ s. reverse_bits_onto k n 0 * 2 + s) last ∙ omega (arith, reverse-more k n 0)

reversed_up : (k low n : ℕ) → 1 ≤ low → sum_below k (λ j. bit_at n j * 2 ^ (low + k - 1 - j - 1)) ≡ reverse_bits_onto k n 0 * 2 ^ (low - 1)
reversed_up k low n first =
    let term : (j : ℕ)
    → j < k → bit_at n j * 2 ^ (low + k - 1 - j - 1) ≡ bit_at n j * 2 ^ (k - 1 - j) * 2 ^ (low - 1) = λ (j : ℕ) (h : j < k).
    let e : low + k - 1 - j - 1 ≡ k - 1 - j + (low - 1) = omega arith in
    rw (e, pow-add 2 (k - 1 - j) (low - 1)) (omega arith)
    in
    sum_below-same k (λ j. bit_at n j * 2 ^ (low + k - 1 - j - 1)) (λ j. bit_at n j * 2 ^ (k - 1 - j) * 2 ^ (low - 1)) term
    ∙ sum_below-times k (2 ^ (low - 1)) (λ j. bit_at n j * 2 ^ (k - 1 - j)) ∙ ap (λ s. s * 2 ^ (low - 1)) (sum_reversed k n)

-- the first of more reversed bits
reversed_first : (m k n : ℕ) → reverse_bits_onto (m + k) n 0 / 2 ^ m ≡ reverse_bits_onto k n 0
reversed_first zero k n =
    let none : 0 + k ≡ k = omega arith in
    let whole : reverse_bits_onto k n 0 / 1 ≡ reverse_bits_onto k n 0 = omega arith in
    ap (λ i. reverse_bits_onto i n 0 / 1) none ∙ whole
reversed_first (suc m) k n =
    let r = reverse_bits_onto (m + k) n 0 in
    let more : suc m + k ≡ suc (m + k) = omega arith in
    let place : suc m ≡ 1 + m = omega arith in
    let b = bit_at-lt n (m + k) in
    let half : (2 * r + bit_at n (m + k)) / 2 ≡ r = omega arith in
    let parts : (2 * r + bit_at n (m + k)) / 2 ^ suc m ≡ (2 * r + bit_at n (m + k)) / 2 / 2 ^ m =
    rw place (sym (shr-shr (2 * r + bit_at n (m + k)) 1 m)) in
    rw (more, reverse-more (m + k) n 0, parts, half) (reversed_first m k n)

reversed_below : (k n a : ℕ) → reverse_bits_onto k n a < suc a * 2 ^ k
unfolding reverse_bits_onto
reversed_below zero n a = omega arith
reversed_below (suc k) n a =
    let below = reversed_below k (n / 2) (a * 2 + n % 2) in
    let bit : suc (a * 2 + n % 2) ≤ suc a * 2 = omega arith in
    let room = mul-le-mul_right (2 ^ k) bit in
    rw (pow-suc 2 k) (omega arith)

-- ---- what a shift gives

below_word : (k low n : ℕ) → 1 ≤ low → low + k ≤ 33 → n < 2 ^ k → n * 2 ^ (low - 1) < 4294967296
below_word k low n first last h =
    let above : suc n ≤ 2 ^ k = omega arith in
    let room = mul-le-mul_right (2 ^ (low - 1)) above in
    let some = pow_pos (low - 1) in
    let whole = pow-add 2 k (low - 1) in
    let few : k + (low - 1) ≤ 32 = omega arith in
    let most : 2 ^ (k + (low - 1)) ≤ 2 ^ 32 = pow-le-pow_right (omega arith) few in
    omega arith

pub placed-straight : (b : Bits) (n : ℕ)
    → b.reversed ≡ false → AreInWord b → n < 2 ^ b.count → n * 2 ^ (b.low - 1) % 4294967296 ≡ placed b n
placed-straight b n straight are h =
    rw straight (mod-eq_of_lt (below_word b.count b.low n are.first are.last h) ∙ sym (moved_up b.count b.low n are.first h))

pub placed-reversed : (b : Bits) (n : ℕ)
    → b.reversed ≡ true → AreInWord b → reverse_bits_onto 32 n 0 / 2 ^ (32 - b.count) * 2 ^ (b.low - 1) % 4294967296 ≡ placed b n
placed-reversed b n reversed are =
    let all : 32 ≡ 32 - b.count + b.count = omega (arith, are.last, are.first) in
    let first : reverse_bits_onto 32 n 0 / 2 ^ (32 - b.count) ≡ reverse_bits_onto b.count n 0 =
    ap (λ i. reverse_bits_onto i n 0 / 2 ^ (32 - b.count)) all ∙ reversed_first (32 - b.count) b.count n in
    let small : reverse_bits_onto b.count n 0 < 2 ^ b.count = omega (arith, reversed_below b.count n 0) in
    rw (first, reversed) (mod-eq_of_lt (below_word b.count b.low _ are.first are.last small) ∙ sym (reversed_up b.count b.low n are.first))

-- ---- read back

placed-moved : (b : Bits) (n : ℕ) → b.reversed ≡ false → AreInWord b → n < 2 ^ b.count → placed b n ≡ n * 2 ^ (b.low - 1)
placed-moved b n straight are h = rw straight (moved_up b.count b.low n are.first h)

pub read_back : (b : Bits) (n : ℕ) → AreInWord b → b.reversed ≡ false → n < 2 ^ b.count → number_at (placed b n) b.low b.count ≡ n
read_back b n are straight h =
    let first : b.low ≡ suc (b.low - 1) = omega (arith, are.first) in
    ap (λ i. number_at (placed b n) i b.count) first ∙ number_at-is (placed b n) (b.low - 1) b.count
    ∙ rw (placed-moved b n straight are h, mul-div_cancel n (pow_pos (b.low - 1))) (mod-eq_of_lt h)

times_one : (w : ℕ) → w * 1 ≡ w
times_one w = omega arith

pub label_back : (n : ℕ) → n < 256 → label_of (placed (record { low = 1; count = 8; reversed = true }) n) ≡ n
label_back n h =
    let w = reverse_bits_onto 8 n 0 in
    let placed-is : placed (record { low = 1; count = 8; reversed = true }) n ≡ w = reversed_up 8 1 n (omega arith) ∙ times_one w in
    let small : w < 256 = omega (arith, reversed_below 8 n 0) in
    let all : w % 256 ≡ w = omega arith in
    ap label_of placed-is ∙ sym (label-is w) ∙ ap (λ m. reverse_bits_onto 8 m 0) all ∙ reversed_twice n h
