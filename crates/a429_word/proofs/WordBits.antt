-- A word's bits, and what masks, shifts and folds make of them.
use Rattle.std.proofs.Common.{◌≡◌, ℕ, zero, suc, ◌+◌, ◌-◌, ◌*◌, ◌/◌, ◌%◌, ◌^◌, ◌<◌, ◌≤◌, refl, sym, ap, ◌∙◌, subst, arith, bit_and, inl, inr, pow-suc, mul-le-mul_right, add-zero}
use Rattle.std.specs.Int.{bit_at, reverse_bits_onto}
use Rattle.std.specs.Int.Count.{ones, ones_in}
use Rattle.std.proofs.lemmas.Nat.{mod-pow-add, shr-shr, shr_split, shr_below, ones_cat, and_mask, pow_pos, mod_below, mod_low, field_of as nat_field_of}
use Rattle.std.proofs.Math.Pow.{mod-mod-pow}
use Rattle.std.proofs.lemmas.Bool.{cases_lt}
use Rattle.std.proofs.lemmas.Nat.Bits.{bit_at_cat_low, bit_at_cat_high}
use Rattle.a429_word.specs.Word.{sum_below, number_of_bits, bit, number_at, label_of, sdi_of, field_of, ssm_of, count_of_ones, SameParts}

-- a sum depends on its terms alone
pub sum_below-same : (k : ℕ) (f g : ℕ → ℕ) → ((j : ℕ) → j < k → f j ≡ g j) → sum_below k f ≡ sum_below k g
unfolding sum_below
sum_below-same zero f g e = refl
sum_below-same (suc k) f g e =
    let low : sum_below k f ≡ sum_below k g = sum_below-same k f g (λ j h. e j (omega arith)) in
    let top : f k ≡ g k = e k (omega arith) in
    omega arith

-- ---- runs of bits

-- a run of bits is a quotient's remainder
pub number_at-is : (w first count : ℕ) → number_at w (suc first) count ≡ w / 2 ^ first % 2 ^ count
unfolding sum_below
number_at-is w first zero = omega arith
number_at-is w first (suc k) =
    let low = number_at-is w first k in
    let place : suc first + k - 1 ≡ first + k = omega arith in
    let split : w / 2 ^ first % 2 ^ (1 + k) ≡ (w / 2 ^ first / 2 ^ k % 2) * 2 ^ k + w / 2 ^ first % 2 ^ k =
    mod-pow-add (w / 2 ^ first) 1 k in
    let one : 1 + k ≡ suc k = omega arith in
    rw (place, low, ← shr-shr w first k, ← one, split) (omega arith)

pub number_at-lt : (w first count : ℕ) → number_at w (suc first) count < 2 ^ count
number_at-lt w first count = let p = pow_pos count in rw (number_at-is w first count) (mod_below (w / 2 ^ first) (2 ^ count) p)

-- what a shift and a mask read
masked : (w first count : ℕ) → bit_and (w / 2 ^ first) (2 ^ count - 1) ≡ number_at w (suc first) count
masked w first count = and_mask (w / 2 ^ first) count ∙ sym (number_at-is w first count)

pub masked_from : (w from before count : ℕ) → from ≡ suc before → bit_and (w / 2 ^ before) (2 ^ count - 1) ≡ number_at w from count
masked_from w from before count e = masked w before count ∙ ap (λ f. number_at w f count) (sym e)

-- ---- the data field

-- its bits from bit 11 + t on
pub field_of-above : (w t count : ℕ) → count + t ≡ 19 → w / 2 ^ (10 + t) % 2 ^ count ≡ field_of w / 2 ^ t
field_of-above w t count e =
    let v = w / 2 ^ 10 in
    ap (λ x. x % 2 ^ count) (sym (shr-shr w 10 t)) ∙ sym (nat_field_of v count t) ∙ ap (λ n. v % 2 ^ n / 2 ^ t) e
    ∙ ap (λ x. x / 2 ^ t) (sym (number_at-is w 10 19))

-- its bits below a number that was moved up are 0
pub field_of-below : (w p t : ℕ) → t ≤ 19 → field_of w ≡ p * 2 ^ t → number_at w 11 t ≡ 0
field_of-below w p t h field =
    let v = w / 2 ^ 10 in
    let whole : 19 - t + t ≡ 19 = omega arith in
    let moved : v % 2 ^ 19 ≡ p * 2 ^ t + 0 = sym (number_at-is w 10 19) ∙ field ∙ sym (add-zero (p * 2 ^ t)) in
    number_at-is w 10 t ∙ sym (mod-mod-pow v (19 - t) t) ∙ ap (λ n. v % 2 ^ n % 2 ^ t) whole ∙ ap (λ x. x % 2 ^ t) moved
    ∙ mod_low p t 0 (pow_pos t)

-- ---- the small fields

-- the label is the lowest byte, reversed
pub label-is : (w : ℕ) → reverse_bits_onto 8 (w % 256) 0 ≡ label_of w
unfolding sum_below reverse_bits_onto
label-is w = omega arith

pub reversed_twice : (n : ℕ) → n < 256 → reverse_bits_onto 8 (reverse_bits_onto 8 n 0) 0 ≡ n
unfolding reverse_bits_onto
reversed_twice n h = omega arith

-- a byte's bits in the opposite order, one by one
abbrev pub reversed : ℕ → ℕ
reversed n = n % 2 * 128 + n / 2 % 2 * 64 + n / 4 % 2 * 32 + n / 8 % 2 * 16 + n / 16 % 2 * 8 + n / 32 % 2 * 4 + n / 64 % 2 * 2 + n / 128 % 2

pub reversed-is : (n : ℕ) → reversed n ≡ reverse_bits_onto 8 n 0
unfolding reverse_bits_onto
reversed-is n = omega arith

pub label-masked : (w : ℕ) → reverse_bits_onto 8 (bit_and w 255) 0 ≡ label_of w
label-masked w = ap (λ n. reverse_bits_onto 8 n 0) (and_mask w 8) ∙ label-is w

pub sdi-masked : (w : ℕ) → bit_and (w / 256) 3 ≡ sdi_of w
sdi-masked w = masked w 8 2

pub field-masked : (w : ℕ) → bit_and (w / 1024) 524287 ≡ field_of w
field-masked w = masked w 10 19

pub ssm-masked : (w : ℕ) → bit_and (w / 536870912) 3 ≡ ssm_of w
ssm-masked w = masked w 29 2

pub ruleset fields = (label-masked, sdi-masked, field-masked, ssm-masked)

-- ---- parity

one_bit : (d : ℕ) → d < 2 → ones d ≡ d
unfolding ones ones_in
one_bit zero h = refl
one_bit (suc zero) h = refl
one_bit (suc (suc d)) h = absurd (omega arith)

-- the ones of a number below 2 ^ k are its first k bits
ones_below : (k n : ℕ) → n < 2 ^ k → ones n ≡ sum_below k (bit_at n)
unfolding sum_below
ones_below zero n h = let e : n ≡ 0 = omega arith in ap ones e ∙ one_bit 0 (omega arith)
ones_below (suc k) n h =
    let top = n / 2 ^ k in
    let rest = n % 2 ^ k in
    let split = shr_split n k in
    let more : suc k ≡ 1 + k = omega arith in
    let small : top < 2 = shr_below n 1 k (subst (λ (m : ℕ). n < 2 ^ m) more h) in
    let bits = sum_below-same k (bit_at rest) (bit_at n) (λ j hj. sym (bit_at_cat_low top k rest j hj) ∙ ap (λ m. bit_at m j) split) in
    let low = ones_below k rest (mod_below n (2 ^ k) (pow_pos k)) ∙ bits in
    let high : ones top ≡ top % 2 = one_bit top small ∙ omega arith in
    ap ones (sym split) ∙ ones_cat k top rest (mod_below n (2 ^ k) (pow_pos k)) ∙ omega (arith, low, high)

-- the parity, by all ones
pub parity-counted : (n : ℕ) → n < 2 ^ 32 → ones n % 2 ≡ count_of_ones n % 2
parity-counted n h =
    ap (λ s. s % 2) (ones_below 32 n h ∙ sum_below-same 32 (bit_at n) (λ j. bit n (j + 1)) (λ j hj. ap (bit_at n) (omega arith)))

-- ---- numbers and bits

-- k bits make a number below 2 ^ k, which has these bits
record IsMadeOf (k : ℕ) (f : ℕ → ℕ) (n : ℕ) : Type 0 where
  within : n < 2 ^ k
  bits : (i : ℕ) → i < k → bit_at n i ≡ f i

bit_of_one : (b : ℕ) → b ≤ 1 → bit_at b 0 ≡ b
bit_of_one b h = omega arith

made_of_bits : (k : ℕ) (f : ℕ → ℕ) → ((j : ℕ) → f j ≤ 1) → IsMadeOf k f (sum_below k (λ j. f j * 2 ^ j))
unfolding sum_below
made_of_bits zero f h = record { within = omega arith; bits = λ i none. absurd (omega arith) }
made_of_bits (suc k) f h =
    let low = made_of_bits k f h in
    let n = sum_below k (λ j. f j * 2 ^ j) in
    let below : n < 2 ^ k = low.within in
    let top : f k ≤ 1 = h k in
    let turned : n + f k * 2 ^ k ≡ f k * 2 ^ k + n = omega arith in
    let room : f k * 2 ^ k ≤ 1 * 2 ^ k = mul-le-mul_right (2 ^ k) top in
    record {
      within = rw pow-suc (omega arith);
      bits = λ i inside. rw turned (elim (cases_lt i k) [
        | inl lt ↦ bit_at_cat_low (f k) k n i lt ∙ low.bits i lt
        | inr ge ↦
            let last : i ≡ k = omega arith in
            let zeroth : i - k ≡ 0 = omega arith in
            bit_at_cat_high (f k) k n i below ge ∙ ap (bit_at (f k)) zeroth ∙ bit_of_one (f k) top ∙ ap f (sym last)
      ]);
    }

-- a number below 2 ^ 32 is the sum of its bits
pub number_of-bit : (w : ℕ) → w < 2 ^ 32 → number_of_bits (bit w) ≡ w
number_of-bit w h =
    let terms =
    sum_below-same 32 (λ j. bit w (j + 1) * 2 ^ j) (λ j. bit w (1 + j) * 2 ^ j) (λ j _. ap (λ i. bit w i * 2 ^ j) (omega arith)) in
    let whole : w / 2 ^ 0 % 2 ^ 32 ≡ w = omega arith in
    terms ∙ number_at-is w 0 32 ∙ whole

pub number_of-lt : (bits : ℕ → ℕ) → ((i : ℕ) → bits i ≤ 1) → number_of_bits bits < 2 ^ 32
number_of-lt bits h = (made_of_bits 32 (λ j. bits (j + 1)) (λ j. h (j + 1))).within

pub bit-number_of : (bits : ℕ → ℕ) → ((i : ℕ) → bits i ≤ 1) → (i : ℕ) → 1 ≤ i → i ≤ 32 → bit (number_of_bits bits) i ≡ bits i
bit-number_of bits h i first last =
    let place : i - 1 + 1 ≡ i = omega arith in
    (made_of_bits 32 (λ j. bits (j + 1)) (λ j. h (j + 1))).bits (i - 1) (omega arith) ∙ ap bits place

-- the lowest byte is the label, reversed
low_byte : (w : ℕ) → w % 256 ≡ reverse_bits_onto 8 (label_of w) 0
low_byte w =
    let small : w % 256 < 256 = omega arith in sym (ap (λ n. reverse_bits_onto 8 n 0) (sym (label-is w)) ∙ reversed_twice (w % 256) small)

-- the bits below the parity bit are those of the fields
below_parity : (v w : ℕ) → v % 256 ≡ w % 256 → v / 256 % 4 ≡ w / 256 % 4 → v / 1024 % 524288 ≡ w / 1024 % 524288
    → v / 536870912 % 4 ≡ w / 536870912 % 4 → v % 2147483648 ≡ w % 2147483648
below_parity v w label sdi field ssm = omega arith

-- the four fields are all that there is below the parity bit
pub same_below_parity : (v w : ℕ)
    → label_of v ≡ label_of w → sdi_of v ≡ sdi_of w → field_of v ≡ field_of w → ssm_of v ≡ ssm_of w → v % 2147483648 ≡ w % 2147483648
same_below_parity v w label sdi field ssm = below_parity v w
    (low_byte v ∙ ap (λ n. reverse_bits_onto 8 n 0) label ∙ sym (low_byte w))
    (sym (number_at-is v 8 2) ∙ sdi ∙ number_at-is w 8 2)
    (sym (number_at-is v 10 19) ∙ field ∙ number_at-is w 10 19)
    (sym (number_at-is v 29 2) ∙ ssm ∙ number_at-is w 29 2)

-- and with the parity bit they are all
pub same_from_halves : (v w : ℕ)
    → v < 4294967296 → w < 4294967296 → v % 2147483648 ≡ w % 2147483648 → v / 2147483648 % 2 ≡ w / 2147483648 % 2 → v ≡ w
same_from_halves v w hv hw low top = omega arith

-- words that are alike in each part are one
pub same_from_parts : (v w : ℕ) → v < 2 ^ 32 → w < 2 ^ 32 → SameParts v w → v ≡ w
same_from_parts v w hv hw same =
    same_from_halves v w hv hw (same_below_parity v w same.fields.label same.fields.sdi same.fields.field same.fields.ssm) same.parity_bit
