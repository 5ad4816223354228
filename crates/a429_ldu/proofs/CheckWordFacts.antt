-- The check word of bytes, by a register.
use Rattle.std.proofs.Common.{◌≡◌, ℕ, zero, suc, ◌+◌, ◌*◌, ◌%◌, ◌^◌, ◌<◌, Bool, true, false, List, [], ◌∷◌, ◌++◌, sym, ap, ◌∙◌, arith, take, get_or, length, fold, append-nil, bit_xor, pow-suc, mul-le-mul_right, ◌≤◌, reverse, refl, cond, eqb}
use Rattle.std.specs.List.{flat_map}
use Rattle.std.specs.Int.{bit_at, reverse_bits_onto}
use Rattle.std.specs.Int.Digits.{number_from_digits_after}
use Rattle.std.proofs.lemmas.List.{take_more}
use Rattle.std.proofs.lemmas.Grind.{fold-append, flat_map-append}
use Rattle.std.proofs.lemmas.Nat.{mod-pow-add, pow-add, xor_lt}
use Rattle.std.proofs.lemmas.Nat.Bits.{bit_at-lt}
use Rattle.a429_profile.specs.declared.codes.Check.{Check}
use Rattle.a429_profile.specs.CheckTables.{turned, fed_down}
use Rattle.a429_ldu.specs.CheckWord.{top_bits, fed_bits, remainder_number, check_of, fed, register_after, check_by_register}
use Rattle.a429_ldu.proofs.CheckWordDivision.{AreBits, AreBits-append, register-divides}
use Rattle.a429_ldu.proofs.CheckWordDown.{turned-fold, turned_back}

AreBits-top_bits : (k n : ℕ) → AreBits (top_bits k n)
AreBits-top_bits zero n = tt
AreBits-top_bits (suc k) n = (bit_at-lt n k, AreBits-top_bits k n)

AreBits-fed_bits : (low_first : Bool) (n : ℕ) → AreBits (fed_bits low_first n)
AreBits-fed_bits true n = (
  bit_at-lt n 0,
  (bit_at-lt n 1, (bit_at-lt n 2, (bit_at-lt n 3, (bit_at-lt n 4, (bit_at-lt n 5, (bit_at-lt n 6, (bit_at-lt n 7, tt))))))),
)
AreBits-fed_bits false n = AreBits-top_bits 8 n

pub AreBits-fed : (low_first : Bool) (bytes : List ℕ) → AreBits (flat_map (fed_bits low_first) bytes)
AreBits-fed low_first [] = tt
AreBits-fed low_first (b ∷ bytes) =
    AreBits-append (fed_bits low_first b) (flat_map (fed_bits low_first) bytes) (AreBits-fed_bits low_first b) (AreBits-fed low_first bytes)

-- one byte more
pub byte_more : (g : ℕ → ℕ → ℕ) (init r s i : ℕ) (low_first : Bool) (bytes bits : List ℕ) → i < length bytes
    → r ≡ fold g init (flat_map (fed_bits low_first) (take i bytes)) →
    bits ≡ fed_bits low_first (get_or bytes i 0) → s ≡ fold g r bits → s ≡ fold g init (flat_map (fed_bits low_first) (take (i + 1) bytes))
byte_more g init r s i low_first bytes bits room er eb es =
    let f = fed_bits low_first in
    let b = get_or bytes i 0 in
    let more : flat_map f (take (i + 1) bytes) ≡ flat_map f (take i bytes) ++ f b = ap (flat_map f) (take_more bytes i 0 room)
    ∙ flat_map-append f (take i bytes) (b ∷ []) ∙ ap (λ xs. flat_map f (take i bytes) ++ xs) (append-nil (f b)) in
    es ∙ ap (fold g r) eb ∙ ap (λ x. fold g x (f b)) er ∙ sym (ap (fold g init) more ∙ fold-append g init (flat_map f (take i bytes)) (f b))

number-top_bits : (k n a : ℕ) → number_from_digits_after 2 a (top_bits k n) ≡ a * 2 ^ k + n % 2 ^ k
number-top_bits zero n a = omega arith
number-top_bits (suc k) n a =
    let one : 1 + k ≡ suc k = omega arith in
    number-top_bits k n (a * 2 + bit_at n k) ∙ rw (← one, mod-pow-add n 1 k, pow-add 2 1 k) (omega arith)

pub number-16 : (n : ℕ) → n < 65536 → remainder_number false (top_bits 16 n) ≡ n
number-16 n h = number-top_bits 16 n 0 ∙ omega arith

pub number-reversed : (n : ℕ) → reverse_bits_onto 16 n 0 ≡ remainder_number true (top_bits 16 n)
unfolding reverse_bits_onto
number-reversed n = omega arith

reversed_0 : (n : ℕ) → bit_at (reverse_bits_onto 8 n 0) 0 ≡ bit_at n 7
unfolding reverse_bits_onto
reversed_0 n = omega arith

reversed_1 : (n : ℕ) → bit_at (reverse_bits_onto 8 n 0) 1 ≡ bit_at n 6
unfolding reverse_bits_onto
reversed_1 n = omega arith

reversed_2 : (n : ℕ) → bit_at (reverse_bits_onto 8 n 0) 2 ≡ bit_at n 5
unfolding reverse_bits_onto
reversed_2 n = omega arith

reversed_3 : (n : ℕ) → bit_at (reverse_bits_onto 8 n 0) 3 ≡ bit_at n 4
unfolding reverse_bits_onto
reversed_3 n = omega arith

reversed_4 : (n : ℕ) → bit_at (reverse_bits_onto 8 n 0) 4 ≡ bit_at n 3
unfolding reverse_bits_onto
reversed_4 n = omega arith

reversed_5 : (n : ℕ) → bit_at (reverse_bits_onto 8 n 0) 5 ≡ bit_at n 2
unfolding reverse_bits_onto
reversed_5 n = omega arith

reversed_6 : (n : ℕ) → bit_at (reverse_bits_onto 8 n 0) 6 ≡ bit_at n 1
unfolding reverse_bits_onto
reversed_6 n = omega arith

reversed_7 : (n : ℕ) → bit_at (reverse_bits_onto 8 n 0) 7 ≡ bit_at n 0
unfolding reverse_bits_onto
reversed_7 n = omega arith

-- a byte whose bits are reversed, the lowest first, is the byte, the highest first
pub reversed-byte : (t : Bool) (n r : ℕ) → t ≡ false → r ≡ reverse_bits_onto 8 n 0 → fed_bits true r ≡ fed_bits t n
reversed-byte t n r et er = ap (fed_bits true) er ∙ turned ∙ ap (λ b. fed_bits b n) (sym et)
  where
    turned : fed_bits true (reverse_bits_onto 8 n 0) ≡ fed_bits false n
    turned = cc (reversed_0 n, reversed_1 n, reversed_2 n, reversed_3 n, reversed_4 n, reversed_5 n, reversed_6 n, reversed_7 n)

whole : (k : Check) (r s : ℕ) (bytes : List ℕ)
    → r ≡ register_after k bytes → s ≡ remainder_number k.low_first (top_bits 16 r) → bit_xor s k.xor ≡ check_of k bytes
whole k r s bytes er es =
    ap (λ x. bit_xor x k.xor) (es ∙ ap (λ x. remainder_number k.low_first (top_bits 16 x)) er
    ∙ ap (remainder_number k.low_first)
    (sym (register-divides k.poly k.init (flat_map (fed_bits k.low_first) bytes) (AreBits-fed k.low_first bytes))))

-- ---- a check word has 16 bits

below_pow : (bs : List ℕ) (a : ℕ) → AreBits bs → number_from_digits_after 2 a bs < (a + 1) * 2 ^ length bs
below_pow [] a h = omega arith
below_pow (b ∷ bs) a h =
    let rest = below_pow bs (a * 2 + b) h.1 in
    let small : b < 2 = h.0 in
    let wider : (a * 2 + b + 1) * 2 ^ length bs ≤ ((a + 1) * 2) * 2 ^ length bs = mul-le-mul_right (2 ^ length bs) (omega arith) in
    let twice : ((a + 1) * 2) * 2 ^ length bs ≡ (a + 1) * 2 ^ suc (length bs) = rw pow-suc (omega arith) in
    omega arith

AreBits-reversed : (n : ℕ) → AreBits (reverse (top_bits 16 n))
AreBits-reversed n =
    let b = λ (i : ℕ). bit_at-lt n i in
    (b 0, (b 1, (b 2, (b 3, (b 4, (b 5, (b 6, (b 7, (b 8, (b 9, (b 10, (b 11, (b 12, (b 13, (b 14, (b 15, tt))))))))))))))))

remainder_number-lt : (low_first : Bool) (n : ℕ) → remainder_number low_first (top_bits 16 n) < 65536
remainder_number-lt true n = below_pow (reverse (top_bits 16 n)) 0 (AreBits-reversed n)
remainder_number-lt false n = below_pow (top_bits 16 n) 0 (AreBits-top_bits 16 n)

pub check_of-lt : (k : Check) (bytes : List ℕ) → k.xor ≤ 65535 → check_of k bytes ≤ 65535
check_of-lt k bytes h =
    let divided = register-divides k.poly k.init (flat_map (fed_bits k.low_first) bytes) (AreBits-fed k.low_first bytes) in
    let small = remainder_number-lt k.low_first (register_after k bytes) in
    let below : check_of k bytes < 2 ^ 16 =
    rw divided (xor_lt 16 (remainder_number k.low_first (top_bits 16 (register_after k bytes))) k.xor small (omega arith)) in
    omega arith

-- ---- the register ends with the check word

fed-lt : (poly r b : ℕ) → poly < 65536 → fed poly r b < 65536
fed-lt poly r b h = by_test (eqb ((bit_at r 15 + b) % 2) 1)
  where
    by_test : (t : Bool) → cond t (bit_xor (r * 2 % 65536) poly) (r * 2 % 65536) < 65536
    by_test true = xor_lt 16 (r * 2 % 65536) poly (omega arith) h
    by_test false = omega arith

fold-fed-lt : (poly r : ℕ) (bs : List ℕ) → poly < 65536 → r < 65536 → fold (fed poly) r bs < 65536
fold-fed-lt poly r [] h k = k
fold-fed-lt poly r (b ∷ bs) h k = fold-fed-lt poly (fed poly r b) bs h (fed-lt poly r b h)

reversed : (low_first : Bool) (r : ℕ) → r < 65536 → cond low_first (reverse_bits_onto 16 r 0) r ≡ remainder_number low_first (top_bits 16 r)
reversed true r h = number-reversed r
reversed false r h = sym (number-16 r h)

pub check-by-register : (k : Check) (bytes : List ℕ) → k.poly < 2 ^ 16 → k.init < 2 ^ 16 → check_by_register k bytes ≡ check_of k bytes
check-by-register k bytes hp hi =
    let r = register_after k bytes in
    let small : r < 65536 = fold-fed-lt k.poly k.init (flat_map (fed_bits k.low_first) bytes) hp hi in
    whole k r (cond k.low_first (reverse_bits_onto 16 r 0) r) bytes refl (reversed k.low_first r small)

-- ---- the same by a register whose bits stand in the other order

pub by_down : (k : Check) (r s : ℕ) (bytes : List ℕ) → k.poly < 2 ^ 16 → k.init < 2 ^ 16
    → r ≡ fold (fed_down (turned k.poly)) (turned k.init) (flat_map (fed_bits k.low_first) bytes) → s ≡ cond k.low_first r (turned r) →
    bit_xor s k.xor ≡ check_of k bytes
by_down k r s bytes hp hi er es =
    ap (λ x. bit_xor x k.xor) (es ∙ ordered k.low_first) ∙ check-by-register k bytes hp hi
  where
    after : ℕ
    after = register_after k bytes

    same : r ≡ turned after
    same = er ∙ turned-fold k.poly k.init (flat_map (fed_bits k.low_first) bytes)

    ordered : (t : Bool) → cond t r (turned r) ≡ cond t (turned after) after
    ordered true = same
    ordered false = ap turned same ∙ turned_back after (fold-fed-lt k.poly k.init (flat_map (fed_bits k.low_first) bytes) hp hi)
