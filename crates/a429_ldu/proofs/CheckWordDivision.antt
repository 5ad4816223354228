-- The division of a list of bits is what a register does.
use Rattle.std.proofs.Common.{◌≡◌, ℕ, zero, suc, ◌+◌, ◌*◌, ◌/◌, ◌%◌, ◌^◌, ◌<◌, ◌≤◌, Bool, true, false, cond, eqb, List, [], ◌∷◌, ◌++◌, length, replicate, refl, sym, ap, ◌∙◌, arith, bit_xor, length-append, fold}
use Rattle.std.specs.Int.{bit_at}
use Rattle.std.proofs.lemmas.Nat.Bits.{bit_at_xor, bit_at-lt, bit_at-suc, bit_at_cat_low}
use Rattle.std.proofs.lemmas.Nat.{shr_split}
use Rattle.a429_ldu.specs.CheckWord.{top_bits, xor_front, divide, fed}

-- each is 0 or 1
abbrev pub AreBits : List ℕ → Type 0
AreBits [] = Unit {0}
AreBits (b ∷ bs) = (b < 2) × AreBits bs

pub AreBits-append : (xs bs : List ℕ) → AreBits xs → AreBits bs → AreBits (xs ++ bs)
AreBits-append [] bs h k = k
AreBits-append (x ∷ xs) bs h k = (h.0, AreBits-append xs bs h.1 k)

AreBits-zeros : (k : ℕ) → AreBits (replicate k 0)
AreBits-zeros zero = tt
AreBits-zeros (suc k) = (omega arith, AreBits-zeros k)

-- nothing is left to feed
xor_front-zeros : (k r : ℕ) → xor_front (top_bits k r) (replicate k 0) ≡ top_bits k r
xor_front-zeros zero r = refl
xor_front-zeros (suc k) r =
    let low = xor_front-zeros k r in
    let small = bit_at-lt r k in
    let same : (bit_at r k + 0) % 2 ≡ bit_at r k = omega arith in cc

-- two numbers in front are their exclusive or in front
xor_front-twice : (k p r : ℕ) (bs : List ℕ)
    → xor_front (top_bits k p) (xor_front (top_bits k r) bs) ≡ xor_front (top_bits k (bit_xor r p)) bs
xor_front-twice zero p r bs = refl
xor_front-twice (suc k) p r [] = refl
xor_front-twice (suc k) p r (b ∷ bs) =
    let low = xor_front-twice k p r bs in
    let both = bit_at_xor r p k in
    let same : (bit_at p k + (bit_at r k + b) % 2) % 2 ≡ (bit_at (bit_xor r p) k + b) % 2 = omega arith in cc

-- to move up one place
bit_at-moved : (n i : ℕ) → bit_at (n * 2) (suc i) ≡ bit_at n i
bit_at-moved n i = bit_at-suc (n * 2) i ∙ ap (λ m. bit_at m i) (omega arith)

xor_front-moved : (k r : ℕ) (bs : List ℕ)
    → AreBits bs → k < length bs → xor_front (top_bits (suc k) (r * 2)) bs ≡ xor_front (top_bits k r) bs
xor_front-moved k r [] bits room = absurd (omega arith)
xor_front-moved zero r (b ∷ bs) bits room =
    let small = bits.0 in
    let same : (bit_at (r * 2) 0 + b) % 2 ≡ b = omega arith in cc
xor_front-moved (suc k) r (b ∷ bs) bits room =
    let low = xor_front-moved k r bs bits.1 (omega arith) in
    let same = bit_at-moved r k in cc

-- bits above the 16 lowest are not looked at
top_bits-mod : (k m n : ℕ) → k ≤ m → top_bits k (n % 2 ^ m) ≡ top_bits k n
top_bits-mod zero m n h = refl
top_bits-mod (suc k) m n h =
    let low = top_bits-mod k m n (omega arith) in
    let same : bit_at (n % 2 ^ m) k ≡ bit_at n k =
    sym (bit_at_cat_low (n / 2 ^ m) m (n % 2 ^ m) k (omega arith)) ∙ ap (λ x. bit_at x k) (shr_split n m) in cc

-- one place of the division is one step of the register
fed-front : (poly r : ℕ) (rest : List ℕ) (t : Bool) → AreBits rest → 16 ≤ length rest →
    cond t (xor_front (top_bits 16 poly) (xor_front (top_bits 15 r) rest)) (xor_front (top_bits 15 r) rest)
    ≡ xor_front (top_bits 16 (cond t (bit_xor (r * 2 % 65536) poly) (r * 2 % 65536))) rest
fed-front poly r rest t bits room = by_test t
  where
    moved : xor_front (top_bits 15 r) rest ≡ xor_front (top_bits 16 (r * 2 % 65536)) rest
    moved =
        sym (xor_front-moved 15 r rest bits (omega arith)) ∙ ap (λ ds. xor_front ds rest) (sym (top_bits-mod 16 16 (r * 2) (omega arith)))

    by_test : (b : Bool)
        → cond b (xor_front (top_bits 16 poly) (xor_front (top_bits 15 r) rest)) (xor_front (top_bits 15 r) rest)
        ≡ xor_front (top_bits 16 (cond b (bit_xor (r * 2 % 65536) poly) (r * 2 % 65536))) rest
    by_test true = ap (xor_front (top_bits 16 poly)) moved ∙ xor_front-twice 16 poly (r * 2 % 65536) rest
    by_test false = moved

-- the register is the remainder so far
pub register-divides : (poly r : ℕ) (fs : List ℕ) → AreBits fs
    → divide (top_bits 16 poly) (length fs) (xor_front (top_bits 16 r) (fs ++ replicate 16 0)) ≡ top_bits 16 (fold (fed poly) r fs)
register-divides poly r [] bits = xor_front-zeros 16 r
register-divides poly r (f ∷ fs) bits =
    ap (divide (top_bits 16 poly) (length fs))
    (fed-front poly r (fs ++ replicate 16 0) (eqb ((bit_at r 15 + f) % 2) 1) (AreBits-append fs (replicate 16 0) bits.1 (AreBits-zeros 16))
    (omega (arith, length-append fs (replicate 16 0))))
    ∙ register-divides poly (fed poly r f) fs bits.1
