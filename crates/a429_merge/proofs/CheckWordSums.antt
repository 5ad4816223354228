-- Check words of sums.
use Rattle.std.proofs.Common.{◌≡◌, ℕ, zero, suc, ◌+◌, ◌*◌, ◌/◌, ◌%◌, ◌<◌, ◌^◌, Bool, true, false, cond, eqb, List, [], ◌∷◌, ◌++◌, fold, bit_xor, refl, sym, ap, ◌∙◌, arith}
use Rattle.std.specs.Int.{bit_at}
use Rattle.std.specs.Int.{reverse_bits_onto}
use Rattle.std.specs.List.{flat_map}
use Rattle.std.proofs.lemmas.Nat.{xor_mod, xor_shr, xor_block}
use Rattle.std.proofs.lemmas.Nat.Bits.{bit_at_xor}
use Rattle.a429_profile.specs.declared.codes.Check.{Check}
use Rattle.a429_ldu.specs.CheckWord.{fed_bits, fed, register_after, check_of, check_by_register}
use Rattle.a429_ldu.proofs.CheckWordFacts.{check-by-register}
use Rattle.a429_ldu.proofs.CheckWordDown.{by_tests}
use Rattle.a429_merge.proofs.XorFacts.{cancel}

-- four lists of one length, at each place of which the first two have the same sum as the others
abbrev pub AreSums : List ℕ → List ℕ → List ℕ → List ℕ → Type 0
AreSums [] [] [] [] = Unit {0}
AreSums (x ∷ xs) (y ∷ ys) (z ∷ zs) (w ∷ ws) = (bit_xor x y ≡ bit_xor z w) × AreSums xs ys zs ws
AreSums xs ys zs ws = ⊥

-- ---- bits

-- the same of bits
abbrev AreBitSums : List ℕ → List ℕ → List ℕ → List ℕ → Type 0
AreBitSums [] [] [] [] = Unit {0}
AreBitSums (a ∷ as') (b ∷ bs) (c ∷ cs) (d ∷ ds) = ((a + b) % 2 ≡ (c + d) % 2) × AreBitSums as' bs cs ds
AreBitSums as' bs cs ds = ⊥

bit_sums-append : (as' bs cs ds es fs gs hs : List ℕ)
    → AreBitSums as' bs cs ds → AreBitSums es fs gs hs → AreBitSums (as' ++ es) (bs ++ fs) (cs ++ gs) (ds ++ hs)
bit_sums-append [] [] [] [] es fs gs hs p q = q
bit_sums-append (a ∷ as') (b ∷ bs) (c ∷ cs) (d ∷ ds) es fs gs hs p q = (p.0, bit_sums-append as' bs cs ds es fs gs hs p.1 q)
bit_sums-append as' bs cs ds es fs gs hs p q = absurd p

bit_sum : (x y z w k : ℕ) → bit_xor x y ≡ bit_xor z w → (bit_at x k + bit_at y k) % 2 ≡ (bit_at z k + bit_at w k) % 2
bit_sum x y z w k e = sym (bit_at_xor x y k) ∙ ap (λ (n : ℕ). bit_at n k) e ∙ bit_at_xor z w k

byte_bits : (low : Bool) (x y z w : ℕ)
    → bit_xor x y ≡ bit_xor z w → AreBitSums (fed_bits low x) (fed_bits low y) (fed_bits low z) (fed_bits low w)
byte_bits true x y z w e = let s = λ (k : ℕ). bit_sum x y z w k e in (s 0, (s 1, (s 2, (s 3, (s 4, (s 5, (s 6, (s 7, tt))))))))
byte_bits false x y z w e = let s = λ (k : ℕ). bit_sum x y z w k e in (s 7, (s 6, (s 5, (s 4, (s 3, (s 2, (s 1, (s 0, tt))))))))

all_bits : (low : Bool) (xs ys zs ws : List ℕ) → AreSums xs ys zs ws
    → AreBitSums (flat_map (fed_bits low) xs) (flat_map (fed_bits low) ys) (flat_map (fed_bits low) zs) (flat_map (fed_bits low) ws)
all_bits low [] [] [] [] p = tt
all_bits low (x ∷ xs) (y ∷ ys) (z ∷ zs) (w ∷ ws) p =
    bit_sums-append (fed_bits low x) (fed_bits low y) (fed_bits low z) (fed_bits low w) (flat_map (fed_bits low) xs)
    (flat_map (fed_bits low) ys) (flat_map (fed_bits low) zs) (flat_map (fed_bits low) ws) (byte_bits low x y z w p.0)
    (all_bits low xs ys zs ws p.1)
all_bits low xs ys zs ws p = absurd p

-- ---- the register

-- two moved up one place
moved : (a b : ℕ) → bit_xor (a * 2 % 65536) (b * 2 % 65536) ≡ bit_xor a b * 2 % 65536
moved a b =
    let up : bit_xor (a * 2) (b * 2) ≡ bit_xor a b * 2 = ap (λ (n : ℕ). bit_xor n (b * 2)) (omega arith)
    ∙ ap (bit_xor (a * 2 + 0)) (omega arith) ∙ xor_block 1 a b 0 0 (omega arith) (omega arith) ∙ omega arith in
    sym (xor_mod (a * 2) (b * 2) 16) ∙ ap (λ (n : ℕ). n % 65536) up

-- two registers with one more bit each
both_fed : (poly q r f g : ℕ)
    → bit_xor (fed poly q f) (fed poly r g)
    ≡ cond (eqb ((bit_at (bit_xor q r) 15 + (f + g)) % 2) 1) (bit_xor (bit_xor q r * 2 % 65536) poly) (bit_xor q r * 2 % 65536)
both_fed poly q r f g =
    let s = (bit_at q 15 + f) % 2 in
    let t = (bit_at r 15 + g) % 2 in
    let top = bit_at_xor q r 15 in
    let test : (s + t) % 2 ≡ (bit_at (bit_xor q r) 15 + (f + g)) % 2 = omega arith in
    sym (by_tests s t (q * 2 % 65536) (r * 2 % 65536) poly (omega arith) (omega arith))
    ∙ ap (λ (n : ℕ). cond (eqb n 1) (bit_xor (bit_xor (q * 2 % 65536) (r * 2 % 65536)) poly) (bit_xor (q * 2 % 65536) (r * 2 % 65536))) test
    ∙ ap (λ (n : ℕ). cond (eqb ((bit_at (bit_xor q r) 15 + (f + g)) % 2) 1) (bit_xor n poly) n) (moved q r)

registers : (poly q r s t : ℕ) (fs gs hs ks : List ℕ) → bit_xor q r ≡ bit_xor s t → AreBitSums fs gs hs ks
    → bit_xor (fold (fed poly) q fs) (fold (fed poly) r gs) ≡ bit_xor (fold (fed poly) s hs) (fold (fed poly) t ks)
registers poly q r s t [] [] [] [] e p = e
registers poly q r s t (f ∷ fs) (g ∷ gs) (h ∷ hs) (k ∷ ks) e p =
    let sum = p.0 in
    let test : (bit_at (bit_xor s t) 15 + (f + g)) % 2 ≡ (bit_at (bit_xor s t) 15 + (h + k)) % 2 = omega arith in
    registers poly (fed poly q f) (fed poly r g) (fed poly s h) (fed poly t k) fs gs hs ks
    (both_fed poly q r f g
    ∙ ap (λ (n : ℕ). cond (eqb ((bit_at n 15 + (f + g)) % 2) 1) (bit_xor (n * 2 % 65536) poly) (n * 2 % 65536)) e
    ∙ ap (λ (n : ℕ). cond (eqb n 1) (bit_xor (bit_xor s t * 2 % 65536) poly) (bit_xor s t * 2 % 65536)) test
    ∙ sym (both_fed poly s t h k))
    p.1
registers poly q r s t fs gs hs ks e p = absurd p

-- ---- the end

reversed : (k m n a b : ℕ) → bit_xor (reverse_bits_onto k m a) (reverse_bits_onto k n b) ≡ reverse_bits_onto k (bit_xor m n) (bit_xor a b)
unfolding reverse_bits_onto
reversed zero m n a b = refl
reversed (suc k) m n a b =
    let low : bit_xor (m % 2) (n % 2) ≡ bit_xor m n % 2 = sym (xor_mod m n 1) in
    let next : bit_xor (a * 2 + m % 2) (b * 2 + n % 2) ≡ bit_xor a b * 2 + bit_xor m n % 2 =
    xor_block 1 a b (m % 2) (n % 2) (omega arith) (omega arith) ∙ ap (λ (x : ℕ). bit_xor a b * 2 + x) low in
    reversed k (m / 2) (n / 2) (a * 2 + m % 2) (b * 2 + n % 2)
    ∙ ap (λ (x : ℕ). reverse_bits_onto k x (bit_xor (a * 2 + m % 2) (b * 2 + n % 2))) (sym (xor_shr m n 1))
    ∙ ap (reverse_bits_onto k (bit_xor m n / 2)) next

ended : (low : Bool) (q r s t : ℕ) → bit_xor q r ≡ bit_xor s t
    → bit_xor (cond low (reverse_bits_onto 16 q 0) q) (cond low (reverse_bits_onto 16 r 0) r)
    ≡ bit_xor (cond low (reverse_bits_onto 16 s 0) s) (cond low (reverse_bits_onto 16 t 0) t)
ended true q r s t e = reversed 16 q r 0 0 ∙ ap (λ (n : ℕ). reverse_bits_onto 16 n 0) e ∙ sym (reversed 16 s t 0 0)
ended false q r s t e = e

register_sums : (k : Check) (xs ys zs ws : List ℕ) → AreSums xs ys zs ws
    → bit_xor (check_by_register k xs) (check_by_register k ys) ≡ bit_xor (check_by_register k zs) (check_by_register k ws)
register_sums k xs ys zs ws p =
    let low = k.low_first in
    let bits = all_bits low xs ys zs ws p in
    let same =
    registers k.poly k.init k.init k.init k.init (flat_map (fed_bits low) xs) (flat_map (fed_bits low) ys) (flat_map (fed_bits low) zs)
    (flat_map (fed_bits low) ws) refl bits in
    cancel (cond low (reverse_bits_onto 16 (register_after k xs) 0) (register_after k xs))
    (cond low (reverse_bits_onto 16 (register_after k ys) 0) (register_after k ys)) k.xor
    ∙ ended low (register_after k xs) (register_after k ys) (register_after k zs) (register_after k ws) same
    ∙ sym (cancel (cond low (reverse_bits_onto 16 (register_after k zs) 0) (register_after k zs))
    (cond low (reverse_bits_onto 16 (register_after k ws) 0) (register_after k ws)) k.xor)

-- where the bytes of four lists are such sums, so are their check words
pub check_sums : (k : Check) (xs ys zs ws : List ℕ) → k.poly < 2 ^ 16 → k.init < 2 ^ 16 → AreSums xs ys zs ws
    → bit_xor (check_of k xs) (check_of k ys) ≡ bit_xor (check_of k zs) (check_of k ws)
check_sums k xs ys zs ws poly init p =
    let is : (bs : List ℕ) → check_of k bs ≡ check_by_register k bs = λ bs. sym (check-by-register k bs poly init) in
    rw (is xs, is ys, is zs, is ws) (register_sums k xs ys zs ws p)
