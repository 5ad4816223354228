-- Bits for a wanted check word.
use Rattle.std.proofs.Common.{◌≡◌, ℕ, zero, suc, ◌+◌, ◌/◌, ◌%◌, ◌^◌, ◌<◌, List, [], ◌∷◌, ◌++◌, length, Option, Some, None, Result, Ok, Err, IfOk, IfSome, IfNone, bit_xor, refl, sym, ap, ◌∙◌, subst, arith}
use Rattle.std.specs.Int.Bits.{xor_assoc, xor_self, xor_zero_r}
use Rattle.std.proofs.lemmas.Nat.{xor_comm, xor_mod, xor_shr}
use Rattle.a429_merge.specs.Choice.{xor_of}
use Rattle.a429_profile.specs.declared.codes.Check.{Check}
use Rattle.a429_merge.specs.FreeBits.{with_bits}
use Rattle.a429_ldu.specs.CheckWord.{check_of}
use Rattle.a429_merge.proofs.XorFacts.{cancel}
use Rattle.a429_merge.proofs.AffineFacts.{IsAffine, changes, value_of}
use Rattle.a429_merge.proofs.CheckWordSums.{AreSums, check_sums}

-- ---- the bytes with bits

pub bits-zero : (bs : List ℕ) → with_bits 0 bs ≡ bs
bits-zero [] = refl
bits-zero (b ∷ bs) = ap (λ (x : ℕ). x ∷ with_bits 0 bs) (xor_zero_r b) ∙ ap (λ (xs : List ℕ). b ∷ xs) (bits-zero bs)

bits-sums : (a b : ℕ) (bs : List ℕ) → AreSums (with_bits (bit_xor a b) bs) (with_bits 0 bs) (with_bits a bs) (with_bits b bs)
bits-sums a b [] = tt
bits-sums a b (x ∷ bs) =
    let here : bit_xor (bit_xor x (bit_xor a b % 256)) (bit_xor x 0) ≡ bit_xor (bit_xor x (a % 256)) (bit_xor x (b % 256)) =
    ap (λ (n : ℕ). bit_xor (bit_xor x n) (bit_xor x 0)) (xor_mod a b 8)
    ∙ ap (λ (n : ℕ). bit_xor n (bit_xor x 0)) (xor_comm x (bit_xor (a % 256) (b % 256)))
    ∙ ap (bit_xor (bit_xor (bit_xor (a % 256) (b % 256)) x)) (xor_comm x 0)
    ∙ cancel (bit_xor (a % 256) (b % 256)) 0 x
    ∙ xor_zero_r (bit_xor (a % 256) (b % 256))
    ∙ sym (ap (λ (n : ℕ). bit_xor n (bit_xor x (b % 256))) (xor_comm x (a % 256))
    ∙ ap (bit_xor (bit_xor (a % 256) x)) (xor_comm x (b % 256)) ∙ cancel (a % 256) (b % 256) x) in
    let next : bit_xor a b / 256 ≡ bit_xor (a / 256) (b / 256) = xor_shr a b 8 in (
      here,
      subst (λ n. AreSums (with_bits n bs) (with_bits 0 bs) (with_bits (a / 256) bs) (with_bits (b / 256) bs)) (sym next)
          (bits-sums (a / 256) (b / 256) bs),
    )

pub changes_more : (g : ℕ → ℕ) (j n : ℕ) → changes g j (n + 1) ≡ changes g j n ++ bit_xor (g (2 ^ (j + n))) (g 0) ∷ []
changes_more g j zero = ap (λ (i : ℕ). bit_xor (g (2 ^ i)) (g 0) ∷ []) (omega arith)
changes_more g j (suc n) =
    let count : suc n + 1 ≡ suc (n + 1) = omega arith in
    let place : (j + 1) + n ≡ j + suc n = omega arith in
    ap (changes g j) count
    ∙ ap (λ (xs : List ℕ). bit_xor (g (2 ^ j)) (g 0) ∷ xs)
    (changes_more g (j + 1) n ∙ ap (λ (i : ℕ). changes g (j + 1) n ++ bit_xor (g (2 ^ i)) (g 0) ∷ []) place)

pub length-changes : (g : ℕ → ℕ) (j n : ℕ) → length (changes g j n) ≡ n
length-changes g j zero = refl
length-changes g j (suc n) = ap suc (length-changes g (j + 1) n)

-- ---- what a choice of columns says

module _ (k : Check) (bs : List ℕ) where
  abbrev pub word_with : ℕ → ℕ
  word_with m = check_of k (with_bits m bs)

  pub start_is : check_of k bs ≡ word_with 0
  start_is = ap (check_of k) (sym (bits-zero bs))

  module _ (poly : k.poly < 2 ^ 16) (init : k.init < 2 ^ 16) where
    affine : IsAffine word_with
    affine a b = check_sums k (with_bits (bit_xor a b) bs) (with_bits 0 bs) (with_bits a bs) (with_bits b bs) poly init (bits-sums a b bs)

    module _ (n start wanted : ℕ) (is : start ≡ check_of k bs) where
      value : (m : ℕ) → m < 2 ^ n → word_with m ≡ bit_xor start (xor_of (changes word_with 0 n) m)
      value m h = value_of word_with affine n m h ∙ ap (λ (s : ℕ). bit_xor s (xor_of (changes word_with 0 n) m)) (sym (is ∙ start_is))

      pub gives : (m : ℕ) → m < 2 ^ n → xor_of (changes word_with 0 n) m ≡ bit_xor start wanted → word_with m ≡ wanted
      gives m h e =
          value m h
          ∙ ap (bit_xor start) e
          ∙ sym (xor_assoc start start wanted)
          ∙ ap (λ (x : ℕ). bit_xor x wanted) (xor_self start)

      pub gives_back : (m : ℕ) → m < 2 ^ n → word_with m ≡ wanted → xor_of (changes word_with 0 n) m ≡ bit_xor start wanted
      gives_back m h e =
          let x = xor_of (changes word_with 0 n) m in
          sym (ap (bit_xor start) (sym e ∙ value m h) ∙ sym (xor_assoc start start x) ∙ ap (λ (y : ℕ). bit_xor y x) (xor_self start))

-- ---- clauses on a result

pub some_both : {E : Type 0} (P Q R : ℕ → Type 0) (r : Result (Option ℕ) E) → ((m : ℕ) → P m → Q m → R m) → IfOk r (λ o. IfSome o P)
    → IfOk r (λ o. IfSome o Q) → IfOk r (λ o. IfSome o R)
some_both P Q R (Ok (Some m)) f p q = f m p q
some_both P Q R (Ok None) f p q = p
some_both P Q R (Err e) f p q = p

pub ok_none_from : {X E : Type 0} (P Q : Type 0) (r : Result (Option X) E) → (P → Q) → IfOk r (λ o. IfNone o P) → IfOk r (λ o. IfNone o Q)
ok_none_from P Q (Ok (Some x)) f p = tt
ok_none_from P Q (Ok None) f p = f p
ok_none_from P Q (Err e) f p = tt
