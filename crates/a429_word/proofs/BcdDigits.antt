-- Digits of a BCD word, as a mask and a loop read them.
use Rattle.std.proofs.Common.{◌≡◌, ℕ, zero, suc, ◌+◌, ◌-◌, ◌*◌, ◌/◌, ◌%◌, ◌^◌, ◌<◌, ◌≤◌, refl, sym, ap, ◌∙◌, arith, inl, inr, bit_and, cond, eqb, false, mul_assoc, mul_comm, pow-suc}
use Rattle.std.proofs.lemmas.Bool.{cases_lt}
use Rattle.std.proofs.Math.Nat.{div-div-eq-div-mul}
use Rattle.a429_word.specs.Word.{sum_below, number_at}
use Rattle.std.specs.Prelude.{Result, Ok, Err}
use Rattle.a429_word.specs.declared.bcd.BadDigit.{BadDigit}
use Rattle.a429_word.specs.Bcd.{digit_of, decimal_of, AreDecimal, ReadsBcd}
use Rattle.a429_word.proofs.WordBits.{masked_from, sum_below-same}

-- a digit, as a mask reads it
pub digit-first : (w i : ℕ) → i ≡ 1 → bit_and (w / 2 ^ (30 - 4 * i)) 7 ≡ digit_of w i
digit-first w i e = rw e (masked_from w 27 26 3 refl)

pub digit-more : (w i : ℕ) → i ≤ 5 → eqb i 1 ≡ false → bit_and (w / 2 ^ (30 - 4 * i)) 15 ≡ digit_of w i
digit-more w i h e = masked_from w (31 - 4 * i) (30 - 4 * i) 4 (omega arith) ∙ ap (λ t. number_at w (31 - 4 * i) (cond t 3 4)) (sym e)

-- the first term apart
sum_below-first : (k : ℕ) (f : ℕ → ℕ) → sum_below (suc k) f ≡ f 0 + sum_below k (λ j. f (suc j))
unfolding sum_below
sum_below-first zero f = omega arith
sum_below-first (suc k) f = let low = sum_below-first k f in omega arith

-- ten times each term
sum_below-tens : (k : ℕ) (f : ℕ → ℕ) → sum_below k (λ j. f j * 10) ≡ sum_below k f * 10
unfolding sum_below
sum_below-tens zero f = refl
sum_below-tens (suc k) f = let low = sum_below-tens k f in omega arith

pub decimal_of-none : (w : ℕ) → decimal_of w 0 ≡ 0
unfolding sum_below
decimal_of-none w = refl

-- a digit more
pub decimal_of-more : (w k : ℕ) → decimal_of w (suc k) ≡ decimal_of w k * 10 + digit_of w (suc k)
decimal_of-more w k =
    let term : ℕ → ℕ = λ j. digit_of w (k - j) * 10 ^ j in
    let moved : (j : ℕ) → j < k → digit_of w (suc k - suc j) * 10 ^ suc j ≡ term j * 10 = λ j _.
    let e : suc k - suc j ≡ k - j = omega arith in
    ap (λ i. digit_of w i * 10 ^ suc j) e ∙ ap (λ p. digit_of w (k - j) * p) (pow-suc 10 j)
    ∙ sym (mul_assoc (digit_of w (k - j)) (10 ^ j) 10) in
    let tens = sum_below-same k (λ j. digit_of w (suc k - suc j) * 10 ^ suc j) (λ j. term j * 10) moved ∙ sum_below-tens k term in
    let first = sum_below-first k (λ j. digit_of w (suc k - j) * 10 ^ j) in
    let last : suc k - 0 ≡ suc k = omega arith in
    first ∙ ap (λ s. digit_of w (suc k - 0) * 10 ^ 0 + s) tens ∙ ap (λ i. digit_of w i * 10 ^ 0 + decimal_of w k * 10) last ∙ omega arith

AreDecimal-more : (w k : ℕ) → AreDecimal w k → digit_of w (suc k) ≤ 9 → AreDecimal w (suc k)
AreDecimal-more w k all next i first last =
    elim (cases_lt i (suc k)) [
      | inl lt ↦ all i first (omega arith)
      | inr ge ↦ let e : suc k ≡ i = omega arith in rw e at next
    ]

-- ---- the loop

-- n is what the first k digits write, each of which is a digit
pub record IsRead (w k n : ℕ) : Type 0 where
  pub value : n ≡ decimal_of w k
  pub digits : AreDecimal w k
  pub within : n < 10 ^ k

pub read-none : (w : ℕ) → IsRead w 0 0
read-none w = record { value = sym (decimal_of-none w); digits = λ i first last. absurd (omega arith); within = omega arith }

pub read-more : (w k n d : ℕ) → IsRead w k n → d ≡ digit_of w (k + 1) → d ≤ 9 → IsRead w (k + 1) (n * 10 + d)
read-more w k n d is e small =
    let up : k + 1 ≡ suc k = omega arith in
    let same : d ≡ digit_of w (suc k) = e ∙ ap (digit_of w) up in
    rw up (record {
      value = ap (λ m. m * 10 + d) is.value ∙ ap (λ x. decimal_of w k * 10 + x) same ∙ sym (decimal_of-more w k);
      digits = AreDecimal-more w k is.digits (rw (← same) small);
      within = rw pow-suc (omega (arith, is.within));
    })

-- ---- the number's digits

-- a number below ten put behind another
last-digit : (n d : ℕ) → d ≤ 9 → (n * 10 + d) % 10 ≡ d
last-digit n d small = omega arith

fewer-digits : (n d k : ℕ) → d ≤ 9 → (n * 10 + d) / 10 ^ suc k ≡ n / 10 ^ k
fewer-digits n d k small =
    let tens : (n * 10 + d) / 10 ≡ n = omega arith in
    ap (λ p. (n * 10 + d) / p) (pow-suc 10 k ∙ mul_comm (10 ^ k) 10) ∙ sym (div-div-eq-div-mul (n * 10 + d) 10 (10 ^ k))
    ∙ ap (λ m. m / 10 ^ k) tens

AreDecimal-fewer : (w k : ℕ) → AreDecimal w (suc k) → AreDecimal w k
AreDecimal-fewer w k all i first last = all i first (omega arith)

pub decimal_of-digits : (w k i : ℕ) → AreDecimal w k → 1 ≤ i → i ≤ k → decimal_of w k / 10 ^ (k - i) % 10 ≡ digit_of w i
decimal_of-digits w zero i all h1 h2 = absurd (omega arith)
decimal_of-digits w (suc k) i all h1 h2 =
    let d : digit_of w (suc k) ≤ 9 = all (suc k) (omega arith) (omega arith) in
    elim (cases_lt i (suc k)) [
      | inl lt ↦
          let place : suc k - i ≡ suc (k - i) = omega arith in
          let low = decimal_of-digits w k i (AreDecimal-fewer w k all) h1 (omega arith) in
          rw (place, decimal_of-more w k, fewer-digits (decimal_of w k) (digit_of w (suc k)) (k - i) d) low
      | inr ge ↦
          let here : i ≡ suc k = omega arith in
          let place : suc k - i ≡ 0 = omega arith in
          let one : (decimal_of w k * 10 + digit_of w (suc k)) / 10 ^ 0 ≡ decimal_of w k * 10 + digit_of w (suc k) = omega arith in
          rw (place, decimal_of-more w k, one) (last-digit (decimal_of w k) (digit_of w (suc k)) d ∙ ap (digit_of w) (sym here))
    ]

pub decimal_of-within : (w k : ℕ) → AreDecimal w k → decimal_of w k < 10 ^ k
decimal_of-within w zero all = rw (decimal_of-none w) (omega arith)
decimal_of-within w (suc k) all =
    let low = decimal_of-within w k (AreDecimal-fewer w k all) in
    rw (decimal_of-more w k, pow-suc) (omega (arith, low, all (suc k) (omega arith) (omega arith)))

-- ---- written and read

-- where each digit is one, none is the first that is not
pub bcd-read : (w k n : ℕ) (read : Result ℕ BadDigit) → AreDecimal w k → decimal_of w k ≡ n → ReadsBcd w k read → read ≡ Ok n
bcd-read w k n (Ok m) all is h = ap Ok (h.1 ∙ is)
bcd-read w k n (Err e) all is h = absurd (omega (arith, all e.0 h.least h.most, h.above))
