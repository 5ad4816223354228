-- Columns whose exclusive or is a wanted number.
use Rattle.std.proofs.Common.{◌≡◌, ◌≢◌, ℕ, zero, suc, ◌+◌, ◌*◌, ◌/◌, ◌%◌, ◌^◌, ◌<◌, Bool, true, false, cond, eqb, List, [], ◌∷◌, ◌++◌, length, take, get_or, fold, bit_xor, refl, sym, ap, ◌∙◌, subst, arith, pow-suc, All}
use Rattle.std.specs.Int.{bit_at, trailing_zeros, w16}
use Rattle.std.specs.Int.Bits.{xor_self, xor_zero_r}
use Rattle.std.proofs.lemmas.Nat.{xor_lt, xor_shr, pow_below, pow_pos}
use Rattle.std.proofs.lemmas.Nat.Bits.{bit_at_xor, bit_at-zero, bit_at-lt, bit_at-trailing_zeros}
use Rattle.std.proofs.lemmas.List.Elements.{All-head, All-tail, All-push, All-more, All-weaker}
use Rattle.std.proofs.lemmas.Grind.{fold-append}
use Rattle.a429_ldu.proofs.CheckWordDown.{by_tests}
use Rattle.a429_merge.specs.declared.choice.Sum.{Sum}
use Rattle.a429_merge.specs.Choice.{xor_of, reduced_by, IsBasis}
use Rattle.a429_merge.proofs.XorFacts.{cancel, shuffle, same_from_zero}

-- ---- the columns of an exclusive or

pick_xor : (s t c : ℕ) → s < 2 → t < 2 → cond (eqb ((s + t) % 2) 1) c 0 ≡ bit_xor (cond (eqb s 1) c 0) (cond (eqb t 1) c 0)
pick_xor zero zero c h k = refl
pick_xor zero (suc zero) c h k = refl
pick_xor (suc zero) zero c h k = sym (xor_zero_r c)
pick_xor (suc zero) (suc zero) c h k = sym (xor_self c)
pick_xor (suc (suc s)) t c h k = absurd (omega arith)
pick_xor zero (suc (suc t)) c h k = absurd (omega arith)
pick_xor (suc zero) (suc (suc t)) c h k = absurd (omega arith)

pub xor_of-xor : (cs : List ℕ) (a b : ℕ) → xor_of cs (bit_xor a b) ≡ bit_xor (xor_of cs a) (xor_of cs b)
xor_of-xor [] a b = refl
xor_of-xor (c ∷ cs) a b =
    let lowest = bit_at_xor a b 0 in
    let low : bit_xor a b % 2 ≡ (a % 2 + b % 2) % 2 = omega arith in
    let high : bit_xor a b / 2 ≡ bit_xor (a / 2) (b / 2) = xor_shr a b 1 in
    ap (λ (n : ℕ). bit_xor (cond (eqb n 1) c 0) (xor_of cs (bit_xor a b / 2))) low
    ∙ ap (λ (n : ℕ). bit_xor (cond (eqb ((a % 2 + b % 2) % 2) 1) c 0) (xor_of cs n)) high
    ∙ ap (λ (x : ℕ). bit_xor x (xor_of cs (bit_xor (a / 2) (b / 2)))) (pick_xor (a % 2) (b % 2) c (omega arith) (omega arith))
    ∙ ap (bit_xor (bit_xor (cond (eqb (a % 2) 1) c 0) (cond (eqb (b % 2) 1) c 0))) (xor_of-xor cs (a / 2) (b / 2))
    ∙ shuffle (cond (eqb (a % 2) 1) c 0) (cond (eqb (b % 2) 1) c 0) (xor_of cs (a / 2)) (xor_of cs (b / 2))

pub xor_of-zero : (cs : List ℕ) → xor_of cs 0 ≡ 0
xor_of-zero [] = refl
xor_of-zero (c ∷ cs) = xor_of-zero cs

pub xor_of-bit : (cs : List ℕ) (k : ℕ) → k < length cs → xor_of cs (2 ^ k) ≡ get_or cs k 0
xor_of-bit [] k l = absurd (omega arith)
xor_of-bit (c ∷ cs) zero l = ap (bit_xor c) (xor_of-zero cs) ∙ xor_zero_r c
xor_of-bit (c ∷ cs) (suc k) l =
    let more : 2 ^ suc k ≡ 2 ^ k * 2 = pow-suc 2 k in
    let low : 2 ^ suc k % 2 ≡ 0 = omega arith in
    let high : 2 ^ suc k / 2 ≡ 2 ^ k = omega arith in
    ap (λ (n : ℕ). bit_xor (cond (eqb n 1) c 0) (xor_of cs (2 ^ suc k / 2))) low
    ∙ ap (xor_of cs) high
    ∙ xor_of-bit cs k (omega arith)

-- ---- what is left of a number

abbrev pub without : ℕ → Sum → ℕ
without v s = cond (eqb (bit_at v (trailing_zeros w16 s.value)) 1) (bit_xor v s.value) v

abbrev pub left : List Sum → ℕ → ℕ
left basis v = fold without v basis

value_if : (b : Bool) (c s : Sum)
    → (cond b (record { value = bit_xor c.value s.value; chosen = bit_xor c.chosen s.chosen }) c).value
    ≡ cond b (bit_xor c.value s.value) c.value
value_if true c s = refl
value_if false c s = refl

pub value_left : (basis : List Sum) (c : Sum) → (fold reduced_by c basis).value ≡ left basis c.value
value_left [] c = refl
value_left (s ∷ basis) c =
    value_left basis (reduced_by c s) ∙ ap (left basis) (value_if (eqb (bit_at c.value (trailing_zeros w16 s.value)) 1) c s)

without-xor : (u v : ℕ) (s : Sum) → without (bit_xor u v) s ≡ bit_xor (without u s) (without v s)
without-xor u v s =
    let k = trailing_zeros w16 s.value in
    ap (λ (n : ℕ). cond (eqb n 1) (bit_xor (bit_xor u v) s.value) (bit_xor u v)) (bit_at_xor u v k)
    ∙ by_tests (bit_at u k) (bit_at v k) u v s.value (bit_at-lt u k) (bit_at-lt v k)

left-xor : (basis : List Sum) (u v : ℕ) → left basis (bit_xor u v) ≡ bit_xor (left basis u) (left basis v)
left-xor [] u v = refl
left-xor (s ∷ basis) u v = ap (left basis) (without-xor u v s) ∙ left-xor basis (without u s) (without v s)

without-zero : (s : Sum) → without 0 s ≡ 0
without-zero s = ap (λ (n : ℕ). cond (eqb n 1) (bit_xor 0 s.value) 0) (bit_at-zero (trailing_zeros w16 s.value))

left-zero : (basis : List Sum) → left basis 0 ≡ 0
left-zero [] = refl
left-zero (s ∷ basis) = ap (left basis) (without-zero s) ∙ left-zero basis

-- nothing is left of a sum of what nothing is left of
left-pick : (basis : List Sum) (c : ℕ) (b : Bool) → left basis c ≡ 0 → left basis (cond b c 0) ≡ 0
left-pick basis c true e = e
left-pick basis c false e = left-zero basis

pub left-sum : (basis : List Sum) (cs : List ℕ) → All (λ x. left basis x ≡ 0) cs → (m : ℕ) → left basis (xor_of cs m) ≡ 0
left-sum basis [] h m = left-zero basis
left-sum basis (c ∷ cs) h m =
    let P : ℕ → Type 0 = λ x. left basis x ≡ 0 in
    left-xor basis (cond (eqb (m % 2) 1) c 0) (xor_of cs (m / 2))
    ∙ ap (λ (x : ℕ). bit_xor x (left basis (xor_of cs (m / 2)))) (left-pick basis c (eqb (m % 2) 1) (All-head P c cs h))
    ∙ left-sum basis cs (All-tail P c cs h) (m / 2)

-- ---- which columns a reduced sum is of

module _ (cs : List ℕ) where
  abbrev of_sum : Sum → ℕ
  of_sum c = bit_xor (xor_of cs c.chosen) c.value

  tied_if : (b : Bool) (c s : Sum) → xor_of cs s.chosen ≡ s.value
      → of_sum (cond b (record { value = bit_xor c.value s.value; chosen = bit_xor c.chosen s.chosen }) c) ≡ of_sum c
  tied_if true c s e =
      ap (λ (x : ℕ). bit_xor x (bit_xor c.value s.value)) (xor_of-xor cs c.chosen s.chosen ∙ ap (bit_xor (xor_of cs c.chosen)) e)
      ∙ cancel (xor_of cs c.chosen) c.value s.value
  tied_if false c s e = refl

  tied : (basis : List Sum) (c : Sum) → All (λ s. xor_of cs s.chosen ≡ s.value) basis → of_sum (fold reduced_by c basis) ≡ of_sum c
  tied [] c h = refl
  tied (s ∷ basis) c h =
      let P : Sum → Type 0 = λ s. xor_of cs s.chosen ≡ s.value in
      tied basis (reduced_by c s) (All-tail P s basis h)
      ∙ tied_if (eqb (bit_at c.value (trailing_zeros w16 s.value)) 1) c s (All-head P s basis h)

within_if : (n : ℕ) (b : Bool) (c s : Sum) → s.chosen < 2 ^ n → c.chosen < 2 ^ n
    → (cond b (record { value = bit_xor c.value s.value; chosen = bit_xor c.chosen s.chosen }) c).chosen < 2 ^ n
within_if n true c s h k = xor_lt n c.chosen s.chosen k h
within_if n false c s h k = k

pub within : (n : ℕ) (basis : List Sum) (c : Sum)
    → All (λ s. s.chosen < 2 ^ n) basis → c.chosen < 2 ^ n → (fold reduced_by c basis).chosen < 2 ^ n
within n [] c h k = k
within n (s ∷ basis) c h k =
    let P : Sum → Type 0 = λ s. s.chosen < 2 ^ n in
    within n basis (reduced_by c s) (All-tail P s basis h)
    (within_if n (eqb (bit_at c.value (trailing_zeros w16 s.value)) 1) c s (All-head P s basis h) k)

small_if : (b : Bool) (c s : Sum) → s.value < 2 ^ 16 → c.value < 2 ^ 16
    → (cond b (record { value = bit_xor c.value s.value; chosen = bit_xor c.chosen s.chosen }) c).value < 2 ^ 16
small_if true c s h k = xor_lt 16 c.value s.value k h
small_if false c s h k = k

small : (basis : List Sum) (c : Sum) → All (λ s. s.value < 2 ^ 16) basis → c.value < 2 ^ 16 → (fold reduced_by c basis).value < 2 ^ 16
small [] c h k = k
small (s ∷ basis) c h k =
    let P : Sum → Type 0 = λ s. s.value < 2 ^ 16 in
    small basis (reduced_by c s) (All-tail P s basis h)
    (small_if (eqb (bit_at c.value (trailing_zeros w16 s.value)) 1) c s (All-head P s basis h) k)

-- ---- one column more

abbrev Reduces : List Sum → ℕ → Type 0
Reduces basis x = (fold reduced_by (record { value = x; chosen = 0 }) basis).value ≡ 0

module _ (cs : List ℕ) (basis : List Sum) (k : ℕ) (b : IsBasis cs basis (take k cs)) (l : k < length cs) (r : Sum)
    (is : r ≡ fold reduced_by (record { value = get_or cs k 0; chosen = 2 ^ k }) basis) where
  left_is : r.value ≡ left basis (get_or cs k 0)
  left_is = ap (λ (s : Sum). s.value) is ∙ value_left basis (record { value = get_or cs k 0; chosen = 2 ^ k })

  pub basis_same : r.value ≡ 0 → IsBasis cs basis (take (k + 1) cs)
  basis_same e = record {
    sums = b.sums;
    within = b.within;
    nonzero = b.nonzero;
    small = b.small;
    reduce = All-more (Reduces basis) cs k 0 l b.reduce (value_left basis (record { value = get_or cs k 0; chosen = 0 }) ∙ sym left_is ∙ e);
  }

  is_sum : xor_of cs r.chosen ≡ r.value
  is_sum =
      let c : Sum = record { value = get_or cs k 0; chosen = 2 ^ k } in
      same_from_zero (xor_of cs r.chosen) r.value (
      ap (of_sum cs) is
      ∙ tied cs basis c b.sums
      ∙ ap (λ (x : ℕ). bit_xor x (get_or cs k 0)) (xor_of-bit cs k l)
      ∙ xor_self (get_or cs k 0))

  gone : 0 < r.value → r.value < 2 ^ 16 → without r.value r ≡ 0
  gone h m =
      let one = (bit_at-trailing_zeros w16 r.value h m).1 in
      ap (λ (n : ℕ). cond (eqb n 1) (bit_xor r.value r.value) r.value) one ∙ xor_self r.value

  left_push : (x : ℕ) → (fold reduced_by (record { value = x; chosen = 0 }) (basis ++ r ∷ [])).value ≡ without (left basis x) r
  left_push x = value_left (basis ++ r ∷ []) (record { value = x; chosen = 0 }) ∙ fold-append without x basis (r ∷ [])

  still : (x : ℕ) → Reduces basis x → Reduces (basis ++ r ∷ []) x
  still x e = left_push x ∙ ap (λ (v : ℕ). without v r) (sym (value_left basis (record { value = x; chosen = 0 })) ∙ e) ∙ without-zero r

  pub basis_push : get_or cs k 0 < 2 ^ 16 → 0 < r.value → IsBasis cs (basis ++ r ∷ []) (take (k + 1) cs)
  basis_push m h =
      let c : Sum = record { value = get_or cs k 0; chosen = 2 ^ k } in
      let r_small : r.value < 2 ^ 16 = subst (λ s. s.value < 2 ^ 16) (sym is) (small basis c b.small m) in
      record {
        sums = All-push (λ (s : Sum). xor_of cs s.chosen ≡ s.value) basis r b.sums is_sum;
        within =
            All-push (λ (s : Sum). s.chosen < 2 ^ length cs) basis r b.within
            (subst (λ s. s.chosen < 2 ^ length cs) (sym is) (within (length cs) basis c b.within (pow_below k (length cs) l)));
        nonzero = All-push (λ (s : Sum). 0 < s.value) basis r b.nonzero h;
        small = All-push (λ (s : Sum). s.value < 2 ^ 16) basis r b.small r_small;
        reduce =
            All-more (Reduces (basis ++ r ∷ [])) cs k 0 l
            (All-weaker (Reduces basis) (Reduces (basis ++ r ∷ [])) still (take k cs) b.reduce)
            (left_push (get_or cs k 0) ∙ ap (λ (v : ℕ). without v r) (sym left_is) ∙ gone h r_small);
      }

-- ---- the wanted number

module _ (cs : List ℕ) (basis : List Sum) (w : ℕ) (b : IsBasis cs basis cs) (r : Sum)
    (is : r ≡ fold reduced_by (record { value = w; chosen = 0 }) basis) where
  pub found : r.value ≡ 0 → xor_of cs r.chosen ≡ w
  found e =
      sym (xor_zero_r (xor_of cs r.chosen))
      ∙ ap (bit_xor (xor_of cs r.chosen)) (sym e)
      ∙ ap (of_sum cs) is
      ∙ tied cs basis (record { value = w; chosen = 0 }) b.sums
      ∙ ap (λ (x : ℕ). bit_xor x w) (xor_of-zero cs)

  pub found_within : r.chosen < 2 ^ length cs
  found_within =
      subst (λ s. s.chosen < 2 ^ length cs) (sym is)
      (within (length cs) basis (record { value = w; chosen = 0 }) b.within (pow_pos (length cs)))

  pub not_found : r.value ≢ 0 → (m : ℕ) → xor_of cs m ≢ w
  not_found n m e =
      let none =
      left-sum basis cs
      (All-weaker (Reduces basis) (λ x. left basis x ≡ 0)
      (λ x h. sym (value_left basis (record { value = x; chosen = 0 })) ∙ h) cs b.reduce) m in
      n (ap (λ (s : Sum). s.value) is ∙ value_left basis (record { value = w; chosen = 0 }) ∙ ap (left basis) (sym e) ∙ none)
