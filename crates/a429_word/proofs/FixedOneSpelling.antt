-- A fraction has one spelling.
use Rattle.std.proofs.Common.{◌≡◌, ℕ, ◌+◌, ◌*◌, ◌/◌, ◌%◌, ◌-◌, ◌^◌, ◌<◌, ◌≤◌, List, [], ◌∷◌, ◌++◌, length, refl, sym, ap, ◌∙◌, arith, append_assoc, Bool, true, false, mul_assoc, mul_comm}
use Rattle.std.specs.Prelude.{unsigned_abs, ◌↔◌, ◌<ℤ◌, ℤ, pos}
use Rattle.std.specs.Char.{digit_value}
use Rattle.std.specs.Str.Parse.{digits_value, digits_value_after, AllDigits}
use Rattle.std.proofs.lemmas.Bool.Decides.{nat_tests}
use Rattle.std.proofs.lemmas.Nat.{same_from_place, pow-add}
use Rattle.std.proofs.Math.Nat.{pow-suc, pow-le-pow_right, mul-le-mul_right, mul-div_cancel}
use Rattle.std.proofs.lemmas.Int.Digits.{digits_value-lt, digits_value_push}
use Rattle.a429_word.proofs.Powers.{pow-10_pos}
use Rattle.a429_word.specs.Fixed.{with_point, sign_text, IsWholePart, EndsWell, SpellsFraction}

-- the value of a decimal digit determines it
same_digit : (c d : ℕ) → digit_value c < 10 → digit_value c ≡ digit_value d → c ≡ d
same_digit c d h e = grind (arith, nat_tests)

-- digits after others
pub value_after-append : (a : ℕ) (xs ys : List ℕ)
    → digits_value_after 10 a (xs ++ ys) ≡ digits_value_after 10 (digits_value_after 10 a xs) ys
value_after-append a [] ys = refl
value_after-append a (x ∷ xs) ys = value_after-append (a * 10 + digit_value x) xs ys

-- the value behind a first part
pub value_after : (a : ℕ) (xs : List ℕ) → digits_value_after 10 a xs ≡ a * 10 ^ length xs + digits_value 10 xs
value_after a [] = omega arith
value_after a (x ∷ xs) =
    let p = 10 ^ length xs in
    value_after (a * 10 + digit_value x) xs ∙ rw (value_after (0 * 10 + digit_value x) xs, pow-suc) (omega arith)

-- the first digit apart
pub value-cons : (x : ℕ) (xs : List ℕ) → digits_value 10 (x ∷ xs) ≡ digit_value x * 10 ^ length xs + digits_value 10 xs
value-cons x xs = value_after (0 * 10 + digit_value x) xs ∙ omega arith

-- two runs of digits
pub value-append : (xs ys : List ℕ) → digits_value 10 (xs ++ ys) ≡ digits_value 10 xs * 10 ^ length ys + digits_value 10 ys
value-append xs ys = value_after-append 0 xs ys ∙ value_after (digits_value 10 xs) ys

-- digits of one length with one value are the same
same_digits : (xs ys : List ℕ)
    → AllDigits 10 xs → AllDigits 10 ys → length xs ≡ length ys → digits_value 10 xs ≡ digits_value 10 ys → xs ≡ ys
same_digits [] [] h k e v = refl
same_digits [] (y ∷ ys) h k e v = absurd (omega arith)
same_digits (x ∷ xs) [] h k e v = absurd (omega arith)
same_digits (x ∷ xs) (y ∷ ys) h k e v =
    let long : length xs ≡ length ys = omega arith in
    let lx : digits_value 10 xs < 10 ^ length xs = digits_value-lt 10 xs h.1 in
    let ly : digits_value 10 ys < 10 ^ length xs = rw long (digits_value-lt 10 ys k.1) in
    let both : digit_value x * 10 ^ length xs + digits_value 10 xs ≡ digit_value y * 10 ^ length xs + digits_value 10 ys =
    sym (value-cons x xs) ∙ v ∙ value-cons y ys ∙ ap (λ n. digit_value y * 10 ^ n + digits_value 10 ys) (sym long) in
    let parts = same_from_place (digit_value x) (digits_value 10 xs) (digit_value y) (digits_value 10 ys) (10 ^ length xs) lx ly both in
    let head = same_digit x y h.0 parts.0 in
    let tail = same_digits xs ys h.1 k.1 long parts.1 in
    cc

-- the value of a whole part determines its length
above : (xs : List ℕ) → AllDigits 10 xs → IsWholePart xs → (1 ≤ length xs) × (2 ≤ length xs → 10 ^ (length xs - 1) ≤ digits_value 10 xs)
above [] h w = absurd w
above (x ∷ []) h w = (omega arith, λ k. absurd (omega arith))
above (x ∷ y ∷ ys) h w =
    let some : 1 ≤ digit_value x = omega (arith, w) in
    let least : 1 * 10 ^ length (y ∷ ys) ≤ digit_value x * 10 ^ length (y ∷ ys) = mul-le-mul_right (10 ^ length (y ∷ ys)) some in
    let shorter : length (x ∷ y ∷ ys) - 1 ≡ length (y ∷ ys) = omega arith in
    (omega arith, λ k. rw (value-cons x (y ∷ ys), shorter) (omega arith))

-- so of two whole parts with one value none is the longer
no_longer : (xs ys : List ℕ) → AllDigits 10 xs → AllDigits 10 ys → IsWholePart xs → IsWholePart ys → digits_value 10 xs ≡ digits_value 10 ys
    → length xs < length ys → ⊥
no_longer xs ys hx hy wx wy e lt =
    let ux = digits_value-lt 10 xs hx in
    let low = (above ys hy wy).1 (omega (arith, (above xs hx wx).0)) in
    let powers : 10 ^ length xs ≤ 10 ^ (length ys - 1) = pow-le-pow_right {n = 10} (omega arith) (le_less (length xs) (length ys) lt) in
    omega arith
  where
    le_less : (a b : ℕ) → a < b → a ≤ b - 1
    le_less a b h = omega arith

-- digits in a row, and each part of them
AllDigits-split : (xs ys : List ℕ) → AllDigits 10 (xs ++ ys) → AllDigits 10 xs × AllDigits 10 ys
AllDigits-split [] ys h = (tt, h)
AllDigits-split (x ∷ xs) ys h = let r = AllDigits-split xs ys h.1 in ((h.0, r.0), r.1)

-- digits that end well behind a point do not end in 0
ends : (xs part : List ℕ) → AllDigits 10 (xs ++ part) → EndsWell part → 1 ≤ length part → digits_value 10 (xs ++ part) % 10 ≡ 0 → ⊥
ends xs [] h e k z = absurd (omega arith)
ends xs (c ∷ []) h e k z =
    let push = digits_value_push 10 xs c in
    let small = (AllDigits-split xs (c ∷ []) h).1.0 in
    e (omega arith)
ends xs (c ∷ d ∷ cs) h e k z =
    let same : (xs ++ c ∷ []) ++ (d ∷ cs) ≡ xs ++ (c ∷ d ∷ cs) = append_assoc xs (c ∷ []) (d ∷ cs) in
    ends (xs ++ c ∷ []) (d ∷ cs) (rw same h) e (omega arith) (rw same z)

-- a factor is dropped
pub cancel : (a b k : ℕ) → 0 < k → a * k ≡ b * k → a ≡ b
cancel a b k h e = sym (mul-div_cancel a h) ∙ ap (λ n. n / k) e ∙ mul-div_cancel b h

-- decimals that end well are no longer than others of the same value
no_more : (v w n d p q : ℕ) → v * 10 ^ d ≡ n * 10 ^ p → w * 10 ^ d ≡ n * 10 ^ q → p < q → w % 10 ≡ 0
no_more v w n d p q ev ew lt =
    let k = q - p - 1 in
    let up : q ≡ p + (1 + k) = omega arith in
    let powers : 10 ^ q ≡ 10 ^ p * (10 * 10 ^ k) = ap (λ x. 10 ^ x) up ∙ pow-add 10 p (1 + k) ∙ ap (λ x. 10 ^ p * x) (pow-add 10 1 k) in
    let same : w * 10 ^ d ≡ v * (10 * 10 ^ k) * 10 ^ d =
    ew ∙ ap (λ x. n * x) powers ∙ sym (mul_assoc n (10 ^ p) (10 * 10 ^ k)) ∙ ap (λ x. x * (10 * 10 ^ k)) (sym ev)
    ∙ mul_assoc v (10 ^ d) (10 * 10 ^ k) ∙ ap (λ x. v * x) (mul_comm (10 ^ d) (10 * 10 ^ k)) ∙ sym (mul_assoc v (10 * 10 ^ k) (10 ^ d)) in
    let is : w ≡ v * (10 * 10 ^ k) = cancel w (v * (10 * 10 ^ k)) (10 ^ d) (pow-10_pos d) same in
    let tens : w ≡ (v * 10 ^ k) * 10 = is ∙ grind arith in
    omega arith

-- when a sign is there determines it
same_sign : (a b : Bool) (P : Type 0) → (a ≡ true) ↔ P → (b ≡ true) ↔ P → a ≡ b
same_sign true b P f g = sym (g.1 (f.0 refl))
same_sign false true P f g = f.1 (g.0 refl)
same_sign false false P f g = refl

-- the shape and the value leave one text
pub one_spelling : (a b : List ℕ) (n : ℤ) (d : ℕ) → SpellsFraction a n d → SpellsFraction b n d → a ≡ b
one_spelling a b n d s t =
    let u = digits_value 10 (s.whole ++ s.part) in
    let v = digits_value 10 (t.whole ++ t.part) in
    let p = length s.part in
    let q = length t.part in
    let not_less : p < q → ⊥ =
    λ lt. ends t.whole t.part t.digits t.trailing (omega arith) (no_more u v (unsigned_abs n) d p q s.value t.value lt) in
    let not_more : q < p → ⊥ =
    λ lt. ends s.whole s.part s.digits s.trailing (omega arith) (no_more v u (unsigned_abs n) d q p t.value s.value lt) in
    let long : p ≡ q = omega arith in
    let same : u ≡ v = cancel u v (10 ^ d) (pow-10_pos d) (s.value ∙ ap (λ x. unsigned_abs n * 10 ^ x) long ∙ sym t.value) in
    let ds = AllDigits-split s.whole s.part s.digits in
    let dt = AllDigits-split t.whole t.part t.digits in
    let ls : digits_value 10 s.part < 10 ^ p = digits_value-lt 10 s.part ds.1 in
    let lt : digits_value 10 t.part < 10 ^ p = rw long (digits_value-lt 10 t.part dt.1) in
    let parts =
    same_from_place (digits_value 10 s.whole) (digits_value 10 s.part) (digits_value 10 t.whole) (digits_value 10 t.part) (10 ^ p) ls lt
    (sym (value-append s.whole s.part) ∙ same ∙ value-append t.whole t.part
    ∙ ap (λ x. digits_value 10 t.whole * 10 ^ x + digits_value 10 t.part) (sym long)) in
    let part = same_digits s.part t.part ds.1 dt.1 long parts.1 in
    let less = no_longer s.whole t.whole ds.0 dt.0 s.leading t.leading parts.0 in
    let more = no_longer t.whole s.whole dt.0 ds.0 t.leading s.leading (sym parts.0) in
    let whole_long : length s.whole ≡ length t.whole = omega arith in
    let whole = same_digits s.whole t.whole ds.0 dt.0 whole_long parts.0 in
    let minus = same_sign s.minus t.minus (n <ℤ pos 0) s.sign t.sign in
    s.layout ∙ ap (λ m. sign_text m ++ (s.whole ++ with_point s.part)) minus ∙ ap (λ w. sign_text t.minus ++ (w ++ with_point s.part)) whole
    ∙ ap (λ x. sign_text t.minus ++ (t.whole ++ with_point x)) part ∙ sym t.layout
