-- Hexadecimal digits, written and read.
use Rattle.std.proofs.Common.{◌≡◌, ℕ, zero, suc, ◌+◌, ◌*◌, ◌/◌, ◌%◌, ◌^◌, ◌<◌, ◌≤◌, refl, sym, ap, subst, ◌∙◌, arith, List, [], ◌∷◌, ◌++◌, length, get_or, Option, Some, None, true, bit_and}
use Rattle.std.specs.Char.{digit_value}
use Rattle.std.specs.Fmt.{digit_glyph}
use Rattle.std.specs.Str.Parse.{digits_value, AllDigits}
use Rattle.std.proofs.lemmas.Nat.{and_mask}
use Rattle.std.proofs.lemmas.Bool.Decides.{nat_tests}
use Rattle.a429_word.specs.Digits.{numeral, hex_text, octal_text, IsHexWord, AreUpper, ReadsHex}
use Rattle.a429_word.specs.declared.digits.Letters.{Letters}
use Rattle.a429_word.specs.declared.digits.Letters.TheVariants.{Upper}

-- ---- reading

-- hexadecimal digits with these letters
abbrev AreDigits : Letters → List ℕ → Type 0
AreDigits letters text = AllDigits 16 text × (letters ≡ Upper → AreUpper text)

abbrev first_four : List ℕ → List ℕ
first_four text = get_or text 0 0 ∷ get_or text 1 0 ∷ get_or text 2 0 ∷ get_or text 3 0 ∷ []

abbrev next_four : List ℕ → List ℕ
next_four text = get_or text 4 0 ∷ get_or text 5 0 ∷ get_or text 6 0 ∷ get_or text 7 0 ∷ []

eight_bytes : (text : List ℕ) → length text ≡ 8 → first_four text ++ next_four text ≡ text
eight_bytes (a ∷ b ∷ c ∷ d ∷ e ∷ f ∷ g ∷ h ∷ []) long = refl
eight_bytes (a ∷ b ∷ c ∷ d ∷ e ∷ f ∷ g ∷ h ∷ i ∷ text) long = absurd (omega arith)
eight_bytes [] long = absurd (omega arith)
eight_bytes (a ∷ []) long = absurd (omega arith)
eight_bytes (a ∷ b ∷ []) long = absurd (omega arith)
eight_bytes (a ∷ b ∷ c ∷ []) long = absurd (omega arith)
eight_bytes (a ∷ b ∷ c ∷ d ∷ []) long = absurd (omega arith)
eight_bytes (a ∷ b ∷ c ∷ d ∷ e ∷ []) long = absurd (omega arith)
eight_bytes (a ∷ b ∷ c ∷ d ∷ e ∷ f ∷ []) long = absurd (omega arith)
eight_bytes (a ∷ b ∷ c ∷ d ∷ e ∷ f ∷ g ∷ []) long = absurd (omega arith)

-- four digits and four are eight
pub eight_hex : (letters : Letters) (text : List ℕ) (w : ℕ)
    → length text ≡ 8 → AreDigits letters (first_four text) → AreDigits letters (next_four text)
    → w ≡ digits_value 16 (first_four text) * 65536 + digits_value 16 (next_four text)
    → IsHexWord text × (letters ≡ Upper → AreUpper text) × (w ≡ digits_value 16 text)
eight_hex letters text w long high low is =
    let all : AllDigits 16 (first_four text ++ next_four text) = (high.0.0, (high.0.1.0, (high.0.1.1.0, (high.0.1.1.1.0, low.0)))) in
    let upper : letters ≡ Upper → AreUpper (first_four text ++ next_four text) = λ u. let h = high.1 u in
    (h.0, (h.1.0, (h.1.1.0, (h.1.1.1.0, low.1 u)))) in
    subst (λ (t : List ℕ). IsHexWord t × (letters ≡ Upper → AreUpper t) × (w ≡ digits_value 16 t)) (eight_bytes text long)
    ((refl, all), upper, omega arith)

-- and eight are four and four
pub eight_halves : (letters : Letters) (text : List ℕ)
    → IsHexWord text → (letters ≡ Upper → AreUpper text) → AreDigits letters (first_four text) × AreDigits letters (next_four text)
eight_halves letters text hex upper =
    let is = sym (eight_bytes text hex.0) in
    let all = subst (λ (t : List ℕ). AllDigits 16 t) is hex.1 in
    let ups : letters ≡ Upper → AreUpper (first_four text ++ next_four text) = λ u. subst (λ (t : List ℕ). AreUpper t) is (upper u) in (
      ((all.0, (all.1.0, (all.1.1.0, (all.1.1.1.0, tt)))), λ u. let h = ups u in (h.0, (h.1.0, (h.1.1.0, (h.1.1.1.0, tt))))),
      (all.1.1.1.1, λ u. (ups u).1.1.1.1),
    )

-- ---- writing

-- a digit's character
pub digit_glyph-low : (d : ℕ) → d < 10 → 48 + d ≡ digit_glyph true d
digit_glyph-low d h = grind (arith, nat_tests)

octal_digit : (n : ℕ) → 48 + bit_and n 7 ≡ digit_glyph true (n % 8)
octal_digit n = let e = digit_glyph-low (n % 8) (omega arith) in ap (λ d. 48 + d) (and_mask n 3) ∙ e

pub octal_text-is : (n : ℕ) → (48 + bit_and (n / 64) 7) ∷ (48 + bit_and (n / 8) 7) ∷ (48 + bit_and n 7) ∷ [] ≡ octal_text n
unfolding numeral
octal_text-is n =
    let first = octal_digit (n / 64) in
    let second = octal_digit (n / 8) in
    let third : 48 + bit_and n 7 ≡ digit_glyph true (n / 1 % 8) = octal_digit n ∙ ap (λ d. digit_glyph true (d % 8)) (omega arith) in
    cc

-- ---- written and read

pub digit_value-digit_glyph : (d : ℕ) → d < 16 → digit_value (digit_glyph true d) ≡ d
digit_value-digit_glyph d h = grind (arith, nat_tests)

pub length-hex_text : (w : ℕ) → length (hex_text w) ≡ 8
unfolding numeral
length-hex_text w = refl

-- each digit of a numeral is one
pub AllDigits-numeral : (k w : ℕ) → AllDigits 16 (numeral 16 k w)
unfolding numeral
AllDigits-numeral zero w = tt
AllDigits-numeral (suc k) w =
    let small : w / 16 ^ k % 16 < 16 = omega arith in
    (rw (digit_value-digit_glyph (w / 16 ^ k % 16) small) small, AllDigits-numeral k w)

digits_value-hex_text : (w : ℕ) → w < 2 ^ 32 → digits_value 16 (hex_text w) ≡ w
unfolding numeral
digits_value-hex_text w h =
    let value : (k : ℕ)
    → digit_value (digit_glyph true (w / 16 ^ k % 16)) ≡ w / 16 ^ k % 16 = λ k. digit_value-digit_glyph (w / 16 ^ k % 16) (omega arith) in
    rw (value 7, value 6, value 5, value 4, value 3, value 2, value 1, value 0) (omega arith)

pub hex_text-read : (w : ℕ) (read : Option ℕ) → w < 2 ^ 32 → ReadsHex (hex_text w) read → read ≡ Some w
unfolding numeral
hex_text-read w None h is = absurd (is (refl, AllDigits-numeral 8 w))
hex_text-read w (Some v) h is = ap Some (is.1 ∙ digits_value-hex_text w h)

-- ---- digits in upper case

glyph_is : (b n : ℕ) → digit_value b < 16 → b ≤ 70 → n ≡ digit_value b → digit_glyph true n ≡ b
glyph_is b n h upper is = grind (arith, nat_tests)

eight_glyphs : (a b c d e f g h : ℕ) → AllDigits 16 (a ∷ b ∷ c ∷ d ∷ e ∷ f ∷ g ∷ h ∷ []) → AreUpper (a ∷ b ∷ c ∷ d ∷ e ∷ f ∷ g ∷ h ∷ [])
    → hex_text (digits_value 16 (a ∷ b ∷ c ∷ d ∷ e ∷ f ∷ g ∷ h ∷ [])) ≡ a ∷ b ∷ c ∷ d ∷ e ∷ f ∷ g ∷ h ∷ []
unfolding numeral
eight_glyphs a b c d e f g h all upper =
    let v = digits_value 16 (a ∷ b ∷ c ∷ d ∷ e ∷ f ∷ g ∷ h ∷ []) in
    let (pa, (pb, (pc, (pd, (pe, (pf, (pg, (ph, pn)))))))) = all in
    let (ua, (ub, (uc, (ud, (ue, (uf, (ug, (uh, un)))))))) = upper in
    let ga = glyph_is a (v / 16 ^ 7 % 16) pa ua (omega arith) in
    let gb = glyph_is b (v / 16 ^ 6 % 16) pb ub (omega arith) in
    let gc = glyph_is c (v / 16 ^ 5 % 16) pc uc (omega arith) in
    let gd = glyph_is d (v / 16 ^ 4 % 16) pd ud (omega arith) in
    let ge = glyph_is e (v / 16 ^ 3 % 16) pe ue (omega arith) in
    let gf = glyph_is f (v / 16 ^ 2 % 16) pf uf (omega arith) in
    let gg = glyph_is g (v / 16 ^ 1 % 16) pg ug (omega arith) in
    let gh = glyph_is h (v / 16 ^ 0 % 16) ph uh (omega arith) in
    rw (ga, gb, gc, gd, ge, gf, gg, gh) refl

-- eight digits in upper case are the text of the word that they write
pub hex_text-read_upper : (text : List ℕ) (w : ℕ) → IsHexWord text → AreUpper text → w ≡ digits_value 16 text → text ≡ hex_text w
hex_text-read_upper text w hex upper is =
    let same =
    subst (λ (t : List ℕ). AllDigits 16 t → AreUpper t → hex_text (digits_value 16 t) ≡ t) (eight_bytes text hex.0)
    (eight_glyphs _ _ _ _ _ _ _ _) hex.1 upper in
    sym same ∙ ap hex_text (sym is)

glyph_upper : (d : ℕ) → d < 16 → digit_glyph true d ≤ 70
glyph_upper d h = grind (arith, nat_tests)

AreUpper-numeral : (k w : ℕ) → AreUpper (numeral 16 k w)
unfolding numeral
AreUpper-numeral zero w = tt
AreUpper-numeral (suc k) w = (glyph_upper (w / 16 ^ k % 16) (omega arith), AreUpper-numeral k w)

-- the text of a word is eight digits in upper case
pub hex_text-upper : (text : List ℕ) (w : ℕ) → text ≡ hex_text w → IsHexWord text × AreUpper text
unfolding numeral
hex_text-upper text w is = rw is ((refl, AllDigits-numeral 8 w), AreUpper-numeral 8 w)

pub ruleset upper_hex = (hex_text-read_upper, hex_text-upper)
