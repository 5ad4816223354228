-- How a fraction is written (profile): the shortest decimal text that has its value.
use Rattle.std.specs.Prelude.{ℕ, ◌*◌, ◌^◌, ◌≡◌, ◌≢◌, ◌↔◌, Bool, true, false, List, [], ◌∷◌, ◌++◌, length, codes, ℤ, pos, ◌<ℤ◌, unsigned_abs}
use Rattle.std.specs.Char.{digit_value}
use Rattle.std.specs.Str.Parse.{digits_value, AllDigits}
use Rattle.a429_word.specs.declared.fixed.Fixed.{Fixed}

-- a minus sign or none
abbrev pub sign_text : Bool → List ℕ
sign_text true = codes "-"
sign_text false = []

-- a point and then the decimals, and no point where there are none
abbrev pub with_point : List ℕ → List ℕ
with_point [] = []
with_point (c ∷ cs) = codes "." ++ c ∷ cs

-- digits before a point: at least one, and the first is not 0 where there are more
abbrev pub IsWholePart : List ℕ → Type 0
IsWholePart [] = ⊥
IsWholePart (c ∷ []) = Unit {0}
IsWholePart (c ∷ d ∷ cs) = digit_value c ≢ 0

-- digits after a point: the last, if there is one, is not 0
abbrev pub EndsWell : List ℕ → Type 0
EndsWell [] = Unit {0}
EndsWell (c ∷ []) = digit_value c ≢ 0
EndsWell (c ∷ d ∷ cs) = EndsWell (d ∷ cs)

-- the text is the spelling of the fraction number / 10 ^ decimals
pub record SpellsFraction (text : List ℕ) (number : ℤ) (decimals : ℕ) : Type 0 where
  -- its shape
  pub minus : Bool
  pub whole : List ℕ
  pub part : List ℕ
  pub layout : text ≡ sign_text minus ++ (whole ++ with_point part)
  pub digits : AllDigits 10 (whole ++ part)
  pub leading : IsWholePart whole
  pub trailing : EndsWell part
  -- a minus sign where the fraction is below zero, and only there
  pub sign : (minus ≡ true) ↔ (number <ℤ pos 0)
  -- its value: all its digits as one number, over 10 ^ (how many of them come after the point)
  pub value : digits_value 10 (whole ++ part) * 10 ^ decimals ≡ unsigned_abs number * 10 ^ length part

-- the spelling of a fraction is so
abbrev pub SpelledSo : Fixed → (List ℕ → Type 0) → Type 0
SpelledSo f P = (text : List ℕ) × SpellsFraction text f.number f.decimals × P text
