-- The values of bytes as hexadecimal digits, tabulated.
use Rattle.std.proofs.Common.{◌≡◌, ℕ, ◌<◌, ◌≤◌, ◌↔◌, ◌∙◌, ap, get_or, arith}
use Rattle.std.specs.Prelude.{if◌then◌else◌, nat_lt}
use Rattle.std.specs.Char.{digit_value}
use Rattle.std.proofs.lemmas.Bool.Decides.{nat_tests}
use Rattle.a429_word.specs.declared.digits.Letters.{Letters}
use Rattle.a429_word.specs.declared.digits.Letters.TheVariants.{Either, Upper}
use Rattle.a429_word.proofs.Tables.{tabulated, tabulated-at}

-- what `hex_value` promises
pub record IsHexValue (letters : Letters) (b n : ℕ) : Type 0 where
  pub digit : n < 65536 ↔ (digit_value b < 16) × (letters ≡ Upper → b ≤ 70)
  pub value : n < 65536 → n ≡ digit_value b
  pub most : n ≤ 65536

-- a digit's value, and a number above all that four digits write where it is no digit
abbrev or_none : ℕ → ℕ
or_none x = if nat_lt x 16 then x else 65536

-- what `hex_value` returns for a byte
abbrev value_or_none : Letters → ℕ → ℕ
value_or_none Either b = or_none (digit_value b)
value_or_none Upper b = if nat_lt b 71 then or_none (digit_value b) else 65536

value_or_none-is : (letters : Letters) (b : ℕ) → IsHexValue letters b (value_or_none letters b)
value_or_none-is Either b = grind (arith, nat_tests)
value_or_none-is Upper b = grind (arith, nat_tests)

-- and what a table of that has at it
pub tabulated-is : (letters : Letters) (b i : ℕ)
    → b < 256 → i ≡ b → IsHexValue letters b (get_or (tabulated (value_or_none letters) 0 256) i 0)
tabulated-is letters b i small is =
    let at = tabulated-at (value_or_none letters) 256 i (omega arith) ∙ ap (value_or_none letters) is in
    rw at (value_or_none-is letters b)
