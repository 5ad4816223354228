-- Numbers in digits of a base (profile).
use Rattle.std.specs.Prelude.{ℕ, ◌^◌, List, length, ◌&&◌, nat_le, nat_lt, Option, Some, None, if◌then◌else◌}
use Rattle.std.specs.Str.Parse.{digits_value}
use Rattle.a429_record.specs.Row.{all_digits}
use Rattle.a429_import.specs.declared.base.Base.{Base}
use Rattle.a429_import.specs.declared.base.Base.TheVariants as base

-- how many digits a base has
abbrev pub radix_of : Base → ℕ
radix_of base.Binary = 2
radix_of base.Octal = 8
radix_of base.Decimal = 10
radix_of base.Hexadecimal = 16

-- the number of so many bits that a text writes: one digit or more, and nothing else
abbrev pub number_in : ℕ → ℕ → List ℕ → Option ℕ
number_in radix bits text =
    if nat_le 1 (length text) && all_digits radix text && nat_lt (digits_value radix text) (2 ^ bits)
    then Some (digits_value radix text) else None
