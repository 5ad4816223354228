-- Parts of words (profile).
use Rattle.std.specs.Prelude.{ℕ, List, Option, option_map}
use Rattle.std.specs.Option.{option_and_then}
use Rattle.a429_import.specs.declared.part.Part.{Part}
use Rattle.a429_import.specs.Base.{radix_of, number_in}
use Rattle.a429_import.specs.Piece.{IsPieceCounted, cut_out, without_prefix}
use Rattle.a429_import.specs.Bits.{AreInWord, placed}

-- its bits are some of the 32, and its piece is counted from 1
pub record IsSoundPart (p : Part) : Type 0 where
  pub bits : AreInWord p.bits
  pub piece : IsPieceCounted p.piece

-- the number that a field writes, after the prefix
abbrev pub number_of_part : Part → List ℕ → Option ℕ
number_of_part p text = option_and_then (number_in (radix_of p.base) p.bits.count) (without_prefix p.prefix text)

-- the bits of a word that a field of a part's column has
abbrev pub part_in : Part → List ℕ → Option ℕ
part_in p field = option_map (placed p.bits) (option_and_then (number_of_part p) (cut_out p.piece field))
