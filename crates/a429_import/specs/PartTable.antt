-- A table of `part`, and what is wrong with it (profile).
use Rattle.std.specs.Prelude.{ℕ, ◌+◌, List, [], ◌∷◌, Bool, nat_le, Option, Some, None, unwrap_or, if◌then◌else◌}
use Rattle.toml.specs.Data.{Members}
use Rattle.a429_profile.specs.Value.{text_of_value, number_of_value, truth_of_value}
use Rattle.a429_import.specs.declared.base.Base.TheVariants as bases
use Rattle.a429_import.specs.declared.fault.MapFault.{MapFault}
use Rattle.a429_import.specs.declared.fault.MapFault.TheVariants.{OutOfRange}
use Rattle.a429_import.specs.declared.key.Key.TheVariants as at
use Rattle.a429_import.specs.declared.key.PartKey.{PartKey}
use Rattle.a429_import.specs.declared.key.PartKey.TheVariants as part
use Rattle.a429_import.specs.declared.part.Part.{Part}
use Rattle.a429_import.specs.declared.part_table.Digits.{Digits}
use Rattle.a429_import.specs.declared.part_table.Others.{Others}
use Rattle.a429_import.specs.declared.piece.Piece.{Piece}
use Rattle.a429_import.specs.Fault.{first_or}
use Rattle.a429_import.specs.Key.{part_value, first_part_fault}
use Rattle.a429_import.specs.Value.{base_of, split_of, column_of_value}

-- its keys up to the bits, and what they say
abbrev pub digits_keys : List PartKey
digits_keys = part.Column ∷ part.Base ∷ part.Low ∷ part.Bits ∷ []

abbrev pub digits_in_table : Bool → Members → Digits
digits_in_table header ms = record {
  column = column_of_value header (part_value header ms part.Column);
  base = unwrap_or (base_of (number_of_value (part_value header ms part.Base))) bases.Binary;
  low = number_of_value (part_value header ms part.Low);
  count = number_of_value (part_value header ms part.Bits);
}

-- those after them
abbrev pub other_keys : List PartKey
other_keys = part.Reversed ∷ part.Prefix ∷ part.Split ∷ part.Piece ∷ []

-- the piece that is cut out at this byte, if a field is cut
abbrev pub piece_of : Option ℕ → ℕ → Option Piece
piece_of None n = None
piece_of (Some b) n = Some (record { at = b; number = n })

abbrev pub others_in_table : Bool → Members → Others
others_in_table header ms = record {
  reversed = truth_of_value (part_value header ms part.Reversed);
  prefix = text_of_value (part_value header ms part.Prefix);
  piece = piece_of (split_of (text_of_value (part_value header ms part.Split))) (number_of_value (part_value header ms part.Piece));
}

-- the part that they describe
abbrev pub joined : Digits → Others → Part
joined d o = record {
  column = d.column;
  base = d.base;
  bits = record { low = d.low; count = d.count; reversed = o.reversed };
  prefix = o.prefix;
  piece = o.piece;
}

abbrev pub part_in_table : Bool → Members → Part
part_in_table header ms = joined (digits_in_table header ms) (others_in_table header ms)

-- a part may not go beyond bit 32
abbrev pub beyond_fault : ℕ → Digits → Option MapFault
beyond_fault i d = if nat_le (d.low + d.count) 33 then None else Some (OutOfRange (at.Part i part.Bits))

-- the first fault of the table at the position i: of its keys up to the bits, of the bits, and of the other keys
abbrev pub table_fault : Bool → ℕ → Members → Option MapFault
table_fault header i ms =
    first_or (first_part_fault header i ms digits_keys) (first_or (beyond_fault i (digits_in_table header ms)) (first_part_fault header i ms other_keys))
