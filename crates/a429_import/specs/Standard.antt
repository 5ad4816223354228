-- The map of a recording in the standard form (profile), as this program writes one.
use Rattle.std.specs.Prelude.{◌≡◌, [], ◌∷◌, List, codes, true, false, None}
use Rattle.a429_record.specs.declared.entry.Entry.{Entry}
use Rattle.a429_import.specs.declared.base.Base.TheVariants as base
use Rattle.a429_import.specs.declared.column.Column.TheVariants as column
use Rattle.a429_import.specs.declared.map.Map.{Map}
use Rattle.a429_import.specs.declared.map.Separator.TheVariants as separator
use Rattle.a429_import.specs.declared.parity.ParityBit.TheVariants as bit_32
use Rattle.a429_import.specs.declared.time.TimeForm.TheVariants as form
use Rattle.a429_import.specs.declared.time.Unit.TheVariants as unit
use Rattle.a429_import.specs.Import.{Imported, entries_of}

-- the map of the form in which this program writes recordings
abbrev pub standard_map : Map
standard_map = record {
  rows = record { separator = separator.Byte 44; header = true; quotes = true; skip = 0; comment = []; pass = [] };
  time = record { column = column.Name (codes "time"); form = form.Integer; unit = unit.Microsecond; order = record { wraps_at = 0; back = 0; resets = false } };
  channels = record { column = column.Name (codes "bus"); a = codes "A" ∷ []; b = codes "B" ∷ []; pass = []; pass_others = false };
  turning = record { bytes = false; label = false };
  repeats = record { within = 0; among = 0 };
  parity = bit_32.Received;
  parts = record { column = column.Name (codes "word"); base = base.Hexadecimal; bits = record { low = 1; count = 32; reversed = false }; prefix = []; piece = None } ∷ [];
}

-- an import that has these entries, and no fault
pub record Keeps (es : List Entry) (i : Imported) : Type 0 where
  pub entries : entries_of i.lots ≡ es
  pub fault : i.fault ≡ None
