-- What the code finds in a line of a recording (profile).
use Rattle.std.specs.Prelude.{◌≡◌, ℕ, List, [], ◌∷◌, ◌++◌, map, Option, Some, None}
use Rattle.csv.specs.Records.{fields_of}
use Rattle.a429_record.specs.declared.entry.Entry.{Entry}
use Rattle.a429_record.specs.declared.line.LineRow.{LineRow}
use Rattle.a429_record.specs.declared.line.LineRow.TheVariants as row
use Rattle.a429_record.specs.declared.line.LineEntry.{LineEntry}
use Rattle.a429_record.specs.declared.line.LineEntry.TheVariants as entry
use Rattle.a429_record.specs.Ends.{HasNoEnd}
use Rattle.a429_record.specs.Row.{Row, line_rows, entry_in}

-- the rows of a line, as entries
abbrev pub line_entries : List ℕ → List (Option Entry)
line_entries line = map entry_in (line_rows line)

-- the rows that were found
abbrev pub found_rows : LineRow → List Row
found_rows row.Blank = []
found_rows (row.One fields) = Some (fields_of fields) ∷ []
found_rows row.Several = None ∷ []

-- the entries that were found
abbrev pub found_entries : LineEntry → List (Option Entry)
found_entries entry.Blank = []
found_entries (entry.One e) = Some e ∷ []
found_entries entry.Bad = None ∷ []

-- the bytes that were read lose a line with this entry and its line feed
abbrev pub GivesEntry : List ℕ → List ℕ → Entry → Type 0
GivesEntry old new e = (line : List ℕ) × HasNoEnd line × (line_entries line ≡ Some e ∷ []) × (old ≡ (line ++ 10 ∷ []) ++ new)
