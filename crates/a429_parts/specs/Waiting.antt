-- The lines in which entries are held (profile).
use Rattle.std.specs.Prelude.{◌≡◌, ◌≤◌, ℕ, List, [], ◌∷◌, length, map, take, flat_map, Option, Some, None}
use Rattle.a429_record.specs.declared.entry.Entry.{Entry}
use Rattle.a429_record.specs.Row.{entry_in}
use Rattle.a429_record.specs.Recording.{rows_of}
use Rattle.a429_record.specs.WholeRecordings.{AreEntries}
use Rattle.a429_record.specs.Writing.{line_text}
use Rattle.a429_parts.specs.declared.waiting.LineEnd.{LineEnd}

-- the entries among these, in order
abbrev pub somes : List (Option Entry) → List Entry
somes [] = []
somes (Some e ∷ os) = e ∷ somes os
somes (None ∷ os) = somes os

-- the entries of lines
abbrev pub entries_of : List ℕ → List Entry
entries_of lines = somes (map entry_in (rows_of lines))

-- lines are those that are written of their entries
abbrev pub AreWritten : List ℕ → Type 0
AreWritten lines = (lines ≡ flat_map line_text (entries_of lines)) × AreEntries (entries_of lines)

-- how many bytes the lines of the first n entries have
abbrev pub size_of : ℕ → List Entry → ℕ
size_of n es = length (flat_map line_text (take n es))

-- where some of the first lines end: as many lines as there are, at most, and the number of their bytes
abbrev pub IsLineEnd : List ℕ → LineEnd → Type 0
IsLineEnd lines end = (end.lines ≤ length (entries_of lines)) × (end.bytes ≡ size_of end.lines (entries_of lines))
