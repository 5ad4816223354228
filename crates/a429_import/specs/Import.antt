-- The entries that the lines of an export are (profile): one recursion over the lines.
use Rattle.std.specs.Prelude.{ℕ, ◌+◌, List, [], ◌∷◌, bytes_eq, length, take, nat_lt, Bool, false, Option, Some, None, Result, Ok, Err, if◌then◌else◌}
use Rattle.std.specs.List.{list_all}
use Rattle.a429_record.specs.declared.entry.Entry.{Entry}
use Rattle.a429_record.specs.Recording.{recording_lines}
use Rattle.a429_import.specs.declared.columns.Columns.{Columns}
use Rattle.a429_import.specs.declared.fault.ExportFault.{ExportFault}
use Rattle.a429_import.specs.declared.fault.ExportFault.TheVariants as fault
use Rattle.a429_import.specs.declared.lot.Lot.{Lot}
use Rattle.a429_import.specs.declared.lot.Lot.TheVariants as lot
use Rattle.a429_import.specs.declared.map.Map.{Map}
use Rattle.a429_import.specs.declared.past.Past.{Past}
use Rattle.a429_import.specs.declared.progress.Progress.{Progress}
use Rattle.a429_import.specs.declared.repeats.RepeatRule.{RepeatRule}
use Rattle.a429_import.specs.Columns.{columns_in, field_at}
use Rattle.a429_import.specs.Fields.{fields_in, is_blank, text_of}
use Rattle.a429_import.specs.Past.{no_past, past_with}
use Rattle.a429_import.specs.Row.{row_lot}
use Rattle.a429_import.specs.Texts.{has_text}

-- ---- one line

-- a line begins with what comments begin with; with nothing, none is one
abbrev pub is_comment : List ℕ → List ℕ → Bool
is_comment [] text = false
is_comment (c ∷ cs) text = bytes_eq (take (length (c ∷ cs)) text) (c ∷ cs)

-- a line with fields, before the columns are known and after it
abbrev pub fields_lot : Map → Progress → Option Columns → List (List ℕ) → Result Lot ExportFault
fields_lot m s None fields = Ok lot.Heading
fields_lot m s (Some c) fields =
    if has_text m.rows.pass (field_at fields 0) then Ok lot.RowPassed else row_lot m c (s.lines + 1) s.past fields

-- what becomes of a line: the first of these that fits
abbrev pub lot_of : Map → Progress → List ℕ → Result Lot ExportFault
lot_of m s line =
    if nat_lt s.lines m.rows.skip then Ok lot.Skipped
    else if list_all is_blank (text_of line) then Ok lot.Empty
    else if is_comment m.rows.comment (text_of line) then Ok lot.Comment
    else fields_lot m s s.columns (fields_in m.rows line)

-- the columns are known from the first line on that has them all
abbrev pub first_known : Option Columns → Option Columns → Option Columns
first_known None found = found
first_known (Some c) found = Some c

abbrev pub columns_with : Map → Option Columns → List (List ℕ) → Lot → Option Columns
columns_with m known fields lot.Heading = first_known known (columns_in m fields)
columns_with m known fields _ = known

abbrev pub past_after : RepeatRule → Past → Lot → Past
past_after r p (lot.Written e is_cut v mend) = past_with r p e mend
past_after r p _ = p

abbrev pub progress_after : Map → Progress → List ℕ → Lot → Progress
progress_after m s line l = record { lines = s.lines + 1; columns = columns_with m s.columns (fields_in m.rows line) l; past = past_after m.repeats s.past l }

-- ---- all lines

-- what becomes of the lines, up to the fault that ends them, if one does
pub record Imported : Type 0 where
  pub lots : List Lot
  pub fault : Option ExportFault

abbrev pub with_lot : Lot → Imported → Imported
with_lot l i = record { lots = l ∷ i.lots; fault = i.fault }

-- at the end the columns must be known
abbrev pub at_end : Option Columns → Imported
at_end None = record { lots = []; fault = Some fault.Header }
at_end (Some c) = record { lots = []; fault = None }

abbrev pub goes_on : Result Lot ExportFault → (Lot → Imported) → Imported
goes_on (Err f) more = record { lots = []; fault = Some f }
goes_on (Ok l) more = with_lot l (more l)

abbrev pub imported_after : Map → Progress → List (List ℕ) → Imported
imported_after m s [] = at_end s.columns
imported_after m s (line ∷ lines) = goes_on (lot_of m s line) (λ l. imported_after m (progress_after m s line l) lines)

-- where no row names the columns, they are known from the start
abbrev pub first_columns : Map → Option Columns
first_columns m = if m.rows.header then None else columns_in m []

-- before the first line
abbrev pub at_start : Map → Progress
at_start m = record { lines = 0; columns = first_columns m; past = no_past }

-- the lines of an export, cut at line feeds, imported
abbrev pub imported : Map → List ℕ → Imported
imported m bytes = imported_after m (at_start m) (recording_lines bytes)

-- ---- the entries

abbrev pub entry_before : Lot → List Entry → List Entry
entry_before (lot.Written e is_cut v mend) es = e ∷ es
entry_before _ es = es

-- the entries that these lines became
abbrev pub entries_of : List Lot → List Entry
entries_of [] = []
entries_of (l ∷ lots) = entry_before l (entries_of lots)
