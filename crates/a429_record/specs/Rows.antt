-- What a reader of rows will still return (profile).
use Rattle.std.specs.Prelude.{◌≡◌, ◌≤◌, ◌<◌, ◌^◌, ◌+◌, ℕ, List, [], ◌∷◌, if◌then◌else◌, Option, Some, None, option_map, Result, Ok, Err, IfOk, IfSome, ⊤}
use Rattle.a429_word.specs.declared.tally.Tally.{Tally}
use Rattle.a429_record.specs.declared.entry.Entry.{Entry}
use Rattle.a429_record.specs.declared.fault.ReadFault.{ReadFault}
use Rattle.a429_record.specs.declared.fault.ReadFault.TheVariants as fault
use Rattle.a429_record.specs.declared.rows.RowReader.{RowReader}
use Rattle.a429_record.specs.declared.format.Format.{Format}
use Rattle.a429_record.specs.declared.format.Format.TheVariants as format
use Rattle.a429_record.specs.Row.{Row}
use Rattle.a429_record.specs.Binary.{is_binary, piece_entries}
use Rattle.a429_record.specs.Recording.{Recording, rows_of, whole, stops, with_entry, entries_stand_for, rows_stand_for, all_rows_stand_for, stands_within}
use Rattle.a429_record.specs.Lines.{ahead_of, pending_of}

-- no entry was returned
abbrev pub IsUncounted : RowReader → Type 0
IsUncounted s = (s.count ≡ 0) × (s.last ≡ 0)

-- and nothing was read
abbrev pub IsFresh : RowReader → Type 0
IsFresh s = IsUncounted s × (ahead_of s.lines ≡ [])

-- the rows of a text that are left, where the bytes are known
abbrev pub rows_left : {R : Type 0} → (R → Option (List ℕ)) → RowReader → Tally R → Option (List Row)
rows_left remaining s rec = option_map rows_of (pending_of remaining s.lines rec)

-- what rows with these entries, or with none, stand for after the entries that were returned
abbrev pub stands_from : RowReader → List (Option Entry) → Recording
stands_from s = entries_stand_for s.most s.count s.last

-- what the rows of a text that are left stand for
abbrev pub text_left : {R : Type 0} → (R → Option (List ℕ)) → RowReader → Tally R → Option Recording
text_left remaining s rec = option_map (rows_stand_for s.most s.count s.last) (rows_left remaining s rec)

-- what the pieces of a binary recording that are left stand for
abbrev pub binary_left : {R : Type 0} → (R → Option (List ℕ)) → RowReader → Tally R → Option Recording
binary_left remaining s rec = option_map (λ bytes. stands_from s (piece_entries bytes)) (pending_of remaining s.lines rec)

-- what is left stands for, in either format
abbrev pub left_in : {R : Type 0} → (R → Option (List ℕ)) → Format → RowReader → Tally R → Option Recording
left_in remaining format.Text s rec = text_left remaining s rec
left_in remaining format.Binary s rec = binary_left remaining s rec

abbrev pub recording_left : {R : Type 0} → (R → Option (List ℕ)) → RowReader → Tally R → Option Recording
recording_left remaining s rec = left_in remaining s.format s rec

-- what all bytes stand for, where nothing was returned
abbrev pub all_left : {R : Type 0} → (R → Option (List ℕ)) → RowReader → Tally R → Option Recording
all_left remaining s rec = option_map (stands_within s.most) (pending_of remaining s.lines rec)

-- the format that bytes choose
abbrev pub chosen_form : List ℕ → Format
chosen_form bytes = if is_binary bytes then format.Binary else format.Text

-- a fault is all that is left, unless it is a failed device or out of memory
abbrev pub Stops : ReadFault → Recording → Type 0
Stops fault.Device t = ⊤
Stops fault.OutOfMemory t = ⊤
Stops fault.Header t = t ≡ stops fault.Header
Stops (fault.Row i) t = t ≡ stops (fault.Row i)
Stops (fault.TimeBack i) t = t ≡ stops (fault.TimeBack i)
Stops fault.TooMany t = t ≡ stops fault.TooMany
Stops fault.Failed t = t ≡ stops fault.Failed

-- the header is taken from known rows
abbrev pub TakesHeader : ℕ → Option (List Row) → Option (List Row) → Result (Unit {0}) ReadFault → Type 0
TakesHeader most None new r = ⊤
TakesHeader most (Some rows) new (Ok u) = (more : List Row) × (new ≡ Some more) × (all_rows_stand_for most rows ≡ rows_stand_for most 0 0 more)
TakesHeader most (Some rows) new (Err f) = Stops f (all_rows_stand_for most rows)

-- an answer is the next entry, the end or the fault of what is left, and after an entry the rest is left
abbrev pub GivesNext : Option Recording → Option Recording → Result (Option Entry) ReadFault → Type 0
GivesNext None new r = ⊤
GivesNext (Some t) new (Ok (Some e)) = (u : Recording) × (new ≡ Some u) × (t ≡ with_entry e u)
GivesNext (Some t) new (Ok None) = t ≡ whole []
GivesNext (Some t) new (Err f) = Stops f t

-- what all rows of a text mean, the header's first
abbrev pub first_left : {R : Type 0} → (R → Option (List ℕ)) → RowReader → Tally R → Option Recording
first_left remaining s rec = option_map (all_rows_stand_for s.most) (rows_left remaining s rec)

-- an answer is that to a row with this entry, or with none, whatever rows come after it
abbrev pub GivesRow : RowReader → Option Entry → RowReader → Result (Option Entry) ReadFault → Type 0
GivesRow old entry new r = (more : List (Option Entry)) → GivesNext (Some (stands_from old (entry ∷ more))) (Some (stands_from new more)) r

-- where the answer is an entry, it is so
abbrev pub IfEntry : Result (Option Entry) ReadFault → (Entry → Type 0) → Type 0
IfEntry answer P = IfOk answer (λ o. IfSome o P)

-- how many entries an answer has
abbrev pub entries_in : Result (Option Entry) ReadFault → ℕ
entries_in (Ok (Some e)) = 1
entries_in (Ok None) = 0
entries_in (Err f) = 0

-- an entry is returned, no earlier than the last one, and is then the last one; the limit of entries stays, and their number fits in 64
-- bits
abbrev pub Follows : RowReader → RowReader → Entry → Type 0
Follows old new e = (old.last ≤ e.time) × (new.last ≡ e.time) × (new.count ≡ old.count + 1) × (new.most ≡ old.most) × (new.count < 2 ^ 64)
