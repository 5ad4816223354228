-- The text recording of the entries that are kept (profile).
use Rattle.std.specs.Prelude.{◌≡◌, ◌==◌, ◌-◌, ℕ, false, if◌then◌else◌, List, [], ◌∷◌, ◌++◌, length, Option, IfSome}
use Rattle.a429_word.specs.declared.sheet.Sheet.{Sheet}
use Rattle.a429_word.specs.Sheet.{Says, sheet_failed}
use Rattle.a429_word.specs.Word.{label_of}
use Rattle.a429_profile.specs.declared.codes.Codes.{Codes}
use Rattle.a429_ldu.specs.Form.{address_of}
use Rattle.a429_record.specs.declared.entry.Entry.{Entry}
use Rattle.a429_record.specs.declared.fault.ReadFault.{ReadFault}
use Rattle.a429_record.specs.Recording.{Recording, whole}
use Rattle.a429_record.specs.Entries.{EntriesLeft}
use Rattle.a429_record.specs.Rows.{Stops}
use Rattle.a429_record.specs.Writing.{line_text, written_form}
use Rattle.a429_parts.specs.Kept.{kept}

-- the line of an entry that is kept
abbrev pub kept_line : Codes → Entry → List ℕ
kept_line c e = if label_of e.word == address_of c e.bus then line_text e else []

-- the text recording of the entries that are kept
abbrev pub kept_text : Codes → List Entry → List ℕ
kept_text c entries = written_form (kept c entries)

-- the same, and nothing where there is no entry
abbrev pub kept_text_before : Codes → List Entry → List ℕ
kept_text_before c [] = []
kept_text_before c (e ∷ es) = kept_text c (e ∷ es)

-- a recording whose first entries are these
abbrev pub with_entries : List Entry → Recording → Recording
with_entries es rest = record { entries = es ++ rest.entries; fault = rest.fault }

-- a recording that was to come, and how many of its entries were handed out
pub record Taken : Type 0 where
  pub recording : Option Recording
  pub given : ℕ

abbrev pub taken : EntriesLeft → EntriesLeft → Taken
taken old new = record { recording = old.to_come; given = new.count - old.count }

-- a recording begins with these entries
abbrev pub BeginsWith : Option Recording → List Entry → Type 0
BeginsWith recording es = IfSome recording (λ r. (rest : Recording) × (r ≡ with_entries es rest))

-- the sheet says the text of the first entries that are kept; they are all of the recording, which has no fault, and all that were handed out, unless the sheet has failed
pub record KeepsAll {W : Type 0} (contents : W → Option (List ℕ)) (c : Codes) (t : Taken) (old new : Sheet W) : Type 0 where
  pub entries : List Entry
  pub says : Says contents old new (kept_text c entries)
  pub first : BeginsWith t.recording entries
  pub all : sheet_failed new ≡ false → IfSome t.recording (λ r. r ≡ whole entries)
  pub came : sheet_failed new ≡ false → t.given ≡ length entries

-- the sheet says the text of the entries that are kept before a fault, which is the recording's next where it is one of the recording; they are all that were handed out
pub record KeepsUntil {W : Type 0} (contents : W → Option (List ℕ)) (c : Codes) (t : Taken) (old new : Sheet W) (fault : ReadFault) : Type 0 where
  pub entries : List Entry
  pub came : t.given ≡ length entries
  pub says : Says contents old new (kept_text_before c entries)
  pub stops : IfSome t.recording (λ r. (rest : Recording) × (r ≡ with_entries entries rest) × Stops fault rest)
