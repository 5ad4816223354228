-- The text recording of the words of one direction, and what was counted (profile).
use Rattle.std.specs.Prelude.{◌≡◌, ℕ, false, List, [], ◌∷◌, length, Option, IfSome}
use Rattle.a429_word.specs.declared.sheet.Sheet.{Sheet}
use Rattle.a429_word.specs.Sheet.{Says, sheet_failed}
use Rattle.a429_profile.specs.declared.codes.Codes.{Codes}
use Rattle.a429_record.specs.declared.entry.Entry.{Entry}
use Rattle.a429_record.specs.declared.fault.ReadFault.{ReadFault}
use Rattle.a429_record.specs.Recording.{Recording, whole}
use Rattle.a429_record.specs.Rows.{Stops}
use Rattle.a429_record.specs.Writing.{written_form}
use Rattle.a429_parts.specs.Keeping.{BeginsWith, Taken, with_entries}
use Rattle.a429_side.specs.declared.counts.Counts.{Counts}
use Rattle.a429_side.specs.declared.lot.Side.{Side}
use Rattle.a429_side.specs.Counts.{AreCounts}
use Rattle.a429_side.specs.Side.{lots_of, side_of}

-- what is asked for: the words of one direction, of a recording
pub record Asked : Type 0 where
  pub codes : Codes
  pub side : Side
  pub taken : Taken

-- the text recording of the words of one direction
abbrev pub side_text : Codes → Side → List Entry → List ℕ
side_text c s entries = written_form (side_of c s entries)

-- the same, and nothing where there is no entry
abbrev pub side_text_before : Codes → Side → List Entry → List ℕ
side_text_before c s [] = []
side_text_before c s (e ∷ es) = side_text c s (e ∷ es)

-- the sheet says the text of what is written of the first entries, and the counts are theirs; they are all of the recording, which has no
-- fault, and all that were handed out, unless the sheet has failed
pub record SidesAll {W : Type 0} (contents : W → Option (List ℕ)) (a : Asked) (old new : Sheet W) (counts : Counts) : Type 0 where
  pub entries : List Entry
  pub says : Says contents old new (side_text a.codes a.side entries)
  pub counted : AreCounts counts (lots_of a.codes a.side entries)
  pub first : BeginsWith a.taken.recording entries
  pub all : sheet_failed new ≡ false → IfSome a.taken.recording (λ r. r ≡ whole entries)
  pub came : sheet_failed new ≡ false → a.taken.given ≡ length entries

-- the sheet says the text of what is written of the entries before a fault, which is the recording's next where it is one of the recording;
-- they are all that were handed out
pub record SidesUntil {W : Type 0} (contents : W → Option (List ℕ)) (a : Asked) (old new : Sheet W) (fault : ReadFault) : Type 0 where
  pub entries : List Entry
  pub came : a.taken.given ≡ length entries
  pub says : Says contents old new (side_text_before a.codes a.side entries)
  pub stops : IfSome a.taken.recording (λ r. (rest : Recording) × (r ≡ with_entries entries rest) × Stops fault rest)
