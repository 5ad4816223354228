-- What a reading will still return, by its stage (profile).
use Rattle.std.specs.Prelude.{ℕ, List, [], ◌∷◌, ◌≡◌, Option, Some, IfSome}
use Rattle.a429_word.specs.declared.tally.Tally.{Tally}
use Rattle.a429_record.specs.declared.entry.Entry.{Entry}
use Rattle.a429_record.specs.declared.fault.ReadFault.TheVariants as fault
use Rattle.a429_record.specs.declared.reading.Reading.{Reading}
use Rattle.a429_record.specs.declared.format.Format.{Format}
use Rattle.a429_record.specs.declared.format.Format.TheVariants as format
use Rattle.a429_record.specs.declared.stage.Stage.{Stage}
use Rattle.a429_record.specs.declared.stage.Stage.TheVariants as stage
use Rattle.a429_record.specs.declared.rows.RowReader.{RowReader}
use Rattle.a429_record.specs.Recording.{Recording, whole, stops}
use Rattle.a429_record.specs.WholeRecordings.{AreBinary}
use Rattle.a429_record.specs.Handed.{HasNoFaultWithin, HasNoRow, IsCut, AreLines, AreGiven, AreEntryOf, ArePieceOf}
use Rattle.a429_record.specs.Lines.{Pending, pending_of, HandsOut, FailsAfter}
use Rattle.a429_record.specs.Rows.{all_left, recording_left, chosen_form}

-- what is still to come, where the bytes are known: entries, and the fault that comes after them, if one does
abbrev pub still_to_come : {R : Type 0} → (R → Option (List ℕ)) → Stage → RowReader → Tally R → Option Recording
still_to_come remaining stage.Begins s rec = all_left remaining s rec
still_to_come remaining stage.Rows s rec = recording_left remaining s rec
still_to_come remaining stage.Ended s rec = Some (whole [])
still_to_come remaining stage.Failed s rec = Some (stops fault.Failed)

-- the bytes of the first entry are handed out, in this format, with those that come before all entries
abbrev pub AreFirstHanded : Format → Entry → List ℕ → List ℕ → Type 0
AreFirstHanded format.Text e taken rest = AreLines (AreGiven (e ∷ [])) taken rest
AreFirstHanded format.Binary e taken rest = AreBinary taken (e ∷ [])

-- the bytes of a further entry are
abbrev pub AreNextHanded : Format → Entry → List ℕ → List ℕ → Type 0
AreNextHanded format.Text e taken rest = AreLines (AreEntryOf e) taken rest
AreNextHanded format.Binary e taken rest = ArePieceOf e taken rest

-- the bytes of an entry are, by the stage of a reading
abbrev pub AreHandedAt : Stage → Format → Entry → List ℕ → List ℕ → Type 0
AreHandedAt stage.Begins f e taken rest = AreFirstHanded f e taken rest
AreHandedAt stage.Rows f e taken rest = AreNextHanded f e taken rest
AreHandedAt stage.Ended f e taken rest = ⊥
AreHandedAt stage.Failed f e taken rest = ⊥

-- what is handed out makes no fault after so many entries, in this format: the lines of a text that have their line feed are no row,
-- and of a binary recording it is at most a prefix of an entry
abbrev pub MakesNoFault : ℕ → Format → ℕ → List ℕ → Type 0
MakesNoFault most format.Text count taken = HasNoRow taken
MakesNoFault most format.Binary count taken = IsCut most count taken

-- a reader of rows fails before the next: what it has returned until then is so
abbrev pub FailsNext : {R : Type 0} → (R → Option (List ℕ)) → RowReader → Tally R → Tally R → Type 0
FailsNext remaining old rec new_rec = FailsAfter (MakesNoFault old.most old.format old.count) remaining old.lines rec new_rec

-- by the stage of a reading: before all entries in either format
abbrev pub PassesAt : ℕ → Stage → Format → ℕ → List ℕ → Type 0
PassesAt most stage.Begins f count taken = HasNoFaultWithin most taken
PassesAt most stage.Rows f count taken = MakesNoFault most f count taken
PassesAt most stage.Ended f count taken = ⊥
PassesAt most stage.Failed f count taken = ⊥

-- known bytes choose this format
abbrev pub IsChosen : Option (List ℕ) → Format → Type 0
IsChosen bytes f = IfSome bytes (λ known. f ≡ chosen_form known)

-- the format is the one that the bytes choose, and then it stays
abbrev pub IsFormatAfter : Stage → Format → Option (List ℕ) → Format → Type 0
IsFormatAfter stage.Begins old bytes new = IsChosen bytes new
IsFormatAfter stage.Rows old bytes new = new ≡ old
IsFormatAfter stage.Ended old bytes new = new ≡ old
IsFormatAfter stage.Failed old bytes new = new ≡ old

-- what is still to come of a reading
abbrev pub left_to_come : {R : Type 0} → (R → Option (List ℕ)) → Reading → Tally R → Option Recording
left_to_come remaining reading rec = still_to_come remaining reading.stage reading.rows rec

-- the bytes of an entry are passed
abbrev pub HandsEntry : Reading → Reading → Pending → Entry → Type 0
HandsEntry old new p e = HandsOut (AreHandedAt old.stage new.rows.format e) p

-- the reader fails: nothing that was returned until then makes a fault
abbrev pub FailsAfterRows : {R : Type 0} → (R → Option (List ℕ)) → Reading → Tally R → Tally R → Type 0
FailsAfterRows remaining old rec new_rec = FailsAfter (PassesAt old.rows.most old.stage old.rows.format old.rows.count) remaining old.rows.lines rec new_rec

-- the format of what comes is chosen, or stays
abbrev pub KeepsFormat : {R : Type 0} → (R → Option (List ℕ)) → Reading → Tally R → Reading → Type 0
KeepsFormat remaining old rec new = IsFormatAfter old.stage old.rows.format (pending_of remaining old.rows.lines rec) new.rows.format
