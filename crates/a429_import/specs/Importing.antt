-- The recording that an export becomes, and what was counted (profile).
use Rattle.std.specs.Prelude.{◌≡◌, ℕ, false, List, [], ◌∷◌, Option, Some, None, Result, Ok, Err, IfSome, ⊤}
use Rattle.a429_word.specs.declared.sheet.Sheet.{Sheet}
use Rattle.a429_word.specs.Sheet.{Says, sheet_failed}
use Rattle.a429_record.specs.Writing.{written_form}
use Rattle.a429_import.specs.declared.import.Import.{Import}
use Rattle.a429_import.specs.declared.fault.ExportFault.{ExportFault}
use Rattle.a429_import.specs.declared.fault.ImportFault.{ImportFault}
use Rattle.a429_import.specs.declared.fault.ImportFault.TheVariants as fault
use Rattle.a429_import.specs.declared.lot.Lot.{Lot}
use Rattle.a429_import.specs.declared.map.Map.{Map}
use Rattle.a429_import.specs.Counts.{AreCounts}
use Rattle.a429_import.specs.Places.{places_of}
use Rattle.a429_import.specs.Import.{Imported, entries_of, imported, with_lot}

-- what is asked for: an export, where its bytes are known, by a map
pub record Asked : Type 0 where
  pub map : Map
  pub bytes : Option (List ℕ)

-- the text recording of lines of which this becomes
abbrev pub lots_text : List Lot → List ℕ
lots_text lots = written_form (entries_of lots)

-- these come first
abbrev pub with_lots : List Lot → Imported → Imported
with_lots [] rest = rest
with_lots (l ∷ lots) rest = with_lot l (with_lots lots rest)

abbrev pub BeginsWith : List Lot → Imported → Type 0
BeginsWith lots i = (rest : Imported) × (i ≡ with_lots lots rest)

-- counts and places are those of lines of which this becomes
pub record AreImported (i : Import) (lots : List Lot) : Type 0 where
  pub counts : AreCounts i.counts lots
  pub places : i.places.items ≡ places_of lots

-- a fault of the export is the one that comes after these lines; at any other, they are the first of it
abbrev pub Stops : ImportFault → List Lot → Imported → Type 0
Stops (fault.Export f) lots i = i ≡ record { lots = lots; fault = Some f }
Stops fault.Device lots i = BeginsWith lots i
Stops fault.OutOfMemory lots i = BeginsWith lots i

-- the sheet says the recording of the first lines, and counts and places are theirs; they are all of the export, which has no fault, unless the
-- sheet has failed
pub record ImportsAll {W : Type 0} (contents : W → Option (List ℕ)) (a : Asked) (old new : Sheet W) (i : Import) : Type 0 where
  pub lots : List Lot
  pub says : Says contents old new (lots_text lots)
  pub counted : AreImported i lots
  pub first : IfSome a.bytes (λ bytes. BeginsWith lots (imported a.map bytes))
  pub all : sheet_failed new ≡ false → IfSome a.bytes (λ bytes. imported a.map bytes ≡ record { lots = lots; fault = None })

-- the sheet says the recording of the lines before a fault, which is the export's own where it is one of the export
pub record ImportsUntil {W : Type 0} (contents : W → Option (List ℕ)) (a : Asked) (old new : Sheet W) (f : ImportFault) : Type 0 where
  pub lots : List Lot
  pub says : Says contents old new (lots_text lots)
  pub stops : IfSome a.bytes (λ bytes. Stops f lots (imported a.map bytes))

-- an answer to one line is what becomes of it, or its fault, unless memory is refused
abbrev pub Answers : Result Lot ExportFault → Result Lot ImportFault → Type 0
Answers is (Ok l) = is ≡ Ok l
Answers is (Err (fault.Export f)) = is ≡ Err f
Answers is (Err fault.OutOfMemory) = ⊤
Answers is (Err fault.Device) = ⊥
