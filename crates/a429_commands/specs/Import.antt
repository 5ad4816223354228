-- What `a429 import` writes, and how it ends (profile).
use Rattle.std.specs.Prelude.{◌≡◌, ◌++◌, ℕ, List, Bool, true, false, Option, None, Result, IfSome}
use Rattle.std.specs.List.{flat_map}
use Rattle.a429_word.specs.Tally.{has_failed, Puts}
use Rattle.a429_import.specs.declared.fault.ImportFault.{ImportFault}
use Rattle.a429_import.specs.declared.fault.ImportFault.TheVariants as fault
use Rattle.a429_import.specs.declared.import.Import.{Import}
use Rattle.a429_import.specs.declared.lot.Lot.{Lot}
use Rattle.a429_import.specs.declared.map.Map.{Map}
use Rattle.a429_import.specs.declared.turning.Turning.{Turning}
use Rattle.a429_import.specs.Counts.{counts_text}
use Rattle.a429_import.specs.Import.{imported}
use Rattle.a429_import.specs.Importing.{AreImported, BeginsWith, Stops, lots_text}
use Rattle.a429_import.specs.Places.{place_line}
use Rattle.a429_commands.specs.declared.fault.RunFault.{RunFault}
use Rattle.a429_commands.specs.declared.fault.RunFault.TheVariants as run
use Rattle.a429_commands.specs.Ends.{Ends, Promise, of_text}
use Rattle.a429_commands.specs.Map.{IsMapFault, IsMapOf, WithMap}
use Rattle.a429_commands.specs.Output.{Output}

-- how the command reports why an export was not imported to its end
abbrev pub reported : ImportFault → RunFault
reported (fault.Export f) = run.Export f
reported fault.Device = run.Device
reported fault.OutOfMemory = run.Memory

-- ---- OUT is not written whole

-- what is written of the lines before a fault, which is the export's own where it is one of the export
pub record RowsBefore (m : Map) (export : Option (List ℕ)) (f : ImportFault) (text : List ℕ) : Type 0 where
  pub lots : List Lot
  pub stops : IfSome export (λ bytes. Stops f lots (imported m bytes))
  pub text_is : text ≡ lots_text lots

-- by the fault of the command
abbrev pub RowsUntil : Map → Option (List ℕ) → RunFault → List ℕ → Type 0
RowsUntil m export (run.Export f) text = RowsBefore m export (fault.Export f) text
RowsUntil m export run.Device text = RowsBefore m export fault.Device text
RowsUntil m export run.Memory text = RowsBefore m export fault.OutOfMemory text
RowsUntil m export e text = ⊥

-- what is written of some first lines
pub record SomeRows (m : Map) (export : Option (List ℕ)) (text : List ℕ) : Type 0 where
  pub lots : List Lot
  pub first : IfSome export (λ bytes. BeginsWith lots (imported m bytes))
  pub text_is : text ≡ lots_text lots

-- ---- OUT is whole

-- it is the recording of all lines of the export, which has no fault; counts and places are theirs
pub record IsImported {C : Type 0} (m : Map) (export : Option (List ℕ)) (o : Output C) (i : Import) : Type 0 where
  pub lots : List Lot
  pub all : IfSome export (λ bytes. imported m bytes ≡ record { lots = lots; fault = None })
  pub counted : AreImported i lots
  pub works : has_failed o.new ≡ false
  pub puts : Puts o.contents o.old o.new (lots_text lots)

-- by the bytes of a map's text, which turns words so
pub record IsImportedBy {C : Type 0} (bytes : List ℕ) (export : Option (List ℕ)) (o : Output C) (t : Turning) (i : Import) : Type 0 where
  pub map : Map
  pub is_map : IsMapOf bytes map
  pub turning_is : t ≡ map.turning
  pub is : IsImported map export o i

-- ---- what is printed

-- the places at which the clock jumps, then the counts
abbrev pub import_text : Turning → Import → List ℕ
import_text t i = flat_map place_line i.places.items ++ counts_text t i.counts

-- it is written, and with it status 0
abbrev pub of_import : Turning → Import → Promise
of_import t i = of_text (λ status text. (status ≡ 0) × (text ≡ import_text t i)) (λ text. text ≡ import_text t i) ⊥

-- ---- how it ends

-- what it is given: the bytes of a map's text, those of an export, where they are known, and whether its reader has failed since
pub record ImportInput : Type 0 where
  pub map : List ℕ
  pub export : Option (List ℕ)
  pub failed : Bool

-- by a map that was read, OUT is not written whole: its text is that before a fault
abbrev pub under_map : Map → Option (List ℕ) → Bool → Promise
under_map m export failed = record {
  says = λ status text. ⊥;
  stops = λ e text. RowsUntil m export e text × (e ≡ run.Device → failed ≡ true);
  begins = SomeRows m export;
  refuses = λ e. ⊥;
}

-- by the bytes of its text. Nothing is written where the map has a fault, or where memory is refused before a line is read
abbrev pub of_rows : ImportInput → Promise
of_rows i = record {
  says = λ status text. ⊥;
  stops = λ e text. WithMap i.map (λ m. RowsUntil m i.export e text) × (e ≡ run.Device → i.failed ≡ true);
  begins = λ text. WithMap i.map (λ m. SomeRows m i.export text);
  refuses = IsMapFault i.map;
}

-- OUT is whole, and then places and counts are written to the output; or OUT is not, and the output is untouched
pub data EndsImported {C W : Type 0} (i : ImportInput) (rows : Output C) (o : Output W) (r : Result ℕ RunFault) : Type 0 where
  imported_whole : (t : Turning) (import : Import) (is : IsImportedBy i.map i.export rows t import) (works : i.failed ≡ false) (said : Ends o (of_import t import) r) → EndsImported i rows o r
  broken_off : (ends : Ends rows (of_rows i) r) (same : o.new ≡ o.old) → EndsImported i rows o r
