-- What `import` writes, by what was read, and its faults.
use Rattle.std.proofs.Common.{◌≡◌, ℕ, List, [], ◌∷◌, Bool, true, Option, Some, None, Result, Ok, Err, IfOk, IfErr, refl, ap, ◌∙◌}
use Rattle.std.specs.Prelude.{IfSome}
use Rattle.a429_word.specs.declared.sheet.Sheet.{Sheet}
use Rattle.a429_import.specs.declared.fault.ExportFault.{ExportFault}
use Rattle.a429_import.specs.declared.fault.ImportFault.{ImportFault}
use Rattle.a429_import.specs.declared.fault.ImportFault.TheVariants as fault
use Rattle.a429_import.specs.declared.import.Import.{Import}
use Rattle.a429_import.specs.declared.lot.Lot.{Lot}
use Rattle.a429_import.specs.declared.map.Map.{Map}
use Rattle.a429_import.specs.Import.{Imported, imported, with_lot}
use Rattle.a429_import.specs.Importing.{BeginsWith, ImportsAll, ImportsUntil, Stops, with_lots}
use Rattle.a429_commands.specs.declared.fault.RunFault.{RunFault}
use Rattle.a429_commands.specs.declared.fault.RunFault.TheVariants as run
use Rattle.a429_commands.specs.Ends.{Ends, answered, cut_off, refused, stopped}
use Rattle.a429_commands.specs.Import.{ImportInput, RowsBefore, RowsUntil, SomeRows, of_rows, reported, under_map}
use Rattle.a429_commands.specs.Map.{IsMapOf}
use Rattle.a429_commands.specs.Output.{Output}
use Rattle.a429_word.specs.Sheet.{SaysSome}

-- lines come first of themselves
nothing_after : (lots : List Lot) (f : Option ExportFault)
    → record { lots = lots; fault = f } ≡ with_lots lots (record { lots = []; fault = f })
nothing_after [] f = refl
nothing_after (l ∷ lots) f = ap (with_lot l) (nothing_after lots f)

-- those before a fault are the first
begins : (lots : List Lot) (i : Imported) (f : ImportFault) → Stops f lots i → BeginsWith lots i
begins lots i (fault.Export e) h = (record { lots = []; fault = Some e }, h ∙ nothing_after lots (Some e))
begins lots i fault.Device h = h
begins lots i fault.OutOfMemory h = h

first_lines : (m : Map) (export : Option (List ℕ)) (lots : List Lot) (f : ImportFault)
    → IfSome export (λ bytes. Stops f lots (imported m bytes)) → IfSome export (λ bytes. BeginsWith lots (imported m bytes))
first_lines m None lots f h = tt
first_lines m (Some bytes) lots f h = begins lots (imported m bytes) f h

-- some first rows are said
pub some_rows : {W : Type 0} (contents : W → Option (List ℕ)) (m : Map) (export : Option (List ℕ)) (old new : Sheet W)
    (r : Result Import ImportFault)
    → IfOk r (ImportsAll contents (record { map = m; bytes = export }) old new)
    → IfErr r (ImportsUntil contents (record { map = m; bytes = export }) old new) → SaysSome contents old new (SomeRows m export)
some_rows contents m export old new (Ok i) all until = (_, record { lots = all.lots; first = all.first; text_is = refl }, all.says)
some_rows contents m export old new (Err f) all until =
    (_, record { lots = until.lots; first = first_lines m export until.lots f until.stops; text_is = refl }, until.says)

-- as the command reports it
pub before_fault : (m : Map) (export : Option (List ℕ)) (f : ImportFault) (text : List ℕ)
    → RowsBefore m export f text → RowsUntil m export (reported f) text
before_fault m export (fault.Export e) text h = h
before_fault m export fault.Device text h = h
before_fault m export fault.OutOfMemory text h = h

-- a failed device is reported where the reader has failed
pub by_reader : (f : ImportFault) (failed : Bool) → (f ≡ fault.Device → failed ≡ true) → reported f ≡ run.Device → failed ≡ true
by_reader (fault.Export e) failed h is = absurd (cc is)
by_reader fault.Device failed h is = h refl
by_reader fault.OutOfMemory failed h is = absurd (cc is)

-- what ends by a map ends by the bytes of its text
pub ends_by : {C : Type 0} {o : Output C} {r : Result ℕ RunFault} (m : Map) (i : ImportInput)
    → IsMapOf i.map m → Ends o (under_map m i.export i.failed) r → Ends o (of_rows i) r
ends_by m i is_map (answered status text is here works put) = absurd here
ends_by m i is_map (stopped e text is here works put) = stopped e text is ((m, is_map, here.0), here.1) works put
ends_by m i is_map (cut_off text is here failed front) = cut_off text is (m, is_map, here) failed front
ends_by m i is_map (refused e is here same) = absurd here
