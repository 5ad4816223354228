-- What `side` writes, by what was read, and its faults.
use Rattle.std.proofs.Common.{◌≡◌, ℕ, List, Bool, true, Option, Some, None, Result, Ok, Err, IfOk, IfErr, inl, inr, refl, ap, ◌∙◌}
use Rattle.a429_word.specs.declared.sheet.Sheet.{Sheet}
use Rattle.a429_profile.specs.Profile.{Contents}
use Rattle.a429_record.specs.declared.entry.Entry.{Entry}
use Rattle.a429_record.specs.declared.fault.ReadFault.{ReadFault}
use Rattle.a429_record.specs.declared.fault.ReadFault.TheVariants as read
use Rattle.a429_record.specs.Recording.{Recording}
use Rattle.a429_parts.specs.Keeping.{Taken}
use Rattle.a429_side.specs.declared.counts.Counts.{Counts}
use Rattle.a429_side.specs.declared.lot.Side.{Side}
use Rattle.a429_side.specs.Siding.{SidesAll, SidesUntil}
use Rattle.a429_word.specs.Sheet.{SaysSome}
use Rattle.a429_commands.specs.Side.{SidesRowsBefore, SidesRowsUntil, SidesSomeRows}
use Rattle.a429_commands.specs.Streaming.{IsNextFault, reported}
use Rattle.a429_commands.proofs.KeepFacts.{ComesAfter, begins}

-- some first rows are said
pub some_rows : {W : Type 0} (contents : W → Option (List ℕ)) (s : Side) (p : Contents) (t : Taken) (old new : Sheet W)
    (r : Result Counts ReadFault)
    → IfOk r (SidesAll contents (record { codes = p.codes; side = s; taken = t }) old new)
    → IfErr r (SidesUntil contents (record { codes = p.codes; side = s; taken = t }) old new)
    → SaysSome contents old new (SidesSomeRows s p t)
some_rows contents s p t old new (Ok counts) all until =
    (_, record { entries = all.entries; first = all.first; text_is = inl refl }, all.says)
some_rows contents s p t old new (Err f) all until =
    (_, record { entries = until.entries; first = begins t.recording until.entries f until.stops; text_is = inr refl }, until.says)

-- as the command reports it
pub before_fault : (s : Side) (p : Contents) (t : Taken) (f : ReadFault) (text : List ℕ)
    → SidesRowsBefore s p t f text → SidesRowsUntil s p t (reported f) text
before_fault s p t read.Device text h = h
before_fault s p t read.OutOfMemory text h = h
before_fault s p t read.Header text h = h
before_fault s p t (read.Row i) text h = h
before_fault s p t (read.TimeBack i) text h = h
before_fault s p t read.TooMany text h = h
before_fault s p t read.Failed text h = h

-- a fault of the recording is its next one
pub next_fault : (rec : Option Recording) (es : List Entry) (failed : Bool) (f : ReadFault)
    → (f ≡ read.Device → failed ≡ true) → ComesAfter rec es f → IsNextFault rec failed (reported f)
next_fault rec es failed read.Device device h = device refl
next_fault rec es failed read.OutOfMemory device h = tt
next_fault None es failed read.Header device h = tt
next_fault None es failed (read.Row i) device h = tt
next_fault None es failed (read.TimeBack i) device h = tt
next_fault None es failed read.TooMany device h = tt
next_fault None es failed read.Failed device h = tt
next_fault (Some r) es failed read.Header device (rest, is, stops) =
    ap (λ (q : Recording). q.fault) is ∙ ap (λ (q : Recording). q.fault) stops
next_fault (Some r) es failed (read.Row i) device (rest, is, stops) =
    ap (λ (q : Recording). q.fault) is ∙ ap (λ (q : Recording). q.fault) stops
next_fault (Some r) es failed (read.TimeBack i) device (rest, is, stops) =
    ap (λ (q : Recording). q.fault) is ∙ ap (λ (q : Recording). q.fault) stops
next_fault (Some r) es failed read.TooMany device (rest, is, stops) =
    ap (λ (q : Recording). q.fault) is ∙ ap (λ (q : Recording). q.fault) stops
next_fault (Some r) es failed read.Failed device (rest, is, stops) =
    ap (λ (q : Recording). q.fault) is ∙ ap (λ (q : Recording). q.fault) stops
