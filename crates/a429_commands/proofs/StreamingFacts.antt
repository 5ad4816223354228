-- Entries that come one by one.
use Rattle.std.proofs.Common.{◌≡◌, ◌≢◌, ℕ, List, [], ◌++◌, append-nil, Bool, true, Option, Some, None, Err, refl, ap, ◌∙◌}
use Rattle.std.specs.Prelude.{IfSome}
use Rattle.a429_record.specs.declared.entry.Entry.{Entry}
use Rattle.a429_record.specs.declared.fault.ReadFault.{ReadFault}
use Rattle.a429_record.specs.declared.fault.ReadFault.TheVariants as read
use Rattle.a429_record.specs.Fault.{IsFirstReadFault}
use Rattle.a429_record.specs.Recording.{Recording}
use Rattle.a429_record.specs.Rows.{GivesNext}
use Rattle.a429_commands.specs.declared.fault.RunFault.{RunFault}
use Rattle.a429_commands.specs.declared.fault.RunFault.TheVariants as run
use Rattle.a429_parts.proofs.KeepingFacts.{Came}
use Rattle.a429_commands.specs.Recording.{IsReadFault}
use Rattle.a429_commands.specs.Streaming.{AreAllBefore, IsFaultToCome, IsNextFault, reported}

-- no entry comes before the fault that is the answer
pub none_before : (old new : Option Recording) (f : ReadFault) → GivesNext old new (Err f) → AreAllBefore (reported f) old []
none_before old new read.Device h = tt
none_before old new read.OutOfMemory h = tt
none_before None new read.Header h = tt
none_before None new (read.Row i) h = tt
none_before None new (read.TimeBack i) h = tt
none_before None new read.TooMany h = tt
none_before None new read.Failed h = tt
none_before (Some r) new read.Header h = ap (λ (q : Recording). q.entries) h
none_before (Some r) new (read.Row i) h = ap (λ (q : Recording). q.entries) h
none_before (Some r) new (read.TimeBack i) h = ap (λ (q : Recording). q.entries) h
none_before (Some r) new read.TooMany h = ap (λ (q : Recording). q.entries) h
none_before (Some r) new read.Failed h = ap (λ (q : Recording). q.entries) h

-- so those that came are all before it
pub all_before : (first left : Option Recording) (es : List Entry) (e : RunFault)
    → Came first es left → AreAllBefore e left [] → AreAllBefore e first es
all_before None left es (run.Read f) h none = tt
all_before (Some r) left es (run.Read f) h none =
    let rest = rw h.1 at none in ap (λ (q : Recording). q.entries) h.2 ∙ ap (λ (l : List Entry). es ++ l) rest ∙ append-nil es
all_before first left es (run.Profile f) h none = tt
all_before first left es (run.Cut k f) h none = tt
all_before first left es run.TooLong h none = tt
all_before first left es run.Device h none = tt
all_before first left es run.Memory h none = tt
all_before first left es run.BadWord h none = tt
all_before first left es run.Usage h none = tt
all_before first left es run.NoPlace h none = tt
all_before first left es run.OldFiles h none = tt
all_before first left es (run.Map f) h none = tt
all_before first left es (run.Export f) h none = tt

earlier : (first left : Option Recording) (es : List Entry) (f : ReadFault)
    → Came first es left → IfSome left (λ r. r.fault ≡ Some f) → IfSome first (λ r. r.fault ≡ Some f)
earlier None left es f h is = tt
earlier (Some r) left es f h is = let there = rw h.1 at is in ap (λ (q : Recording). q.fault) h.2 ∙ there

fault_earlier : (first left : Option Recording) (es : List Entry) (f : ReadFault)
    → Came first es left → IsFaultToCome left f → IsFaultToCome first f
fault_earlier first left es read.Header h is = earlier first left es read.Header h is
fault_earlier first left es (read.Row i) h is = earlier first left es (read.Row i) h is
fault_earlier first left es (read.TimeBack i) h is = earlier first left es (read.TimeBack i) h is
fault_earlier first left es read.TooMany h is = earlier first left es read.TooMany h is
fault_earlier first left es read.Device h is = is
fault_earlier first left es read.OutOfMemory h is = is
fault_earlier first left es read.Failed h is = earlier first left es read.Failed h is

-- the fault of what has still to come is that of all
pub next_earlier : (first left : Option Recording) (es : List Entry) (failed : Bool) (e : RunFault)
    → Came first es left → IsNextFault left failed e → IsNextFault first failed e
next_earlier first left es failed (run.Read f) h is = fault_earlier first left es f h is
next_earlier first left es failed (run.Profile f) h is = is
next_earlier first left es failed (run.Cut k f) h is = is
next_earlier first left es failed run.TooLong h is = is
next_earlier first left es failed run.Device h is = is
next_earlier first left es failed run.Memory h is = is
next_earlier first left es failed run.BadWord h is = is
next_earlier first left es failed run.Usage h is = is
next_earlier first left es failed run.NoPlace h is = is
next_earlier first left es failed run.OldFiles h is = is
next_earlier first left es failed (run.Map f) h is = is
next_earlier first left es failed (run.Export f) h is = is

-- a fault of a recording that is read whole, as it is reported
pub whole_fault : (known : Option (List ℕ)) (failed : Bool) (f : ReadFault)
    → IfSome known (λ bytes. IsFirstReadFault f bytes) → (f ≡ read.Device → failed ≡ true) → f ≢ read.Failed
    → IsReadFault known failed (reported f)
whole_fault known failed read.Header first device none = first
whole_fault known failed (read.Row i) first device none = first
whole_fault known failed (read.TimeBack i) first device none = first
whole_fault known failed read.TooMany first device none = first
whole_fault known failed read.Device first device none = device refl
whole_fault known failed read.OutOfMemory first device none = tt
whole_fault known failed read.Failed first device none = absurd (none refl)
