-- What comes after the last line of a certificate that is read as a stream (profile).
use Rattle.std.specs.Prelude.{◌≡◌, ◌⊎◌, ℕ, Option, Some, Ok, Err, ⊤}
use Rattle.a429_record.specs.declared.entry.Entry.{Entry}
use Rattle.a429_record.specs.declared.fault.ReadFault.{ReadFault}
use Rattle.a429_record.specs.Recording.{Recording}
use Rattle.a429_record.specs.Rows.{GivesNext}
use Rattle.a429_cert.specs.declared.fault.CertFault.TheVariants as of
use Rattle.a429_cert.specs.declared.stream_fault.StreamFault.{StreamFault}
use Rattle.a429_cert.specs.declared.stream_fault.StreamFault.TheVariants as stream
use Rattle.a429_cert.specs.Stream.{of_read}

-- an entry is left, where so many are used, or the recording has a fault there
abbrev pub EndsLate : ℕ → Option Recording → Option Recording → StreamFault → Type 0
EndsLate used old new f = ((item : Entry) × GivesNext old new (Ok (Some item)) × (f ≡ stream.Cert (of.Unfinished used)))
    ⊎ ((fault : ReadFault) × GivesNext old new (Err fault) × (f ≡ of_read fault))

-- no entry is handed out where it is the recording that has a fault
abbrev pub GivesNone : StreamFault → ℕ → ℕ → Type 0
GivesNone (stream.Cert f) old new = ⊤
GivesNone _ old new = new ≡ old
