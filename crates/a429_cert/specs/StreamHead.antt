-- The first two lines of a certificate that is read as a stream (profile).
use Rattle.std.specs.Prelude.{◌≡◌, ℕ, List, drop, Option, Some, None, slice_get, ⊤}
use Rattle.a429_cert.specs.declared.fault.CertFault.{CertFault}
use Rattle.a429_cert.specs.declared.fault.CertFault.TheVariants as of
use Rattle.a429_cert.specs.declared.stream_fault.StreamFault.{StreamFault}
use Rattle.a429_cert.specs.declared.stream_fault.StreamFault.TheVariants as stream
use Rattle.a429_cert.specs.Lines.{certificate_lines}
use Rattle.a429_cert.specs.declared.explained.Head.{Head}
use Rattle.a429_cert.specs.Fault.{HasHead, IsVersioned, IsNoFirst}
use Rattle.a429_cert.specs.CutLines.{HasReadTo}

-- this text was the next line of what was to come, and what follows it is still to come
abbrev pub TakesLine : Option (List ℕ) → Option (List ℕ) → List ℕ → Type 0
TakesLine None new text = ⊤
TakesLine (Some xs) None text = ⊥
TakesLine (Some xs) (Some ys) text = (slice_get (certificate_lines xs) 0 ≡ Some (Some text)) × (certificate_lines ys ≡ drop 1 (certificate_lines xs))

-- what was to come begins with the two lines that begin a certificate, which say this, and what follows them is still to come
abbrev pub TakesHead : Option (List ℕ) → Option (List ℕ) → Head → Type 0
TakesHead None new head = ⊤
TakesHead (Some xs) None head = ⊥
TakesHead (Some xs) (Some ys) head = HasHead xs head × (certificate_lines ys ≡ drop 2 (certificate_lines xs))

-- a line of these is refused: no recording is looked at yet
abbrev pub RefusesHead : (List ℕ → CertFault → Type 0) → Option (List ℕ) → StreamFault → Type 0
RefusesHead Holds old (stream.Read f) = ⊥
RefusesHead Holds None (stream.Cert f) = ⊤
RefusesHead Holds (Some xs) (stream.Cert f) = Holds xs f
RefusesHead Holds old stream.Device = ⊤
RefusesHead Holds old stream.OutOfMemory = ⊤

-- the next line names no version, or has no number of the first file
abbrev pub IsNoVersion : List ℕ → CertFault → Type 0
IsNoVersion xs f = (f ≡ of.Version) × (¬ IsVersioned xs)

abbrev pub GivesNoFirst : List ℕ → CertFault → Type 0
GivesNoFirst xs f = IsNoFirst (slice_get (certificate_lines xs) 0) f

-- unless the fault is the certificate's, at most n lines of what was to come were read
abbrev pub ReadsAtMost : ℕ → Option (List ℕ) → Option (List ℕ) → StreamFault → Type 0
ReadsAtMost n None left f = ⊤
ReadsAtMost n (Some text) left (stream.Cert f) = ⊤
ReadsAtMost n (Some text) left f = HasReadTo text left 0 n
