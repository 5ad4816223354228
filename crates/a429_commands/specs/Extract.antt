-- Which files are on the shelf where `a429 extract` writes no verdict (profile).
use Rattle.std.specs.Prelude.{◌≡◌, ◌⊎◌, ℕ, List, Bool, Err, IfErr}
use Rattle.a429_profile.specs.Profile.{Contents}
use Rattle.a429_cert.specs.declared.stream_fault.StreamFault.{StreamFault}
use Rattle.a429_cert.specs.Shelf.{IsUnchanged}
use Rattle.a429_cert.specs.BreakOff.{BreaksOff, Readers, Shelved}
use Rattle.a429_commands.specs.declared.fault.RunFault.{RunFault}
use Rattle.a429_commands.specs.declared.fault.RunFault.TheVariants as run
use Rattle.a429_commands.specs.Profile.{IsProfileOf}
use Rattle.a429_commands.specs.Verdict.{Answer, Input, IsAnswer, IsSomeVerdict, of_stream}

-- how far a certificate came: what was read of it and of the recording, the shelf, and whether the listener has failed
pub record Progress : Type 0 where
  pub read : Readers
  pub shelf : Shelved
  pub listener : Bool

-- the same, of its three parts
abbrev pub progress : Readers → Shelved → Bool → Progress
progress read shelf listener = record { read = read; shelf = shelf; listener = listener }

-- nothing was read of the certificate and of the recording, and nothing is put
abbrev pub IsUntouched : Progress → Type 0
IsUntouched at = (at.read.left ≡ at.read.certificate) × (at.read.given ≡ 0) × IsUnchanged at.shelf.before at.shelf.after

-- what was judged so far, by the profile whose text the bytes are
abbrev pub input_of : List ℕ → Progress → Input
input_of profile at = record { profile = profile; certificate = at.read.certificate; recording = at.read.recording }

-- the answer to the certificate and its files, by this profile; of a fault also the place where it came
pub record IsAnsweredAt (profile : List ℕ) (at : Progress) (answer : Answer) : Type 0 where
  pub contents : Contents
  pub is_profile : IsProfileOf profile contents
  pub is : IsAnswer contents at.read.certificate at.read.recording at.shelf answer
  pub place : IfErr answer (BreaksOff contents at.read at.shelf at.listener)

-- it is a fault of the stream that the command reports as this one
abbrev pub IsFaultAt : List ℕ → Progress → RunFault → Type 0
IsFaultAt profile at e = (f : StreamFault) × (of_stream f ≡ e) × IsAnsweredAt profile at (Err f)

-- the files by the fault: none before the profile was read; else those of the stream's fault at its place; a failed device is reported for
-- whatever was answered, where a reader, the shelf or the listener has failed; else the output has, and the files are those of a verdict
abbrev pub Leaves : List ℕ → Progress → Type 0 → RunFault → Type 0
Leaves profile at Failed (run.Profile f) = IsUntouched at
Leaves profile at Failed (run.Read f) = IsFaultAt profile at (run.Read f)
Leaves profile at Failed run.Device = (Failed × ((answer : Answer) × IsAnsweredAt profile at answer)) ⊎ ((text : List ℕ) × IsSomeVerdict (input_of profile at) at.shelf text)
Leaves profile at Failed run.Memory = IsUntouched at ⊎ IsFaultAt profile at run.Memory
Leaves profile at Failed (run.Cut k f) = ⊥
Leaves profile at Failed run.TooLong = ⊥
Leaves profile at Failed run.BadWord = ⊥
Leaves profile at Failed run.Usage = ⊥
Leaves profile at Failed run.NoPlace = ⊥
Leaves profile at Failed run.OldFiles = ⊥
Leaves profile at Failed (run.Map f) = ⊥
Leaves profile at Failed (run.Export f) = ⊥
