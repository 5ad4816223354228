-- A recording in parts, each with a certificate of its own, held against one run (profile).
use Rattle.std.specs.Prelude.{◌≡◌, ◌≢◌, ◌⊎◌, ◌≤◌, ◌+◌, nat_le, if◌then◌else◌, ℕ, zero, suc, List, [], ◌∷◌, ◌++◌, length, take, Option, Some, None, slice_get, ⊤}
use Rattle.a429_profile.specs.Profile.{Contents}
use Rattle.a429_link.specs.declared.file.FileBytes.{FileBytes}
use Rattle.a429_link.specs.declared.seen.Seen.{Seen}
use Rattle.a429_link.specs.declared.state.SourceState.{SourceState}
use Rattle.a429_link.specs.declared.state.SourceState.TheVariants.{Idle}
use Rattle.a429_link.specs.declared.step.Step.{Step}
use Rattle.a429_link.specs.declared.step.Step.TheVariants.{GiveUp}
use Rattle.a429_link.specs.Number.{files_past}
use Rattle.a429_link.specs.Link.{LinkValue, with_earlier, handed_out}
use Rattle.a429_link.specs.Run.{IsRun, end_of, trace}
use Rattle.a429_link.specs.State.{State, start}
use Rattle.a429_record.specs.declared.fault.ReadFault.{ReadFault}
use Rattle.a429_record.specs.declared.fault.ReadFault.TheVariants as read
use Rattle.a429_record.specs.Recording.{Recording}
use Rattle.a429_record.specs.Rows.{Stops}
use Rattle.a429_cert.specs.declared.explained.Head.{Head}
use Rattle.a429_cert.specs.declared.fault.CertFault.{CertFault}
use Rattle.a429_cert.specs.declared.stream_fault.StreamFault.{StreamFault}
use Rattle.a429_cert.specs.declared.stream_fault.StreamFault.TheVariants as stream
use Rattle.a429_cert.specs.Version.{step_lines}
use Rattle.a429_cert.specs.Explained.{items_of, Leads, AreInSomeRun, AreInEveryRun}
use Rattle.a429_cert.specs.Fault.{HasHead, at_line, IsFaultAt, IsFaultOfHead}
use Rattle.a429_cert.specs.Stream.{left_after, sizes}
use Rattle.a429_cert.specs.StreamExplained.{WhereBothKnown, WantsNext, EndsAt}

-- ---- a series

-- the state that the parts lead to, where there is one, its delivered files handed out; how many entries the last part has; and the number and the length of each file that has crossed
pub record SeriesValue : Type 0 where
  pub profile : Contents
  pub state : Option State
  pub entries : ℕ
  pub files : List (ℕ × ℕ)

-- no part yet
abbrev pub no_parts : Contents → SeriesValue
no_parts p = record { profile = p; state = None; entries = 0; files = [] }

-- between parts the link is under this profile, and its delivered files are handed out
abbrev pub IsBetweenParts : Contents → Option LinkValue → Type 0
IsBetweenParts p None = Unit {0}
IsBetweenParts p (Some l) = (l.profile ≡ p) × (l.state.sink.received.files ≡ [])

-- ---- where a part begins

-- so many files are given up, one after the other
abbrev pub give_ups : ℕ → List Step
give_ups zero = []
give_ups (suc n) = GiveUp ∷ give_ups n

-- n files, where a source in this phase may give them up that has given up so many since its last acknowledgement; else none
abbrev pub allowed : SourceState → ℕ → ℕ → ℕ
allowed Idle given n = if nat_le (given + n) 127 then n else 0
allowed _ given n = 0

-- the files that are given up before a part whose first file has this number
abbrev pub gap : State → ℕ → ℕ
gap s first = allowed s.source.phase s.source.give_ups (files_past first s.source.number.file)

-- where the steps of a part begin whose first file has this number: the first part at a start; each other where those before it lead, once the files between are given up
abbrev pub begun : Contents → Option State → ℕ → State
begun p None first = start p first
begun p (Some s) first = end_of p (give_ups (gap s first)) s

-- ---- a part that fits

-- its certificate's lines are steps from there on, which record its whole recording and deliver these files
pub record Fits (old new : SeriesValue) (files : List FileBytes) (text : List ℕ) (r : Recording) : Type 0 where
  pub head : Head
  pub says : HasHead text head
  pub whole : r.fault ≡ None
  pub last : State
  pub leads : Leads old.profile (begun old.profile old.state head.first) (step_lines head.version text) (items_of r.entries) last
  pub delivers : files ≡ last.sink.received.files
  pub state : new.state ≡ Some (handed_out last)
  pub entries : new.entries ≡ length r.entries

-- such files have crossed since
pub record Joins (old : SeriesValue) (known : Option (List ℕ)) (rec : Option Recording) (new : SeriesValue) : Type 0 where
  pub files : List FileBytes
  pub fits : WhereBothKnown known rec (Fits old new files)
  pub more : new.files ≡ old.files ++ sizes files
  pub profile : new.profile ≡ old.profile

-- ---- a part that does not fit

-- after its first two lines, k lines are steps from where it begins, over its first i entries
pub record LeadsInPart (old : SeriesValue) (text : List ℕ) (r : Recording) (k i : ℕ) (s : State) : Type 0 where
  pub head : Head
  pub says : HasHead text head
  pub inside : i ≤ length (items_of r.entries)
  pub before : Leads old.profile (begun old.profile old.state head.first) (take k (step_lines head.version text)) (take i (items_of r.entries)) s

-- the certificate's fault comes next; its lines are counted from 1, the entries of its recording from 0
pub record IsFaultInPart (old : SeriesValue) (f : CertFault) (text : List ℕ) (r : Recording) : Type 0 where
  pub k : ℕ
  pub i : ℕ
  pub state : State
  pub before : LeadsInPart old text r k i state
  pub fault : IsFaultAt old.profile state (at_line (k + 3) i (slice_get (items_of r.entries) i)) (slice_get (step_lines before.head.version text) k) f
  pub ends : EndsAt r f

-- the recording's fault comes next, where its entry is wanted
pub record IsReadFaultInPart (old : SeriesValue) (f : ReadFault) (text : List ℕ) (r : Recording) : Type 0 where
  pub k : ℕ
  pub i : ℕ
  pub state : State
  pub before : LeadsInPart old text r k i state
  pub wants : WantsNext old.profile (slice_get (step_lines before.head.version text) k) state
  pub fault : Stops f (left_after i r)
  pub reports : f ≢ read.OutOfMemory

abbrev pub IsPartFault : SeriesValue → StreamFault → List ℕ → Recording → Type 0
IsPartFault old (stream.Cert f) text r = IsFaultOfHead text f ⊎ IsFaultInPart old f text r
IsPartFault old (stream.Read f) text r = IsReadFaultInPart old f text r
IsPartFault old stream.Device text r = ⊤
IsPartFault old stream.OutOfMemory text r = ⊤

-- the fault is the part's first, where its certificate and its recording are known
abbrev pub RefusesPart : SeriesValue → Option (List ℕ) → Option Recording → StreamFault → Type 0
RefusesPart old known rec f = WhereBothKnown known rec (IsPartFault old f)

-- ---- parts that were added one after the other

-- a part: its certificate, and its recording
pub record Part : Type 0 where
  pub certificate : List ℕ
  pub recording : Recording

-- what is recorded in all parts, one after the other
abbrev pub joined : List Part → List Seen
joined [] = []
joined (part ∷ parts) = items_of part.recording.entries ++ joined parts

-- each of these parts fits after those before it, and this is where the last leads
abbrev pub AreAdded : SeriesValue → List Part → SeriesValue → Type 0
AreAdded old [] new = new ≡ old
AreAdded old (part ∷ parts) new = (mid : SeriesValue) × Joins old (Some part.certificate) (Some part.recording) mid × AreAdded mid parts new

-- ---- what the parts so far say

-- some run records these words and no others, delivers these files, and leads here, where its files are handed out
pub record IsRunTo (p : Contents) (s : State) (items : List Seen) (files : List FileBytes) : Type 0 where
  pub first : ℕ
  pub byte : first ≤ 255
  pub steps : List Step
  pub run : IsRun p steps (start p first)
  pub recorded : trace steps ≡ items
  pub ends : end_of p steps (start p first) ≡ with_earlier files s
  pub none : s.sink.received.files ≡ []

abbrev pub IsPast : Contents → Option State → List Seen → List FileBytes → Type 0
IsPast p None items files = (items ≡ []) × (files ≡ [])
IsPast p (Some s) items files = IsRunTo p s items files

-- the recorded words of all parts so far, and the files that have crossed
abbrev pub HasJoined : SeriesValue → List Seen → List FileBytes → Type 0
HasJoined s items files = IsPast s.profile s.state items files × (s.files ≡ sizes files)

-- some run records these words and no others, and each run that does delivers the files of which these are the numbers and lengths
pub record IsOneRun (p : Contents) (items : List Seen) (answer : List (ℕ × ℕ)) : Type 0 where
  pub files : List FileBytes
  pub some : AreInSomeRun p items files
  pub every : AreInEveryRun p items files
  pub answered : answer ≡ sizes files
