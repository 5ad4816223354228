-- What a whole recording says of its sink by itself (profile).
use Rattle.std.specs.Prelude.{◌≡◌, ◌+◌, List, [], ◌∷◌, ◌++◌, length, Option, Some, None, IfSome}
use Rattle.a429_profile.specs.Profile.{Contents}
use Rattle.a429_link.specs.declared.doing.Crossing.{Crossing}
use Rattle.a429_link.specs.declared.seen.Seen.{Seen}
use Rattle.a429_link.specs.Implied.{sizes_of}
use Rattle.a429_link.specs.Trace.{files_of, sink_at_first}
use Rattle.a429_record.specs.declared.entry.Entry.{Entry}
use Rattle.a429_record.specs.declared.fault.ReadFault.{ReadFault}
use Rattle.a429_record.specs.Recording.{Recording, whole}
use Rattle.a429_record.specs.Rows.{Stops}
use Rattle.a429_cert.specs.Explained.{items_of}
use Rattle.a429_parts.specs.Keeping.{BeginsWith, Taken, with_entries}
use Rattle.a429_sink.specs.Alone.{IsSinkRun, SinkKeeps, SinkStep, sink_delivers, sink_trace}
use Rattle.a429_sink.specs.LoneTrace.{IsLoneTrace, IsRefusal}
use Rattle.a429_sink.specs.declared.judging.SinkVerdict.{SinkVerdict}
use Rattle.a429_sink.specs.declared.judging.SinkVerdict.TheVariants as verdict
use Rattle.a429_sink.specs.declared.lone_trace.LoneTrace.{LoneTrace}
use Rattle.a429_sink.specs.declared.lone_trace.Refusal.{Refusal}

-- each run of the sink by itself that records these words delivers these files
abbrev pub AreInEachSinkRun : Contents → List Seen → List Crossing → Type 0
AreInEachSinkRun p items files = (steps : List SinkStep) → IsSinkRun p steps sink_at_first → sink_trace steps ≡ items → sizes_of (sink_delivers p steps) ≡ files

-- a run of the sink by itself records the words of the whole recording, and these files cross in each
pub record SinkYes (p : Contents) (t : Taken) (files : List Crossing) : Type 0 where
  pub entries : List Entry
  pub all : IfSome t.recording (λ r. r ≡ whole entries)
  pub came : t.given ≡ length entries
  pub keeps : SinkKeeps p (items_of entries)
  pub crossed : files ≡ sizes_of (files_of p (items_of entries))
  pub each : AreInEachSinkRun p (items_of entries) files

-- a run of the sink by itself records the words of the first entries, and none goes on with the next one, whatever comes after it
pub record SinkNo (p : Contents) (t : Taken) (refusal : Refusal) : Type 0 where
  pub entries : List Entry
  pub next : Entry
  pub begins : BeginsWith t.recording (entries ++ next ∷ [])
  pub came : t.given ≡ length entries + 1
  pub number : refusal.entry ≡ length entries
  pub keeps : SinkKeeps p (items_of entries)
  pub ends : (more : List Seen) → SinkKeeps p (items_of (entries ++ next ∷ []) ++ more) → ⊥
  pub says : IsRefusal p (items_of (entries ++ next ∷ [])) refusal

-- what a verdict says of the recording: the files that cross, or the first answer that no sink sends
abbrev pub IsSinkVerdict : Contents → Taken → SinkVerdict → Type 0
IsSinkVerdict p t (verdict.Yes files) = SinkYes p t files.items
IsSinkVerdict p t (verdict.No refusal) = SinkNo p t refusal

-- the verdict is a yes
abbrev pub IsYes : SinkVerdict → Type 0
IsYes (verdict.Yes files) = Unit {0}
IsYes (verdict.No refusal) = ⊥

-- ---- why there is none

-- the entries that were handed out come before a fault, which is the recording's next where it is one of the recording
pub record SinkUnread (t : Taken) (fault : ReadFault) : Type 0 where
  pub entries : List Entry
  pub came : t.given ≡ length entries
  pub stops : IfSome t.recording (λ r. (rest : Recording) × (r ≡ with_entries entries rest) × Stops fault rest)

-- ---- the trace of a whole recording

-- the whole recording was seen, or an entry was refused
pub record SeesWhole (p : Contents) (t : Taken) (trace : LoneTrace) : Type 0 where
  pub entries : List Entry
  pub all : IfSome t.recording (λ r. r ≡ whole entries)
  pub came : t.given ≡ length entries
  pub traced : IsLoneTrace p (items_of entries) trace

abbrev pub Sees : Contents → Taken → LoneTrace → Option Refusal → Type 0
Sees p t trace None = SeesWhole p t trace
Sees p t trace (Some refusal) = SinkNo p t refusal
