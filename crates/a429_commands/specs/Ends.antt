-- How a command ends: what it has written, and its status or its fault (profile).
use Rattle.std.specs.Prelude.{◌≡◌, ◌⊎◌, ℕ, List, Bool, true, false, Option, Some, None, Result, Ok, Err}
use Rattle.std.specs.Str.{IsUtf8}
use Rattle.a429_word.specs.declared.tally.Tally.{Tally}
use Rattle.a429_word.specs.Tally.{has_failed, unread, Puts, PutsFront}
use Rattle.a429_profile.specs.Profile.{Contents}
use Rattle.a429_record.specs.declared.entry.Entry.{Entry}
use Rattle.a429_commands.specs.declared.fault.RunFault.{RunFault}
use Rattle.a429_commands.specs.declared.fault.RunFault.TheVariants as run
use Rattle.a429_commands.specs.Fault.{Causes, ComesBy, never}
use Rattle.a429_commands.specs.Output.{Output}
use Rattle.a429_commands.specs.Profile.{IsProfileFault, IsProfileOf, IsSomeProfile, HasFault, WithContents}
use Rattle.a429_commands.specs.Recording.{IsRecordingFault, SaysEntries}
use Rattle.a429_commands.specs.Streaming.{IsNextFault}
use Rattle.a429_parts.specs.Keeping.{Taken}

-- what a command may answer, and what it has written then
pub record Promise : Type 1 where
  -- this status: this text
  pub says : ℕ → List ℕ → Type 0
  -- this fault: this text, which was written before the fault was met
  pub stops : RunFault → List ℕ → Type 0
  -- a failed output: a prefix of this text
  pub begins : List ℕ → Type 0
  -- this fault: nothing
  pub refuses : RunFault → Type 0

-- it has ended so: with a status, stopped by a fault, cut off by its output, or refused
pub data Ends {W : Type 0} (o : Output W) (p : Promise) (r : Result ℕ RunFault) : Type 0 where
  answered : (status : ℕ) (text : List ℕ) (is : r ≡ Ok status) (says : p.says status text) (works : has_failed o.new ≡ false) (put : Puts o.contents o.old o.new text) → Ends o p r
  stopped : (e : RunFault) (text : List ℕ) (is : r ≡ Err e) (stops : p.stops e text) (works : has_failed o.new ≡ false) (put : Puts o.contents o.old o.new text) → Ends o p r
  cut_off : (text : List ℕ) (is : r ≡ Err run.Device) (begins : p.begins text) (failed : has_failed o.new ≡ true) (front : PutsFront o.contents o.old o.new text) → Ends o p r
  refused : (e : RunFault) (is : r ≡ Err e) (refuses : p.refuses e) (same : o.new ≡ o.old) → Ends o p r

-- ---- of two outputs, the first of which is a file that is written before the other

-- what a file has gained: all of this text; where there is none, it is as it was
abbrev pub HasGained : {C : Type 0} → Output C → Option (List ℕ) → Type 0
HasGained file None = file.new ≡ file.old
HasGained file (Some text) = (has_failed file.new ≡ false) × Puts file.contents file.old file.new text

-- what it has gained where its writing was broken off: it has failed, or there is this other reason, and it has a prefix of the text
pub record IsBrokenOff {C : Type 0} (file : Output C) (Other : Type 0) (text : List ℕ) : Type 0 where
  pub why : (has_failed file.new ≡ true) ⊎ Other
  pub front : PutsFront file.contents file.old file.new text

-- what a command may answer that writes a file first
pub record PromiseOfFile : Type 1 where
  -- once the file has all of its text, or where there is none
  pub after : Option (List ℕ) → Promise
  -- where its writing was broken off: its text
  pub breaks : List ℕ → Type 0
  -- why it may be broken off, beside a failed writer
  pub other : Type 0

-- it has ended so: as a command with one output, after the file; or, with nothing on the output, in the file
pub data EndsWithFile {C W : Type 0} (file : Output C) (o : Output W) (p : PromiseOfFile) (r : Result ℕ RunFault) : Type 0 where
  after_file : (text : Option (List ℕ)) (gained : HasGained file text) (ends : Ends o (p.after text) r) → EndsWithFile file o p r
  in_file : (text : List ℕ) (is : r ≡ Err run.Device) (breaks : p.breaks text) (broken : IsBrokenOff file p.other text) (same : o.new ≡ o.old) → EndsWithFile file o p r

-- ---- of a text that is written once all is read

-- the text is written; or, where there may be no room for a page, memory is refused
abbrev pub of_text : (ℕ → List ℕ → Type 0) → (List ℕ → Type 0) → Type 0 → Promise
of_text says begins NoRoom = record { says = says; stops = λ e text. ⊥; begins = begins; refuses = λ e. (e ≡ run.Memory) × NoRoom }

-- the same of what was read; the fault, where it could not be read
abbrev pub of_read : {T : Type 0} → (T → ℕ → List ℕ → Type 0) → (T → List ℕ → Type 0) → Type 0 → Result T RunFault → Promise
of_read says begins NoRoom (Ok x) = of_text (says x) (begins x) NoRoom
of_read says begins NoRoom (Err f) = record { says = λ status text. ⊥; stops = λ e text. ⊥; begins = λ text. ⊥; refuses = λ e. e ≡ f }

-- ---- of a profile and a recording that are read to their ends before anything is written

-- what a reader of a recording had to give, and whether it has failed since
pub record Heard : Type 0 where
  pub bytes : Option (List ℕ)
  pub failed : Bool

-- the same, of its reader before and after
abbrev pub heard : {R : Type 0} → (R → Option (List ℕ)) → Tally R → Tally R → Heard
heard remaining old new = record { bytes = unread remaining old; failed = has_failed new }

-- the bytes of a profile and a recording say these contents and entries, and the reader has not failed
pub record AreHeard (profile : List ℕ) (rec : Heard) (contents : Contents) (entries : List Entry) : Type 0 where
  pub is_profile : IsProfileOf profile contents
  pub stand : SaysEntries rec.bytes entries
  pub works : rec.failed ≡ false

-- something holds of the contents and entries that they say
abbrev pub OfHeard : List ℕ → Heard → (Contents → List Entry → Type 0) → Type 0
OfHeard profile rec Such = (contents : Contents) × (entries : List Entry) × AreHeard profile rec contents entries × Such contents entries

-- why they are not read: the profile's own fault, then the recording's; its reader failed; or out of memory, once the profile is known to be a text
abbrev pub unheard_causes : List ℕ → Heard → Causes
unheard_causes profile rec = record never {
  profile = HasFault profile;
  recording = λ f. IsSomeProfile profile × IsRecordingFault rec.bytes f;
  device = IsSomeProfile profile × (rec.failed ≡ true);
  memory = IsUtf8 profile;
}

-- a command writes such a text of what a profile and a recording say
abbrev pub of_entries : List ℕ → Heard → (Contents → List Entry → ℕ → List ℕ → Type 0) → (Contents → List Entry → List ℕ → Type 0) → Promise
of_entries profile rec Says Begins = record {
  says = λ status text. OfHeard profile rec (λ p es. Says p es status text);
  stops = λ e text. ⊥;
  begins = λ text. OfHeard profile rec (λ p es. Begins p es text);
  refuses = ComesBy (unheard_causes profile rec);
}

-- ---- of a profile and a recording that is read while the text is written

-- the text with a status, or that before a fault
abbrev pub by_answer : (ℕ → List ℕ → Type 0) → (RunFault → List ℕ → Type 0) → Result ℕ RunFault → List ℕ → Type 0
by_answer Says Stops (Ok status) text = Says status text
by_answer Says Stops (Err e) text = Stops e text

-- under a profile that was read, by what was taken of the recording, and whether its reader has failed. With status 0 it has not; a
-- text before a fault is one before a fault of the reading
abbrev pub under : Contents → Taken → Bool → (Contents → Taken → ℕ → List ℕ → Type 0) → (Contents → Taken → RunFault → List ℕ → Type 0) → (Contents → Taken → List ℕ → Type 0) → Promise
under p t failed Says Stops Begins = record {
  says = λ status text. Says p t status text × (status ≡ 0 → failed ≡ false);
  stops = λ e text. Stops p t e text × IsNextFault t.recording failed e;
  begins = λ text. Begins p t text;
  refuses = λ e. ⊥;
}

-- by the bytes of its text. Nothing is written where the profile has a fault, or where memory is refused before an entry is read
abbrev pub of_stream : List ℕ → Taken → Bool → (Contents → Taken → ℕ → List ℕ → Type 0) → (Contents → Taken → RunFault → List ℕ → Type 0) → (Contents → Taken → List ℕ → Type 0) → Promise
of_stream profile t failed Says Stops Begins = record {
  says = λ status text. WithContents profile (λ p. Says p t status text) × (status ≡ 0 → failed ≡ false);
  stops = λ e text. WithContents profile (λ p. Stops p t e text) × IsNextFault t.recording failed e;
  begins = λ text. WithContents profile (λ p. Begins p t text);
  refuses = IsProfileFault profile;
}
