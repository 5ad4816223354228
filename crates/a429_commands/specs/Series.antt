-- The verdict on a recording in parts, each with a certificate of its own (profile).
use Rattle.std.specs.Prelude.{◌≡◌, ◌≢◌, ◌⊎◌, ◌<◌, ◌++◌, ℕ, zero, suc, List, [], ◌∷◌, length, take, map, slice_get, codes, Bool, true, false, Option, Some, None, Result, Err, IfSome}
use Rattle.std.specs.Fmt.{decimal}
use Rattle.std.specs.Str.{IsUtf8}
use Rattle.a429_profile.specs.Profile.{Contents}
use Rattle.a429_record.specs.Recording.{Recording}
use Rattle.a429_cert.specs.declared.fault.CertFault.{CertFault}
use Rattle.a429_cert.specs.declared.fault.CertFault.TheVariants as cert
use Rattle.a429_cert.specs.declared.stream_fault.StreamFault.{StreamFault}
use Rattle.a429_cert.specs.declared.stream_fault.StreamFault.TheVariants as stream
use Rattle.a429_cert.specs.Series.{AreAdded, IsOneRun, IsPartFault, Part, SeriesValue, joined, no_parts}
use Rattle.a429_commands.specs.declared.engines.series.SeriesAnswer.{SeriesAnswer}
use Rattle.a429_commands.specs.declared.engines.series.SeriesAnswer.TheVariants as answer
use Rattle.a429_commands.specs.declared.fault.RunFault.{RunFault}
use Rattle.a429_commands.specs.declared.fault.RunFault.TheVariants as run
use Rattle.a429_commands.specs.Ends.{Promise}
use Rattle.a429_commands.specs.Fault.{Causes, ComesBy, never}
use Rattle.a429_commands.specs.PartList.{ListsParts}
use Rattle.a429_commands.specs.Profile.{IsProfileOf, IsSomeProfile, HasFault}
use Rattle.a429_commands.specs.Verdict.{IsReportedAsRead}
use Rattle.a429_view.specs.Verdict.{fault_text, yes_text}

-- ---- the parts

-- what is judged: the bytes of a profile and of a list of parts, and the part at each place, from 1 on, where what its readers have to read is known
pub record SeriesInput : Type 0 where
  pub profile : List ℕ
  pub list : List ℕ
  pub part : ℕ → Option Part

-- the same, of its three parts
abbrev pub series_input : List ℕ → List ℕ → (ℕ → Option Part) → SeriesInput
series_input profile list part = record { profile = profile; list = list; part = part }

-- parts, and one more
abbrev pub with_part : Option (List Part) → Option Part → Option (List Part)
with_part None last = None
with_part (Some before) None = None
with_part (Some before) (Some last) = Some (before ++ (last ∷ []))

-- the first n parts, where all of them are known
abbrev pub first_parts : (ℕ → Option Part) → ℕ → Option (List Part)
first_parts part zero = Some []
first_parts part (suc n) = with_part (first_parts part n) (part (suc n))

-- the readers of a part have to read this
abbrev pub Holds : Part → Option (List ℕ) → Option Recording → Type 0
Holds part certificate recording = (certificate ≡ Some part.certificate) × (recording ≡ Some part.recording)

abbrev pub entries_of : Part → ℕ
entries_of part = length part.recording.entries

-- ---- what is answered

-- these parts fit one after the other, and have so many entries
pub record FitAs (p : Contents) (parts : List Part) (counts : List ℕ) (s : SeriesValue) : Type 0 where
  pub added : AreAdded (no_parts p) parts s
  pub counted : map entries_of parts ≡ counts

-- all parts fit and have the entries that are listed, and these files have crossed in them: some run records exactly what they record, one after the other, and each run that does delivers exactly these files
pub record AreOneRun (p : Contents) (parts : List Part) (counts : List ℕ) (files : List (ℕ × ℕ)) : Type 0 where
  pub last : SeriesValue
  pub fit : FitAs p parts counts last
  pub crossed : files ≡ last.files
  pub one : IsOneRun p (joined parts) files

-- the same of the parts that are listed, where all of them are known
abbrev pub AreListedRun : Contents → (ℕ → Option Part) → List ℕ → List (ℕ × ℕ) → Type 0
AreListedRun p part counts files = IfSome (first_parts part (length counts)) (λ parts. AreOneRun p parts counts files)

-- the parts before this one fit and have the entries that are listed, and this is the first fault of this one
pub record IsRefusedAt (p : Contents) (part : ℕ → Option Part) (counts : List ℕ) (place : ℕ) (f : StreamFault) : Type 0 where
  pub before : ℕ
  pub next : place ≡ suc before
  pub listed : before < length counts
  pub refused : IfSome (first_parts part before) (λ parts. IfSome (part place) (λ q. (s : SeriesValue) × FitAs p parts (take before counts) s × IsPartFault s f q.certificate q.recording))

-- the parts up to this one fit, those before it have the entries that are listed, and this one has n, which is another number than is listed
pub record IsMiscounted (p : Contents) (part : ℕ → Option Part) (counts : List ℕ) (place n : ℕ) : Type 0 where
  pub before : ℕ
  pub next : place ≡ suc before
  pub listed : before < length counts
  pub other : slice_get counts before ≢ Some n
  pub fit : IfSome (first_parts part place) (λ parts. (s : SeriesValue) × FitAs p parts (take before counts ++ (n ∷ [])) s)

-- an answer for parts that are listed, with so many entries
abbrev pub IsPartsAnswer : Contents → (ℕ → Option Part) → List ℕ → SeriesAnswer → Type 0
IsPartsAnswer p part counts (answer.Files files) = AreListedRun p part counts files.items
IsPartsAnswer p part counts (answer.Refused place f) = IsRefusedAt p part counts place (stream.Cert f) × (f ≢ cert.OutOfMemory)
IsPartsAnswer p part counts (answer.Miscounted place n) = IsMiscounted p part counts place n
IsPartsAnswer p part counts answer.NotListed = ⊥

-- an answer: for the parts that are listed, or that none are
abbrev pub IsSeriesAnswer : Contents → List ℕ → (ℕ → Option Part) → SeriesAnswer → Type 0
IsSeriesAnswer p list part answer.NotListed = (counts : List ℕ) → ListsParts list counts → ⊥
IsSeriesAnswer p list part a = (counts : List ℕ) × ListsParts list counts × IsPartsAnswer p part counts a

-- the same under the profile whose text the bytes are
abbrev pub AnswersSeries : SeriesInput → SeriesAnswer → Type 0
AnswersSeries i a = (contents : Contents) × IsProfileOf i.profile contents × IsSeriesAnswer contents i.list i.part a

-- the part at this place is refused by this fault of its certificate
abbrev pub IsRefusal : ℕ → StreamFault → SeriesAnswer → Type 0
IsRefusal place f a = (g : CertFault) × (a ≡ answer.Refused place g) × (f ≡ stream.Cert g) × (g ≢ cert.OutOfMemory)

-- ---- the text and the status

abbrev pub status_of_series : SeriesAnswer → ℕ
status_of_series (answer.Files files) = 0
status_of_series (answer.Refused place f) = 2
status_of_series (answer.Miscounted place n) = 2
status_of_series answer.NotListed = 2

abbrev pub part_text : ℕ → List ℕ
part_text place = codes "NO part " ++ decimal place

abbrev pub text_of_series : SeriesAnswer → List ℕ
text_of_series (answer.Files files) = yes_text files.items
text_of_series (answer.Refused place f) = part_text place ++ codes " " ++ fault_text f
text_of_series (answer.Miscounted place n) = part_text place ++ codes " entries " ++ decimal n ++ codes "\n"
text_of_series answer.NotListed = codes "NO parts\n"

-- a verdict: an answer, with its status and its text
pub record IsSeriesVerdict (i : SeriesInput) (status : ℕ) (text : List ℕ) : Type 0 where
  pub answer : SeriesAnswer
  pub is : AnswersSeries i answer
  pub status_is : status ≡ status_of_series answer
  pub text_is : text ≡ text_of_series answer

abbrev pub IsSomeSeriesVerdict : SeriesInput → List ℕ → Type 0
IsSomeSeriesVerdict i text = (status : ℕ) × IsSeriesVerdict i status text

-- ---- why there is none

-- the fault of a recording, where its entry is wanted first; a device that has failed; out of memory
abbrev pub part_causes : Contents → (ℕ → Option Part) → List ℕ → Type 0 → Causes
part_causes p part counts Failed = record never {
  recording = λ f. IsReportedAsRead f × ((place : ℕ) × IsRefusedAt p part counts place (stream.Read f));
  device = Failed;
  memory = Unit {0};
}

abbrev pub IsPartsFault : Contents → (ℕ → Option Part) → List ℕ → Type 0 → RunFault → Type 0
IsPartsFault p part counts Failed = ComesBy (part_causes p part counts Failed)

-- out of memory, or a fault of the parts that are listed
abbrev pub IsListFault : Contents → List ℕ → (ℕ → Option Part) → Type 0 → RunFault → Type 0
IsListFault p list part Failed e = (e ≡ run.Memory) ⊎ ((counts : List ℕ) × ListsParts list counts × IsPartsFault p part counts Failed e)

-- the profile's own fault; those of parts that are listed; a device that has failed, after the profile was read; out of memory, once the profile is known to be a text
abbrev pub series_causes : SeriesInput → Type 0 → Causes
series_causes i Failed = record never {
  profile = λ f. HasFault i.profile f;
  recording = λ f. IsReportedAsRead f × ((contents : Contents) × (counts : List ℕ) × (place : ℕ) × IsProfileOf i.profile contents × ListsParts i.list counts × IsRefusedAt contents i.part counts place (stream.Read f));
  device = IsSomeProfile i.profile × Failed;
  memory = IsUtf8 i.profile;
}

abbrev pub IsSeriesFault : SeriesInput → Type 0 → RunFault → Type 0
IsSeriesFault i Failed = ComesBy (series_causes i Failed)

-- `series` writes the verdict, where the parts have not failed in the call; else it writes nothing
abbrev pub of_series : SeriesInput → Bool → Bool → Promise
of_series i before after = record {
  says = λ status text. IsSeriesVerdict i status text × (before ≡ false → after ≡ false);
  stops = λ e text. ⊥;
  begins = λ text. IsSomeSeriesVerdict i text × (before ≡ false → after ≡ false);
  refuses = IsSeriesFault i (after ≡ true);
}

-- why a part was not added: a device has failed, or else the fault of the part
abbrev pub IsStopOf : Bool → Result SeriesValue StreamFault → StreamFault → Type 0
IsStopOf failed added f = ((failed ≡ true) × (f ≡ stream.Device)) ⊎ ((failed ≡ false) × (added ≡ Err f))
