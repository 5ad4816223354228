-- What `a429 make` writes, and why it may write nothing (profile).
use Rattle.std.specs.Prelude.{◌≡◌, ◌≢◌, ◌+◌, ◌*◌, ◌<◌, ◌≤◌, ◌++◌, ℕ, List, [], ◌∷◌, length, Some, None, Result, All}
use Rattle.std.specs.List.{AllByRecursion}
use Rattle.std.specs.Str.{IsUtf8}
use Rattle.a429_profile.specs.Profile.{Contents}
use Rattle.a429_ldu.specs.declared.fault.CutFault.{CutFault}
use Rattle.a429_ldu.specs.declared.fault.CutFault.TheVariants as cut
use Rattle.a429_link.specs.declared.fault.CleanFault.TheVariants as clean
use Rattle.a429_link.specs.declared.seen.Seen.{Seen}
use Rattle.a429_link.specs.declared.step.Step.{Step}
use Rattle.a429_link.specs.Clean.{clean_words, first_refused, numbered, IsRunOf}
use Rattle.a429_record.specs.declared.entry.Entry.{Entry}
use Rattle.a429_record.specs.declared.fault.ReadFault.TheVariants as read
use Rattle.a429_record.specs.Recording.{most_entries}
use Rattle.a429_record.specs.Writing.{written_form}
use Rattle.a429_cert.specs.Explained.{items_of}
use Rattle.a429_commands.specs.declared.fault.RunFault.{RunFault}
use Rattle.a429_commands.specs.declared.fault.RunFault.TheVariants as run
use Rattle.a429_commands.specs.Ends.{Promise, by_answer}
use Rattle.a429_commands.specs.Fault.{Causes, ComesBy, never}
use Rattle.a429_commands.specs.Profile.{IsProfileOf, IsSomeProfile, HasFault}
use Rattle.a429_commands.specs.Recording.{SayInput}

-- words as entries of a recording, a thousandth of a second apart, the first at i of these
abbrev pub timed : ℕ → List Seen → List Entry
timed i [] = []
timed i (s ∷ items) = record { time = 1000 * i; bus = s.bus; word = s.word } ∷ timed (i + 1) items

-- what a run without loss records that carries the files: the first has number 1, and a link data unit has at most 255 words
abbrev pub words_made : Contents → List (List ℕ) → List Seen
words_made p files = clean_words p 255 1 files

-- the text that records it
abbrev pub recording_made : Contents → List (List ℕ) → List ℕ
recording_made p files = written_form (timed 0 (words_made p files))

-- each file of so many bytes makes so many words
abbrev pub MakesWords : ℕ → ℕ → Type 0
MakesWords len n = (bytes : List ℕ) → length bytes ≡ len → (p : Contents) → (file : ℕ) → length (clean_words p 255 file (bytes ∷ [])) ≡ n

-- the recording of these files by the profile whose text the bytes are
pub record MakesRecording (profile : List ℕ) (files : List (List ℕ)) (text : List ℕ) : Type 0 where
  pub contents : Contents
  pub is_profile : IsProfileOf profile contents
  pub cut : first_refused 255 0 files ≡ None
  pub room : length (words_made contents files) ≤ most_entries
  pub is : text ≡ recording_made contents files

-- each file is a list of bytes
abbrev pub AreByteLists : List (List ℕ) → Type 0
AreByteLists files = AllByRecursion (All (λ b. b < 256)) files

-- some run records these words that delivers all the files, the first under number 1
abbrev pub AreDelivered : Contents → List Seen → List (List ℕ) → Type 0
AreDelivered p words files = (steps : List Step) × IsRunOf p 1 steps words (record { files = numbered 1 files; open_bytes = [] })

-- such a recording of files that are lists of bytes
abbrev pub IsMadeOf : List ℕ → List (List ℕ) → List ℕ → Type 0
IsMadeOf profile files text = AreByteLists files × MakesRecording profile files text

-- the text is a recording, and what it says is what some run records that delivers these files
abbrev pub SaysRunOf : List ℕ → List (List ℕ) → List ℕ → Type 0
SaysRunOf profile files text = (says : SayInput profile (Some text)) × AreDelivered says.contents (items_of says.entries) files

-- each of these can be sent: it is a list of bytes, and none is refused
abbrev pub CanBeSent : List (List ℕ) → Type 0
CanBeSent files = AreByteLists files × (first_refused 255 0 files ≡ None)

-- there are more words than a recording may have
pub record AreTooMany (files : List (List ℕ)) : Type 0 where
  pub cut : first_refused 255 0 files ≡ None
  pub more : (p : Contents) → most_entries < length (words_made p files)

-- this is the first of the files that can not be cut, since it is empty or too long
abbrev pub IsUncut : List (List ℕ) → ℕ → CutFault → Type 0
IsUncut files k f = (first_refused 255 0 files ≡ Some (clean.Cut k f)) × (f ≢ cut.OutOfMemory)

-- why no recording is made of files: the first of them that can not be cut, or too many words
abbrev pub files_causes : List (List ℕ) → Causes
files_causes files = record never { recording = λ f. (f ≡ read.TooMany) × AreTooMany files; file = IsUncut files }

abbrev pub IsFilesFault : List (List ℕ) → RunFault → Type 0
IsFilesFault files = ComesBy (files_causes files)

-- why nothing is written: the profile's own fault, then that of the files; or out of memory, once the profile is known to be a text
abbrev pub make_causes : List ℕ → List (List ℕ) → Causes
make_causes profile files = record never {
  profile = HasFault profile;
  recording = λ f. IsSomeProfile profile × (f ≡ read.TooMany) × AreTooMany files;
  file = λ k f. IsSomeProfile profile × IsUncut files k f;
  memory = IsUtf8 profile;
}

-- with this text such a text begins
abbrev pub IsPrefixOf : (List ℕ → Type 0) → List ℕ → Type 0
IsPrefixOf IsSuch text = (rest : List ℕ) × IsSuch (text ++ rest)

-- `make` writes the recording, with status 0; where memory is refused between two files, a prefix of it; else nothing where there is a fault
abbrev pub of_make : List ℕ → List (List ℕ) → Promise
of_make profile files = record {
  says = λ status text. (status ≡ 0) × MakesRecording profile files text;
  stops = λ e text. (e ≡ run.Memory) × IsPrefixOf (MakesRecording profile files) text;
  begins = MakesRecording profile files;
  refuses = ComesBy (make_causes profile files);
}

-- the same of the recording of files of which none is refused, under a profile that was read
abbrev pub of_recording : List ℕ → Promise
of_recording whole = record {
  says = λ status text. (status ≡ 0) × (text ≡ whole);
  stops = λ e text. (e ≡ run.Memory) × IsPrefixOf (λ t. t ≡ whole) text;
  begins = λ text. text ≡ whole;
  refuses = λ e. e ≡ run.Memory;
}

abbrev pub AnswersRecording : List ℕ → Result ℕ RunFault → List ℕ → Type 0
AnswersRecording whole = by_answer (of_recording whole).says (of_recording whole).stops
