-- What `a429 survey` writes, and why it may fail (profile).
use Rattle.std.specs.Prelude.{◌≡◌, ℕ, List, Bool, true, false, Option, IfSome}
use Rattle.std.specs.Str.{IsUtf8}
use Rattle.a429_profile.specs.declared.codes.Codes.{Codes}
use Rattle.a429_record.specs.declared.entry.Entry.{Entry}
use Rattle.a429_record.specs.Recording.{Recording, whole}
use Rattle.a429_view.specs.declared.survey.Survey.{Survey}
use Rattle.a429_view.specs.Survey.{IsSurvey, survey_text}
use Rattle.a429_commands.specs.Ends.{Promise}
use Rattle.a429_commands.specs.Fault.{Causes, ComesBy, never}
use Rattle.a429_commands.specs.Profile.{IsSomeProfile, HasFault}
use Rattle.a429_commands.specs.Streaming.{SayStream, IsFaultToCome}

-- the text is that of what a profile's text and a recording say
pub record Surveys (profile : List ℕ) (rec : Option Recording) (text : List ℕ) : Type 0 where
  pub says : SayStream profile rec
  pub lines : text ≡ survey_text says.contents.codes says.entries

-- the counts are those of the entries that come
abbrev pub Counts : Codes → Option Recording → Survey → Type 0
Counts c rec s = (es : List Entry) × IsSurvey c s es × IfSome rec (λ r. r ≡ whole es)

-- why nothing is written: the profile's own fault, then the recording's; its reader failed; or out of memory, once the profile is known to be a text
abbrev pub survey_causes : List ℕ → Option Recording → Bool → Causes
survey_causes profile rec failed = record never {
  profile = HasFault profile;
  recording = λ f. IsSomeProfile profile × IsFaultToCome rec f;
  device = IsSomeProfile profile × (failed ≡ true);
  memory = IsUtf8 profile;
}

-- `survey` writes the text, with status 0, where the reader has not failed
abbrev pub of_survey : List ℕ → Option Recording → Bool → Promise
of_survey profile rec failed = record {
  says = λ status text. (status ≡ 0) × Surveys profile rec text × (failed ≡ false);
  stops = λ e text. ⊥;
  begins = λ text. Surveys profile rec text × (failed ≡ false);
  refuses = ComesBy (survey_causes profile rec failed);
}
