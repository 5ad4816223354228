-- The verdict on a recording, and how it is written (profile).
use Rattle.std.specs.Prelude.{◌≡◌, ◌++◌, ℕ, Bool, List, [], codes, true, false, Option, Some, None, take}
use Rattle.a429_profile.specs.Profile.{Contents}
use Rattle.a429_link.specs.declared.seen.Seen.{Seen}
use Rattle.a429_link.specs.Run.{BeginsARun}
use Rattle.a429_record.specs.declared.entry.Entry.{Entry}
use Rattle.std.specs.Fmt.{decimal}
use Rattle.a429_cert.specs.Explained.{items_of}
use Rattle.a429_explain.specs.declared.verdict.Verdict.{Verdict}
use Rattle.a429_explain.specs.declared.verdict.Verdict.TheVariants.{Explained, Impossible, Unexplained}
use Rattle.a429_explain.specs.declared.verdict.Reason.{Reason}
use Rattle.a429_explain.specs.declared.verdict.Reason.TheVariants.{NoForm, NotGranted, WrongAnswer, BadBlock, WrongNumber, OtherBlock, NoRun}
use Rattle.a429_explain.specs.declared.verdict.Doubt.{Doubt}
use Rattle.a429_explain.specs.declared.verdict.Doubt.TheVariants.{NeverWhole, NotOneBlock, NotReplayed, OutOfSteps}
use Rattle.a429_merge.specs.declared.budget.Cut.{Cut}
use Rattle.a429_search.specs.Deciding.{IsExact, IsImpossibleBy, IsImpossibleUpTo, IsOfCheck, IsReasonAt}
use Rattle.a429_explain.specs.Verdict.{IsSoundVerdict, IsAccepted, IsOfLeastVersion, IsImpossible, IsDoubted, IsFirst, HasNoForm, IsImpossibility, IsExplanation}
use Rattle.a429_explain.specs.WithoutLoss.{IsWithoutLoss}
use Rattle.a429_cert.specs.Stream.{sizes}
use Rattle.a429_commands.specs.declared.fault.RunFault.{RunFault}
use Rattle.a429_commands.specs.Ends.{Heard, IsBrokenOff, PromiseOfFile, unheard_causes}
use Rattle.a429_commands.specs.Output.{Output}
use Rattle.a429_commands.specs.declared.engines.check.Told.{Told}
use Rattle.a429_commands.specs.declared.engines.rule.Rule.{Rule}
use Rattle.a429_commands.specs.declared.engines.rule.Rule.TheVariants as rule
use Rattle.a429_commands.specs.Fault.{ComesBy}
use Rattle.a429_commands.specs.Recording.{SayInput, SaysEntries}
use Rattle.a429_view.specs.Verdict.{yes_text}

-- ---- the text

abbrev pub reason_text : Reason → List ℕ
reason_text NoForm = codes " NoForm\n"
reason_text NotGranted = codes " NotGranted\n"
reason_text WrongAnswer = codes " WrongAnswer\n"
reason_text BadBlock = codes " BadBlock\n"
reason_text WrongNumber = codes " WrongNumber\n"
reason_text OtherBlock = codes " OtherBlock\n"
reason_text NoRun = codes " NoRun\n"

abbrev pub doubt_text : Doubt → List ℕ
doubt_text NeverWhole = codes " NeverWhole\n"
doubt_text NotOneBlock = codes " NotOneBlock\n"
doubt_text NotReplayed = codes " NotReplayed\n"
doubt_text OutOfSteps = codes " OutOfSteps\n"

abbrev pub verdict_text : Verdict → List ℕ
verdict_text (Explained certificate files) = yes_text (sizes files)
verdict_text (Impossible i reason) = codes "IMPOSSIBLE " ++ decimal i ++ reason_text reason
verdict_text (Unexplained i doubt) = codes "UNEXPLAINED " ++ decimal i ++ doubt_text doubt

-- what may follow a verdict
abbrev pub note_text : Bool → List ℕ
note_text true = codes "the entries before it are not explained\n"
note_text false = []

abbrev pub told_text : Told → List ℕ
told_text t = verdict_text t.verdict ++ note_text t.has_note

-- the certificate that is written: none but of a recording that is explained
abbrev pub certificate_of : Verdict → Option (List ℕ)
certificate_of (Explained certificate files) = Some certificate
certificate_of (Impossible i reason) = None
certificate_of (Unexplained i doubt) = None

abbrev pub verdict_status : Verdict → ℕ
verdict_status (Explained certificate files) = 0
verdict_status (Impossible i reason) = 1
verdict_status (Unexplained i doubt) = 2

-- ---- what it means

-- the verdict of `decide`: an explanation of `check`, or one of words of which `check` has a doubt; impossible where no run has the words up
-- to the entry: from the first word on at which some reason holds, or by `NoRun`; or left open. The words do not say by which limit its search
-- was cut short, if it was: that an entry is the first says `IsNotedBy`
pub record IsDecided (p : Contents) (items : List Seen) (v : Verdict) : Type 0 where
  pub of_check : IsOfCheck p items v
  pub cut : Option Cut
  pub exact : IsExact p items cut v
  pub impossible : IsImpossibleBy p items v
  pub first : (i : ℕ) (reason : Reason) → IsReasonAt p items i reason → IsImpossibleUpTo i v

-- the verdict that the rule of a command gives: of `check` at the first test that fails
abbrev pub IsByRule : Rule → Contents → List Seen → Verdict → Type 0
IsByRule rule.Check p items v = IsFirst p items v × IsImpossible p items v
IsByRule rule.Decide p items v = IsDecided p items v

-- such a verdict on recorded words, under a profile
pub record IsVerdictBy (by_rule : Rule) (p : Contents) (items : List Seen) (v : Verdict) : Type 0 where
  pub sound : IsSoundVerdict p items v
  pub accepted : IsAccepted p items v
  pub version : IsOfLeastVersion p items v
  pub doubted : IsDoubted p items v
  pub first : IsByRule by_rule p items v
  pub no_form : HasNoForm p.codes items → IsImpossibility v
  pub without_loss : IsWithoutLoss p items → IsExplanation v

-- the words before an entry that is impossible are those with which some run's trace begins: so no earlier entry is impossible
abbrev pub IsEarliest : Contents → List Seen → Verdict → Type 0
IsEarliest p items (Impossible i reason) = BeginsARun p (take i items)
IsEarliest p items _ = Unit {0}

-- `decide` says by a note where it has not found that the entry is the earliest, and nowhere else; after a verdict of `check` there is none
abbrev pub IsNotedBy : Rule → Contents → List Seen → Told → Type 0
IsNotedBy rule.Check p items t = t.has_note ≡ false
IsNotedBy rule.Decide p items t = (t.has_note ≡ false → IsEarliest p items t.verdict) × (t.has_note ≡ true → IsImpossibility t.verdict)

abbrev pub IsToldBy : Rule → Contents → List Seen → Told → Type 0
IsToldBy by_rule p items t = IsVerdictBy by_rule p items t.verdict × IsNotedBy by_rule p items t

-- it is one on a recording, by the profile whose text the bytes are; the recording's bytes are known where its reader says them
abbrev pub IsToldOn : Rule → List ℕ → Option (List ℕ) → Told → Type 0
IsToldOn by_rule profile recording t = (says : SayInput profile recording) × IsToldBy by_rule says.contents (items_of says.entries) t

-- it is one on a recording, under a profile that was read
abbrev pub IsToldUnder : Rule → Contents → Option (List ℕ) → Told → Type 0
IsToldUnder by_rule p recording t = (es : List Entry) × SaysEntries recording es × IsToldBy by_rule p (items_of es) t

-- ---- how it is reported

-- the status and the text of such a verdict, with its certificate or none
pub record TellsVerdict (IsSuch : Told → Type 0) (certificate : Option (List ℕ)) (status : ℕ) (text : List ℕ) : Type 0 where
  pub told : Told
  pub is : IsSuch told
  pub certificate_is : certificate ≡ certificate_of told.verdict
  pub status_is : status ≡ verdict_status told.verdict
  pub text_is : text ≡ told_text told

-- what the certificate's writer has where it failed: a prefix of the certificate
abbrev pub LeavesCertificate : {C : Type 0} → Output C → Verdict → Type 0
LeavesCertificate c v = (text : List ℕ) × (certificate_of v ≡ Some text) × IsBrokenOff c ⊥ text

-- such a verdict is reported: first its certificate, where it has one, and then its text
abbrev pub of_told : (Told → Type 0) → (RunFault → Type 0) → PromiseOfFile
of_told IsSuch Refuses = record {
  after = λ certificate. record {
    says = TellsVerdict IsSuch certificate;
    stops = λ e text. ⊥;
    begins = λ text. (status : ℕ) × TellsVerdict IsSuch certificate status text;
    refuses = λ e. (certificate ≡ None) × Refuses e;
  };
  breaks = λ text. (t : Told) × IsSuch t × (certificate_of t.verdict ≡ Some text);
  other = ⊥;
}

-- the verdict on a recording, whose reader has not failed
abbrev pub IsToldOfHeard : Rule → List ℕ → Heard → Told → Type 0
IsToldOfHeard by_rule profile rec t = IsToldOn by_rule profile rec.bytes t × (rec.failed ≡ false)

-- `check` and `decide` report it; where there is none they write nothing
abbrev pub of_check : Rule → List ℕ → Heard → PromiseOfFile
of_check by_rule profile rec = of_told (IsToldOfHeard by_rule profile rec) (ComesBy (unheard_causes profile rec))
