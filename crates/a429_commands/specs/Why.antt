-- What `a429 why` writes (profile).
use Rattle.std.specs.Prelude.{◌≡◌, ◌++◌, ◌==◌, if◌then◌else◌, ℕ, List, [], codes, false, Option, Some, None, IfSome}
use Rattle.std.specs.Fmt.{decimal}
use Rattle.a429_word.specs.Digits.{hex_text, numeral}
use Rattle.a429_profile.specs.Profile.{Contents}
use Rattle.a429_link.specs.declared.number.UnitNumber.{UnitNumber}
use Rattle.a429_link.specs.declared.seen.Seen.{Seen}
use Rattle.a429_link.specs.declared.next.Next.{Next}
use Rattle.a429_link.specs.Allowed.{kinds_of_next}
use Rattle.a429_record.specs.declared.entry.Entry.{Entry}
use Rattle.a429_cert.specs.Explained.{items_of}
use Rattle.a429_explain.specs.declared.verdict.Verdict.{Verdict}
use Rattle.a429_explain.specs.declared.verdict.Verdict.TheVariants.{Explained, Impossible, Unexplained}
use Rattle.a429_contradiction.specs.declared.rival.Rival.{Rival}
use Rattle.a429_contradiction.specs.declared.against.Against.{Against}
use Rattle.a429_contradiction.specs.declared.against.Against.TheVariants as against
use Rattle.a429_contradiction.specs.Against.{IsHeldAt}
use Rattle.a429_view.specs.Forms.{ldu_text}
use Rattle.a429_view.specs.Trace.{kinds_text}
use Rattle.a429_commands.specs.Check.{IsVerdictBy, verdict_status, verdict_text}
use Rattle.a429_commands.specs.Ends.{Heard, Promise, unheard_causes}
use Rattle.a429_commands.specs.Fault.{ComesBy}
use Rattle.a429_commands.specs.Recording.{SayInput, SaysEntries}
use Rattle.a429_commands.specs.declared.engines.rule.Rule.TheVariants as rule
use Rattle.a429_commands.specs.declared.engines.why.Answer.{Answer}

-- ---- the text

abbrev pub number_text : UnitNumber → List ℕ
number_text n = ldu_text n.file n.ldu

-- the entry that a word is held against
abbrev pub against_line : ℕ → List ℕ
against_line entry = codes "against " ++ decimal entry ++ codes "\n"

abbrev pub allowed_line : Next → List ℕ
allowed_line next = codes "allowed: " ++ kinds_text (kinds_of_next next) ++ codes "\n"

abbrev pub semis_line : ℕ → List ℕ
semis_line n = codes "semi-octets " ++ decimal n ++ codes ", no whole bytes\n"

abbrev pub check_line : ℕ → ℕ → List ℕ
check_line recorded of_bytes = codes "check word " ++ numeral 16 4 recorded ++ codes ", that of the bytes is " ++ numeral 16 4 of_bytes ++ codes "\n"

abbrev pub not_first_line : UnitNumber → List ℕ
not_first_line n = codes "number " ++ number_text n ++ codes ", none acknowledged before\n"

-- the number of a start word, and the one at this entry after which it may not come
abbrev pub after_lines : ℕ → UnitNumber → UnitNumber → List ℕ
after_lines entry n last = against_line entry ++ codes "number " ++ number_text n ++ codes " after " ++ number_text last ++ codes "\n"

-- two words, with a name before them and words between
abbrev pub words_lines : ℕ → List ℕ → ℕ → List ℕ → ℕ → List ℕ
words_lines entry name word between other = against_line entry ++ name ++ hex_text word ++ between ++ hex_text other ++ codes "\n"

-- how many words are asked for, and how many were before
abbrev pub counts_lines : ℕ → ℕ → ℕ → List ℕ
counts_lines entry count before = against_line entry ++ codes "count " ++ decimal count ++ codes ", before " ++ decimal before ++ codes "\n"

-- both ask for so many words
abbrev pub more_lines : ℕ → ℕ → List ℕ
more_lines entry count = against_line entry ++ codes "words of both, more than " ++ decimal count ++ codes "\n"

abbrev pub rival_lines : Rival → List ℕ
rival_lines r = if r.before == r.count then more_lines r.request r.count else counts_lines r.request r.count r.before

abbrev pub against_lines : Against → List ℕ
against_lines (against.Allowed next) = allowed_line next
against_lines (against.Semis n) = semis_line n
against_lines (against.Check recorded of_bytes) = check_line recorded of_bytes
against_lines (against.NotFirst n) = not_first_line n
against_lines (against.AfterAck n last entry) = after_lines entry n last
against_lines (against.AfterStart n last start entry) = after_lines entry n last
against_lines (against.OtherStart word start entry) = words_lines entry (codes "start word ") word (codes ", before ") start
against_lines (against.OtherCount count before start entry) = counts_lines entry count before
against_lines (against.OtherEnd word end entry) = words_lines entry (codes "end word ") word (codes ", before ") end
against_lines (against.OtherWord word next end entry) = words_lines entry (codes "word ") word (codes ", the block goes on with ") next
against_lines (against.Rival r) = rival_lines r

-- where nothing is known, there are no lines
abbrev pub lines_if_any : Option Against → List ℕ
lines_if_any None = []
lines_if_any (Some a) = against_lines a

abbrev pub why_text : Answer → List ℕ
why_text a = verdict_text a.verdict ++ lines_if_any a.against

-- ---- what it means

-- the entry of a verdict is held against this, by the verdict's reason
abbrev pub IsHeldBy : Contents → List Seen → Verdict → Against → Type 0
IsHeldBy p items (Explained certificate files) a = ⊥
IsHeldBy p items (Impossible i reason) a = IsHeldAt p items i reason a
IsHeldBy p items (Unexplained i doubt) a = ⊥

-- the verdict is that of `decide`, and its entry is held against this, where something is known
pub record IsAnswerBy (p : Contents) (items : List Seen) (a : Answer) : Type 0 where
  pub verdict : IsVerdictBy rule.Decide p items a.verdict
  pub held : IfSome a.against (IsHeldBy p items a.verdict)

-- on a recording, under a profile that was read
abbrev pub IsAnswerUnder : Contents → Option (List ℕ) → Answer → Type 0
IsAnswerUnder p recording a = (es : List Entry) × SaysEntries recording es × IsAnswerBy p (items_of es) a

-- on a recording, by the profile whose text the bytes are
abbrev pub IsAnswerOn : List ℕ → Option (List ℕ) → Answer → Type 0
IsAnswerOn profile recording a = (says : SayInput profile recording) × IsAnswerBy says.contents (items_of says.entries) a

-- its status and its text
pub record TellsWhy (profile : List ℕ) (rec : Heard) (status : ℕ) (text : List ℕ) : Type 0 where
  pub answer : Answer
  pub is : IsAnswerOn profile rec.bytes answer
  pub works : rec.failed ≡ false
  pub status_is : status ≡ verdict_status answer.verdict
  pub text_is : text ≡ why_text answer

-- `why` writes it; where there is none it writes nothing
abbrev pub of_why : List ℕ → Heard → Promise
of_why profile rec = record {
  says = TellsWhy profile rec;
  stops = λ e text. ⊥;
  begins = λ text. (status : ℕ) × TellsWhy profile rec status text;
  refuses = ComesBy (unheard_causes profile rec);
}
