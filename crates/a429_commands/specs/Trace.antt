-- What `a429 trace` writes (profile).
use Rattle.std.specs.Prelude.{◌≡◌, ◌++◌, ℕ, List, [], ◌∷◌, length, codes, Option, IfSome, Result}
use Rattle.std.specs.List.{flat_map}
use Rattle.std.specs.Fmt.{decimal}
use Rattle.a429_profile.specs.Profile.{Contents}
use Rattle.a429_ldu.specs.Sight.{sight_of}
use Rattle.a429_link.specs.declared.doing.Crossing.{Crossing}
use Rattle.a429_link.specs.declared.seen.Seen.{Seen}
use Rattle.a429_link.specs.Implied.{implied, implied_at_first, sizes_of}
use Rattle.a429_link.specs.Observer.{Allows, AreAllowed, at_first, observed}
use Rattle.a429_link.specs.Run.{BeginsARun, RunOf, delivered_by, trace}
use Rattle.a429_link.specs.Trace.{files_of}
use Rattle.a429_record.specs.declared.entry.Entry.{Entry}
use Rattle.a429_record.specs.Recording.{Recording, whole}
use Rattle.a429_cert.specs.Explained.{items_of, seen_of}
use Rattle.a429_explain.specs.declared.verdict.Reason.{Reason}
use Rattle.a429_explain.specs.declared.verdict.Verdict.TheVariants as verdict
use Rattle.a429_explain.specs.Walk.{FitsSight}
use Rattle.a429_view.specs.Trace.{lines_of, refused_line}
use Rattle.a429_commands.specs.declared.fault.RunFault.{RunFault}
use Rattle.a429_commands.specs.Check.{verdict_text}
use Rattle.a429_commands.specs.Ends.{by_answer}
use Rattle.a429_parts.specs.Keeping.{Taken}
use Rattle.a429_commands.specs.Streaming.{AreAllBefore, AreThoseGiven}
use Rattle.a429_view.specs.Verdict.{file_line}

-- ---- the text

-- the line of a file
abbrev pub size_line : Crossing → List ℕ
size_line f = file_line (f.number, f.bytes)

-- of which transfers the lines above it speak
abbrev pub premise : List ℕ
premise = codes "if there is such a transfer, which decide finds out; if there is none, see sink\n"

-- the files of every run that records these words
abbrev pub only_text : List Crossing → List ℕ
only_text files = codes "ONLY files " ++ decimal (length files) ++ codes "\n" ++ flat_map size_line files ++ premise

-- the lines of the first entries of a recording
abbrev pub first_lines : Contents → List Entry → List ℕ
first_lines p es = lines_of p 0 implied_at_first es

-- each run that records these words delivers exactly these files
abbrev pub AreInEachRun : Contents → List Seen → List Crossing → Type 0
AreInEachRun p items files = (r : RunOf p) → trace r.steps ≡ items → sizes_of (delivered_by r) ≡ files

-- these are the first entries of the recording, where it is known
abbrev pub BeginsWith : Option Recording → List Entry → Type 0
BeginsWith known es = IfSome known (λ r. (more : List Entry) × (r.entries ≡ es ++ more))

-- no run records this word after those, which allow each other, and the reason fits it
pub record IsRefusedAfter (p : Contents) (items : List Seen) (i : Seen) (reason : Reason) : Type 0 where
  pub before : AreAllowed p at_first items
  pub refused : Allows p (observed p items at_first) i → ⊥
  pub fits : FitsSight (sight_of p.codes i.bus i.word) reason
  pub impossible : BeginsARun p (items ++ i ∷ []) → ⊥

-- the trace of a whole recording: the lines of its entries, each of which is allowed after those before it, and the files
-- of the sink, which each run delivers that records these words; or of one up to the first entry that no run records, its line, and the reason
pub data IsTraceOf (p : Contents) (known : Option Recording) (status : ℕ) (text : List ℕ) : Type 0 where
  only : (es : List Entry) (all : IfSome known (λ r. r ≡ whole es)) (allowed : AreAllowed p at_first (items_of es)) (files : List Crossing) (sink : files ≡ sizes_of (files_of p (items_of es))) (delivered : AreInEachRun p (items_of es) files) (status_is : status ≡ 0) (text_is : text ≡ first_lines p es ++ only_text files) → IsTraceOf p known status text
  impossible : (es : List Entry) (e : Entry) (begins : BeginsWith known (es ++ e ∷ [])) (reason : Reason) (refused : IsRefusedAfter p (items_of es) (seen_of e) reason) (status_is : status ≡ 1) (text_is : text ≡ first_lines p es ++ (refused_line p (length es) (implied p (items_of es) implied_at_first) e ++ verdict_text (verdict.Impossible (length es) reason))) → IsTraceOf p known status text

-- ---- where it is cut off

-- the text is the lines of the entries that were handed out before a fault, each of which is allowed after those before it; where the fault is the
-- recording's, of all entries before it; where memory was refused, the last one may have no line
pub record IsCut (p : Contents) (t : Taken) (e : RunFault) (text : List ℕ) : Type 0 where
  pub entries : List Entry
  pub begins : BeginsWith t.recording entries
  pub all : AreAllBefore e t.recording entries
  pub came : AreThoseGiven e t.given (length entries)
  pub allowed : AreAllowed p at_first (items_of entries)
  pub text_is : text ≡ first_lines p entries

-- the trace of what was taken
abbrev pub Traces : Contents → Taken → ℕ → List ℕ → Type 0
Traces p t status text = IsTraceOf p t.recording status text

-- the text of any answer
abbrev pub AreSomeLines : Contents → Taken → List ℕ → Type 0
AreSomeLines p t text = (answer : Result ℕ RunFault) × by_answer (Traces p t) (IsCut p t) answer text
