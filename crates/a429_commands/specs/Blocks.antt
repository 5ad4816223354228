-- What `a429 blocks` writes (profile).
use Rattle.std.specs.Prelude.{◌≡◌, ◌++◌, ℕ, List, [], ◌∷◌, length, IfSome, Option, Result}
use Rattle.a429_profile.specs.Profile.{Contents}
use Rattle.a429_link.specs.declared.seen.Seen.{Seen}
use Rattle.a429_link.specs.Observer.{Allows, AreAllowed, at_first, observed}
use Rattle.a429_link.specs.Run.{BeginsARun}
use Rattle.a429_record.specs.declared.entry.Entry.{Entry}
use Rattle.a429_record.specs.Recording.{Recording, whole}
use Rattle.a429_cert.specs.Explained.{items_of, seen_of}
use Rattle.a429_parts.specs.Keeping.{Taken}
use Rattle.a429_view.specs.Blocks.{begun_text, blocks_text, refused_text}
use Rattle.a429_commands.specs.declared.fault.RunFault.{RunFault}
use Rattle.a429_commands.specs.Ends.{by_answer}
use Rattle.a429_commands.specs.Streaming.{AreAllBefore, AreThoseGiven}
use Rattle.a429_commands.specs.Trace.{BeginsWith}

-- no run records this word after those, which allow each other
pub record EndsAllRuns (p : Contents) (items : List Seen) (i : Seen) : Type 0 where
  pub before : AreAllowed p at_first items
  pub refused : Allows p (observed p items at_first) i → ⊥
  pub impossible : BeginsARun p (items ++ i ∷ []) → ⊥

-- the rows of a whole recording, each of whose entries is allowed after those before it; or of one up to the first entry that no run
-- records, and the row that names it
pub data AreAttemptsOf (p : Contents) (known : Option Recording) (status : ℕ) (text : List ℕ) : Type 0 where
  all : (es : List Entry) (all : IfSome known (λ r. r ≡ whole es)) (allowed : AreAllowed p at_first (items_of es)) (status_is : status ≡ 0) (text_is : text ≡ blocks_text p es) → AreAttemptsOf p known status text
  up_to : (es : List Entry) (e : Entry) (begins : BeginsWith known (es ++ e ∷ [])) (ends : EndsAllRuns p (items_of es) (seen_of e)) (status_is : status ≡ 1) (text_is : text ≡ refused_text p es e) → AreAttemptsOf p known status text

-- those of what was taken
abbrev pub ShowsAttempts : Contents → Taken → ℕ → List ℕ → Type 0
ShowsAttempts p t status text = AreAttemptsOf p t.recording status text

-- the text is the rows of the attempts that have ended in the entries that were handed out before a fault, each of which is allowed after those
-- before it; where the fault is the recording's, in all entries before it; where memory was refused, perhaps without the last one
pub record AreRowsBefore (p : Contents) (t : Taken) (e : RunFault) (text : List ℕ) : Type 0 where
  pub entries : List Entry
  pub begins : BeginsWith t.recording entries
  pub all : AreAllBefore e t.recording entries
  pub came : AreThoseGiven e t.given (length entries)
  pub allowed : AreAllowed p at_first (items_of entries)
  pub text_is : text ≡ begun_text p entries

-- the text of any answer
abbrev pub AreSomeRows : Contents → Taken → List ℕ → Type 0
AreSomeRows p t text = (answer : Result ℕ RunFault) × by_answer (ShowsAttempts p t) (AreRowsBefore p t) answer text

-- a text that comes after the names of the columns
abbrev pub begun_on : Contents → (List ℕ → Type 0) → List ℕ → Type 0
begun_on p Says text = Says (begun_text p [] ++ text)
