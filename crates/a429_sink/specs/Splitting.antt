-- A recording in pieces, while it is read (profile).
use Rattle.std.specs.Prelude.{ℕ, ◌≡◌, ◌⊎◌, ◌<◌, ◌≤◌, Bool, true, false, List, [], ◌∷◌, ◌++◌, length, map, take, drop, Option, Some, None, IfSome, slice_get}
use Rattle.a429_profile.specs.declared.codes.Codes.{Codes}
use Rattle.a429_profile.specs.Profile.{Contents}
use Rattle.a429_link.specs.declared.file.FileBytes.{FileBytes}
use Rattle.a429_link.specs.declared.seen.Seen.{Seen}
use Rattle.a429_record.specs.declared.entry.Entry.{Entry}
use Rattle.a429_record.specs.declared.fault.ReadFault.{ReadFault}
use Rattle.a429_record.specs.Recording.{Recording, whole}
use Rattle.a429_record.specs.Rows.{Stops}
use Rattle.a429_cert.specs.Explained.{items_of, seen_of}
use Rattle.a429_parts.specs.Keeping.{Taken, with_entries}
use Rattle.a429_sink.specs.declared.piece.Settled.{Settled}
use Rattle.a429_sink.specs.declared.requests.Mark.{Mark}
use Rattle.a429_sink.specs.declared.splitting.Splitting.{Splitting}
use Rattle.a429_sink.specs.History.{ArePieces, BeginsFileAt, EndsAt, IsTold}
use Rattle.a429_sink.specs.Piece.{IsPieceTrace, IsSettled, end_at_last, end_of, stop_at, told_at}
use Rattle.a429_sink.specs.declared.summary.PieceSummary.{PieceSummary}
use Rattle.a429_sink.specs.declared.summary.Summaries.{Summaries}
use Rattle.a429_sink.specs.Pieces.{HasPut, PutPieces, SaidPiece}
use Rattle.a429_sink.specs.Summary.{AreSummaries, AreTold}
use Rattle.a429_sink.specs.StoppingTrace.{sure_in}

-- ---- pieces that were put

-- their words
abbrev pub words_of : List SaidPiece → List (List Seen)
words_of said = map (λ s. items_of s.entries) said

-- their entries, one piece after the other
abbrev pub joined_said : List SaidPiece → List Entry
joined_said [] = []
joined_said (s ∷ said) = s.entries ++ joined_said said

-- what is said of each is so
abbrev pub AreSaid : Contents → List SaidPiece → Type 0
AreSaid p [] = Unit {0}
AreSaid p (s ∷ said) = IsTold p (items_of s.entries) s.told × IfSome s.stop (λ k. slice_get (items_of s.entries) k.place ≡ Some k.seen) × AreSaid p said

-- the first pieces of these items, and the items after them
abbrev pub AreFirstPieces : Contents → List Seen → List (List Seen) → List Seen → Type 0
AreFirstPieces p items [] left = items ≡ left
AreFirstPieces p items (piece ∷ pieces) left = (rest : List Seen) × (piece ++ rest ≡ items) × EndsAt p items (length piece) × AreFirstPieces p rest pieces left

-- ---- a whole recording

-- these entries were put in their pieces, of which this is told
pub record HasAll (p : Contents) (first now : Option PutPieces) (told : List PieceSummary) (entries : List Entry) : Type 0 where
  pub said : List SaidPiece
  pub all : joined_said said ≡ entries
  pub are : ArePieces p (items_of entries) (words_of said)
  pub is_said : AreSaid p said
  pub summaries : AreSummaries 0 said told
  pub puts : HasPut first now said [] []

-- all entries of a recording without fault, which are those that were handed out
pub record SplitsAll (p : Contents) (t : Taken) (first now : Option PutPieces) (told : List PieceSummary) : Type 0 where
  pub entries : List Entry
  pub came : t.given ≡ length entries
  pub all : IfSome t.recording (λ r. r ≡ whole entries)
  pub puts : HasAll p first now told entries

-- the entries that were handed out come before a fault, which is the recording's next where it is one of the recording
pub record SplitsUntil (p : Contents) (t : Taken) (first now : Option PutPieces) (fault : ReadFault) : Type 0 where
  pub entries : List Entry
  pub came : t.given ≡ length entries
  pub stops : IfSome t.recording (λ r. (rest : Recording) × (r ≡ with_entries entries rest) × Stops fault rest)

-- ---- while it is read

-- these items are still to come: none at the end
abbrev pub IsLeft : Bool → List Seen → Type 0
IsLeft true rest = rest ≡ []
IsLeft false rest = Unit {0}

-- these pieces were put, and are told of, and so are these entries and files of the one under way
abbrev pub Has : Option PutPieces → Option PutPieces → Summaries → List SaidPiece → List Entry → List FileBytes → Type 0
Has first now t said es files = HasPut first now said es files × AreTold said files t

-- of these entries and sure files of the piece under way those that are not put are held
pub record IsHolding (s : Splitting) (es : List Entry) (sure : List FileBytes) : Type 0 where
  pub held : s.held.items ≡ drop s.put.entries es
  pub files : s.files.items ≡ drop s.put.files sure
  pub few : s.put.entries ≤ length es
  pub few_files : s.put.files ≤ length sure

-- of these entries, which are the first of a recording or all, these pieces are put, and the other entries are those of the piece under way
pub record IsSplit (p : Contents) (at_end : Bool) (first now : Option PutPieces) (entries : List Entry) (s : Splitting) : Type 0 where
  pub said : List SaidPiece
  pub es : List Entry
  pub all : joined_said said ++ es ≡ entries
  pub ends : (rest : List Seen) → IsLeft at_end rest → AreFirstPieces p (items_of entries ++ rest) (words_of said) (items_of es ++ rest)
  pub told : AreSaid p said
  pub piece : IsPieceTrace p (items_of es) s.piece
  pub put : IsSettled s.put s.piece
  pub holds : IsHolding s es (sure_in p (items_of es) s.piece.trace)
  pub known : Has first now s.summaries said (take s.put.entries es) (take s.put.files (sure_in p (items_of es) s.piece.trace))

-- and the piece under way has not ended
pub record Splits (p : Contents) (at_end : Bool) (first now : Option PutPieces) (entries : List Entry) (s : Splitting) : Type 0 where
  pub is : IsSplit p at_end first now entries s
  pub goes : end_of s.piece ≡ None

-- and no file begins with a request after the first word of the piece under way, as far as is known
pub record HasBegunAnew (p : Contents) (at_end : Bool) (first now : Option PutPieces) (entries : List Entry) (s : Splitting) : Type 0 where
  pub is : IsSplit p at_end first now entries s
  pub goes : s.piece.requests.place ≡ None

-- one more entry is seen
pub record SeesNext (p : Contents) (items : List Seen) (e : Entry) (old new : Splitting) : Type 0 where
  pub files : List FileBytes
  pub piece : IsPieceTrace p items old.piece → end_of old.piece ≡ None → IsPieceTrace p (items ++ seen_of e ∷ []) new.piece
  pub sure : IsPieceTrace p items old.piece → sure_in p (items ++ seen_of e ∷ []) new.piece.trace ≡ sure_in p items old.piece.trace ++ files
  pub more : new.files.items ≡ old.files.items ++ files
  pub settled : (s : Settled) → IsSettled s old.piece → IsSettled s new.piece

-- ---- what is put of a piece

-- of these entries and files so many are put, and no fewer than before
pub record IsUpTo (upto put : Settled) (es : List Entry) (sure : List FileBytes) : Type 0 where
  pub entries : put.entries ≤ upto.entries
  pub files : put.files ≤ upto.files
  pub few : upto.entries ≤ length es
  pub few_files : upto.files ≤ length sure

-- the entries and files of the piece under way are put up to there
abbrev pub PutsUntil : Settled → Option PutPieces → Option PutPieces → Splitting → Splitting → Type 0
PutsUntil upto before now old new =
    (first : Option PutPieces) (said : List SaidPiece) (es : List Entry) (sure : List FileBytes) → IsHolding old es sure → IsUpTo upto old.put es sure → Has first before old.summaries said (take old.put.entries es) (take old.put.files sure)
    → Has first now new.summaries said (take upto.entries es) (take upto.files sure) × IsHolding new es sure × (new.put ≡ upto)

-- a piece that ends at a mark
abbrev pub said_at : Codes → Splitting → Mark → List Entry → List FileBytes → SaidPiece
said_at c s m es sure = record { entries = take m.place es; told = told_at c s.piece.trace sure m; stop = stop_at m.place s.piece.trace.stop }

-- nothing of the next piece is seen
pub record EndsPiece (c : Codes) (m : Mark) (before now : Option PutPieces) (old new : Splitting) : Type 0 where
  pub piece : (p : Contents) → IsPieceTrace p [] new.piece
  pub put : new.put ≡ record { entries = 0; files = 0 }
  pub files : new.files.items ≡ []
  pub puts : (first : Option PutPieces) (said : List SaidPiece) (es : List Entry) (sure : List FileBytes) → IsHolding old es sure → IsUpTo (record { entries = m.place; files = m.files }) old.put es sure
      → Has first before old.summaries said (take old.put.entries es) (take old.put.files sure) → Has first now new.summaries (said ++ said_at c old m es sure ∷ []) [] [] × (new.held.items ≡ drop m.place es)

-- the piece under way ends there
abbrev pub EndsThere : Bool → Splitting → Mark → Type 0
EndsThere at_end s m = (end_of s.piece ≡ Some m) ⊎ ((at_end ≡ true) × (end_at_last s.piece ≡ Some m))

-- ---- entries that are seen again

-- of the entries of the piece under way, none of which is put, so many are seen; no file begins with a request among them but the first
pub record Replays (p : Contents) (at_end : Bool) (first now : Option PutPieces) (entries : List Entry) (next : ℕ) (s : Splitting) : Type 0 where
  pub said : List SaidPiece
  pub es : List Entry
  pub all : joined_said said ++ es ≡ entries
  pub ends : (rest : List Seen) → IsLeft at_end rest → AreFirstPieces p (items_of entries ++ rest) (words_of said) (items_of es ++ rest)
  pub told : AreSaid p said
  pub known : Has first now s.summaries said [] []
  pub never : (m : ℕ) → 0 < m → BeginsFileAt p (items_of es) m → ⊥
  pub put : s.put ≡ record { entries = 0; files = 0 }
  pub held : s.held.items ≡ es
  pub few : next ≤ length es
  pub piece : IsPieceTrace p (items_of (take next es)) s.piece
  pub files : s.files.items ≡ sure_in p (items_of (take next es)) s.piece.trace
