-- What a reader of lines will still return, and what it returns (profile).
use Rattle.std.specs.Prelude.{◌≡◌, ◌<◌, ℕ, ◌+◌, List, [], length, take, drop, false, Option, IfSome}
use Rattle.std.specs.Io.KnownBytes.{prepend_known, Consumes, Keeps}
use Rattle.a429_word.specs.declared.tally.Tally.{Tally}
use Rattle.a429_word.specs.Tally.{left_of, unread}
use Rattle.a429_record.specs.declared.lines.Lines.{Lines}
use Rattle.a429_record.specs.declared.format.Format.{Format}
use Rattle.a429_record.specs.declared.format.Format.TheVariants as format
use Rattle.a429_record.specs.Binary.{magic, is_binary}
use Rattle.a429_record.specs.Row.{Row}
use Rattle.a429_record.specs.Handed.{Loses, OfTaken, IsLineHanded, AreLines}

-- the bytes that were read and not yet used
abbrev pub ahead_of : Lines → List ℕ
ahead_of s = drop s.at (take s.filled s.buffer)

-- the bytes that are still to come, where they are known
abbrev pub pending_of : {R : Type 0} → (R → Option (List ℕ)) → Lines → Tally R → Option (List ℕ)
pending_of remaining s rec = prepend_known (ahead_of s) (unread remaining rec)

-- how many bytes may still be used
abbrev pub room_of : {R : Type 0} → Lines → Tally R → ℕ
room_of s rec = left_of rec + length (ahead_of s)

-- the bytes that are still to come before and after a call, where they are known
pub record Pending : Type 0 where
  pub old : Option (List ℕ)
  pub new : Option (List ℕ)

abbrev pub pending : {R : Type 0} → (R → Option (List ℕ)) → Lines → Tally R → Lines → Tally R → Pending
pending remaining old rec new new_rec = record { old = pending_of remaining old rec; new = pending_of remaining new new_rec }

-- these bytes are returned
abbrev pub HandsBytes : List ℕ → Pending → Type 0
HandsBytes bytes p = Consumes p.old p.new bytes

-- lines are returned: what they take of the bytes, and what is then left, are so
abbrev pub HandsOut : (List ℕ → List ℕ → Type 0) → Pending → Type 0
HandsOut P p = Loses P p.old p.new

-- this line is returned
abbrev pub HandsLine : List ℕ → Pending → Type 0
HandsLine line p = HandsOut (IsLineHanded line) p

-- whole lines are returned, and their rows are so
abbrev pub HandsRows : (List Row → Type 0) → Pending → Type 0
HandsRows P p = HandsOut (AreLines P) p

-- the reader fails: what it has returned until then, with the bytes that were read ahead, is so
abbrev pub FailsAfter : {R : Type 0} → (List ℕ → Type 0) → (R → Option (List ℕ)) → Lines → Tally R → Tally R → Type 0
FailsAfter P remaining old rec new_rec = Loses (OfTaken P) (pending_of remaining old rec) (unread remaining new_rec)

-- known bytes choose a format: those of a binary recording lose the eight that it begins with, those of a text stay
abbrev pub Chooses : Format → Option (List ℕ) → Option (List ℕ) → Type 0
Chooses format.Text old new = Keeps old new × IfSome old (λ bytes. is_binary bytes ≡ false)
Chooses format.Binary old new = Consumes old new magic

-- fewer of these eight are handed out
abbrev pub IsMagicFront : List ℕ → Type 0
IsMagicFront taken = (n : ℕ) × (n < 8) × (taken ≡ take n magic)

-- fewer than n bytes are handed out
abbrev pub IsShort : ℕ → List ℕ → Type 0
IsShort n taken = length taken < n

-- nothing is handed out
abbrev pub IsNothing : List ℕ → Type 0
IsNothing taken = taken ≡ []
