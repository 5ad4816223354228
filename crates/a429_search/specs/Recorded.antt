-- An attempt as the search keeps it, by the words that were recorded of it (ARINC 429 Part 3).
use Rattle.std.specs.Prelude.{◌≡◌, ◌+◌, ◌<◌, ℕ, ◌++◌, Bool, true, List, [], ◌∷◌, Option, Some, None, IfSome, IsSome, is_some, length, slice_get, take}
use Rattle.a429_word.specs.declared.bus.Bus.{Bus}
use Rattle.a429_word.specs.declared.bus.Bus.TheVariants as bus
use Rattle.a429_profile.specs.Profile.{Contents}
use Rattle.a429_profile.specs.declared.codes.Codes.{Codes}
use Rattle.a429_ldu.specs.declared.forms.Form.{Form}
use Rattle.a429_ldu.specs.declared.forms.Form.TheVariants.{Cts, Ack, Sot, Part, Eot}
use Rattle.a429_ldu.specs.Form.{form_of}
use Rattle.a429_ldu.specs.Ldu.{LduValue, IsLdu, count_of}
use Rattle.a429_link.specs.declared.seen.Seen.{Seen}
use Rattle.a429_link.specs.declared.number.UnitNumber.{UnitNumber}
use Rattle.a429_link.specs.Assignment.{Assigned}
use Rattle.a429_link.specs.Attempt.{asks, attempts, latest}
use Rattle.a429_link.specs.Attempt as link
use Rattle.a429_link.specs.Run.{IsSubsequenceOf}
use Rattle.a429_link.specs.WholeBlock.{data_words}
use Rattle.a429_search.specs.declared.attempts.Attempt.{Attempt}
use Rattle.a429_search.specs.declared.attempts.StartWord.{StartWord}
use Rattle.a429_merge.specs.declared.pieces.EndWord.{EndWord}
use Rattle.a429_merge.specs.declared.pieces.GroupPieces.{GroupPieces}

-- what the start word says that comes last among these, or, where there is none, what was said before
abbrev pub start_by : Option Form → Option StartWord → Option StartWord
start_by (Some (Sot gfi file ldu)) before = Some (record { gfi = gfi; number = record { file = file; ldu = ldu } })
start_by _ before = before

abbrev pub start_from : Codes → Option StartWord → List ℕ → Option StartWord
start_from c before [] = before
start_from c before (w ∷ words) = start_from c (start_by (form_of c bus.A w) before) words

-- what the end word says that comes last
abbrev pub end_by : Option Form → Option EndWord → Option EndWord
end_by (Some (Eot flags check)) before = Some (record { flags = flags; check = check })
end_by _ before = before

abbrev pub end_from : Codes → Option EndWord → List ℕ → Option EndWord
end_from c before [] = before
end_from c before (w ∷ words) = end_from c (end_by (form_of c bus.A w) before) words

-- how many words a request asks for, where there is one
abbrev pub asked_at : Codes → Option Seen → Option ℕ
asked_at c None = None
asked_at c (Some i) = asks i.bus (form_of c i.bus i.word)

-- the item is a request
abbrev pub IsRequestAt : Contents → List Seen → ℕ → Type 0
IsRequestAt p items i = IsSome (asked_at p.codes (slice_get items i))

-- none of the items after this one and before another is
abbrev pub HasNoRequestBetween : Contents → List Seen → ℕ → ℕ → Type 0
HasNoRequestBetween p items from to = (k : ℕ) → from < k → k < to → asked_at p.codes (slice_get items k) ≡ None

-- the numbers of a start word
abbrev pub number_of : Option StartWord → Option UnitNumber
number_of None = None
number_of (Some s) = Some s.number

abbrev pub gfi_of : Option StartWord → Option ℕ
gfi_of None = None
gfi_of (Some s) = Some s.gfi

-- ---- after the next word, which comes on a bus and has a form or none

abbrev pub start_after : Bus → Option Form → Option StartWord → Option StartWord
start_after bus.A x s = start_by x s
start_after bus.B (Some (Cts n)) s = None
start_after bus.B _ s = s

abbrev pub words_after : Bus → ℕ → Option Form → List ℕ → List ℕ
words_after bus.A w (Some (Part semis)) words = words ++ w ∷ []
words_after bus.B w (Some (Cts n)) words = []
words_after _ w _ words = words

abbrev pub end_after : Bus → Option Form → Option EndWord → Option EndWord
end_after bus.A x e = end_by x e
end_after bus.B (Some (Cts n)) e = None
end_after bus.B _ e = e

abbrev pub acked_after : Bus → Option Form → Bool → Bool
acked_after bus.B (Some (Ack file ldu)) acked = true
acked_after _ _ acked = acked

pub record IsTaken (b : Bus) (w : ℕ) (x : Option Form) (old new : Attempt) : Type 0 where
  pub count : new.count ≡ old.count
  pub start : new.start ≡ start_after b x old.start
  pub words : new.words.items ≡ words_after b w x old.words.items
  pub end : new.end ≡ end_after b x old.end
  pub acked : is_some new.acknowledged ≡ acked_after b x (is_some old.acknowledged)

-- ---- an attempt as a whole

-- it is this attempt: its count, its words by their forms, and whether it was acknowledged
pub record IsRecorded (c : Codes) (a : link.Attempt) (b : Attempt) : Type 0 where
  pub count : b.count ≡ a.count
  pub start : b.start ≡ start_from c None a.words
  pub words : b.words.items ≡ data_words c a.words
  pub end : b.end ≡ end_from c None a.words
  pub acked : is_some b.acknowledged ≡ is_some a.acked

-- it is the last attempt of the first `to` items, whose request is item `from`
pub record IsAttemptFrom (p : Contents) (items : List Seen) (from to : ℕ) (b : Attempt) : Type 0 where
  pub is : IsRecorded p.codes (latest p (take to items)) b
  pub all : attempts p (take to items) ≡ attempts p (take from items) ++ latest p (take to items) ∷ []

-- all words of its block were recorded
pub record IsWhole (b : Attempt) : Type 0 where
  pub start : IsSome b.start
  pub end : IsSome b.end
  pub words : length b.words.items + 2 ≡ b.count

-- it is whole, where it was acknowledged
abbrev pub IsWholeIfHeard : Attempt → Type 0
IsWholeIfHeard b = is_some b.acknowledged ≡ true → IsWhole b

-- it may have been one to send this link data unit
pub record MayBeOf (p : Contents) (b : Attempt) (u : LduValue) : Type 0 where
  pub unit : IsLdu p u
  pub count : count_of u ≡ b.count
  pub gfi : IfSome b.start (λ s. u.gfi ≡ s.gfi)
  pub end : IfSome b.end (λ e. (u.flags ≡ e.flags) × (u.check ≡ e.check))
  pub words : IsSubsequenceOf b.words.items u.words

-- and the number is that of its start word, where one was recorded
pub record MayBeTo (p : Contents) (b : Attempt) (t : Assigned) : Type 0 where
  pub unit : MayBeOf p b t.unit
  pub number : IfSome b.start (λ s. s.number ≡ t.number)

-- what the attempt recorded and what a group has recorded say the same of count, start word and end word, as far as both say something
pub record Agree (g : GroupPieces) (a : Attempt) : Type 0 where
  pub count : g.count ≡ a.count
  pub gfi : IfSome g.gfi (λ m. IfSome (gfi_of a.start) (λ n. m ≡ n))
  pub end : IfSome g.end (λ e. IfSome a.end (λ f. (e.flags ≡ f.flags) × (e.check ≡ f.check)))
