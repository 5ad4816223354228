-- What a recording has shown so far of the link data unit whose start word came last, and the words that contradict it (ARINC 429
-- Part 3; which number a later start word may have: profile).
use Rattle.std.specs.Prelude.{ℕ, ◌≡◌, ◌≢◌, ◌⊎◌, Bool, true, false, ◌==◌, if◌then◌else◌, List, [], ◌∷◌, ◌++◌, length, take, slice_get, Option, Some, None}
use Rattle.a429_word.specs.declared.bus.Bus.{Bus}
use Rattle.a429_word.specs.declared.bus.Bus.TheVariants as bus
use Rattle.a429_profile.specs.Profile.{Contents}
use Rattle.a429_ldu.specs.declared.forms.Form.{Form}
use Rattle.a429_ldu.specs.declared.forms.Form.TheVariants.{Ack, Sot, Part, Eot}
use Rattle.a429_ldu.specs.Form.{form_of}
use Rattle.a429_link.specs.declared.number.UnitNumber.{UnitNumber}
use Rattle.a429_link.specs.declared.seen.Seen.{Seen}
use Rattle.a429_link.specs.Attempt.{Attempt, asks, fresh, grown, under_way}
use Rattle.a429_link.specs.Group.{IsFurther}
use Rattle.a429_link.specs.Number.{is_number}
use Rattle.a429_link.specs.Run.{IsSubsequenceOf}

-- what is recorded of a link data unit
pub record UnitSoFar : Type 0 where
  -- the number in its start word, and that word
  pub number : UnitNumber
  pub start : ℕ
  -- how many words its requests ask for
  pub count : ℕ
  -- its end word, where that is recorded
  pub ending : Option ℕ
  -- its block, where an attempt is recorded whole
  pub block : Option (List ℕ)

-- the attempt that is under way, and the link data unit whose start word was recorded last, unless another number was
-- acknowledged since
pub record SoFar : Type 0 where
  pub attempt : Attempt
  pub unit : Option UnitSoFar

abbrev pub none_so_far : SoFar
none_so_far = record { attempt = fresh 0; unit = None }

abbrev pub begun : Attempt → UnitNumber → ℕ → UnitSoFar
begun a n w = record { number = n; start = w; count = a.count; ending = None; block = None }

-- after a start word that is the first word of its attempt: the unit that was there, if it has this number, else a new one
abbrev pub started : Attempt → UnitNumber → ℕ → Option UnitSoFar → Option UnitSoFar
started a n w None = Some (begun a n w)
started a n w (Some u) = if is_number u.number n then Some u else Some (begun a n w)

abbrev pub with_start : Attempt → List ℕ → UnitNumber → ℕ → Option UnitSoFar → Option UnitSoFar
with_start a [] n w o = started a n w o
with_start a (v ∷ words) n w o = o

-- the attempt is one to send this unit: its first word is the unit's start word
abbrev pub sends : UnitSoFar → List ℕ → Bool
sends u [] = false
sends u (w ∷ words) = w == u.start

-- the words of the attempt are the block, if they are as many as were asked for
abbrev pub whole_block : ℕ → List ℕ → Option (List ℕ) → Option (List ℕ)
whole_block count words old = if length words == count then Some words else old

-- after an end word
abbrev pub ended : Attempt → ℕ → UnitSoFar → UnitSoFar
ended a w u = record u { ending = Some w; block = whole_block a.count (a.words ++ w ∷ []) u.block }

abbrev pub with_end : Attempt → ℕ → Option UnitSoFar → Option UnitSoFar
with_end a w None = None
with_end a w (Some u) = if sends u a.words then Some (ended a w u) else Some u

-- after an acknowledgement
abbrev pub with_ack : UnitNumber → Option UnitSoFar → Option UnitSoFar
with_ack n None = None
with_ack n (Some u) = if is_number u.number n then Some u else None

abbrev pub unit_after : Bus → ℕ → Option Form → SoFar → Option UnitSoFar
unit_after bus.A w (Some (Sot gfi file ldu)) s = with_start s.attempt s.attempt.words (record { file = file; ldu = ldu }) w s.unit
unit_after bus.A w (Some (Eot flags check)) s = with_end s.attempt w s.unit
unit_after bus.B w (Some (Ack file ldu)) s = with_ack (record { file = file; ldu = ldu }) s.unit
unit_after _ w _ s = s.unit

abbrev pub so_far_after : Bus → ℕ → Option Form → SoFar → SoFar
so_far_after b w x s = record { attempt = under_way (asks b x) (grown b w x s.attempt); unit = unit_after b w x s }

abbrev pub so_far_from : Contents → SoFar → List Seen → SoFar
so_far_from p s [] = s
so_far_from p s (i ∷ items) = so_far_from p (so_far_after i.bus i.word (form_of p.codes i.bus i.word) s) items

abbrev pub so_far : Contents → List Seen → SoFar
so_far p items = so_far_from p none_so_far items

-- ---- contradictions

-- the first word of its attempt is a start word with the unit's number, and with another general format identifier, or after a
-- request for another count
abbrev pub IsOtherStart : Attempt → List ℕ → UnitNumber → ℕ → Option UnitSoFar → Type 0
IsOtherStart a [] n w (Some u) = (is_number u.number n ≡ true) × ((w ≢ u.start) ⊎ (a.count ≢ u.count))
IsOtherStart a _ n w _ = ⊥

-- these words are not some of the block, in order
abbrev pub AreOther : List ℕ → Option (List ℕ) → Type 0
AreOther words None = ⊥
AreOther words (Some block) = ¬ IsSubsequenceOf words block

-- another end word
abbrev pub IsOtherEnd : ℕ → Option ℕ → Type 0
IsOtherEnd w None = ⊥
IsOtherEnd w (Some e) = w ≢ e

-- a word of the block contradicts what is recorded of the unit that the attempt is one to send
abbrev pub IsOtherWord : Attempt → ℕ → Option UnitSoFar → Type 0
IsOtherWord a w None = ⊥
IsOtherWord a w (Some u) = (sends u a.words ≡ true) × AreOther (a.words ++ w ∷ []) u.block

abbrev pub IsOtherLast : Attempt → ℕ → Option UnitSoFar → Type 0
IsOtherLast a w None = ⊥
IsOtherLast a w (Some u) = (sends u a.words ≡ true) × (IsOtherEnd w u.ending ⊎ AreOther (a.words ++ w ∷ []) u.block)

abbrev pub IsOtherForm : Bus → ℕ → Option Form → SoFar → Type 0
IsOtherForm bus.A w (Some (Sot gfi file ldu)) s = IsOtherStart s.attempt s.attempt.words (record { file = file; ldu = ldu }) w s.unit
IsOtherForm bus.A w (Some (Part semis)) s = IsOtherWord s.attempt w s.unit
IsOtherForm bus.A w (Some (Eot flags check)) s = IsOtherLast s.attempt w s.unit
IsOtherForm _ w _ s = ⊥

abbrev pub IsOtherNext : Contents → SoFar → Option Seen → Type 0
IsOtherNext p s None = ⊥
IsOtherNext p s (Some i) = IsOtherForm i.bus i.word (form_of p.codes i.bus i.word) s

-- item i contradicts what is recorded of the same link data unit before it
abbrev pub IsOtherAt : Contents → List Seen → ℕ → Type 0
IsOtherAt p items i = IsOtherNext p (so_far p (take i items)) (slice_get items i)

-- the first word of its attempt is a start word whose number is neither the unit's nor a further one
abbrev pub IsWrongStart : List ℕ → UnitNumber → Option UnitSoFar → Type 0
IsWrongStart [] n (Some u) = ¬ ((n ≡ u.number) ⊎ IsFurther u.number n)
IsWrongStart _ n _ = ⊥

abbrev pub IsWrongForm : Bus → Option Form → SoFar → Type 0
IsWrongForm bus.A (Some (Sot gfi file ldu)) s = IsWrongStart s.attempt.words (record { file = file; ldu = ldu }) s.unit
IsWrongForm _ _ s = ⊥

abbrev pub IsWrongNext : Contents → SoFar → Option Seen → Type 0
IsWrongNext p s None = ⊥
IsWrongNext p s (Some i) = IsWrongForm i.bus (form_of p.codes i.bus i.word) s

-- item i is a start word whose number no source can have gone to from that of the start word before it
abbrev pub IsWrongAt : Contents → List Seen → ℕ → Type 0
IsWrongAt p items i = IsWrongNext p (so_far p (take i items)) (slice_get items i)
