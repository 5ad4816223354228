-- What the words recorded under one grant say by themselves, and the number of a start word (ARINC 429 Part 3; which numbers may
-- come: profile). The block is that of the observer: the words since the start word.
use Rattle.std.specs.Prelude.{ℕ, ◌≡◌, ◌+◌, Bool, true, false, ◌&&◌, List, [], ◌∷◌, ◌++◌, Option, Some, None, is_some, length, slice_get, take}
use Rattle.a429_word.specs.declared.bus.Bus.{Bus}
use Rattle.a429_word.specs.declared.bus.Bus.TheVariants as bus
use Rattle.a429_profile.specs.Profile.{Contents}
use Rattle.a429_profile.specs.declared.codes.Codes.{Codes}
use Rattle.a429_ldu.specs.Carried.{bytes_carried, bytes_in}
use Rattle.a429_ldu.specs.CheckWord.{agrees}
use Rattle.a429_ldu.specs.declared.forms.Form.{Form}
use Rattle.a429_ldu.specs.declared.forms.Form.TheVariants.{Sot, Part, Eot}
use Rattle.a429_ldu.specs.Form.{form_of}
use Rattle.a429_ldu.specs.Ldu.{LduValue, ldu_of}
use Rattle.a429_link.specs.declared.seen.Seen.{Seen}
use Rattle.a429_link.specs.Sink.{Block, SinkPhase, InBlock, Number, may_come}
use Rattle.a429_link.specs.Observer.{Observer, at_first, observed}
use Rattle.a429_link.specs.Attempt.{Attempt, latest}

-- ---- a whole block

-- an end word of bus A ends a whole block: its start word is recorded under the same grant, and as many data words as were asked
-- for. With the end word's flags and check word they make this link data unit, if they make one
abbrev pub EndsForm : Bus → Option Form → SinkPhase → ℕ → LduValue → Type 0
EndsForm bus.A (Some (Eot flags check)) (InBlock b) count u = (length b.words + 2 ≡ count) × (ldu_of b.gfi flags check b.words ≡ u)
EndsForm _ _ _ count u = ⊥

abbrev pub EndsWhole : Contents → Observer → Option Seen → LduValue → Type 0
EndsWhole p o None u = ⊥
EndsWhole p o (Some i) u = EndsForm i.bus (form_of p.codes i.bus i.word) o.phase o.count u

-- item i of a recording ends a whole block
abbrev pub EndsWholeAt : Contents → List Seen → ℕ → LduValue → Type 0
EndsWholeAt p items i u = EndsWhole p (observed p (take i items) at_first) (slice_get items i) u

-- the data words carry bytes, and the check word is that of the bytes, where the profile compares check words
abbrev pub makes_unit : Contents → Block → ℕ → Bool
makes_unit p b check = is_some (bytes_carried p.codes b.words) && agrees p.check (bytes_in p.codes b.words) check

-- a whole block ends here, and makes no link data unit, whatever its number is
abbrev pub EndsBadForm : Contents → Bus → Option Form → SinkPhase → ℕ → Type 0
EndsBadForm p bus.A (Some (Eot flags check)) (InBlock b) count = (length b.words + 2 ≡ count) × (makes_unit p b check ≡ false)
EndsBadForm p _ _ _ count = ⊥

abbrev pub EndsBad : Contents → Observer → Option Seen → Type 0
EndsBad p o None = ⊥
EndsBad p o (Some i) = EndsBadForm p i.bus (form_of p.codes i.bus i.word) o.phase o.count

abbrev pub EndsBadAt : Contents → List Seen → ℕ → Type 0
EndsBadAt p items i = EndsBad p (observed p (take i items) at_first) (slice_get items i)

-- ---- all data words

-- the data words among these words
abbrev pub data_first : ℕ → Option Form → List ℕ → List ℕ
data_first w (Some (Part semis)) words = w ∷ words
data_first w _ words = words

abbrev pub data_words : Codes → List ℕ → List ℕ
data_words c [] = []
data_words c (w ∷ words) = data_first w (form_of c bus.A w) (data_words c words)

-- as many data words as a block of so many words has, and they carry no bytes: their semi-octets are odd in number
abbrev pub AreHalf : Codes → List ℕ → ℕ → Type 0
AreHalf c words count = (length words + 2 ≡ count) × (bytes_carried c words ≡ None)

-- a data word of bus A is the last one of its block, of which each data word is recorded under one grant, and they carry no bytes.
-- The start word may be lost, and the end word is still to come
abbrev pub IsHalfForm : Codes → Bus → ℕ → Option Form → Attempt → Type 0
IsHalfForm c bus.A w (Some (Part semis)) a = AreHalf c (data_words c a.words ++ w ∷ []) a.count
IsHalfForm c _ w _ a = ⊥

abbrev pub IsHalfNext : Contents → Attempt → Option Seen → Type 0
IsHalfNext p a None = ⊥
IsHalfNext p a (Some i) = IsHalfForm p.codes i.bus i.word (form_of p.codes i.bus i.word) a

-- item i is such a data word
abbrev pub IsHalfAt : Contents → List Seen → ℕ → Type 0
IsHalfAt p items i = IsHalfNext p (latest p (take i items)) (slice_get items i)

-- ---- the number of a start word

-- a start word of bus A has the number of the link data unit accepted last, or a number in sequence with it
abbrev pub ComesForm : Codes → Bus → Option Form → Option Number → Type 0
ComesForm c bus.A (Some (Sot gfi file ldu)) last = may_come c last (record { file = file; ldu = ldu }) ≡ true
ComesForm c _ _ last = Unit {0}

abbrev pub ComesNext : Contents → Observer → Option Seen → Type 0
ComesNext p o None = Unit {0}
ComesNext p o (Some i) = ComesForm p.codes i.bus (form_of p.codes i.bus i.word) o.last

-- if item i is a start word, its number may come after the one accepted last
abbrev pub NumberComesAt : Contents → List Seen → ℕ → Type 0
NumberComesAt p items i = ComesNext p (observed p (take i items) at_first) (slice_get items i)
