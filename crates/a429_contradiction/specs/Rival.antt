-- The attempt that another attempt is held against, where no link data unit has the words of both (ARINC 429 Part 3).
use Rattle.std.specs.Prelude.{ℕ, suc, ◌≡◌, ◌≢◌, ◌⊎◌, ◌+◌, ◌<◌, Bool, true, false, if◌then◌else◌, List, [], ◌∷◌, ◌++◌, length, slice_get, Option, Some, None}
use Rattle.a429_word.specs.declared.bus.Bus.{Bus}
use Rattle.a429_word.specs.declared.bus.Bus.TheVariants as bus
use Rattle.a429_profile.specs.Profile.{Contents}
use Rattle.a429_profile.specs.declared.codes.Codes.{Codes}
use Rattle.a429_ldu.specs.declared.forms.Form.{Form}
use Rattle.a429_ldu.specs.declared.forms.Form.TheVariants.{Rts, Cts, Ack, Sot, Part, Eot}
use Rattle.a429_ldu.specs.Form.{form_of}
use Rattle.a429_link.specs.declared.number.UnitNumber.{UnitNumber}
use Rattle.a429_link.specs.declared.seen.Seen.{Seen}
use Rattle.a429_link.specs.Attempt.{Attempt, HasNumber, asks, fresh, latest}
use Rattle.a429_link.specs.Group.{AcksOnly}
use Rattle.a429_link.specs.Number.{is_number}
use Rattle.a429_link.specs.Run.{IsSubsequenceOf}
use Rattle.a429_link.specs.WholeBlock.{data_words}
use Rattle.a429_contradiction.specs.declared.rival.Rival.{Rival}

-- an attempt, and the entry of its request, where there is one
pub record Asked : Type 0 where
  pub request : Option ℕ
  pub attempt : Attempt

-- the attempt that is under way, and attempts before it, with the entries of their requests. What is acknowledged in them is left out
pub record Attempts : Type 0 where
  pub last : Asked
  -- the number of the start word that was recorded last, unless another number was acknowledged since
  pub number : Option UnitNumber
  -- the attempt that is under way has a start word with this number
  pub named : Bool
  -- the attempts since the first one whose start word had this number, in order
  pub kept : List Asked

abbrev pub at_first : Attempts
at_first = record { last = record { request = None; attempt = fresh 0 }; number = None; named = false; kept = [] }

-- ---- after one more word

-- after a request at this entry for so many words
abbrev pub with_request : ℕ → ℕ → Attempts → Attempts
with_request entry n t = record { last = record { request = Some entry; attempt = fresh n }; number = t.number; named = false; kept = t.kept ++ t.last ∷ [] }

-- after a word of the block
abbrev pub joined : ℕ → Attempts → Attempts
joined w t = record t { last = record (t.last) { attempt = record (t.last.attempt) { words = t.last.attempt.words ++ w ∷ [] } } }

-- with a start word that is the first word of its attempt
abbrev pub named_as : UnitNumber → Option UnitNumber → Attempts → Attempts
named_as n None t = record t { number = Some n; named = true; kept = [] }
named_as n (Some m) t = if is_number m n then record t { named = true } else record t { number = Some n; named = true; kept = [] }

abbrev pub started : UnitNumber → ℕ → List ℕ → Attempts → Attempts
started n w [] t = joined w (named_as n t.number t)
started n w (v ∷ words) t = joined w t

-- after a clear answer
abbrev pub cleared : Attempts → Attempts
cleared t = record t { last = record (t.last) { attempt = record (t.last.attempt) { words = [] } }; named = false }

-- after an acknowledgement
abbrev pub heard_as : UnitNumber → Option UnitNumber → Attempts → Attempts
heard_as n None t = t
heard_as n (Some m) t = if is_number m n then t else record t { number = None; named = false }

abbrev pub heard : UnitNumber → Attempts → Attempts
heard n t = heard_as n t.number t

-- after the word of this entry
abbrev pub after : ℕ → Bus → ℕ → Option Form → Attempts → Attempts
after entry bus.A w (Some (Rts n)) t = with_request entry n t
after entry bus.A w (Some (Sot gfi file ldu)) t = started (record { file = file; ldu = ldu }) w t.last.attempt.words t
after entry bus.A w (Some (Part semis)) t = joined w t
after entry bus.A w (Some (Eot flags check)) t = joined w t
after entry bus.B w (Some (Cts n)) t = cleared t
after entry bus.B w (Some (Ack file ldu)) t = heard (record { file = file; ldu = ldu }) t
after entry _ w _ t = t

-- ---- two attempts

-- a list that has the data words of both makes, with a start word and an end word, more words than are asked for
abbrev pub AreMoreWords : Codes → Attempt → Attempt → Type 0
AreMoreWords c a b = (zs : List ℕ) → IsSubsequenceOf (data_words c a.words) zs → IsSubsequenceOf (data_words c b.words) zs → a.count < length zs + 2

-- no link data unit has the words of both: this is the first one, by its request and what both ask for
pub record IsRivalOf (c : Codes) (one now : Asked) (r : Rival) : Type 0 where
  pub request : one.request ≡ Some r.request
  pub before : r.before ≡ one.attempt.count
  pub count : r.count ≡ now.attempt.count
  pub apart : (r.before ≢ r.count) ⊎ AreMoreWords c one.attempt now.attempt

-- it is one of those that are kept, and the attempt that is under way has a start word with the number
pub record IsRival (c : Codes) (t : Attempts) (r : Rival) : Type 0 where
  pub named : t.named ≡ true
  pub place : ℕ
  pub one : Asked
  pub is : slice_get t.kept place ≡ Some one
  pub rival : IsRivalOf c one t.last r

-- ---- of a recording

-- the entry of the last request, after the word of this entry
abbrev pub if_asked : ℕ → Option ℕ → Option ℕ → Option ℕ
if_asked entry None old = old
if_asked entry (Some n) old = Some entry

abbrev pub request_from : Contents → ℕ → Option ℕ → List Seen → Option ℕ
request_from p n r [] = r
request_from p n r (i ∷ items) = request_from p (suc n) (if_asked n (asks i.bus (form_of p.codes i.bus i.word)) r) items

-- the place of the last request among these
abbrev pub latest_request : Contents → List Seen → Option ℕ
latest_request p items = request_from p 0 None items

-- the attempt in which `here` ends, a beginning of these items, and the one in which all of them end are to send one link data unit: in
-- some beginning of the former an attempt has this number, and so has the latter, and no other number is acknowledged since
pub record AreOfOneUnit (p : Contents) (here items : List Seen) : Type 0 where
  pub number : UnitNumber
  pub before : List Seen
  pub since : List Seen
  pub is : items ≡ before ++ since
  pub inside : List Seen
  pub here_is : here ≡ before ++ inside
  pub begins : HasNumber p number (latest p before)
  pub again : HasNumber p number (latest p items)
  pub acks : AcksOnly p number since

-- no link data unit has the words of the attempt in which these items end, and of an earlier one, whose request is named
pub record IsRivalAt (p : Contents) (items : List Seen) (r : Rival) : Type 0 where
  pub here : List Seen
  pub rest : List Seen
  pub splits : items ≡ here ++ rest
  pub request : latest_request p here ≡ Some r.request
  pub unit : AreOfOneUnit p here items
  pub before : r.before ≡ (latest p here).count
  pub count : r.count ≡ (latest p items).count
  pub apart : (r.before ≢ r.count) ⊎ AreMoreWords p.codes (latest p here) (latest p items)
