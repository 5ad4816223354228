-- Attempts to send a link data unit, as they are recorded: a request to send, and what is recorded after it up to the next
-- request (ARINC 429 Part 3).
use Rattle.std.specs.Prelude.{ℕ, ◌≡◌, List, [], ◌∷◌, ◌++◌, length, Option, Some, None}
use Rattle.a429_word.specs.declared.bus.Bus.{Bus}
use Rattle.a429_word.specs.declared.bus.Bus.TheVariants as bus
use Rattle.a429_profile.specs.Profile.{Contents}
use Rattle.a429_ldu.specs.declared.forms.Form.{Form}
use Rattle.a429_ldu.specs.declared.forms.Form.TheVariants.{Rts, Cts, Ack, Sot, Part, Eot}
use Rattle.a429_ldu.specs.Form.{form_of}
use Rattle.a429_ldu.specs.Ldu.{LduValue, block_of, count_of}
use Rattle.a429_link.specs.declared.number.UnitNumber.{UnitNumber}
use Rattle.a429_link.specs.declared.seen.Seen.{Seen}
use Rattle.a429_link.specs.Run.{IsSubsequenceOf}

pub record Attempt : Type 0 where
  -- how many words the request asks for
  pub count : ℕ
  -- the start, data and end words that are recorded since the last clear answer, in order
  pub words : List ℕ
  -- the number that is acknowledged, if one is
  pub acked : Option UnitNumber

-- a request for so many words, after which nothing is recorded yet
abbrev pub fresh : ℕ → Attempt
fresh n = record { count = n; words = []; acked = None }

-- how many words a request asks for
abbrev pub asks : Bus → Option Form → Option ℕ
asks bus.A (Some (Rts n)) = Some n
asks _ _ = None

-- the attempt with one more recorded word, which is no request
abbrev pub grown : Bus → ℕ → Option Form → Attempt → Attempt
grown bus.A w (Some (Sot gfi file ldu)) a = record a { words = a.words ++ w ∷ [] }
grown bus.A w (Some (Part semis)) a = record a { words = a.words ++ w ∷ [] }
grown bus.A w (Some (Eot flags check)) a = record a { words = a.words ++ w ∷ [] }
grown bus.B w (Some (Cts n)) a = record a { words = [] }
grown bus.B w (Some (Ack file ldu)) a = record a { acked = Some (record { file = file; ldu = ldu }) }
grown _ w _ a = a

-- ---- the attempts of a recording

-- this attempt, and those that these items go on with
abbrev pub goes_on_to : Seen → Option Form → Attempt → Option ℕ → (Attempt → List Attempt) → List Attempt
goes_on_to i x a None more = more (grown i.bus i.word x a)
goes_on_to i x a (Some n) more = a ∷ more (fresh n)

abbrev pub attempts_from : Contents → Attempt → List Seen → List Attempt
attempts_from p a [] = a ∷ []
attempts_from p a (i ∷ items) = goes_on_to i (form_of p.codes i.bus i.word) a (asks i.bus (form_of p.codes i.bus i.word)) (λ b. attempts_from p b items)

-- in the first no request is recorded, and so no word that is allowed either
abbrev pub attempts : Contents → List Seen → List Attempt
attempts p items = attempts_from p (fresh 0) items

-- the attempt that is under way after one more word: a new one after a request
abbrev pub under_way : Option ℕ → Attempt → Attempt
under_way None a = a
under_way (Some n) a = fresh n

abbrev pub latest_from : Contents → Attempt → List Seen → Attempt
latest_from p a [] = a
latest_from p a (i ∷ items) = latest_from p (under_way (asks i.bus (form_of p.codes i.bus i.word)) (grown i.bus i.word (form_of p.codes i.bus i.word) a)) items

-- the last attempt of these items
abbrev pub latest : Contents → List Seen → Attempt
latest p items = latest_from p (fresh 0) items

-- ---- what an attempt says

-- a start word with this number
abbrev pub IsStartOf : UnitNumber → Option Form → Type 0
IsStartOf n (Some (Sot gfi file ldu)) = record { file = file; ldu = ldu } ≡ n
IsStartOf n _ = ⊥

-- the first of these words is a start word with this number
abbrev pub BeginsUnder : Contents → UnitNumber → List ℕ → Type 0
BeginsUnder p n [] = ⊥
BeginsUnder p n (w ∷ ws) = IsStartOf n (form_of p.codes bus.A w)

-- its start word is recorded, and has this number
abbrev pub HasNumber : Contents → UnitNumber → Attempt → Type 0
HasNumber p n a = BeginsUnder p n a.words

-- as many words are recorded as the request asks for
abbrev pub IsWhole : Attempt → Type 0
IsWhole a = length a.words ≡ a.count

-- the attempt may be one to send this link data unit under this number: its request asks for the words of the block, and its
-- words are some of the block, in order
pub record IsAttemptAt (p : Contents) (n : UnitNumber) (u : LduValue) (a : Attempt) : Type 0 where
  pub asked : a.count ≡ count_of u
  pub words : IsSubsequenceOf a.words (block_of p.codes u n.file n.ldu)

-- both requests ask for as many words, and the words of the first attempt are some of the second's, in order
pub record IsPartOf (a whole : Attempt) : Type 0 where
  pub asked : a.count ≡ whole.count
  pub words : IsSubsequenceOf a.words whole.words
