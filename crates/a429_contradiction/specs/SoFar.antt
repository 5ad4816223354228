-- What a recording has shown so far of a link data unit, as it is kept (profile).
use Rattle.std.specs.Prelude.{◌↔◌, ◌++◌, ◌∷◌, [], ℕ, List, Option, Some, None, drop}
use Rattle.a429_word.specs.declared.bus.Bus.{Bus}
use Rattle.a429_word.specs.declared.bus.Bus.TheVariants as bus
use Rattle.a429_ldu.specs.declared.forms.Form.{Form}
use Rattle.a429_ldu.specs.declared.forms.Form.TheVariants.{Rts, Cts, Part}
use Rattle.a429_link.specs.Contradiction.{SoFar, UnitSoFar, with_end}
use Rattle.a429_link.specs.Run.{IsSubsequenceOf}
use Rattle.a429_contradiction.specs.declared.so_far.UnitKept.{UnitKept}

-- the words of an attempt that are recorded so far, and the block of its link data unit, where that is known
pub record WordsSoFar : Type 0 where
  pub words : List ℕ
  pub block : Option (List ℕ)

-- so many words of the block are passed with these: more words are some of the block after them where they are some of the rest;
-- none where these words are not some of the block, in order
abbrev pub IsPassedWith : List ℕ → Option ℕ → List ℕ → Type 0
IsPassedWith words None block = (more : List ℕ) → ¬ IsSubsequenceOf (words ++ more) block
IsPassedWith words (Some n) block = (more : List ℕ) → IsSubsequenceOf (words ++ more) block ↔ IsSubsequenceOf more (drop n block)

-- a link data unit with its block
abbrev pub kept_with : Option (List ℕ) → UnitKept → UnitSoFar
kept_with block u = record { number = u.number; start = u.start; count = u.count; ending = u.ending; block = block }

abbrev pub unit_with : Option (List ℕ) → Option UnitKept → Option UnitSoFar
unit_with block None = None
unit_with block (Some u) = Some (kept_with block u)

-- without the number that is acknowledged in the attempt
abbrev pub unheard : SoFar → SoFar
unheard s = record s { attempt = record (s.attempt) { acked = None } }

-- after an end word
abbrev pub with_end_word : ℕ → SoFar → SoFar
with_end_word w s = record s { attempt = record (s.attempt) { words = s.attempt.words ++ w ∷ [] }; unit = with_end s.attempt w s.unit }

-- the data words since the last request or clear answer, after one more word
abbrev pub data_after : Bus → ℕ → Option Form → List ℕ → List ℕ
data_after bus.A w (Some (Rts n)) words = []
data_after bus.A w (Some (Part semis)) words = words ++ w ∷ []
data_after bus.B w (Some (Cts n)) words = []
data_after _ w _ words = words
