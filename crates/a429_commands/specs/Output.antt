-- What a command has written once it is done (profile).
use Rattle.std.specs.Prelude.{ℕ, List, Option}
use Rattle.a429_word.specs.declared.tally.Tally.{Tally}
use Rattle.a429_word.specs.Tally.{Puts, PutsFront}

-- an output before and after a call, and what it holds
pub record Output (W : Type 0) : Type 0 where
  pub contents : W → Option (List ℕ)
  pub old : Tally W
  pub new : Tally W

-- the same, of the writer before and after
abbrev pub output : {W : Type 0} → (W → Option (List ℕ)) → Tally W → Tally W → Output W
output contents old new = record { contents = contents; old = old; new = new }

-- some text that is such was written
abbrev pub PutsText : {W : Type 0} → (W → Option (List ℕ)) → Tally W → Tally W → (List ℕ → Type 0) → Type 0
PutsText contents old new IsSuch = (text : List ℕ) × IsSuch text × Puts contents old new text

-- a prefix of some text that is such was written, and nothing else
abbrev pub PutsPrefixOf : {W : Type 0} → (W → Option (List ℕ)) → Tally W → Tally W → (List ℕ → Type 0) → Type 0
PutsPrefixOf contents old new IsSuch = (text : List ℕ) × IsSuch text × PutsFront contents old new text
