-- What `a429 word` writes (profile).
use Rattle.std.specs.Prelude.{◌≡◌, ℕ, List}
use Rattle.std.specs.Str.Parse.{digits_value}
use Rattle.a429_word.specs.Digits.{IsHexWord}
use Rattle.a429_view.specs.Word.{word_lines}
use Rattle.a429_commands.specs.declared.fault.RunFault.{RunFault}
use Rattle.a429_commands.specs.declared.fault.RunFault.TheVariants as run
use Rattle.a429_commands.specs.Ends.{Promise}

-- a text names this word: eight hexadecimal digits
abbrev pub IsWordOf : List ℕ → ℕ → Type 0
IsWordOf name w = IsHexWord name × (w ≡ digits_value 16 name)

-- or it names none, which is the fault
abbrev pub IsNoWord : List ℕ → RunFault → Type 0
IsNoWord name e = (e ≡ run.BadWord) × (¬ IsHexWord name)

-- what the word holds that is named so
abbrev pub TellsWord : List ℕ → List ℕ → Type 0
TellsWord name text = IsHexWord name × (text ≡ word_lines (digits_value 16 name))

-- `word` writes it, with status 0; of a text that names no word it writes nothing
abbrev pub of_word : List ℕ → Promise
of_word name = record {
  says = λ status text. (status ≡ 0) × TellsWord name text;
  stops = λ e text. ⊥;
  begins = TellsWord name;
  refuses = IsNoWord name;
}
