-- What `a429 labels` writes, and why it may fail (profile).
use Rattle.std.specs.Prelude.{◌≡◌, ℕ, List}
use Rattle.a429_profile.specs.Profile.{Contents}
use Rattle.a429_view.specs.Labels.{label_lines}
use Rattle.a429_commands.specs.Ends.{Promise}
use Rattle.a429_commands.specs.Profile.{IsProfileFault, IsProfileOf}

-- the text is that of the table of a profile's text
pub record TellsLabels (profile text : List ℕ) : Type 0 where
  pub contents : Contents
  pub is_profile : IsProfileOf profile contents
  pub lines : text ≡ label_lines (contents.labels)

-- `labels` writes it, with status 0; where the profile could not be read it writes nothing
abbrev pub of_labels : List ℕ → Promise
of_labels profile = record {
  says = λ status text. (status ≡ 0) × TellsLabels profile text;
  stops = λ e text. ⊥;
  begins = λ text. TellsLabels profile text;
  refuses = IsProfileFault profile;
}
