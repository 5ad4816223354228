-- What the words of a recording show (profile).
use Rattle.std.specs.Prelude.{◌≡◌, ℕ, List, Option}
use Rattle.a429_word.specs.declared.tally.Tally.{Tally}
use Rattle.a429_word.specs.Tally.{Puts}
use Rattle.a429_profile.specs.Profile.{Contents}
use Rattle.a429_record.specs.declared.entry.Entry.{Entry}
use Rattle.a429_record.specs.Recording.{stands_for, whole}
use Rattle.a429_view.specs.Show.{AreShowLines}
use Rattle.a429_c.specs.Input.{IsProfileOf}

-- the text is the lines of all entries of the recording that these bytes are, under a profile that was read
pub record ShowsUnder (p : Contents) (recording text : List ℕ) : Type 0 where
  pub entries : List Entry
  pub is_recording : stands_for recording ≡ whole entries
  pub lines : AreShowLines p entries text

-- by the profile that these bytes are the text of
abbrev pub ShowsAll : List ℕ → List ℕ → List ℕ → Type 0
ShowsAll profile recording text = (p : Contents) × IsProfileOf profile p × ShowsUnder p recording text

-- the lines of all entries were written
abbrev pub PutsLines : {W : Type 0} → (W → Option (List ℕ)) → Contents → List Entry → Tally W → Tally W → Type 0
PutsLines contents p es old new = (text : List ℕ) × AreShowLines p es text × Puts contents old new text
