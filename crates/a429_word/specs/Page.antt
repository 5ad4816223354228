-- What a writer has once a page of output is written (profile).
use Rattle.std.specs.Prelude.{ℕ, List, Option}
use Rattle.std.specs.Io.KnownBytes.{append_known, Appends}
use Rattle.a429_word.specs.declared.tally.Tally.{Tally}
use Rattle.a429_word.specs.Tally.{inner_of}

-- what the writer has, and then what is on the page
abbrev pub paged : {W : Type 0} → (W → Option (List ℕ)) → Tally W → List ℕ → Option (List ℕ)
paged contents out page = append_known (contents (inner_of out)) page

-- a writer, and the page after it, have gained these
abbrev pub PutsOn : {W : Type 0} → (W → Option (List ℕ)) → Tally W → List ℕ → Tally W → List ℕ → List ℕ → Type 0
PutsOn contents out page new_out new_page text = Appends (paged contents out page) (paged contents new_out new_page) text
