-- What a shelf does with a file that is put, where its files are known (profile).
use Rattle.std.specs.Prelude.{◌≡◌, ℕ, List, [], ◌∷◌, ◌++◌, Option, Some, None, ⊤}
use Rattle.a429_cert.specs.declared.shelf.PutFile.{PutFile}

-- it has this file after those that it had
abbrev pub Gains : Option (List PutFile) → Option (List PutFile) → ℕ → ℕ → List ℕ → Type 0
Gains None new index number bytes = ⊤
Gains (Some files) None index number bytes = ⊥
Gains (Some files) (Some more) index number bytes = more ≡ files ++ record { index = index; file = record { number = number; bytes = bytes } } ∷ []

-- it has the files that it had
abbrev pub IsUnchanged : Option (List PutFile) → Option (List PutFile) → Type 0
IsUnchanged None new = ⊤
IsUnchanged (Some files) None = ⊥
IsUnchanged (Some files) (Some same) = same ≡ files
