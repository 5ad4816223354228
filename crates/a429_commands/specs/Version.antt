-- What `a429 version` writes (profile).
use Rattle.std.specs.Prelude.{◌≡◌, ℕ, List, ◌++◌, codes}
use Rattle.a429_commands.specs.Ends.{Promise, of_text}

-- the version of the program, and the versions of the certificates that it reads
abbrev pub version_text : List ℕ
version_text = codes "a429 1.0.0\n" ++ codes "certificates 1 2\n"

abbrev pub IsVersionText : List ℕ → Type 0
IsVersionText text = text ≡ version_text

abbrev pub says_version : ℕ → List ℕ → Type 0
says_version status text = (status ≡ 0) × IsVersionText text

-- `version` writes it, with status 0, and has no other fault than its output's
abbrev pub of_version : Promise
of_version = of_text says_version IsVersionText ⊥
