-- The versions of certificates (profile).
use Rattle.a429_cert.specs.declared.version.Version.{Version}
use Rattle.a429_cert.specs.declared.version.Version.TheVariants.{One, Two}
use Rattle.std.specs.Prelude.{ℕ, List, [], ◌∷◌, ◌++◌, Bool, true, false, ◌||◌, ◌==◌, if◌then◌else◌, codes, map, drop, Option, Some, None, option_and_then}
use Rattle.a429_link.specs.declared.step.Step.{Step}
use Rattle.a429_link.specs.declared.step.Step.TheVariants.{GiveUp}
use Rattle.a429_cert.specs.Lines.{certificate_lines}

-- the first line of a certificate
abbrev pub version_line : Version → List ℕ
version_line One = codes "arinc429-cert 1"
version_line Two = codes "arinc429-cert 2"

-- a certificate of this version, with these lines after its first
abbrev pub headed : Version → List ℕ → List ℕ
headed v rest = version_line v ++ 10 ∷ rest

-- a text, unless it begins with `x`
abbrev pub without_x : List ℕ → Option (List ℕ)
without_x [] = Some []
without_x (b ∷ text) = if b == 120 then None else Some (b ∷ text)

-- what a line says, as the version reads it: version 1 has no step `x`, so that a line of one says nothing there
abbrev pub read_as : Version → Option (List ℕ) → Option (List ℕ)
read_as One line = option_and_then without_x line
read_as Two line = line

-- the lines of a certificate's steps, those after the first two, as its version reads them
abbrev pub step_lines : Version → List ℕ → List (Option (List ℕ))
step_lines v certificate = map (read_as v) (drop 2 (certificate_lines certificate))

-- ---- the version of a run

abbrev pub is_give_up : Step → Bool
is_give_up GiveUp = true
is_give_up _ = false

-- one of these steps gives a file up
abbrev pub gives_up : List Step → Bool
gives_up [] = false
gives_up (a ∷ steps) = is_give_up a || gives_up steps

-- the least version that can say these steps
abbrev pub least_version : List Step → Version
least_version steps = if gives_up steps then Two else One
