-- Fields, read in front of a text.
use Rattle.std.proofs.Common.{◌≡◌, ◌==◌, ◌∙◌, ℕ, List, [], ◌∷◌, ◌++◌, true, Option, Some, refl, ap, subst, arith}
use Rattle.std.proofs.lemmas.Bool.Decides.{nat_tests}
use Rattle.std.proofs.lemmas.List.{append-nil}
use Rattle.a429_cert.specs.Field.{field, with_rest, after_space}
use Rattle.a429_cert.proofs.Options.{bind_some, when_some}

-- nothing, or a field behind others
abbrev pub IsNext : List ℕ → Type 0
IsNext [] = Unit {0}
IsNext (b ∷ bs) = b ≡ 32

-- values that fit are read as they are spelled, where nothing or a field stands behind them
pub record IsSpelling {A : Type 0} (read : List ℕ → Option (A × List ℕ)) (text : A → List ℕ) (Fits : A → Type 0) : Type 0 where
  pub back : (value : A) (rest : List ℕ) → Fits value → IsNext rest → read (text value ++ rest) ≡ Some (value, rest)
  pub only : (bytes : List ℕ) (value : A × List ℕ) → read bytes ≡ Some value → (bytes ≡ text value.0 ++ value.1) × Fits value.0

pub field-back : {A : Type 0} (read : List ℕ → Option (A × List ℕ)) (text : A → List ℕ) (Fits : A → Type 0) → IsSpelling read text Fits
    → (value : A) (rest : List ℕ) → Fits value → IsNext rest
    → with_rest read (field (text value) ++ rest) ≡ Some (value, rest)
field-back read text Fits is value rest fits next = is.back value rest fits next

pub last-back : {A : Type 0} (read : List ℕ → Option (A × List ℕ)) (text : A → List ℕ) (Fits : A → Type 0) → IsSpelling read text Fits
    → (value : A) → Fits value
    → with_rest read (field (text value)) ≡ Some (value, [])
last-back read text Fits is value fits =
    subst (λ (t : List ℕ). with_rest read t ≡ Some (value, [])) (append-nil (field (text value)))
    (field-back read text Fits is value [] fits tt)

space-is : (b : ℕ) → (b == 32) ≡ true → b ≡ 32
space-is b h = grind (arith, nat_tests)

after_space-is : (bytes text : List ℕ) → after_space bytes ≡ Some text → bytes ≡ 32 ∷ text
after_space-is [] text e = absurd cc
after_space-is (b ∷ bytes) text e =
    let w = when_some (b == 32) bytes text e in
    rw (← w.1, space-is b w.0) refl

pub field-only : {A : Type 0} (read : List ℕ → Option (A × List ℕ)) (text : A → List ℕ) (Fits : A → Type 0) → IsSpelling read text Fits
    → (bytes : List ℕ) (value : A × List ℕ)
    → with_rest read bytes ≡ Some value → (bytes ≡ field (text value.0) ++ value.1) × Fits value.0
field-only read text Fits is bytes value e =
    let here = bind_some (after_space bytes) _ value e in
    let spelled = is.only here.0 value here.2 in
    (after_space-is bytes here.0 here.1 ∙ ap (λ (t : List ℕ). 32 ∷ t) spelled.0, spelled.1)
