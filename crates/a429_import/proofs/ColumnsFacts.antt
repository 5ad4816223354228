-- Places of columns, one after the other.
use Rattle.std.proofs.Common.{◌≡◌, ℕ, List, [], ◌∷◌, ◌++◌, Option, Some, None, refl, sym, ap, append_assoc, append-nil}
use Rattle.a429_import.specs.Columns.{with_place}

-- places before some others, where those were found
abbrev pub with_places : List ℕ → Option (List ℕ) → Option (List ℕ)
with_places before None = None
with_places before (Some places) = Some (before ++ places)

pub none_before : (found : Option (List ℕ)) → with_places [] found ≡ found
none_before None = refl
none_before (Some places) = refl

pub one_before : (before : List ℕ) (place : ℕ) (found : Option (List ℕ))
    → with_places (before ++ place ∷ []) found ≡ with_places before (with_place (Some place) found)
one_before before place None = refl
one_before before place (Some places) = ap (λ (ps : List ℕ). Some ps) (append_assoc before (place ∷ []) places)

pub all_before : (before : List ℕ) → Some before ≡ with_places before (Some [])
all_before before = ap (λ (ps : List ℕ). Some ps) (sym (append-nil before))
