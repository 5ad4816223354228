-- Elements of a list of which none meets one before it: each meets none after it.
use Rattle.std.proofs.Common.{◌≡◌, List, [], ◌∷◌, ◌++◌, Bool, false}
use Rattle.std.specs.List.{AllByRecursion, list_any}
use Rattle.std.proofs.lemmas.Bool.{or_parts}
use Rattle.a429_profile.specs.Clash.{AreApartAfter}

-- an element meets none of some others
abbrev pub MeetsNone : {X : Type 0} → (X → X → Bool) → X → List X → Type 0
MeetsNone meet x ys = AllByRecursion (λ y. meet x y ≡ false) ys

abbrev pub NoneMeets : {X : Type 0} → (X → X → Bool) → List X → List X → Type 0
NoneMeets meet [] ys = Unit {0}
NoneMeets meet (x ∷ xs) ys = MeetsNone meet x ys × NoneMeets meet xs ys

meets-nil : {X : Type 0} (meet : X → X → Bool) (earlier : List X) → NoneMeets meet earlier []
meets-nil meet [] = tt
meets-nil meet (o ∷ os) = (tt, meets-nil meet os)

meets-cons : {X : Type 0} (meet : X → X → Bool) (earlier : List X) (x : X) (xs : List X) → list_any (λ o. meet o x) earlier ≡ false
    → NoneMeets meet (earlier ++ x ∷ []) xs → NoneMeets meet earlier (x ∷ xs)
meets-cons meet [] x xs h none = tt
meets-cons meet (o ∷ os) x xs h none =
    let parts = or_parts (meet o x) (list_any (λ p. meet p x) os) h in
    ((parts.0, none.0), meets-cons meet os x xs parts.1 none.1)

meets-last : {X : Type 0} (meet : X → X → Bool) (earlier : List X) (x : X) (xs : List X) → NoneMeets meet (earlier ++ x ∷ []) xs
    → MeetsNone meet x xs
meets-last meet [] x xs none = none.0
meets-last meet (o ∷ os) x xs none = meets-last meet os x xs none.1

meets-after : {X : Type 0} (meet : X → X → Bool) (earlier xs : List X) → AreApartAfter meet earlier xs → NoneMeets meet earlier xs
meets-after meet earlier [] apart = meets-nil meet earlier
meets-after meet earlier (x ∷ xs) apart = meets-cons meet earlier x xs apart.0 (meets-after meet (earlier ++ x ∷ []) xs apart.1)

-- the first of what is left meets none of those after it
pub meets_none-first : {X : Type 0} (meet : X → X → Bool) (earlier : List X) (x : X) (xs : List X) → AreApartAfter meet earlier (x ∷ xs)
    → MeetsNone meet x xs
meets_none-first meet earlier x xs apart = meets-last meet earlier x xs (meets-after meet (earlier ++ x ∷ []) xs apart.1)
