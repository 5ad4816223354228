-- Lists up to a place, and the element there.
use Rattle.std.proofs.Common.{◌≡◌, ℕ, zero, suc, ◌<◌, ◌≤◌, List, [], ◌∷◌, ◌++◌, length, take, slice_get, Some, None, refl, ap, arith}

-- the elements up to one more
pub next_item : {X : Type 0} (i : ℕ) (x : X) (xs : List X) → slice_get xs i ≡ Some x → take (suc i) xs ≡ take i xs ++ x ∷ []
next_item i x [] h = absurd (cc h)
next_item {X} zero x (y ∷ xs) h = let e : y ≡ x = cc in ap (λ (z : X). z ∷ []) e
next_item {X} (suc i) x (y ∷ xs) h = ap (λ (l : List X). y ∷ l) (next_item i x xs h)

-- there is an element at each place
pub some_within : {X : Type 0} (xs : List X) (k : ℕ) → k < length xs → (x : X) × (slice_get xs k ≡ Some x)
some_within [] k l = absurd (omega arith)
some_within (x ∷ xs) zero l = (x, refl)
some_within (x ∷ xs) (suc k) l = some_within xs k (omega arith)

-- a list with an element has one
pub no_middle : {X : Type 0} (xs : List X) (x : X) (ys : List X) → [] ≡ xs ++ x ∷ ys → ⊥
no_middle [] x ys e = cc e
no_middle (z ∷ xs) x ys e = cc e

-- where there is none, the list has ended
pub none_past : {X : Type 0} (xs : List X) (k : ℕ) → slice_get xs k ≡ None → length xs ≤ k
none_past [] k e = omega arith
none_past (x ∷ xs) zero e = absurd (cc e)
none_past (x ∷ xs) (suc k) e = let more = none_past xs k e in omega arith

-- the last element, and all elements up to it
pub last_item : {X : Type 0} (xs : List X) (x : X) → slice_get (xs ++ x ∷ []) (length xs) ≡ Some x
last_item [] x = refl
last_item (y ∷ xs) x = last_item xs x

pub take_with_last : {X : Type 0} (xs : List X) (x : X) → take (suc (length xs)) (xs ++ x ∷ []) ≡ xs ++ x ∷ []
take_with_last [] x = refl
take_with_last {X} (y ∷ xs) x = ap (λ (l : List X). y ∷ l) (take_with_last xs x)
