-- A list in front of a boundary and behind it.
use Rattle.std.proofs.Common.{◌≡◌, ℕ, zero, suc, ◌+◌, ◌<◌, List, [], ◌∷◌, ◌++◌, length, take, drop, remove, slice_index, refl, ap, ◌∙◌, arith}
use Rattle.a429_link.specs.Lane.{lane_at}
use Rattle.a429_link.specs.State.{IsNonEmpty, rest}

pub some_behind : (k : ℕ) (xs : List ℕ) → IsNonEmpty (drop k xs) → k < length xs
some_behind zero [] h = absurd h
some_behind zero (x ∷ xs) h = omega arith
some_behind (suc k) [] h = absurd h
some_behind (suc k) (x ∷ xs) h = omega (arith, some_behind k xs h)

drop_one_more : (k : ℕ) (xs : List ℕ) → drop (suc k) xs ≡ rest (drop k xs)
drop_one_more zero [] = refl
drop_one_more zero (x ∷ xs) = refl
drop_one_more (suc k) [] = refl
drop_one_more (suc k) (x ∷ xs) = drop_one_more k xs

front_grows : (k : ℕ) (xs : List ℕ) → k < length xs → take (suc k) xs ≡ take k xs ++ slice_index (drop k xs) 0 ∷ []
front_grows zero [] h = absurd (omega (arith, h))
front_grows zero (x ∷ xs) h = refl
front_grows (suc k) [] h = absurd (omega (arith, h))
front_grows (suc k) (x ∷ xs) h = ap (λ l. x ∷ l) (front_grows k xs (omega (arith, h)))

-- the boundary goes one word on
pub lane_moved : (k : ℕ) (xs : List ℕ)
    → k < length xs → lane_at (k + 1) xs ≡ record { taken = take k xs ++ slice_index (drop k xs) 0 ∷ []; coming = rest (drop k xs) }
lane_moved k xs h =
    let next : k + 1 ≡ suc k = omega arith in
    let front : take (k + 1) xs ≡ take k xs ++ slice_index (drop k xs) 0 ∷ [] = ap (λ n. take n xs) next ∙ front_grows k xs h in
    let behind : drop (k + 1) xs ≡ rest (drop k xs) = ap (λ n. drop n xs) next ∙ drop_one_more k xs in
    rw front (rw behind refl)

-- the word at the boundary is out
front_stays : (k : ℕ) (xs : List ℕ) → k < length xs → take k (remove xs k) ≡ take k xs
front_stays zero xs h = refl
front_stays (suc k) [] h = absurd (omega (arith, h))
front_stays (suc k) (x ∷ xs) h = ap (λ l. x ∷ l) (front_stays k xs (omega (arith, h)))

first_is_out : (k : ℕ) (xs : List ℕ) → k < length xs → drop k (remove xs k) ≡ rest (drop k xs)
first_is_out zero [] h = refl
first_is_out zero (x ∷ xs) h = refl
first_is_out (suc k) [] h = absurd (omega (arith, h))
first_is_out (suc k) (x ∷ xs) h = first_is_out k xs (omega (arith, h))

pub lane_removed : (k : ℕ) (xs ys : List ℕ)
    → k < length xs → ys ≡ remove xs k → lane_at k ys ≡ record { taken = take k xs; coming = rest (drop k xs) }
lane_removed k xs ys h e = rw e (rw (front_stays k xs h) (rw (first_is_out k xs h) refl))
