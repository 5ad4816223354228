-- Lists that are some of others, in their order.
use Rattle.std.proofs.Common.{◌≡◌, ℕ, zero, suc, ◌≤◌, List, [], ◌∷◌, ◌++◌, length, take, refl, ap, subst, inl, inr, arith}
use Rattle.a429_link.specs.Run.{IsSubsequenceOf}

-- none are some of any
pub sub_none : {X : Type 0} (ys : List X) → IsSubsequenceOf [] ys
sub_none [] = refl
sub_none (y ∷ ys) = inl (sub_none ys)

-- without the first
pub sub_rest : {X : Type 0} (x : X) (xs ys : List X) → IsSubsequenceOf (x ∷ xs) ys → IsSubsequenceOf xs ys
sub_rest x xs [] h = absurd (cc h)
sub_rest x xs (y ∷ ys) (inl h) = inl (sub_rest x xs ys h)
sub_rest x xs (y ∷ ys) (inr (zs, e, h)) =
    let same : zs ≡ xs = cc in inl (subst (λ l. IsSubsequenceOf l ys) same h)

-- without a front
pub sub_back : {X : Type 0} (ws xs ys : List X) → IsSubsequenceOf (ws ++ xs) ys → IsSubsequenceOf xs ys
sub_back [] xs ys h = h
sub_back (w ∷ ws) xs ys h = sub_back ws xs ys (sub_rest w (ws ++ xs) ys h)

-- without a back
pub sub_forth : {X : Type 0} (xs ws ys : List X) → IsSubsequenceOf (xs ++ ws) ys → IsSubsequenceOf xs ys
sub_forth [] ws ys h = sub_none ys
sub_forth (x ∷ xs) ws [] h = absurd (cc h)
sub_forth (x ∷ xs) ws (y ∷ ys) (inl h) = inl (sub_forth (x ∷ xs) ws ys h)
sub_forth {X} (x ∷ xs) ws (y ∷ ys) (inr (zs, e, h)) =
    let same : zs ≡ xs ++ ws = cc in
    let first : x ≡ y = cc in
    inr (xs, ap (λ (z : X). z ∷ xs) first, sub_forth xs ws ys (subst (λ l. IsSubsequenceOf l ys) same h))

-- of a front, of all
pub sub_take : {X : Type 0} (k : ℕ) (xs ys : List X) → IsSubsequenceOf xs (take k ys) → IsSubsequenceOf xs ys
sub_take zero xs ys h = rw h (sub_none ys)
sub_take (suc k) xs [] h = h
sub_take (suc k) xs (y ∷ ys) (inl h) = inl (sub_take k xs ys h)
sub_take (suc k) xs (y ∷ ys) (inr (zs, e, h)) = inr (zs, e, sub_take k zs ys h)

-- of a front, of the front with one more
pub sub_more : {X : Type 0} (k : ℕ) (xs ys : List X) → IsSubsequenceOf xs (take k ys) → IsSubsequenceOf xs (take (suc k) ys)
sub_more zero xs ys h = rw h (sub_none (take 1 ys))
sub_more (suc k) xs [] h = h
sub_more (suc k) xs (y ∷ ys) (inl h) = inl (sub_more k xs ys h)
sub_more (suc k) xs (y ∷ ys) (inr (zs, e, h)) = inr (zs, e, sub_more k zs ys h)

-- one more, on both sides
pub sub_push : {X : Type 0} (w : X) (xs ys : List X) → IsSubsequenceOf xs ys → IsSubsequenceOf (xs ++ w ∷ []) (ys ++ w ∷ [])
sub_push {X} w xs [] h = inr ([], ap (λ (l : List X). l ++ w ∷ []) h, refl)
sub_push w xs (y ∷ ys) (inl h) = inl (sub_push w xs ys h)
sub_push {X} w xs (y ∷ ys) (inr (zs, e, h)) = inr (zs ++ w ∷ [], ap (λ (l : List X). l ++ w ∷ []) e, sub_push w zs ys h)

-- one more on the right
pub sub_lost : {X : Type 0} (w : X) (xs ys : List X) → IsSubsequenceOf xs ys → IsSubsequenceOf xs (ys ++ w ∷ [])
sub_lost w xs [] h = inl h
sub_lost w xs (y ∷ ys) (inl h) = inl (sub_lost w xs ys h)
sub_lost w xs (y ∷ ys) (inr (zs, e, h)) = inr (zs, e, sub_lost w zs ys h)

pub sub_length : {X : Type 0} (xs ys : List X) → IsSubsequenceOf xs ys → length xs ≤ length ys
sub_length xs [] h = let e : length xs ≡ 0 = ap length h in omega arith
sub_length xs (y ∷ ys) (inl h) = omega (arith, sub_length xs ys h)
sub_length xs (y ∷ ys) (inr (zs, e, h)) = omega (arith, sub_length zs ys h, ap length e)
