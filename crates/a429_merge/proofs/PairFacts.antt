-- A shortest list that has two lists of words.
use Rattle.std.proofs.Common.{◌≡◌, ◌≢◌, ◌⊎◌, ℕ, suc, ◌+◌, ◌-◌, ◌<◌, ◌≤◌, min, Bool, cond, List, [], ◌∷◌, ◌++◌, length, take, drop, get_or, slice_index, slice_index_or, Vec, refl, sym, ap, ◌∙◌, subst, inl, inr, arith}
use Rattle.std.proofs.lemmas.Bool.{eq-eqb, ne_eqb, cases_eq}
use Rattle.std.proofs.lemmas.List.{drop_more, drop_all, take_more, take-append-drop, length-drop, length-append, get_or_append_left, get_or_push, get_or-map, map_push, length-map}
use Rattle.a429_link.specs.Run.{IsSubsequenceOf}
use Rattle.a429_merge.specs.Order.{lists_of}
use Rattle.a429_merge.specs.Pair.{last, merged_length, IsRow}
use Rattle.a429_link.proofs.Subsequence.{sub_rest, sub_push, sub_lost, sub_length}
use Rattle.a429_merge.proofs.SubsequenceFacts.{sub_append, sub_before, sub_all}

-- ---- the length, by the first words

pub step_same : (x y : ℕ) (xs ys : List ℕ) → x ≡ y → merged_length (x ∷ xs) (y ∷ ys) ≡ suc (merged_length xs ys)
step_same x y xs ys e =
    ap (λ (b : Bool). suc (cond b (merged_length xs ys) (min (merged_length xs (y ∷ ys)) (merged_length (x ∷ xs) ys)))) (eq-eqb x y e)

pub step_other : (x y : ℕ) (xs ys : List ℕ)
    → x ≢ y → merged_length (x ∷ xs) (y ∷ ys) ≡ suc (min (merged_length xs (y ∷ ys)) (merged_length (x ∷ xs) ys))
step_other x y xs ys n =
    ap (λ (b : Bool). suc (cond b (merged_length xs ys) (min (merged_length xs (y ∷ ys)) (merged_length (x ∷ xs) ys)))) (ne_eqb x y n)

pub length_right : (xs : List ℕ) → merged_length xs [] ≡ length xs
length_right [] = refl
length_right (x ∷ xs) = refl

-- at most all
pub length_most : (xs ys : List ℕ) → merged_length xs ys ≤ length xs + length ys
length_most [] ys = omega arith
length_most (x ∷ xs) [] = omega arith
length_most (x ∷ xs) (y ∷ ys) =
    elim (cases_eq x y) [
      | inl same ↦ rw (step_same x y xs ys same) (omega (arith, length_most xs ys))
      | inr other ↦ rw (step_other x y xs ys other) (omega (arith, length_most xs (y ∷ ys)))
    ]

-- ---- no list that has both is shorter

module _ (z : ℕ) (zs : List ℕ)
    (rest : (xs ys : List ℕ) → IsSubsequenceOf xs zs → IsSubsequenceOf ys zs → merged_length xs ys ≤ length zs) where
  least_left : (xs ys : List ℕ) → IsSubsequenceOf xs zs → IsSubsequenceOf ys zs → merged_length (z ∷ xs) ys ≤ suc (length zs)
  least_left xs [] h k = omega (arith, sub_length xs zs h)
  least_left xs (y ∷ ys) h k =
      elim (cases_eq z y) [
        | inl same ↦ rw (step_same z y xs ys same) (omega (arith, rest xs ys h (sub_rest y ys zs k)))
        | inr other ↦ rw (step_other z y xs ys other) (omega (arith, rest xs (y ∷ ys) h k))
      ]

  least_right : (xs ys : List ℕ) → IsSubsequenceOf xs zs → IsSubsequenceOf ys zs → merged_length xs (z ∷ ys) ≤ suc (length zs)
  least_right [] ys h k = omega (arith, sub_length ys zs k)
  least_right (x ∷ xs) ys h k =
      elim (cases_eq x z) [
        | inl same ↦ rw (step_same x z xs ys same) (omega (arith, rest xs ys (sub_rest x xs zs h) k))
        | inr other ↦ rw (step_other x z xs ys other) (omega (arith, rest (x ∷ xs) ys h k))
      ]

pub least : (zs xs ys : List ℕ) → IsSubsequenceOf xs zs → IsSubsequenceOf ys zs → merged_length xs ys ≤ length zs
least [] xs ys h k = rw (h, k) (omega arith)
least (z ∷ zs) xs ys (inl h) (inl k) = omega (arith, least zs xs ys h k)
least (z ∷ zs) xs ys (inr (us, e, h)) (inl k) = rw e (least_left z zs (least zs) us ys h k)
least (z ∷ zs) xs ys (inl h) (inr (vs, f, k)) = rw f (least_right z zs (least zs) xs vs h k)
least (z ∷ zs) xs ys (inr (us, e, h)) (inr (vs, f, k)) = rw (e, f, step_same z z us vs refl) (omega (arith, least zs us vs h k))

-- ---- the last words of a list

pub length_last : (n : ℕ) (xs : List ℕ) → n ≤ length xs → length (last n xs) ≡ n
length_last n xs l = length-drop (length xs - n) xs ∙ omega arith

pub last_more : (n : ℕ) (xs : List ℕ) → n < length xs → last (n + 1) xs ≡ get_or xs (length xs - 1 - n) 0 ∷ last n xs
last_more n xs l =
    let place : length xs - (n + 1) ≡ length xs - 1 - n = omega arith in
    let after : (length xs - 1 - n) + 1 ≡ length xs - n = omega arith in
    let inside : length xs - 1 - n < length xs = omega arith in
    ap (λ (k : ℕ). drop k xs) place ∙ drop_more xs (length xs - 1 - n) 0 inside
    ∙ ap (λ (k : ℕ). get_or xs (length xs - 1 - n) 0 ∷ drop k xs) after

pub last_from : (i : ℕ) (xs : List ℕ) → i ≤ length xs → last (length xs - i) xs ≡ drop i xs
last_from i xs l = let place : length xs - (length xs - i) ≡ i = omega arith in ap (λ (k : ℕ). drop k xs) place

last_none : (xs : List ℕ) → last 0 xs ≡ []
last_none xs = drop_all (length xs - 0) xs (omega arith)

-- ---- the table

pub row_read : {Z : Type 0} (rows : List (Vec ℕ Z)) (m : ℕ) (v : Vec ℕ Z)
    → m < length rows → v ≡ get_or rows m v → slice_index_or (lists_of rows) m [] ≡ v.items
row_read {Z} rows m v l e = get_or-map (λ (u : Vec ℕ Z). u.items) rows m v [] l ∙ ap (λ (u : Vec ℕ Z). u.items) (sym e)

-- what the row of no word says
pub row_none : (ys row : List ℕ) → length row ≡ length ys + 1 → ((k : ℕ) → k < length ys + 1 → slice_index row k ≡ k) → IsRow [] ys row
row_none ys row e h = record {
  long = e;
  at = λ n l. h n (omega arith) ∙ sym (length_last n ys l);
}

-- at most 506
pub row_most : (xs ys row : List ℕ) (n : ℕ) → IsRow xs ys row → n ≤ length ys → slice_index row n ≤ length xs + n
row_most xs ys row n r l = omega (arith, r.at n l, length_most xs (last n ys), length_last n ys l)

module _ (us xs ys below row : List ℕ) (x n rest : ℕ) (begins : us ≡ x ∷ xs) (l : n < length ys) (r : IsRow xs ys below)
    (long : length row ≡ n + 1)
    (far : (k : ℕ) → k ≤ n → slice_index row k ≡ merged_length us (last k ys)) where
  pub same_value : x ≡ get_or ys (length ys - 1 - n) 0 → rest ≡ slice_index below n → rest + 1 ≡ merged_length us (last (n + 1) ys)
  same_value e f =
      rw (begins, last_more n ys l, step_same x (get_or ys (length ys - 1 - n) 0) xs (last n ys) e) (omega (arith, f, r.at n (omega arith)))

  pub other_value : x ≢ get_or ys (length ys - 1 - n) 0 → rest ≡ min (slice_index below (n + 1)) (slice_index row n)
      → rest + 1 ≡ merged_length us (last (n + 1) ys)
  other_value e f =
      let y = get_or ys (length ys - 1 - n) 0 in
      let up : slice_index below (n + 1) ≡ merged_length xs (y ∷ last n ys) =
      r.at (n + 1) (omega arith) ∙ ap (merged_length xs) (last_more n ys l) in
      let back : slice_index row n ≡ merged_length (x ∷ xs) (last n ys) =
      far n (omega arith) ∙ ap (λ (zs : List ℕ). merged_length zs (last n ys)) begins in
      rw (begins, last_more n ys l, step_other x y xs (last n ys) e) (omega (arith, f, up, back))

  pub row_more : rest + 1 ≡ merged_length us (last (n + 1) ys)
      → (k : ℕ) → k ≤ n + 1 → slice_index (row ++ (rest + 1) ∷ []) k ≡ merged_length us (last k ys)
  row_more e k m =
      elim (cases_eq k (n + 1)) [
        | inl same ↦ rw same (get_or_push row (rest + 1) 0 (n + 1) long ∙ e)
        | inr other ↦ get_or_append_left row ((rest + 1) ∷ []) 0 k (omega arith) ∙ far k (omega arith)
      ]

-- one row more
pub rows_more : {Z : Type 0} (xs ys : List ℕ) (rows : List (Vec ℕ Z)) (v : Vec ℕ Z) (m : ℕ)
    → length rows ≡ m + 1 → ((k : ℕ) → k ≤ m → IsRow (last k xs) ys (slice_index_or (lists_of rows) k []))
    → IsRow (last (m + 1) xs) ys v.items → (k : ℕ) → k ≤ m + 1 → IsRow (last k xs) ys (slice_index_or (lists_of (rows ++ v ∷ [])) k [])
rows_more {Z} xs ys rows v m long each next k l =
    let all : lists_of (rows ++ v ∷ []) ≡ lists_of rows ++ v.items ∷ [] = map_push (λ (u : Vec ℕ Z). u.items) rows v in
    let many : length (lists_of rows) ≡ m + 1 = length-map rows (λ (u : Vec ℕ Z). u.items) ∙ long in
    let P : List ℕ → Type 0 = λ row. IsRow (last k xs) ys row in
    subst (λ ls. P (slice_index_or ls k [])) (sym all) (
    elim (cases_eq k (m + 1)) [
      | inl same ↦
          subst P
          (sym (ap (λ (j : ℕ). slice_index_or (lists_of rows ++ v.items ∷ []) j []) same
          ∙ get_or_push (lists_of rows) v.items [] (m + 1) many))
          (rw same next)
      | inr other ↦ subst P (sym (get_or_append_left (lists_of rows) (v.items ∷ []) [] k (omega arith))) (each k (omega arith))
    ])

-- the first of a row, which is that of the row below and 1
pub first_value : (xs ys below : List ℕ) (m : ℕ)
    → m < length xs → IsRow (last m xs) ys below → slice_index below 0 + 1 ≡ merged_length (last (m + 1) xs) (last 0 ys)
first_value xs ys below m l r =
    let low : merged_length (last m xs) (last 0 ys) ≡ m =
    ap (merged_length (last m xs)) (last_none ys) ∙ length_right (last m xs) ∙ length_last m xs (omega arith) in
    let high : merged_length (last (m + 1) xs) (last 0 ys) ≡ m + 1 =
    ap (merged_length (last (m + 1) xs)) (last_none ys) ∙ length_right (last (m + 1) xs) ∙ length_last (m + 1) xs (omega arith) in
    omega (arith, r.at 0 (omega arith), low, high)

pub row_begun : (xs ys row : List ℕ) (v : ℕ)
    → v ≡ merged_length xs (last 0 ys) → (k : ℕ) → k ≤ 0 → slice_index (v ∷ []) k ≡ merged_length xs (last k ys)
row_begun xs ys row v e k l = let none : k ≡ 0 = omega arith in rw none e

-- ---- the walk through the table

-- the words before these places are merged, and a shortest list can begin with the merged ones
pub record Walk (left right : List ℕ) (i j : ℕ) (merged : List ℕ) : Type 0 where
  pub in_left : i ≤ length left
  pub in_right : j ≤ length right
  pub left_kept : IsSubsequenceOf (take i left) merged
  pub right_kept : IsSubsequenceOf (take j right) merged
  pub short : length merged + merged_length (drop i left) (drop j right) ≡ merged_length left right

merged_other : (us vs xs ys : List ℕ) (x y : ℕ)
    → us ≡ x ∷ xs → vs ≡ y ∷ ys → x ≢ y → merged_length us vs ≡ suc (min (merged_length xs vs) (merged_length us ys))
merged_other us vs xs ys x y e f n = rw (e, f) (step_other x y xs ys n)

module _ (left right : List ℕ) (i j : ℕ) (merged : List ℕ) (w : Walk left right i j merged) (l : i < length left)
    (m : j < length right) where
  pub walk_both : get_or left i 0 ≡ get_or right j 0 → Walk left right (i + 1) (j + 1) (merged ++ get_or left i 0 ∷ [])
  walk_both e =
      let a : drop i left ≡ get_or left i 0 ∷ drop (i + 1) left = drop_more left i 0 l in
      let b : drop j right ≡ get_or right j 0 ∷ drop (j + 1) right = drop_more right j 0 m in
      let one = step_same (get_or left i 0) (get_or right j 0) (drop (i + 1) left) (drop (j + 1) right) e in
      let all = rw (a, b) at w.short in
      record {
        in_left = omega arith;
        in_right = omega arith;
        left_kept = rw (take_more left i 0 l) (sub_push (get_or left i 0) (take i left) merged w.left_kept);
        right_kept = rw (take_more right j 0 m, e) (sub_push (get_or right j 0) (take j right) merged w.right_kept);
        short = omega (arith, all, one, length-append merged (get_or left i 0 ∷ []));
      }

  pub walk_left : get_or left i 0 ≢ get_or right j 0
      → merged_length (drop (i + 1) left) (drop j right) ≤ merged_length (drop i left) (drop (j + 1) right)
      → Walk left right (i + 1) j (merged ++ get_or left i 0 ∷ [])
  walk_left e h =
      let a : drop i left ≡ get_or left i 0 ∷ drop (i + 1) left = drop_more left i 0 l in
      let b : drop j right ≡ get_or right j 0 ∷ drop (j + 1) right = drop_more right j 0 m in
      let one =
      merged_other (drop i left) (drop j right) (drop (i + 1) left) (drop (j + 1) right) (get_or left i 0) (get_or right j 0) a b e in
      record {
        in_left = omega arith;
        in_right = w.in_right;
        left_kept = rw (take_more left i 0 l) (sub_push (get_or left i 0) (take i left) merged w.left_kept);
        right_kept = sub_lost (get_or left i 0) (take j right) merged w.right_kept;
        short = omega (arith, w.short, one, length-append merged (get_or left i 0 ∷ []));
      }

  pub walk_right : get_or left i 0 ≢ get_or right j 0
      → merged_length (drop i left) (drop (j + 1) right) ≤ merged_length (drop (i + 1) left) (drop j right)
      → Walk left right i (j + 1) (merged ++ get_or right j 0 ∷ [])
  walk_right e h =
      let a : drop i left ≡ get_or left i 0 ∷ drop (i + 1) left = drop_more left i 0 l in
      let b : drop j right ≡ get_or right j 0 ∷ drop (j + 1) right = drop_more right j 0 m in
      let one =
      merged_other (drop i left) (drop j right) (drop (i + 1) left) (drop (j + 1) right) (get_or left i 0) (get_or right j 0) a b e in
      record {
        in_left = w.in_left;
        in_right = omega arith;
        left_kept = sub_lost (get_or right j 0) (take i left) merged w.left_kept;
        right_kept = rw (take_more right j 0 m) (sub_push (get_or right j 0) (take j right) merged w.right_kept);
        short = omega (arith, w.short, one, length-append merged (get_or right j 0 ∷ []));
      }

module _ (left right : List ℕ) (i j : ℕ) (merged : List ℕ) (w : Walk left right i j merged) where
  pub end_left : IsSubsequenceOf left ((merged ++ drop i left) ++ drop j right)
  end_left =
      subst (λ xs. IsSubsequenceOf xs ((merged ++ drop i left) ++ drop j right)) (take-append-drop i left)
      (sub_before (take i left ++ drop i left) (merged ++ drop i left) (drop j right)
      (sub_append (take i left) merged (drop i left) (drop i left) w.left_kept (sub_all (drop i left))))

  pub end_right : IsSubsequenceOf right ((merged ++ drop i left) ++ drop j right)
  end_right =
      subst (λ xs. IsSubsequenceOf xs ((merged ++ drop i left) ++ drop j right)) (take-append-drop j right)
      (sub_append (take j right) (merged ++ drop i left) (drop j right) (drop j right)
      (sub_before (take j right) merged (drop i left) w.right_kept) (sub_all (drop j right)))

  end_length : (length left ≤ i) ⊎ (length right ≤ j)
      → merged_length (drop i left) (drop j right) ≡ length (drop i left) + length (drop j right)
  end_length (inl h) = rw (drop_all i left h) (omega arith)
  end_length (inr h) = rw (drop_all j right h) (length_right (drop i left) ∙ omega arith)

  pub end_short : (length left ≤ i) ⊎ (length right ≤ j)
      → (zs : List ℕ) → IsSubsequenceOf left zs → IsSubsequenceOf right zs → length ((merged ++ drop i left) ++ drop j right) ≤ length zs
  end_short h zs k m =
      omega (
        arith,
        least zs left right k m,
        w.short,
        end_length h,
        length-append (merged ++ drop i left) (drop j right),
        length-append merged (drop i left),
      )
