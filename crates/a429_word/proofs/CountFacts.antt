-- Counts of what passes a test, one more at a time.
use Rattle.std.proofs.Common.{◌≡◌, ℕ, ◌+◌, ◌-◌, ◌^◌, ◌<◌, ◌≤◌, min, Bool, true, false, List, [], ◌∷◌, ◌++◌, length, length-append, append-nil, refl, sym, ap, ◌∙◌, arith}
use Rattle.std.specs.Prelude.{filter}
use Rattle.std.proofs.lemmas.List.Elements.{filter-append}
use Rattle.std.proofs.lemmas.List.Sums.{length-filter, count_by-le-length}

pub filter_yes : {X : Type 0} (p : X → Bool) (xs : List X) (x : X) → p x ≡ true → filter p (xs ++ x ∷ []) ≡ filter p xs ++ x ∷ []
filter_yes p xs x e = filter-append p xs (x ∷ []) ∙ rw e refl

pub filter_no : {X : Type 0} (p : X → Bool) (xs : List X) (x : X) → p x ≡ false → filter p (xs ++ x ∷ []) ≡ filter p xs
filter_no p xs x e = filter-append p xs (x ∷ []) ∙ rw e (append-nil (filter p xs))

pub filter_short : {X : Type 0} (p : X → Bool) (xs : List X) → length (filter p xs) ≤ length xs
filter_short p xs = rw (length-filter p xs) (count_by-le-length p xs)

-- a counter that is below the largest number counts one more
pub one_more : (new old n : ℕ) → new ≡ min (old + 1) (2 ^ 64 - 1) → old ≡ n → n + 1 < 2 ^ 64 → new ≡ n + 1
one_more new old n e is few = grind arith

-- and so it does for what passes a test
pub counted_yes : {X : Type 0} (p : X → Bool) (xs : List X) (x : X) (new old : ℕ) → p x ≡ true → new ≡ min (old + 1) (2 ^ 64 - 1)
    → length xs + 1 < 2 ^ 64 → old ≡ length (filter p xs) → new ≡ length (filter p (xs ++ x ∷ []))
counted_yes p xs x new old e is few h =
    let short = filter_short p xs in
    one_more new old (length (filter p xs)) is h (omega (arith, short, few))
    ∙ sym (ap length (filter_yes p xs x e) ∙ length-append (filter p xs) (x ∷ []))
