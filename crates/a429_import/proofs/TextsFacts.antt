-- Lists of texts, one after the other.
use Rattle.std.proofs.Common.{◌≡◌, ℕ, List, [], ◌∷◌, ◌++◌, Bool, true, false, ◌||◌, refl, ap, ◌∙◌}
use Rattle.std.specs.List.{list_any}
use Rattle.std.proofs.lemmas.List.Folds.{list_any-append}
use Rattle.std.specs.Prelude.{bytes_eq}
use Rattle.std.proofs.Math.Bool.{or_assoc}
use Rattle.a429_import.specs.Texts.{has_text, has_twin}

or-move : (p q r s u : Bool) → ((p || q) || (r || (s || u))) ≡ ((p || r) || ((q || s) || u))
or-move true q r s u = refl
or-move false true true s u = refl
or-move false true false s u = refl
or-move false false true s u = refl
or-move false false false s u = refl

-- a twin in two lists together is one in either, or a text of both
pub has_twin_join : (xs ys : List (List ℕ)) → has_twin (xs ++ ys) ≡ (has_twin xs || (list_any (has_text ys) xs || has_twin ys))
has_twin_join [] ys = refl
has_twin_join (x ∷ xs) ys =
    ap (λ b. b || has_twin (xs ++ ys)) (list_any-append (λ t. bytes_eq t x) xs ys)
    ∙ ap (λ b. (has_text xs x || has_text ys x) || b) (has_twin_join xs ys)
    ∙ or-move (has_text xs x) (has_text ys x) (has_twin xs) (list_any (has_text ys) xs) (has_twin ys)

-- a text of a list and of one of two others
shared-join : (xs ys zs : List (List ℕ)) → list_any (has_text (ys ++ zs)) xs ≡ (list_any (has_text ys) xs || list_any (has_text zs) xs)
shared-join [] ys zs = refl
shared-join (x ∷ xs) ys zs =
    ap (λ b. b || list_any (has_text (ys ++ zs)) xs) (list_any-append (λ t. bytes_eq t x) ys zs)
    ∙ ap (λ b. (has_text ys x || has_text zs x) || b) (shared-join xs ys zs)
    ∙ swap (has_text ys x) (has_text zs x) (list_any (has_text ys) xs) (list_any (has_text zs) xs)
  where
    swap : (a b c d : Bool) → ((a || b) || (c || d)) ≡ ((a || c) || (b || d))
    swap true b c d = refl
    swap false true true d = refl
    swap false true false d = refl
    swap false false true d = refl
    swap false false false d = refl

-- the same of three lists
pub has_twin_three : (xs ys zs : List (List ℕ))
    → has_twin (xs ++ (ys ++ zs)) ≡ (has_twin xs || (list_any (has_text ys) xs || (list_any (has_text zs) xs || has_twin (ys ++ zs))))
has_twin_three xs ys zs =
    has_twin_join xs (ys ++ zs)
    ∙ ap (λ b. has_twin xs || (b || has_twin (ys ++ zs))) (shared-join xs ys zs)
    ∙ ap (λ b. has_twin xs || b) (or_assoc (list_any (has_text ys) xs) (list_any (has_text zs) xs) (has_twin (ys ++ zs)))
