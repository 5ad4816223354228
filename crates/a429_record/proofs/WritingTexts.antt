-- The texts of elements, one after the other.
use Rattle.std.proofs.Common.{◌≡◌, ℕ, ◌+◌, ◌<◌, List, [], ◌∷◌, ◌++◌, length, take, drop, take-append-drop, get_or, sym, ap, ◌∙◌, append-nil}
use Rattle.std.specs.List.{flat_map}
use Rattle.std.proofs.lemmas.Grind.{flat_map-append}
use Rattle.std.proofs.lemmas.List.{take_more}

-- a further element's text
pub flat_map-more : {X : Type 0} (text : X → List ℕ) (xs : List X) (i : ℕ) (x : X) → i < length xs → x ≡ get_or xs i x
    → flat_map text (take (i + 1) xs) ≡ flat_map text (take i xs) ++ text x
flat_map-more text xs i x h found =
    ap (flat_map text) (take_more xs i x h ∙ ap (λ y. take i xs ++ y ∷ []) (sym found))
    ∙ flat_map-append text (take i xs) (x ∷ []) ∙ ap (λ t. flat_map text (take i xs) ++ t) (append-nil (text x))

-- the texts of some elements, and of the rest
pub flat_map-rest : {X : Type 0} (text : X → List ℕ) (xs : List X) (i : ℕ)
    → flat_map text (take i xs) ++ flat_map text (drop i xs) ≡ flat_map text xs
flat_map-rest text xs i = sym (flat_map-append text (take i xs) (drop i xs)) ∙ ap (flat_map text) (take-append-drop i xs)
