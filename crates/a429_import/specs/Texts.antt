-- Lists of texts (profile), which are compared as bytes.
use Rattle.std.specs.Prelude.{ℕ, List, [], ◌∷◌, Bool, false, ◌||◌, bytes_eq}
use Rattle.std.specs.List.{list_any}

-- one of some texts is this
abbrev pub has_text : List (List ℕ) → List ℕ → Bool
has_text texts text = list_any (λ t. bytes_eq t text) texts

-- one of some texts comes again after it
abbrev pub has_twin : List (List ℕ) → Bool
has_twin [] = false
has_twin (t ∷ ts) = has_text ts t || has_twin ts
