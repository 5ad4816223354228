-- Arrays of texts, in the words of their elements.
use Rattle.std.proofs.Common.{◌≡◌, ℕ, List, [], ◌∷◌, map, Bool, true, Some, None, is_some, if◌then◌else◌, refl, ap, ◌∙◌}
use Rattle.std.specs.List.{list_all}
use Rattle.std.proofs.lemmas.List.Folds.{list_all-map}
use Rattle.toml.specs.Data.{Data, as_array}
use Rattle.toml.specs.View.{view}
use Rattle.toml.specs.declared.value.Value.{Value}
use Rattle.a429_profile.specs.Value.{text_of_value, elements_of, is_text}
use Rattle.a429_import.specs.declared.key.Key.{Key}
use Rattle.a429_import.specs.declared.fault.MapFault.TheVariants.{WrongKind}
use Rattle.a429_import.specs.Value as rule
use Rattle.a429_import.specs.Value.{texts_of_value}
use Rattle.a429_import.specs.Key.{value_fault}

pub texts-fault : (k : Key) (d : Data) (vs : List Value) (b : Bool)
    → true ≡ is_some (as_array d) → elements_of d ≡ map view vs → b ≡ list_all (λ v. is_text (view v)) vs
    → value_fault k rule.texts d ≡ (if b then None else Some (WrongKind k))
texts-fault k d vs b has e texts = rw (← has, e, list_all-map is_text view vs, ← texts) refl

map-texts : (vs : List Value) → map text_of_value (map view vs) ≡ map (λ w. text_of_value (view w)) vs
map-texts [] = refl
map-texts (v ∷ vs) = ap (λ (ts : List (List ℕ)). text_of_value (view v) ∷ ts) (map-texts vs)

pub texts-value : (d : Data) (vs : List Value) → elements_of d ≡ map view vs → texts_of_value d ≡ map (λ w. text_of_value (view w)) vs
texts-value d vs e = ap (map text_of_value) e ∙ map-texts vs
