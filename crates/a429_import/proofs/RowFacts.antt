-- The word of a row, part by part.
use Rattle.std.proofs.Common.{◌≡◌, ℕ, ◌≤◌, List, [], ◌∷◌, length, drop, min, nat_le, inl, inr, refl, ap, ◌∙◌, arith}
use Rattle.std.proofs.lemmas.Bool.{cases_Bool}
use Rattle.std.proofs.lemmas.Bool.Decides.{nat_tests}
use Rattle.std.proofs.lemmas.List.{drop_all}
use Rattle.a429_import.specs.declared.part.Part.{Part}
use Rattle.a429_import.specs.Row.{part_values}

part_values-no_place : (parts : List Part) (fields : List (List ℕ)) → part_values parts [] fields ≡ []
part_values-no_place [] fields = refl
part_values-no_place (p ∷ ps) fields = refl

no_parts : (places : List ℕ) (fields : List (List ℕ)) → part_values [] places fields ≡ []
no_parts places fields = refl

-- after the last there is none
pub part_values-end : (parts : List Part) (places : List ℕ) (fields : List (List ℕ)) (k : ℕ) → k ≡ min (length parts) (length places)
    → part_values (drop k parts) (drop k places) fields ≡ []
part_values-end parts places fields k e = elim (cases_Bool (nat_le (length parts) (length places))) [
  | inl few ↦
      let all : length parts ≤ k = grind (arith, nat_tests) in
      ap (λ ps. part_values ps (drop k places) fields) (drop_all k parts all) ∙ no_parts (drop k places) fields
  | inr many ↦
      let all : length places ≤ k = grind (arith, nat_tests) in
      ap (λ is. part_values (drop k parts) is fields) (drop_all k places all) ∙ part_values-no_place (drop k parts) fields
]
