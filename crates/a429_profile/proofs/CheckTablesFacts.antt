-- The tables for check words.
use Rattle.std.proofs.Common.{◌≡◌, ◌+◌, ◌<◌, ◌/◌, ◌%◌, ◌-◌, ◌≤◌, ◌++◌, ◌∷◌, [], ℕ, suc, List, get_or, length, fold, replicate, refl, sym, ap, ◌∙◌, arith, below_more, length-append}
use Rattle.std.proofs.lemmas.List.{get_or_append_left, get_or-append-add, get_or_default}
use Rattle.a429_profile.specs.CheckTables.{fed_down, after_zeros, AreTablesUpTo}

-- an entry of the first table is made of its place
pub begun : (poly at : ℕ) → at < 256 → at ≡ after_zeros poly (at / 256) (at % 256)
begun poly at h =
    let none : at / 256 ≡ 0 = omega arith in
    let same : at % 256 ≡ at = omega arith in rw (none, same) refl

-- any other of the entry 256 places before it
pub earlier : (poly at before d : ℕ) (entries : List ℕ)
    → AreTablesUpTo at poly entries → 256 ≤ at → before ≡ get_or entries (at - 256) d → before ≡ after_zeros poly (at / 256) (at % 256)
earlier poly at before d entries are h is =
    let table : (at - 256) / 256 + 1 ≡ at / 256 = omega arith in
    let place : (at - 256) % 256 ≡ at % 256 = omega arith in
    is ∙ get_or_default entries (at - 256) d 0 (omega (arith, are.0)) ∙ are.1 (at - 256) (omega arith) ∙ rw (table, place) refl

-- an entry more
pub entry_more : (poly at before e : ℕ) (old new : List ℕ) → AreTablesUpTo at poly old → new ≡ old ++ e ∷ []
    → before ≡ after_zeros poly (at / 256) (at % 256) → e ≡ fold (fed_down poly) before (replicate 8 0) → AreTablesUpTo (at + 1) poly new
entry_more poly at before e old new are grown from is =
    let next : at / 256 + 1 ≡ suc (at / 256) = omega arith in
    let last : get_or (old ++ e ∷ []) at 0 ≡ after_zeros poly (at / 256 + 1) (at % 256) =
    ap (λ k. get_or (old ++ e ∷ []) k 0) (sym are.0 ∙ omega arith) ∙ get_or-append-add old (e ∷ []) 0 0 ∙ is
    ∙ ap (λ r. fold (fed_down poly) r (replicate 8 0)) from ∙ ap (λ n. after_zeros poly n (at % 256)) (sym next) in (
      ap length grown ∙ length-append old (e ∷ []) ∙ ap (λ n. n + 1) are.0,
      λ k less. ap (λ xs. get_or xs k 0) grown
          ∙ below_more (λ k. get_or (old ++ e ∷ []) k 0 ≡ after_zeros poly (k / 256 + 1) (k % 256)) at (λ k h.
          get_or_append_left old (e ∷ []) 0 k (omega (arith, are.0)) ∙ are.1 k h) last k less,
    )
