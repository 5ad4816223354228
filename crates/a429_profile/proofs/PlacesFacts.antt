-- Where the entries of a label table stand.
use Rattle.std.proofs.Common.{◌≡◌, ◌+◌, ◌*◌, ◌<◌, ◌≤◌, ℕ, List, [], Bool, true, false, ◌==◌, Option, Some, None, IfSome, is_some, slice_get, get_or, refl, sym, subst, ◌∙◌, arith}
use Rattle.std.specs.List.{find}
use Rattle.std.specs.Map.{lookup}
use Rattle.std.proofs.lemmas.Option.{slice_get_read}
use Rattle.a429_profile.specs.declared.entry.LabelEntry.{LabelEntry}
use Rattle.a429_profile.specs.Profile.{is_for, Kept, entries_of, AreKeyed, ApartAfter}
use Rattle.a429_profile.specs.Places.{IsPlace, ArePlaces}
use Rattle.a429_profile.proofs.ProfileLookup.{AreTests, find-open, find-stated}

-- the first look-up found something
pub open_place : (label sdi : ℕ) (open_at : ℕ × Option ℕ → Bool) → ((l : ℕ) → open_at (l, None) ≡ (label == l))
    → ((l s : ℕ) → open_at (l, Some s) ≡ false)
    → (ks : List Kept) → AreKeyed ks → ApartAfter [] (entries_of ks) → (i : ℕ) → true ≡ is_some (lookup open_at ks)
    → slice_get (entries_of ks) i ≡ lookup open_at ks → IsPlace (entries_of ks) label sdi (Some i)
open_place label sdi open_at none some ks keyed apart i found is = by (lookup open_at ks) refl (sym found)
  where
    by : (o : Option LabelEntry) → o ≡ lookup open_at ks → is_some o ≡ true → IsPlace (entries_of ks) label sdi (Some i)
    by (Some e) at h = is ∙ sym at ∙ find-open label sdi open_at none some ks keyed apart e at
    by None at h = absurd (cc h)

-- it found nothing, and the second one something or nothing
pub stated_place : (label sdi : ℕ) (open_at stated_at : ℕ × Option ℕ → Bool) → AreTests label sdi open_at stated_at → (ks : List Kept)
    → AreKeyed ks → ApartAfter [] (entries_of ks) → (place : Option ℕ)
    → false ≡ is_some (lookup open_at ks) → is_some place ≡ is_some (lookup stated_at ks)
    → IfSome place (λ i. slice_get (entries_of ks) i ≡ lookup stated_at ks) → IsPlace (entries_of ks) label sdi place
stated_place label sdi open_at stated_at tests ks keyed apart place none found is = by place found is
  where
    nothing : (o : Option LabelEntry) → false ≡ is_some o → None ≡ o
    nothing None h = refl
    nothing (Some e) h = absurd (cc h)

    sought : (r : Option LabelEntry) → r ≡ lookup stated_at ks → r ≡ find (is_for label sdi) (entries_of ks)
    sought r h = find-stated label sdi open_at stated_at tests ks keyed apart r (nothing (lookup open_at ks) none) h

    by : (place : Option ℕ) → is_some place ≡ is_some (lookup stated_at ks)
        → IfSome place (λ i. slice_get (entries_of ks) i ≡ lookup stated_at ks) → IsPlace (entries_of ks) label sdi place
    by None found is = sought None (nothing (lookup stated_at ks) found)
    by (Some i) found is = sought (slice_get (entries_of ks) i) is

-- one of the places of all
pub place_at : (es : List LabelEntry) (ps : List (Option ℕ)) (label sdi : ℕ) (p : Option ℕ)
    → ArePlaces es ps → label ≤ 255 → sdi < 4 → p ≡ get_or ps (4 * label + sdi) p → IsPlace es label sdi p
place_at es ps label sdi p are low small is =
    let inside : 4 * label + sdi < 1024 = omega (arith, low, small) in
    subst (λ (o : Option (Option ℕ)). IfSome o (IsPlace es label sdi)) (slice_get_read ps 1024 (4 * label + sdi) p (sym are.0) inside is)
    (are.1 label sdi small)
