-- Where in a label table the entry for each label and SDI is (profile).
use Rattle.std.specs.Prelude.{◌≡◌, ◌<◌, ◌+◌, ◌*◌, ℕ, List, length, Option, Some, None, IfSome, slice_get}
use Rattle.std.specs.List.{find}
use Rattle.a429_profile.specs.declared.entry.LabelEntry.{LabelEntry}
use Rattle.a429_profile.specs.Profile.{is_for}

-- the entry at a place, if one is named
abbrev pub entry_at : List LabelEntry → Option ℕ → Option LabelEntry
entry_at es None = None
entry_at es (Some i) = slice_get es i

-- at this place is the entry for words of this label and SDI
abbrev pub IsPlace : List LabelEntry → ℕ → ℕ → Option ℕ → Type 0
IsPlace es label sdi place = entry_at es place ≡ find (is_for label sdi) es

-- so many of these, four for each label, one for each SDI
abbrev pub ArePlacesUpTo : ℕ → List LabelEntry → List (Option ℕ) → Type 0
ArePlacesUpTo count es places = (length places ≡ count) × ((label sdi : ℕ) → sdi < 4 → IfSome (slice_get places (4 * label + sdi)) (IsPlace es label sdi))

-- those for all labels, 0 to 255
abbrev pub ArePlaces : List LabelEntry → List (Option ℕ) → Type 0
ArePlaces es places = ArePlacesUpTo 1024 es places
