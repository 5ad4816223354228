-- Where the clock of an export begins again, or was set back (profile).
use Rattle.std.specs.Prelude.{ℕ, ◌+◌, Bool, true, false, List, [], ◌∷◌, ◌++◌, codes, length}
use Rattle.std.specs.Fmt.{decimal}
use Rattle.a429_import.specs.declared.lot.Lot.{Lot}
use Rattle.a429_import.specs.declared.lot.Lot.TheVariants as lot
use Rattle.a429_import.specs.declared.order.Fall.{Fall}
use Rattle.a429_import.specs.declared.order.Fall.TheVariants as fall
use Rattle.a429_import.specs.declared.places.Jump.{Jump}
use Rattle.a429_import.specs.declared.places.Jump.TheVariants.{Wrap, Reset}
use Rattle.a429_import.specs.declared.places.Place.{Place}
use Rattle.a429_import.specs.Import.{entry_before}

-- ---- the places of an entry, which comes after so many entries and is on this line, counted from 1

abbrev pub wrap_place : ℕ → ℕ → Bool → List Place
wrap_place e n true = record { entry = e; line = n; jump = Wrap } ∷ []
wrap_place e n false = []

abbrev pub reset_place : ℕ → ℕ → Fall → List Place
reset_place e n (fall.Reset by) = record { entry = e; line = n; jump = Reset by } ∷ []
reset_place e n _ = []

abbrev pub places_at : ℕ → ℕ → Lot → List Place
places_at e n (lot.Written entry is_cut v mend) = wrap_place e n mend.wraps ++ reset_place e n mend.fall
places_at e n _ = []

-- those of lines, after so many entries and lines
abbrev pub places_after : ℕ → ℕ → List Lot → List Place
places_after e n [] = []
places_after e n (l ∷ lots) = places_at e (n + 1) l ++ places_after (e + length (entry_before l [])) (n + 1) lots

abbrev pub places_of : List Lot → List Place
places_of lots = places_after 0 0 lots

-- ---- the line that says one

abbrev pub jump_text : Jump → List ℕ
jump_text Wrap = codes "\n"
jump_text (Reset by) = codes " by " ++ decimal by ++ codes "\n"

abbrev pub jump_name : Jump → List ℕ
jump_name Wrap = codes "wrap "
jump_name (Reset by) = codes "reset "

-- the line of a place: what happened there, at which entry and line, and by how much
abbrev pub place_line : Place → List ℕ
place_line p = jump_name p.jump ++ decimal p.entry ++ codes " line " ++ decimal p.line ++ jump_text p.jump
