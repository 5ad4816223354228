-- What is kept of acknowledged units (profile).
use Rattle.std.specs.Prelude.{◌≡◌, not, if◌then◌else◌, List, [], ◌∷◌, ◌++◌, length, reverse, take, Option, Some, None}
use Rattle.std.specs.List.{filter}
use Rattle.a429_profile.specs.declared.codes.Codes.{Codes}
use Rattle.a429_sink.specs.declared.file_units.FileUnits.{FileUnits}
use Rattle.a429_sink.specs.declared.file_units.OpenUnits.{OpenUnits}
use Rattle.a429_sink.specs.declared.file_units.UnitsMark.{UnitsMark}
use Rattle.a429_sink.specs.History.{is_whole}

-- of these units, the last first, those of files of which not all are there, in order
abbrev pub open_left : Codes → List FileUnits → List FileUnits
open_left c us = filter (λ u. not (is_whole c u)) (reverse us)

-- these units, the last first, are kept: those of the file under way, and of the earlier ones those of which not all are there
abbrev pub AreUnits : Codes → List FileUnits → OpenUnits → Type 0
AreUnits c [] kept = (kept.newest ≡ None) × (kept.earlier.items ≡ [])
AreUnits c (u ∷ us) kept = (kept.newest ≡ Some u) × (kept.earlier.items ≡ open_left c us)

-- ---- at some place

-- the units that there are
abbrev pub units_mark : OpenUnits → UnitsMark
units_mark kept = record { earlier = length kept.earlier.items; newest = kept.newest }

-- these, and the newest, where its file is not whole
abbrev pub with_newest : Codes → List FileUnits → Option FileUnits → List FileUnits
with_newest c earlier None = earlier
with_newest c earlier (Some u) = if is_whole c u then earlier else earlier ++ u ∷ []

-- those of files of which not all were there at a mark
abbrev pub left_at : Codes → UnitsMark → OpenUnits → List FileUnits
left_at c mark kept = with_newest c (take mark.earlier kept.earlier.items) mark.newest
