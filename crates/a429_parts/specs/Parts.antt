-- The parts of a recording: where they end, what takes them, and their list (profile).
use Rattle.std.specs.Prelude.{◌≡◌, ◌≤◌, ◌<◌, ◌+◌, ◌⊎◌, ℕ, suc, List, [], ◌∷◌, ◌++◌, length, codes, Option, Some, None, ⊤}
use Rattle.std.specs.Fmt.{decimal}
use Rattle.a429_profile.specs.Profile.{Contents}
use Rattle.a429_record.specs.declared.entry.Entry.{Entry}
use Rattle.a429_cert.specs.Explained.{items_of}
use Rattle.a429_parts.specs.Cutting.{IsPlace}
use Rattle.a429_parts.specs.Near.{IsLastNear}

-- ---- the parts of a recording

-- the entries of parts, one after the other
abbrev pub joined : List (List Entry) → List Entry
joined [] = []
joined (es ∷ parts) = es ++ joined parts

-- each of these parts, the first of which begins after so many of these entries, ends where the recording may be cut, at the last such place that is near enough; the end of the recording is not
abbrev pub EndAtPlaces : Contents → ℕ → List Entry → ℕ → List (List Entry) → Type 0
EndAtPlaces p most entries from [] = Unit {0}
EndAtPlaces p most entries from (es ∷ parts) =
    (from + most < length entries) × IsPlace p (items_of entries) (from + length es) × IsLastNear p most entries from (from + length es) × EndAtPlaces p most entries (from + length es) parts

-- each has an entry, and at most so many
abbrev pub HaveAtMost : ℕ → List (List Entry) → Type 0
HaveAtMost most [] = Unit {0}
HaveAtMost most (es ∷ parts) = (0 < length es) × (length es ≤ most) × HaveAtMost most parts

-- the first parts of a recording of these entries, and the entries after them
pub record AreFirstParts (p : Contents) (most : ℕ) (entries : List Entry) (parts : List (List Entry)) (rest : List Entry) : Type 0 where
  pub joined : joined parts ++ rest ≡ entries
  pub places : EndAtPlaces p most entries 0 parts
  pub few : HaveAtMost most parts

-- all parts of a recording of these entries: the last one ends with the recording
pub record AreParts (p : Contents) (most : ℕ) (entries : List Entry) (parts : List (List Entry)) : Type 0 where
  pub first : List (List Entry)
  pub last : List Entry
  pub all : parts ≡ first ++ last ∷ []
  pub begin : AreFirstParts p most entries first last
  pub few : length last ≤ most

-- all parts, or the first ones: at most twice as many entries as a part may have, and one, are in none of them
abbrev pub AreSomeParts : Contents → ℕ → List Entry → List (List Entry) → Type 0
AreSomeParts p most entries parts = AreParts p most entries parts ⊎ ((rest : List Entry) × (length rest ≤ most + most + 1) × AreFirstParts p most entries parts rest)

-- ---- their list

-- the line of a part: its number, how many entries it has, and which of the recording is its first
abbrev pub part_line : ℕ → ℕ → ℕ → List ℕ
part_line number size from = codes "part " ++ decimal number ++ codes " entries " ++ decimal size ++ codes " from " ++ decimal from ++ codes "\n"

-- the lines of parts, the first of which has this number and begins at this entry
abbrev pub part_lines : ℕ → ℕ → List (List Entry) → List ℕ
part_lines number from [] = []
part_lines number from (es ∷ parts) = part_line number (length es) from ++ part_lines (suc number) (from + length es) parts

-- the list of all parts
abbrev pub list_text : List (List Entry) → List ℕ
list_text parts = part_lines 1 0 parts

-- ---- what takes parts

-- a part with its number
pub record NumberedPart : Type 0 where
  pub number : ℕ
  pub entries : List Entry

-- the parts that were put, in order, and the list of parts, if it was put
pub record PutParts : Type 0 where
  pub parts : List NumberedPart
  pub list : Option (List ℕ)

-- parts numbered from this number on
abbrev pub numbered : ℕ → List (List Entry) → List NumberedPart
numbered k [] = []
numbered k (es ∷ parts) = record { number = k; entries = es } ∷ numbered (suc k) parts

-- what is known has become this
abbrev pub Becomes : Option PutParts → Option PutParts → (PutParts → PutParts) → Type 0
Becomes None new change = ⊤
Becomes (Some old) None change = ⊥
Becomes (Some old) (Some new) change = new ≡ change old

-- the same, and these parts after those that were there
abbrev pub with_parts : List NumberedPart → PutParts → PutParts
with_parts more s = record { parts = s.parts ++ more; list = s.list }

-- the same, and this list
abbrev pub with_list : List ℕ → PutParts → PutParts
with_list text s = record { parts = s.parts; list = Some text }

-- a part was put
abbrev pub GainsPart : Option PutParts → Option PutParts → ℕ → List Entry → Type 0
GainsPart old new number es = Becomes old new (with_parts (record { number = number; entries = es } ∷ []))

-- parts were put, numbered from 1, and no list
abbrev pub GainsParts : Option PutParts → Option PutParts → List (List Entry) → Type 0
GainsParts old new parts = Becomes old new (with_parts (numbered 1 parts))

-- a list was put
abbrev pub GainsList : Option PutParts → Option PutParts → List ℕ → Type 0
GainsList old new text = Becomes old new (with_list text)

-- parts were put, numbered from 1, and then their list
abbrev pub GainsAll : Option PutParts → Option PutParts → List (List Entry) → Type 0
GainsAll old new parts = Becomes old new (λ s. with_list (list_text parts) (with_parts (numbered 1 parts) s))

-- it is as it was
abbrev pub IsSame : Option PutParts → Option PutParts → Type 0
IsSame old new = Becomes old new (λ s. s)
