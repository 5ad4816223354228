-- The ranges of an entry's numbers and texts (profile).
use Rattle.std.specs.Prelude.{ℕ, ◌≤◌, List, All, length}
use Rattle.std.specs.List.{AllByRecursion}
use Rattle.std.specs.Option.{IfSome}
use Rattle.a429_profile.specs.declared.entry.Flag.{Flag}
use Rattle.a429_profile.specs.declared.entry.Kind.{Kind}
use Rattle.a429_profile.specs.declared.entry.Kind.TheVariants.{Bnr, Bcd, Discrete}
use Rattle.a429_profile.specs.declared.entry.LabelEntry.{LabelEntry}

-- ---- numbers

abbrev pub IsFlagBit : Flag → Type 0
IsFlagBit f = (11 ≤ f.bit) × (f.bit ≤ 29)

abbrev pub IsKindInRange : Kind → Type 0
IsKindInRange (Bnr bits range decimals) = (1 ≤ bits) × (bits ≤ 18) × (1 ≤ range) × (range ≤ 1000000000) × (decimals ≤ 6)
IsKindInRange (Bcd digits decimals) = (1 ≤ digits) × (digits ≤ 5) × (decimals ≤ 6)
IsKindInRange (Discrete flags) = AllByRecursion IsFlagBit flags

-- ---- texts

-- a printable character of ASCII
abbrev pub IsPrintable : ℕ → Type 0
IsPrintable c = (32 ≤ c) × (c ≤ 126)

-- a text of so many such characters, a byte each
abbrev pub IsTextOf : ℕ → ℕ → List ℕ → Type 0
IsTextOf least most text = (least ≤ length text) × (length text ≤ most) × All IsPrintable text

-- a discrete has 1 to 19 flags, each with a name
abbrev pub HasFlags : Kind → Type 0
HasFlags (Discrete flags) = (1 ≤ length flags) × (length flags ≤ 19) × All (λ f. IsTextOf 1 32 f.name) flags
HasFlags _ = Unit {0}

-- ---- an entry

pub record IsEntryInRange (e : LabelEntry) : Type 0 where
  pub label : e.label ≤ 255
  pub sdi : IfSome e.sdi (λ s. s ≤ 3)
  pub name : IsTextOf 1 32 e.name
  pub unit : IsTextOf 0 16 e.unit
  pub numbers : IsKindInRange e.kind
  pub flags : HasFlags e.kind
