-- The keys of a profile as data, and what is wrong at a key (profile).
use Rattle.std.specs.Prelude.{ℕ, List, [], ◌∷◌, ◌++◌, Bool, true, false, codes, Option, Some, None, if◌then◌else◌}
use Rattle.toml.specs.Data.{Data, Members, get_member, as_table}
use Rattle.a429_profile.specs.declared.key.Key.{Key}
use Rattle.a429_profile.specs.declared.key.Key.TheVariants as at
use Rattle.a429_profile.specs.declared.key.SectionKey.{SectionKey}
use Rattle.a429_profile.specs.declared.key.SectionKey.TheVariants as key
use Rattle.a429_profile.specs.declared.key.LabelKey.{LabelKey}
use Rattle.a429_profile.specs.declared.key.LabelKey.TheVariants as label
use Rattle.a429_profile.specs.declared.fault.ProfileFault.{ProfileFault}
use Rattle.a429_profile.specs.declared.fault.ProfileFault.TheVariants.{Missing, WrongKind, OutOfRange}
use Rattle.a429_profile.specs.Fault.{first_or}
use Rattle.a429_profile.specs.Value.{Rule, octal, number, numbers, four_numbers, truth, printable, kind_word, flags, has_kind, is_in_range}

-- ---- the table of keys

pub record SectionRow : Type 0 where
  pub section : List ℕ
  pub key : List ℕ
  pub rule : Rule

abbrev pub section_row : SectionKey → SectionRow
section_row key.ToSink = record { section = codes "transfer"; key = codes "to_sink"; rule = octal }
section_row key.ToSource = record { section = codes "transfer"; key = codes "to_source"; rule = octal }
section_row key.Destination = record { section = codes "transfer"; key = codes "destination"; rule = number 0 255 }
section_row key.FirstLdu = record { section = codes "transfer"; key = codes "first_ldu"; rule = number 0 1 }
section_row key.FinalBit = record { section = codes "transfer"; key = codes "final_bit"; rule = number 25 28 }
section_row key.Full = record { section = codes "types"; key = codes "full"; rule = number 0 7 }
section_row key.Partial = record { section = codes "types"; key = codes "partial"; rule = number 0 7 }
section_row key.Protocol = record { section = codes "types"; key = codes "protocol"; rule = number 0 7 }
section_row key.Sot = record { section = codes "types"; key = codes "sot"; rule = number 0 7 }
section_row key.Eot = record { section = codes "types"; key = codes "eot"; rule = number 0 7 }
section_row key.IgnoredTypes = record { section = codes "types"; key = codes "ignored"; rule = numbers 0 7 }
section_row key.Rts = record { section = codes "codes"; key = codes "rts"; rule = number 0 15 }
section_row key.Cts = record { section = codes "codes"; key = codes "cts"; rule = number 0 15 }
section_row key.Ack = record { section = codes "codes"; key = codes "ack"; rule = number 0 15 }
section_row key.Nak = record { section = codes "codes"; key = codes "nak"; rule = number 0 15 }
section_row key.IgnoredCodes = record { section = codes "codes"; key = codes "ignored"; rule = numbers 0 15 }
section_row key.PartialCodes = record { section = codes "partial"; key = codes "codes"; rule = four_numbers 0 15 }
section_row key.Poly = record { section = codes "check"; key = codes "poly"; rule = number 0 65535 }
section_row key.Init = record { section = codes "check"; key = codes "init"; rule = number 0 65535 }
section_row key.Xor = record { section = codes "check"; key = codes "xor"; rule = number 0 65535 }
section_row key.LowFirst = record { section = codes "check"; key = codes "low_first"; rule = truth }
section_row key.Compare = record { section = codes "check"; key = codes "compare"; rule = truth }

pub record LabelRow : Type 0 where
  pub key : List ℕ
  pub rule : Rule
  pub may_be_missing : Bool

abbrev pub label_row : LabelKey → LabelRow
label_row label.Octal = record { key = codes "octal"; rule = octal; may_be_missing = false }
label_row label.Sdi = record { key = codes "sdi"; rule = number 0 3; may_be_missing = true }
label_row label.Name = record { key = codes "name"; rule = printable 1 32; may_be_missing = false }
label_row label.Unit = record { key = codes "unit"; rule = printable 0 16; may_be_missing = false }
label_row label.Kind = record { key = codes "kind"; rule = kind_word; may_be_missing = false }
label_row label.Bits = record { key = codes "bits"; rule = number 1 18; may_be_missing = false }
label_row label.Range = record { key = codes "range"; rule = number 1 1000000000; may_be_missing = false }
label_row label.Decimals = record { key = codes "decimals"; rule = number 0 6; may_be_missing = false }
label_row label.Digits = record { key = codes "digits"; rule = number 1 5; may_be_missing = false }
label_row label.Flags = record { key = codes "flags"; rule = flags; may_be_missing = false }

-- ---- what is wrong with a value: its kind, and then its range

abbrev pub value_fault : Key → Rule → Data → Option ProfileFault
value_fault k rule d = if has_kind rule d then (if is_in_range rule d then None else Some (OutOfRange k)) else Some (WrongKind k)

-- what is at a key: nothing, where the key or its section is not there; no section, where that is no table; or a value
pub data Place : Type 0 where
  nothing : Place
  no_section : Place
  value : Data → Place

abbrev pub place_of : Option Data → Place
place_of None = nothing
place_of (Some d) = value d

abbrev pub place_in_table : List ℕ → Option Members → Place
place_in_table name None = no_section
place_in_table name (Some ms) = place_of (get_member name ms)

abbrev pub place_in_section : List ℕ → Option Data → Place
place_in_section name None = nothing
place_in_section name (Some d) = place_in_table name (as_table d)

abbrev pub section_place : Members → SectionKey → Place
section_place doc k = place_in_section (section_row k).key (get_member (section_row k).section doc)

abbrev pub place_fault : Key → Rule → Place → Option ProfileFault
place_fault k rule nothing = Some (Missing k)
place_fault k rule no_section = Some (WrongKind k)
place_fault k rule (value d) = value_fault k rule d

abbrev pub section_fault : Members → SectionKey → Option ProfileFault
section_fault doc k = place_fault (at.Section k) (section_row k).rule (section_place doc k)

abbrev pub label_place : Members → LabelKey → Place
label_place ms k = place_of (get_member (label_row k).key ms)

abbrev pub first_section_fault : Members → List SectionKey → Option ProfileFault
first_section_fault doc [] = None
first_section_fault doc (k ∷ ks) = first_or (section_fault doc k) (first_section_fault doc ks)

-- ---- the keys of the sections, in the order in which they are tested

abbrev pub transfer_keys : List SectionKey
transfer_keys = key.ToSink ∷ key.ToSource ∷ key.Destination ∷ key.FirstLdu ∷ key.FinalBit ∷ []

abbrev pub type_keys : List SectionKey
type_keys = key.Full ∷ key.Partial ∷ key.Protocol ∷ key.Sot ∷ key.Eot ∷ key.IgnoredTypes ∷ []

abbrev pub code_keys : List SectionKey
code_keys = key.Rts ∷ key.Cts ∷ key.Ack ∷ key.Nak ∷ key.IgnoredCodes ∷ []

abbrev pub partial_keys : List SectionKey
partial_keys = key.PartialCodes ∷ []

abbrev pub check_keys : List SectionKey
check_keys = key.Poly ∷ key.Init ∷ key.Xor ∷ key.LowFirst ∷ key.Compare ∷ []

-- the keys of the transfer's numbers
abbrev pub number_keys : List SectionKey
number_keys = transfer_keys ++ type_keys ++ code_keys ++ partial_keys
