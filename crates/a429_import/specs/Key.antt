-- The keys of a map as data, and what is wrong at a key (profile).
use Rattle.std.specs.Prelude.{ℕ, List, [], ◌∷◌, pos, Bool, true, false, codes, Option, Some, None, if◌then◌else◌}
use Rattle.toml.specs.Data.{Data, string, integer, boolean, array, no_items, Members, get_member}
use Rattle.a429_profile.specs.Key.{Place, nothing, no_section, value, place_of, place_in_section}
use Rattle.a429_import.specs.declared.key.Key.{Key}
use Rattle.a429_import.specs.declared.key.Key.TheVariants as at
use Rattle.a429_import.specs.declared.key.SectionKey.{SectionKey}
use Rattle.a429_import.specs.declared.key.SectionKey.TheVariants as key
use Rattle.a429_import.specs.declared.key.PartKey.{PartKey}
use Rattle.a429_import.specs.declared.key.PartKey.TheVariants as part
use Rattle.a429_import.specs.declared.fault.MapFault.{MapFault}
use Rattle.a429_import.specs.declared.fault.MapFault.TheVariants.{Missing, WrongKind, OutOfRange}
use Rattle.a429_import.specs.Fault.{first_or}
use Rattle.a429_import.specs.Value as rule
use Rattle.a429_import.specs.Value.{Rule, has_kind, is_in_range}

-- ---- the table of keys: where a key is, which values it may have, and the value that stands for it where it is missing

pub record SectionRow : Type 0 where
  pub section : List ℕ
  pub key : List ℕ
  pub rule : Rule
  pub default : Option Data

-- `header` says whether a row names the columns
abbrev pub section_row : Bool → SectionKey → SectionRow
section_row header key.Separator = record { section = codes "rows"; key = codes "separator"; rule = rule.separator; default = None }
section_row header key.Header = record { section = codes "rows"; key = codes "header"; rule = rule.truth; default = None }
section_row header key.Quotes = record { section = codes "rows"; key = codes "quotes"; rule = rule.truth; default = Some (boolean true) }
section_row header key.Skip = record { section = codes "rows"; key = codes "skip"; rule = rule.number 0 1000000; default = Some (integer (pos 0)) }
section_row header key.Comment = record { section = codes "rows"; key = codes "comment"; rule = rule.text; default = Some (string []) }
section_row header key.RowsPass = record { section = codes "rows"; key = codes "pass"; rule = rule.texts; default = Some (array no_items) }
section_row header key.TimeColumn = record { section = codes "time"; key = codes "column"; rule = rule.column header; default = None }
section_row header key.TimeForm = record { section = codes "time"; key = codes "form"; rule = rule.form; default = None }
section_row header key.TimeUnit = record { section = codes "time"; key = codes "unit"; rule = rule.unit; default = Some (string (codes "us")) }
section_row header key.TimePoint = record { section = codes "time"; key = codes "point"; rule = rule.point; default = Some (string (codes ".")) }
section_row header key.TimeDate = record { section = codes "time"; key = codes "date"; rule = rule.date; default = Some (string (codes "none")) }
section_row header key.HalfDays = record { section = codes "time"; key = codes "half_days"; rule = rule.truth; default = Some (boolean false) }
section_row header key.WrapsAt = record { section = codes "time"; key = codes "wraps_at"; rule = rule.wraps; default = Some (integer (pos 0)) }
section_row header key.Back = record { section = codes "time"; key = codes "back"; rule = rule.number 0 4611686018427387904; default = Some (integer (pos 0)) }
section_row header key.Resets = record { section = codes "time"; key = codes "resets"; rule = rule.truth; default = Some (boolean false) }
section_row header key.ChannelColumn = record { section = codes "channel"; key = codes "column"; rule = rule.column header; default = None }
section_row header key.ChannelA = record { section = codes "channel"; key = codes "a"; rule = rule.texts; default = None }
section_row header key.ChannelB = record { section = codes "channel"; key = codes "b"; rule = rule.texts; default = None }
section_row header key.ChannelPass = record { section = codes "channel"; key = codes "pass"; rule = rule.texts; default = Some (array no_items) }
section_row header key.PassOthers = record { section = codes "channel"; key = codes "pass_others"; rule = rule.truth; default = Some (boolean false) }
section_row header key.BitWord = record { section = codes "word"; key = codes "bit_32"; rule = rule.bit_word; default = None }
section_row header key.BytesReversed = record { section = codes "word"; key = codes "bytes_reversed"; rule = rule.truth; default = Some (boolean false) }
section_row header key.LabelReversed = record { section = codes "word"; key = codes "label_reversed"; rule = rule.truth; default = Some (boolean false) }
section_row header key.RepeatsDrop = record { section = codes "repeats"; key = codes "drop"; rule = rule.truth; default = Some (boolean false) }
section_row header key.RepeatsWithin = record { section = codes "repeats"; key = codes "within"; rule = rule.number 0 1000000; default = Some (integer (pos 0)) }
section_row header key.RepeatsAmong = record { section = codes "repeats"; key = codes "among"; rule = rule.number 1 1000000; default = Some (integer (pos 1)) }
section_row header key.ErrorColumn = record { section = codes "error"; key = codes "column"; rule = rule.column header; default = None }
section_row header key.ErrorGood = record { section = codes "error"; key = codes "good"; rule = rule.texts; default = None }
section_row header key.ErrorBad = record { section = codes "error"; key = codes "bad"; rule = rule.texts; default = None }

pub record PartRow : Type 0 where
  pub key : List ℕ
  pub rule : Rule
  pub default : Option Data

-- the rule of each key of a part, and the value that stands for it where it is missing
abbrev pub part_row : Bool → PartKey → PartRow
part_row header part.Column = record { key = codes "column"; rule = rule.column header; default = None }
part_row header part.Base = record { key = codes "base"; rule = rule.base; default = None }
part_row header part.Low = record { key = codes "low"; rule = rule.number 1 32; default = None }
part_row header part.Bits = record { key = codes "bits"; rule = rule.number 1 32; default = None }
part_row header part.Reversed = record { key = codes "reversed"; rule = rule.truth; default = Some (boolean false) }
part_row header part.Prefix = record { key = codes "prefix"; rule = rule.text; default = Some (string []) }
part_row header part.Split = record { key = codes "split"; rule = rule.split; default = Some (string []) }
part_row header part.Piece = record { key = codes "piece"; rule = rule.number 1 9; default = Some (integer (pos 1)) }

-- ---- what is wrong with a value: its kind, and then its range

abbrev pub value_fault : Key → Rule → Data → Option MapFault
value_fault k rule d = if has_kind rule d then (if is_in_range rule d then None else Some (OutOfRange k)) else Some (WrongKind k)

-- a key that is missing has no fault where a value stands for it
abbrev pub missing_fault : Key → Option Data → Option MapFault
missing_fault k None = Some (Missing k)
missing_fault k (Some d) = None

abbrev pub place_fault : Key → Rule → Option Data → Place → Option MapFault
place_fault k rule default nothing = missing_fault k default
place_fault k rule default no_section = Some (WrongKind k)
place_fault k rule default (value d) = value_fault k rule d

-- the value at a place, or the one that stands for it
abbrev pub default_value : Option Data → Data
default_value None = boolean false
default_value (Some d) = d

abbrev pub value_or : Option Data → Place → Data
value_or default (value d) = d
value_or default _ = default_value default

-- ---- keys of sections

abbrev pub section_place : Bool → Members → SectionKey → Place
section_place header doc k = place_in_section (section_row header k).key (get_member (section_row header k).section doc)

abbrev pub section_fault : Bool → Members → SectionKey → Option MapFault
section_fault header doc k = place_fault (at.Section k) (section_row header k).rule (section_row header k).default (section_place header doc k)

abbrev pub section_value : Bool → Members → SectionKey → Data
section_value header doc k = value_or (section_row header k).default (section_place header doc k)

abbrev pub first_section_fault : Bool → Members → List SectionKey → Option MapFault
first_section_fault header doc [] = None
first_section_fault header doc (k ∷ ks) = first_or (section_fault header doc k) (first_section_fault header doc ks)

-- ---- keys of the part at this position, from 0

abbrev pub part_place : Bool → Members → PartKey → Place
part_place header ms k = place_of (get_member (part_row header k).key ms)

abbrev pub part_fault : Bool → ℕ → Members → PartKey → Option MapFault
part_fault header i ms k = place_fault (at.Part i k) (part_row header k).rule (part_row header k).default (part_place header ms k)

abbrev pub part_value : Bool → Members → PartKey → Data
part_value header ms k = value_or (part_row header k).default (part_place header ms k)

abbrev pub first_part_fault : Bool → ℕ → Members → List PartKey → Option MapFault
first_part_fault header i ms [] = None
first_part_fault header i ms (k ∷ ks) = first_or (part_fault header i ms k) (first_part_fault header i ms ks)
