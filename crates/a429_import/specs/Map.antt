-- What a map says, section by section (profile).
use Rattle.std.specs.Prelude.{◌≡◌, ℕ, List, [], ◌∷◌, ◌++◌, Bool, true, false, ◌||◌, Option, Some, None, unwrap_or, Result, Ok, Err, if◌then◌else◌}
use Rattle.toml.specs.Data.{Members}
use Rattle.a429_profile.specs.Value.{text_of_value, number_of_value, truth_of_value}
use Rattle.a429_import.specs.declared.channel.Channels.{Channels}
use Rattle.a429_import.specs.declared.clock_time.ClockForm.{ClockForm}
use Rattle.a429_import.specs.declared.clock_time.DateForm.TheVariants as dates
use Rattle.a429_import.specs.declared.column.Column.{Column}
use Rattle.a429_import.specs.declared.fault.MapFault.{MapFault}
use Rattle.a429_import.specs.declared.fault.MapFault.TheVariants.{NotToml, StatusTwice, ChannelTwice}
use Rattle.a429_import.specs.declared.key.SectionKey.{SectionKey}
use Rattle.a429_import.specs.declared.key.SectionKey.TheVariants as key
use Rattle.a429_import.specs.declared.map.Map.{Map}
use Rattle.a429_import.specs.declared.map.RowRule.{RowRule}
use Rattle.a429_import.specs.declared.map.Sections.{Sections}
use Rattle.a429_import.specs.declared.map.Separator.TheVariants as separators
use Rattle.a429_import.specs.declared.map.TimeRule.{TimeRule}
use Rattle.a429_import.specs.declared.order.OrderRule.{OrderRule}
use Rattle.a429_import.specs.declared.section.WrittenTime.{WrittenTime}
use Rattle.a429_import.specs.declared.map.WordRule.{WordRule}
use Rattle.a429_import.specs.declared.parity.ParityBit.{ParityBit}
use Rattle.a429_import.specs.declared.parity.ParityBit.TheVariants as bit_32
use Rattle.a429_import.specs.declared.parity.Status.{Status}
use Rattle.a429_import.specs.declared.part.Part.{Part}
use Rattle.a429_import.specs.declared.repeats.RepeatRule.{RepeatRule}
use Rattle.a429_import.specs.declared.time.TimeForm.{TimeForm}
use Rattle.a429_import.specs.declared.time.TimeForm.TheVariants as times
use Rattle.a429_import.specs.declared.time.Unit.TheVariants as units
use Rattle.a429_import.specs.declared.value.FormWord.{FormWord}
use Rattle.a429_import.specs.declared.value.FormWord.TheVariants as forms
use Rattle.a429_import.specs.declared.value.BitWord.{BitWord}
use Rattle.a429_import.specs.declared.value.BitWord.TheVariants as words
use Rattle.a429_import.specs.Fault.{first_or}
use Rattle.a429_import.specs.Parts.{missing_fault, parts_fault, parts_of}
use Rattle.a429_import.specs.Texts.{has_twin}
use Rattle.a429_import.specs.Key.{section_value, first_section_fault}
use Rattle.a429_import.specs.Value.{texts_of_value, column_of_value, date_of, separator_of, form_of, unit_of, point_of, bit_word_of}

-- ---- values of keys

abbrev pub text_at : Bool → Members → SectionKey → List ℕ
text_at header doc k = text_of_value (section_value header doc k)

abbrev pub texts_at : Bool → Members → SectionKey → List (List ℕ)
texts_at header doc k = texts_of_value (section_value header doc k)

abbrev pub number_at : Bool → Members → SectionKey → ℕ
number_at header doc k = number_of_value (section_value header doc k)

abbrev pub truth_at : Bool → Members → SectionKey → Bool
truth_at header doc k = truth_of_value (section_value header doc k)

abbrev pub column_at : Bool → Members → SectionKey → Column
column_at header doc k = column_of_value header (section_value header doc k)

-- ---- section by section: the keys in their order, and what they say

abbrev pub row_keys : List SectionKey
row_keys = key.Separator ∷ key.Header ∷ key.Quotes ∷ key.Skip ∷ key.Comment ∷ key.RowsPass ∷ []

-- whether a row names the columns, which says how columns are given
abbrev pub has_header : Members → Bool
has_header doc = truth_at false doc key.Header

abbrev pub rows_of : Members → RowRule
rows_of doc = record {
  separator = unwrap_or (separator_of (text_at false doc key.Separator)) separators.Blanks;
  header = has_header doc;
  quotes = truth_at false doc key.Quotes;
  skip = number_at false doc key.Skip;
  comment = text_at false doc key.Comment;
  pass = texts_at false doc key.RowsPass;
}

abbrev pub time_keys : List SectionKey
time_keys = key.TimeColumn ∷ key.TimeForm ∷ key.TimeUnit ∷ key.TimePoint ∷ key.TimeDate ∷ key.HalfDays ∷ []

abbrev pub order_keys : List SectionKey
order_keys = key.WrapsAt ∷ key.Back ∷ key.Resets ∷ []

abbrev pub time_fault : Bool → Members → Option MapFault
time_fault header doc = first_or (first_section_fault header doc time_keys) (first_section_fault header doc order_keys)

-- how a time of this form is written: with the point of this clock, or by all that is said of the clock
abbrev pub time_form : FormWord → ClockForm → TimeForm
time_form forms.Integer clock = times.Integer
time_form forms.Decimal clock = times.Decimal clock.point
time_form forms.Clock clock = times.Clock clock

abbrev pub clock_form : Bool → Members → ClockForm
clock_form header doc = record {
  date = unwrap_or (date_of (text_at header doc key.TimeDate)) dates.None;
  half_days = truth_at header doc key.HalfDays;
  point = unwrap_or (point_of (text_at header doc key.TimePoint)) 0;
}

-- where a time is and how it is written
abbrev pub written_time : Bool → Members → WrittenTime
written_time header doc = record {
  column = column_at header doc key.TimeColumn;
  form = time_form (unwrap_or (form_of (text_at header doc key.TimeForm)) forms.Integer) (clock_form header doc);
  unit = unwrap_or (unit_of (text_at header doc key.TimeUnit)) units.Second;
}

abbrev pub order_rule : Bool → Members → OrderRule
order_rule header doc = record {
  wraps_at = number_at header doc key.WrapsAt;
  back = number_at header doc key.Back;
  resets = truth_at header doc key.Resets;
}

abbrev pub with_order : WrittenTime → OrderRule → TimeRule
with_order w o = record { column = w.column; form = w.form; unit = w.unit; order = o }

abbrev pub time_rule : Bool → Members → TimeRule
time_rule header doc = with_order (written_time header doc) (order_rule header doc)

abbrev pub channel_keys : List SectionKey
channel_keys = key.ChannelColumn ∷ key.ChannelA ∷ key.ChannelB ∷ key.ChannelPass ∷ key.PassOthers ∷ []

abbrev pub channels_of : Bool → Members → Channels
channels_of header doc = record {
  column = column_at header doc key.ChannelColumn;
  a = texts_at header doc key.ChannelA;
  b = texts_at header doc key.ChannelB;
  pass = texts_at header doc key.ChannelPass;
  pass_others = truth_at header doc key.PassOthers;
}

abbrev pub word_keys : List SectionKey
word_keys = key.BitWord ∷ key.BytesReversed ∷ key.LabelReversed ∷ []

abbrev pub word_rule : Members → WordRule
word_rule doc = record {
  bit_32 = unwrap_or (bit_word_of (text_at false doc key.BitWord)) words.Absent;
  turning = record { bytes = truth_at false doc key.BytesReversed; label = truth_at false doc key.LabelReversed };
}

abbrev pub repeat_keys : List SectionKey
repeat_keys = key.RepeatsDrop ∷ key.RepeatsWithin ∷ key.RepeatsAmong ∷ []

-- where repeats are not left out, no entries are compared
abbrev pub repeats_of : Bool → Members → RepeatRule
repeats_of header doc = record {
  within = number_at header doc key.RepeatsWithin;
  among = if truth_at header doc key.RepeatsDrop then number_at header doc key.RepeatsAmong else 0;
}

abbrev pub status_keys : List SectionKey
status_keys = key.ErrorColumn ∷ key.ErrorGood ∷ key.ErrorBad ∷ []

abbrev pub status_of : Bool → Members → Status
status_of header doc = record {
  column = column_at header doc key.ErrorColumn;
  good = texts_at header doc key.ErrorGood;
  bad = texts_at header doc key.ErrorBad;
}

-- what bit 32 is: only where a column says it, the keys of the status column are looked at
abbrev pub parity_bit : Bool → Members → BitWord → ParityBit
parity_bit header doc words.Parity = bit_32.Received
parity_bit header doc words.ErrorSet = bit_32.ErrorSet
parity_bit header doc words.ErrorClear = bit_32.ErrorClear
parity_bit header doc words.Absent = bit_32.Absent
parity_bit header doc words.Column = bit_32.Status (status_of header doc)

abbrev pub parity_fault : Bool → Members → BitWord → Option MapFault
parity_fault header doc words.Column = first_section_fault header doc status_keys
parity_fault header doc _ = None

-- ---- all of a map

-- what the sections say
abbrev pub sections_of : Members → Sections
sections_of doc = record {
  rows = rows_of doc;
  time = time_rule (has_header doc) doc;
  channels = channels_of (has_header doc) doc;
  word = word_rule doc;
  repeats = repeats_of (has_header doc) doc;
  parity = parity_bit (has_header doc) doc (word_rule doc).bit_32;
}

abbrev pub with_parts : Sections → List Part → Map
with_parts s parts = record { rows = s.rows; time = s.time; channels = s.channels; turning = s.word.turning; repeats = s.repeats; parity = s.parity; parts = parts }

abbrev pub map_of : Members → Map
map_of doc = with_parts (sections_of doc) (parts_of (has_header doc) doc)

-- the faults of the keys of all sections, in their order
abbrev pub sections_fault : Members → Option MapFault
sections_fault doc =
    first_or (first_section_fault false doc row_keys)
    (first_or (time_fault (has_header doc) doc)
    (first_or (first_section_fault (has_header doc) doc channel_keys)
    (first_or (first_section_fault false doc word_keys)
    (first_or (first_section_fault (has_header doc) doc repeat_keys)
    (parity_fault (has_header doc) doc (word_rule doc).bit_32)))))

-- bits 1 to 31 are needed, and bit 32 where it is looked at, or where the bytes are turned
abbrev pub looks_at_bit_32 : BitWord → Bool
looks_at_bit_32 words.Parity = true
looks_at_bit_32 words.ErrorSet = true
looks_at_bit_32 words.ErrorClear = true
looks_at_bit_32 words.Absent = false
looks_at_bit_32 words.Column = false

abbrev pub bits_needed : WordRule → ℕ
bits_needed w = if looks_at_bit_32 w.bit_32 || w.turning.bytes then 32 else 31

-- a text of the status column, or a channel's name, is given twice
abbrev pub twin_status : ParityBit → Bool
twin_status (bit_32.Status s) = has_twin (s.good ++ s.bad)
twin_status _ = false

abbrev pub twin_channel : Channels → Bool
twin_channel c = has_twin (c.a ++ (c.b ++ c.pass))

abbrev pub twins_fault : ParityBit → Channels → Option MapFault
twins_fault p c = if twin_status p then Some StatusTwice else if twin_channel c then Some ChannelTwice else None

-- the first fault: of the keys, then of the parts, then a bit that is in none, then a text that is given twice
abbrev pub map_fault : Members → Option MapFault
map_fault doc =
    first_or (sections_fault doc)
    (first_or (parts_fault (has_header doc) doc)
    (first_or (missing_fault (map_of doc).parts (bits_needed (word_rule doc)))
    (twins_fault (map_of doc).parity (map_of doc).channels)))

-- the result for a text that is this document, or is none
abbrev pub Answers : Option Members → Result Map MapFault → Type 0
Answers None r = r ≡ Err NotToml
Answers (Some doc) (Ok m) = (map_fault doc ≡ None) × (m ≡ map_of doc)
Answers (Some doc) (Err f) = map_fault doc ≡ Some f
