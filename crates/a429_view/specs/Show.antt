-- What the words of a recording show, as text (profile).
use Rattle.std.specs.Prelude.{◌≡◌, ℕ, ◌-◌, List, [], ◌∷◌, ◌++◌, take, codes, Bool, true, false, Option}
use Rattle.std.specs.List.{flat_map}
use Rattle.std.specs.Int.{bit_at}
use Rattle.std.specs.Fmt.{decimal}
use Rattle.a429_word.specs.Word.{label_of, sdi_of, ssm_of}
use Rattle.a429_word.specs.Digits.{hex_text, octal_text}
use Rattle.a429_word.specs.Bus.{bus_text}
use Rattle.a429_word.specs.declared.fixed.Fixed.{Fixed}
use Rattle.a429_word.specs.Fixed.{SpellsFraction}
use Rattle.a429_profile.specs.declared.entry.Flag.{Flag}
use Rattle.a429_profile.specs.declared.entry.Kind.{Kind}
use Rattle.a429_profile.specs.declared.entry.Kind.TheVariants.{Bnr, Bcd, Discrete}
use Rattle.a429_profile.specs.declared.entry.LabelEntry.{LabelEntry}
use Rattle.a429_profile.specs.declared.shown.Status.{Status}
use Rattle.a429_profile.specs.declared.shown.Status.TheVariants.{NoData, Failure}
use Rattle.a429_profile.specs.declared.shown.Shown.{Shown}
use Rattle.a429_profile.specs.declared.shown.Shown.TheVariants as shown
use Rattle.a429_profile.specs.Profile.{Contents}
use Rattle.a429_profile.specs.Shown.{IsShown}
use Rattle.a429_record.specs.declared.entry.Entry.{Entry}

-- ---- what is shown of a word

-- the status of a word without a value
abbrev pub status_text : Status → List ℕ
status_text NoData = codes " no data"
status_text Failure = codes " failure"

-- a unit after a space, and nothing where there is no unit
abbrev pub unit_text : List ℕ → List ℕ
unit_text [] = []
unit_text (c ∷ cs) = codes " " ++ c ∷ cs

-- whether the word is of a functional test
abbrev pub test_text : Bool → List ℕ
test_text true = codes " test"
test_text false = []

-- a flag and its bit of the data field, whose lowest bit is bit 11
abbrev pub flag_text : ℕ → Flag → List ℕ
flag_text field f = codes " " ++ f.name ++ codes "=" ++ decimal (bit_at field (f.bit - 11))

-- the flags of a data field, in their order; another kind has none
abbrev pub flags_text : ℕ → Kind → List ℕ
flags_text field (Discrete flags) = flat_map (flag_text field) flags
flags_text field (Bnr bits range decimals) = []
flags_text field (Bcd digits decimals) = []

-- a digit at this place is no decimal one
abbrev pub bad_digit_text : LabelEntry → ℕ → List ℕ
bad_digit_text e place = e.name ++ codes " bad digit " ++ decimal place

-- the text of a value: its digits are the spelling of its fraction
abbrev pub IsValueText : LabelEntry → Fixed → Bool → List ℕ → Type 0
IsValueText e v is_test text = (digits : List ℕ) × SpellsFraction digits v.number v.decimals × (text ≡ e.name ++ codes " " ++ digits ++ unit_text e.unit ++ test_text is_test)

-- the text of a data field: its flags
abbrev pub field_text : LabelEntry → ℕ → Bool → List ℕ
field_text e field is_test = e.name ++ flags_text field e.kind ++ test_text is_test

-- the text of what is shown
abbrev pub IsShownText : Shown → List ℕ → Type 0
IsShownText shown.BadParity text = text ≡ codes "parity"
IsShownText shown.NoEntry text = text ≡ codes "no entry"
IsShownText (shown.Status e status) text = text ≡ e.now.name ++ status_text status
IsShownText (shown.BadDigit e place) text = text ≡ bad_digit_text e.now place
IsShownText (shown.Value e v is_test) text = IsValueText e.now v is_test text
IsShownText (shown.Bits e field is_test) text = text ≡ field_text e.now field is_test

-- ---- the lines

-- the time, the bus and the word, each with a space after it
abbrev pub recorded_text : Entry → List ℕ
recorded_text e = decimal e.time ++ codes " " ++ bus_text e.bus ++ codes " " ++ hex_text e.word ++ codes " "

-- the word's label, SDI and SSM, each with a space after it
abbrev pub fields_text : ℕ → List ℕ
fields_text w = octal_text (label_of w) ++ codes " " ++ decimal (sdi_of w) ++ codes " " ++ decimal (ssm_of w) ++ codes " "

-- the line of an entry
pub record IsShowLine (p : Contents) (e : Entry) (line : List ℕ) : Type 0 where
  pub what : Shown
  pub text : List ℕ
  pub is_shown : IsShown p e.word what
  pub is_text : IsShownText what text
  pub layout : line ≡ recorded_text e ++ fields_text e.word ++ text ++ codes "\n"

-- the lines of entries, in their order
abbrev pub AreShowLines : Contents → List Entry → List ℕ → Type 0
AreShowLines p [] text = text ≡ []
AreShowLines p (e ∷ es) text = (line : List ℕ) × (rest : List ℕ) × IsShowLine p e line × AreShowLines p es rest × (text ≡ line ++ rest)

-- the lines of the first so many entries
abbrev pub AreFirstShowLines : Contents → List Entry → List ℕ → Type 0
AreFirstShowLines p es text = (count : ℕ) × AreShowLines p (take count es) text
