-- What is shown of a word (ARINC 429 Part 1; what is shown of which status: profile).
use Rattle.std.specs.Prelude.{◌≡◌, ℕ, ◌+◌, ◌*◌, ◌^◌, ◌≤◌, List, [], ◌∷◌, get_or, Bool, true, false, ◌==◌, if◌then◌else◌, Some, None, ℤ, pos, neg_ℤ, ◌*ℤ◌}
use Rattle.std.specs.List.{find}
use Rattle.std.specs.Borrow.{Bor}
use Rattle.a429_word.specs.Word.{label_of, sdi_of, field_of, ssm_of, HasOddParity}
use Rattle.a429_word.specs.Bnr.{raw_of}
use Rattle.a429_word.specs.Bcd.{decimal_of, AreDecimal, IsFirstBad}
use Rattle.a429_word.specs.declared.fixed.Fixed.{Fixed}
use Rattle.a429_profile.specs.declared.entry.Kind.{Kind}
use Rattle.a429_profile.specs.declared.entry.Kind.TheVariants.{Bnr, Bcd, Discrete}
use Rattle.a429_profile.specs.declared.entry.LabelEntry.{LabelEntry}
use Rattle.a429_profile.specs.declared.shown.Sense.{Sense}
use Rattle.a429_profile.specs.declared.shown.Sense.TheVariants.{Normal, Test, NoValue}
use Rattle.a429_profile.specs.declared.shown.Status.{Status}
use Rattle.a429_profile.specs.declared.shown.Status.TheVariants.{NoData, Failure}
use Rattle.a429_profile.specs.declared.shown.Shown.{Shown}
use Rattle.a429_profile.specs.declared.shown.Shown.TheVariants as shown
use Rattle.a429_profile.specs.Profile.{Contents, is_for}
use Rattle.a429_profile.specs.Entry.{IsKindInRange}

-- ---- the status

-- what the SSM numbers 0, 1, 2 and 3 mean: for BCD 0 is plus and 3 is minus (Part 1)
abbrev pub senses : Kind → List Sense
senses (Bnr bits range decimals) = NoValue Failure ∷ NoValue NoData ∷ Test ∷ Normal ∷ []
senses (Bcd digits decimals) = Normal ∷ NoValue NoData ∷ Test ∷ Normal ∷ []
senses (Discrete flags) = Normal ∷ NoValue NoData ∷ Test ∷ NoValue Failure ∷ []

abbrev pub sense_of : Kind → ℕ → Sense
sense_of kind ssm = get_or (senses kind) ssm Normal

-- a word has a value where its SSM says a functional test (true), or normal operation (false)
abbrev pub HasValue : Kind → ℕ → Bool → Type 0
HasValue kind w true = sense_of kind (ssm_of w) ≡ Test
HasValue kind w false = sense_of kind (ssm_of w) ≡ Normal

-- ---- the value

-- a fraction is the value of a BNR word: raw * range / (2 ^ bits * 10 ^ decimals)
abbrev pub IsBnrValue : ℕ → ℕ → ℕ → ℕ → Fixed → Type 0
IsBnrValue w bits range decimals v = (v.number *ℤ pos (2 ^ bits * 10 ^ decimals) ≡ raw_of w bits *ℤ pos (range * 10 ^ v.decimals)) × (v.decimals ≡ bits + decimals)

-- a number with the sign of a BCD word, which is minus where its SSM is 3 (Part 1)
abbrev pub signed_by : ℕ → ℕ → ℤ
signed_by ssm n = if ssm == 3 then neg_ℤ (pos n) else pos n

-- a fraction is the value of a BCD word: the number of its digits / 10 ^ decimals
abbrev pub IsBcdValue : ℕ → ℕ → ℕ → Fixed → Type 0
IsBcdValue w digits decimals v = AreDecimal w digits × (v.number ≡ signed_by (ssm_of w) (decimal_of w digits)) × (v.decimals ≡ decimals)

abbrev pub IsValue : Kind → ℕ → Fixed → Type 0
IsValue (Bnr bits range decimals) w v = IsBnrValue w bits range decimals v
IsValue (Bcd digits decimals) w v = IsBcdValue w digits decimals v
IsValue (Discrete flags) w v = ⊥

abbrev pub IsBadPlace : Kind → ℕ → ℕ → Type 0
IsBadPlace (Bcd digits decimals) w place = IsFirstBad w digits place
IsBadPlace _ w place = ⊥

abbrev pub IsDiscrete : Kind → Type 0
IsDiscrete (Discrete flags) = Unit {0}
IsDiscrete _ = ⊥

-- ---- what is shown

-- the word is good, and this is the entry for it
abbrev pub IsEntryOf : Contents → ℕ → LabelEntry → Type 0
IsEntryOf p w e = HasOddParity w × (find (is_for (label_of w) (sdi_of w)) p.labels ≡ Some e)

abbrev pub IsShown : Contents → ℕ → Shown → Type 0
IsShown p w shown.BadParity = ¬ HasOddParity w
IsShown p w shown.NoEntry = HasOddParity w × (find (is_for (label_of w) (sdi_of w)) p.labels ≡ None)
IsShown p w (shown.Status e status) = IsEntryOf p w e.now × (sense_of e.now.kind (ssm_of w) ≡ NoValue status)
IsShown p w (shown.BadDigit e place) = IsEntryOf p w e.now × ((is_test : Bool) × HasValue e.now.kind w is_test) × IsBadPlace e.now.kind w place
IsShown p w (shown.Value e v is_test) = IsEntryOf p w e.now × HasValue e.now.kind w is_test × IsValue e.now.kind w v
IsShown p w (shown.Bits e field is_test) = IsEntryOf p w e.now × HasValue e.now.kind w is_test × IsDiscrete e.now.kind × (field ≡ field_of w)

-- ---- the ranges of what is shown

-- the entry, if one is shown, has its numbers in their ranges, and a value has at most 24 decimals
abbrev pub HasItsRanges : Shown → Type 0
HasItsRanges shown.BadParity = Unit {0}
HasItsRanges shown.NoEntry = Unit {0}
HasItsRanges (shown.Status e status) = IsKindInRange e.now.kind
HasItsRanges (shown.BadDigit e place) = IsKindInRange e.now.kind
HasItsRanges (shown.Value e v is_test) = IsKindInRange e.now.kind × (v.decimals ≤ 24)
HasItsRanges (shown.Bits e field is_test) = IsKindInRange e.now.kind

-- ---- two showings

-- both show the same by the same entry, wherever in memory it is
pub data ShowSame : Shown → Shown → Type 0 where
  same_parity : ShowSame shown.BadParity shown.BadParity
  same_no_entry : ShowSame shown.NoEntry shown.NoEntry
  same_status : {e f : Bor LabelEntry} {status : Status} → e.now ≡ f.now → ShowSame (shown.Status e status) (shown.Status f status)
  same_digit : {e f : Bor LabelEntry} {place : ℕ} → e.now ≡ f.now → ShowSame (shown.BadDigit e place) (shown.BadDigit f place)
  same_value : {e f : Bor LabelEntry} {v : Fixed} {is_test : Bool} → e.now ≡ f.now → ShowSame (shown.Value e v is_test) (shown.Value f v is_test)
  same_bits : {e f : Bor LabelEntry} {field : ℕ} {is_test : Bool} → e.now ≡ f.now → ShowSame (shown.Bits e field is_test) (shown.Bits f field is_test)
