-- The label table of a profile, and what is wrong with it (profile).
use Rattle.std.specs.Prelude.{ℕ, suc, List, [], ◌∷◌, map, Bool, true, codes, Option, Some, None, unwrap_or, if◌then◌else◌, Result}
use Rattle.toml.specs.Data.{Data, Members, no_members, get_member, as_table}
use Rattle.a429_profile.specs.declared.entry.Kind.{Kind}
use Rattle.a429_profile.specs.declared.entry.Kind.TheVariants as kind
use Rattle.a429_profile.specs.declared.entry.KindWord.{KindWord}
use Rattle.a429_profile.specs.declared.entry.KindWord.TheVariants as word
use Rattle.a429_profile.specs.declared.entry.LabelEntry.{LabelEntry}
use Rattle.a429_profile.specs.declared.key.Key.TheVariants as at
use Rattle.a429_profile.specs.declared.key.LabelKey.{LabelKey}
use Rattle.a429_profile.specs.declared.key.LabelKey.TheVariants as label
use Rattle.a429_profile.specs.declared.fault.ProfileFault.{ProfileFault}
use Rattle.a429_profile.specs.declared.fault.ProfileFault.TheVariants.{WrongKind}
use Rattle.a429_profile.specs.Value.{text_of_value, number_of_value, octal_number, elements_of, flag_of, kind_word_of, is_table, is_array_of}
use Rattle.a429_profile.specs.Fault.{first_or, Gives, GivesInMemory}
use Rattle.a429_profile.specs.Key.{Place, nothing, value, place_fault, label_row, label_place}
use Rattle.a429_profile.specs.Codes.{value_at_place}

-- ---- one table of `label`

-- the fault of a key that may be missing
abbrev pub fault_unless_missing : Bool → Option ProfileFault → Place → Option ProfileFault
fault_unless_missing true fault nothing = None
fault_unless_missing _ fault _ = fault

-- the fault of a key that is needed, at the position i of the array
abbrev pub needed_fault : ℕ → Members → LabelKey → Option ProfileFault
needed_fault i ms k = place_fault (at.Label i k) (label_row k).rule (label_place ms k)

abbrev pub label_fault : ℕ → Members → LabelKey → Option ProfileFault
label_fault i ms k = fault_unless_missing (label_row k).may_be_missing (needed_fault i ms k) (label_place ms k)

abbrev pub first_label_fault : ℕ → Members → List LabelKey → Option ProfileFault
first_label_fault i ms [] = None
first_label_fault i ms (k ∷ ks) = first_or (label_fault i ms k) (first_label_fault i ms ks)

abbrev pub label_value : Members → LabelKey → Data
label_value ms k = value_at_place (label_place ms k)

abbrev pub label_text : Members → LabelKey → List ℕ
label_text ms k = text_of_value (label_value ms k)

abbrev pub kind_word_in_table : Members → Option KindWord
kind_word_in_table ms = kind_word_of (label_text ms label.Kind)

-- the keys that a kind has beside the five that all have
abbrev pub keys_of_kind : Option KindWord → List LabelKey
keys_of_kind (Some word.Bnr) = label.Bits ∷ label.Range ∷ label.Decimals ∷ []
keys_of_kind (Some word.Bcd) = label.Digits ∷ label.Decimals ∷ []
keys_of_kind (Some word.Discrete) = label.Flags ∷ []
keys_of_kind None = []

-- the first fault of these keys
abbrev pub kind_fault : ℕ → Members → KindWord → Option ProfileFault
kind_fault i ms word = first_label_fault i ms (keys_of_kind (Some word))

-- the keys of a table, in the order in which they are tested
abbrev pub label_keys : Members → List LabelKey
label_keys ms = label.Octal ∷ label.Sdi ∷ label.Name ∷ label.Unit ∷ label.Kind ∷ keys_of_kind (kind_word_in_table ms)

abbrev pub entry_fault : ℕ → Members → Option ProfileFault
entry_fault i ms = first_label_fault i ms (label_keys ms)

-- ---- the entry that a table describes

abbrev pub label_number : Members → LabelKey → ℕ
label_number ms k = number_of_value (label_value ms k)

abbrev pub number_at_place : Place → Option ℕ
number_at_place (value d) = Some (number_of_value d)
number_at_place _ = None

-- the label of a table, and its SDI, if it has one
abbrev pub label_in_table : Members → ℕ
label_in_table ms = octal_number (label_text ms label.Octal)

abbrev pub sdi_in_table : Members → Option ℕ
sdi_in_table ms = number_at_place (label_place ms label.Sdi)

abbrev pub kind_in : Members → Option KindWord → Kind
kind_in ms (Some word.Bnr) = kind.Bnr (label_number ms label.Bits) (label_number ms label.Range) (label_number ms label.Decimals)
kind_in ms (Some word.Bcd) = kind.Bcd (label_number ms label.Digits) (label_number ms label.Decimals)
kind_in ms (Some word.Discrete) = kind.Discrete (map flag_of (elements_of (label_value ms label.Flags)))
kind_in ms None = kind.Discrete []

-- the kind of a table, named by this word, or the first fault of its keys; the second takes memory
abbrev pub GivesKind : ℕ → Members → KindWord → Result Kind ProfileFault → Type 0
GivesKind i ms word = Gives (kind_in ms (Some word)) (kind_fault i ms word)

abbrev pub GivesKindInMemory : ℕ → Members → KindWord → Result Kind ProfileFault → Type 0
GivesKindInMemory i ms word = GivesInMemory (kind_in ms (Some word)) (kind_fault i ms word)

abbrev pub entry_in_table : Members → LabelEntry
entry_in_table ms = record {
  label = label_in_table ms;
  sdi = sdi_in_table ms;
  name = label_text ms label.Name;
  unit = label_text ms label.Unit;
  kind = kind_in ms (kind_word_in_table ms);
}

-- ---- the array `label`

abbrev pub table_of : Data → Members
table_of d = unwrap_or (as_table d) no_members

abbrev pub entries_fault : ℕ → List Data → Option ProfileFault
entries_fault i [] = None
entries_fault i (d ∷ ds) = first_or (entry_fault i (table_of d)) (entries_fault (suc i) ds)

-- no array of tables has a wrong kind, before any fault inside
abbrev pub array_fault : Option Data → Option ProfileFault
array_fault None = None
array_fault (Some d) = if is_array_of is_table d then entries_fault 0 (elements_of d) else Some (WrongKind at.Labels)

abbrev pub labels_fault : Members → Option ProfileFault
labels_fault doc = array_fault (get_member (codes "label") doc)

abbrev pub entries_in : Option Data → List LabelEntry
entries_in None = []
entries_in (Some d) = map (λ e. entry_in_table (table_of e)) (elements_of d)

abbrev pub labels_of : Members → List LabelEntry
labels_of doc = entries_in (get_member (codes "label") doc)
