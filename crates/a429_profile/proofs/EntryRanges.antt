-- The numbers and texts of a profile's entries lie in their ranges.
use Rattle.std.proofs.Common.{◌≡◌, ℕ, suc, ◌≤◌, All, List, [], ◌∷◌, map, Bool, true, false, cond, ◌&&◌, nat_le, length, Option, Some, None, is_some, if◌then◌else◌, sym, ap, codes}
use Rattle.std.specs.List.{find, list_all, AllByRecursion}
use Rattle.std.specs.Option.{option_map, option_map_or, IfSome}
use Rattle.std.proofs.lemmas.Bool.{and_parts, leb-true}
use Rattle.std.proofs.lemmas.List.{length-map}
use Rattle.std.proofs.lemmas.List.Elements.{All-map, All-from_recursion, recursion_from_All}
use Rattle.toml.specs.Data.{Data, Members, get_member, as_table}
use Rattle.a429_profile.specs.declared.entry.KindWord.{KindWord}
use Rattle.a429_profile.specs.declared.entry.KindWord.TheVariants as word
use Rattle.a429_profile.specs.declared.entry.LabelEntry.{LabelEntry}
use Rattle.a429_profile.specs.declared.key.LabelKey.TheVariants as label
use Rattle.a429_profile.specs.declared.key.Key.TheVariants as at
use Rattle.a429_profile.specs.declared.fault.ProfileFault.TheVariants.{WrongKind}
use Rattle.a429_profile.specs.Value.{text_of_value, kind_word, is_printable_text, flags, is_in_range, is_number_between, holds_at, members_are_flag_in_range, is_flag_in_range, number_of_value, integer_of_value, elements_of, flag_in, flag_of, is_array_of, is_table}
use Rattle.a429_profile.specs.Key.{label_place, first_section_fault}
use Rattle.a429_profile.specs.Codes.{value_at_place}
use Rattle.a429_profile.specs.Labels.{label_fault, first_label_fault, keys_of_kind, kind_word_in_table, kind_in, entry_fault, entry_in_table, table_of, entries_fault, entries_in, array_fault, labels_fault, labels_of}
use Rattle.a429_profile.specs.Profile.{Contents, IsProfile, section_keys}
use Rattle.a429_profile.specs.Entry.{IsFlagBit, IsKindInRange, IsTextOf, HasFlags, IsEntryInRange}
use Rattle.a429_profile.proofs.ProfileLookup.{first_or_none}
use Rattle.a429_profile.proofs.KeyRanges.{each, between, number_place, octal_place, sdi_place, text_place, printable_text, in_its_range}

-- ---- flags

flag-in_range : (o : Option Members) → members_are_flag_in_range o ≡ true → IsFlagBit (flag_in o) × IsTextOf 1 32 (flag_in o).name
flag-in_range None h = absurd (cc)
flag-in_range (Some ms) h =
    let parts = and_parts (holds_at (is_number_between 11 29) (codes "bit") ms) _ h in
    (bit (get_member (codes "bit") ms) parts.0, name (get_member (codes "name") ms) parts.1)
  where
    bit : (d : Option Data) → option_map_or (is_number_between 11 29) d false ≡ true
        → (11 ≤ option_map_or number_of_value d 0) × (option_map_or number_of_value d 0 ≤ 29)
    bit None h = absurd (cc)
    bit (Some d) h = between 11 29 (integer_of_value d) h

    name : (d : Option Data)
        → option_map_or (λ x. is_printable_text 1 32 (text_of_value x)) d false ≡ true → IsTextOf 1 32 (option_map_or text_of_value d [])
    name None h = absurd (cc)
    name (Some d) h = printable_text 1 32 (text_of_value d) h

bits-in_range : (ds : List Data) → list_all is_flag_in_range ds ≡ true → AllByRecursion IsFlagBit (map flag_of ds)
bits-in_range ds h = recursion_from_All IsFlagBit (map flag_of ds)
    (All-map IsFlagBit flag_of ds (each is_flag_in_range (λ d. IsFlagBit (flag_of d)) (λ d is. (flag-in_range (as_table d) is).0) ds h))

names-in_range : (ds : List Data) → list_all is_flag_in_range ds ≡ true → All (λ f. IsTextOf 1 32 f.name) (map flag_of ds)
names-in_range ds h =
    All-map (λ f. IsTextOf 1 32 f.name) flag_of ds
    (each is_flag_in_range (λ d. IsTextOf 1 32 (flag_of d).name) (λ d is. (flag-in_range (as_table d) is).1) ds h)

-- what the rule of the flags says of the tables that they are read from
flags_place : (i : ℕ) (ms : Members) → first_label_fault i ms (keys_of_kind (Some word.Discrete)) ≡ None
    → is_in_range flags (value_at_place (label_place ms label.Flags)) ≡ true
flags_place i ms h =
    in_its_range (at.Label i label.Flags) flags (label_place ms label.Flags) (first_or_none (label_fault i ms label.Flags) _ h).0

has_flags : (i : ℕ) (ms : Members) (o : Option KindWord)
    → is_some o ≡ true → first_label_fault i ms (keys_of_kind o) ≡ None → HasFlags (kind_in ms o)
has_flags i ms None some h = absurd (cc)
has_flags i ms (Some word.Bnr) some h = tt
has_flags i ms (Some word.Bcd) some h = tt
has_flags i ms (Some word.Discrete) some h =
    let tables : List Data = elements_of (value_at_place (label_place ms label.Flags)) in
    let parts = and_parts (nat_le 1 (length tables) && nat_le (length tables) 19) (list_all is_flag_in_range tables) (flags_place i ms h) in
    let count = and_parts (nat_le 1 (length tables)) (nat_le (length tables) 19) parts.0 in
    let same : length (map flag_of tables) ≡ length tables = length-map tables flag_of in
    (rw same (leb-true 1 (length tables) count.0), rw same (leb-true (length tables) 19 count.1), names-in_range tables parts.1)

-- ---- the numbers of a kind

kind-in_range : (i : ℕ) (ms : Members) (o : Option KindWord) → first_label_fault i ms (keys_of_kind o) ≡ None → IsKindInRange (kind_in ms o)
kind-in_range i ms None h = tt
kind-in_range i ms (Some word.Bnr) h =
    let p = first_or_none (label_fault i ms label.Bits) _ h in
    let q = first_or_none (label_fault i ms label.Range) _ p.1 in
    let r = first_or_none (label_fault i ms label.Decimals) _ q.1 in
    let bits = number_place (at.Label i label.Bits) 1 18 (label_place ms label.Bits) p.0 in
    let range = number_place (at.Label i label.Range) 1 1000000000 (label_place ms label.Range) q.0 in
    let decimals = number_place (at.Label i label.Decimals) 0 6 (label_place ms label.Decimals) r.0 in
    (bits.0, bits.1, range.0, range.1, decimals.1)
kind-in_range i ms (Some word.Bcd) h =
    let p = first_or_none (label_fault i ms label.Digits) _ h in
    let q = first_or_none (label_fault i ms label.Decimals) _ p.1 in
    let digits = number_place (at.Label i label.Digits) 1 5 (label_place ms label.Digits) p.0 in
    let decimals = number_place (at.Label i label.Decimals) 0 6 (label_place ms label.Decimals) q.0 in
    (digits.0, digits.1, decimals.1)
kind-in_range i ms (Some word.Discrete) h =
    let tables : List Data = elements_of (value_at_place (label_place ms label.Flags)) in
    bits-in_range tables
    (and_parts (nat_le 1 (length tables) && nat_le (length tables) 19) (list_all is_flag_in_range tables) (flags_place i ms h)).1

-- ---- entries

entry-in_range : (i : ℕ) (ms : Members) → entry_fault i ms ≡ None → IsEntryInRange (entry_in_table ms)
entry-in_range i ms h =
    let a = first_or_none (label_fault i ms label.Octal) _ h in
    let b = first_or_none (label_fault i ms label.Sdi) _ a.1 in
    let c = first_or_none (label_fault i ms label.Name) _ b.1 in
    let d = first_or_none (label_fault i ms label.Unit) _ c.1 in
    let e = first_or_none (label_fault i ms label.Kind) _ d.1 in
    record {
      label = octal_place (at.Label i label.Octal) (label_place ms label.Octal) a.0;
      sdi = sdi_place (at.Label i label.Sdi) (label_place ms label.Sdi) b.0;
      name = text_place (at.Label i label.Name) 1 32 (label_place ms label.Name) c.0;
      unit = text_place (at.Label i label.Unit) 0 16 (label_place ms label.Unit) d.0;
      numbers = kind-in_range i ms (kind_word_in_table ms) e.1;
      flags = has_flags i ms (kind_word_in_table ms) (in_its_range (at.Label i label.Kind) kind_word (label_place ms label.Kind) e.0) e.1;
    }

entries-in_range : (i : ℕ) (ds : List Data)
    → entries_fault i ds ≡ None → AllByRecursion IsEntryInRange (map (λ d. entry_in_table (table_of d)) ds)
entries-in_range i [] h = tt
entries-in_range i (d ∷ ds) h =
    let p = first_or_none (entry_fault i (table_of d)) _ h in
    (entry-in_range i (table_of d) p.0, entries-in_range (suc i) ds p.1)

array-in_range : (o : Option Data) → array_fault o ≡ None → AllByRecursion IsEntryInRange (entries_in o)
array-in_range None h = tt
array-in_range (Some d) h = tables (is_array_of is_table d) h
  where
    tables : (b : Bool) → (if b then entries_fault 0 (elements_of d) else Some (WrongKind at.Labels)) ≡ None
        → AllByRecursion IsEntryInRange (entries_in (Some d))
    tables true h = entries-in_range 0 (elements_of d) h
    tables false h = absurd (cc)

-- the entries of a label table without a fault
pub entries_of-in_range : (doc : Members) → labels_fault doc ≡ None → All IsEntryInRange (labels_of doc)
entries_of-in_range doc h = All-from_recursion IsEntryInRange (labels_of doc) (array-in_range (get_member (codes "label") doc) h)

found_step : (b : Bool) (x e : LabelEntry) (rest : Option LabelEntry)
    → IsEntryInRange x → (rest ≡ Some e → IsEntryInRange e) → cond b (Some x) rest ≡ Some e → IsEntryInRange e
found_step true x e rest here later h = let same : x ≡ e = cc in rw (← same) here
found_step false x e rest here later h = later h

found-in_range : (test : LabelEntry → Bool) (es : List LabelEntry) (e : LabelEntry) → AllByRecursion IsEntryInRange es
    → find test es ≡ Some e → IsEntryInRange e
found-in_range test [] e all h = absurd (cc)
found-in_range test (x ∷ xs) e all h = found_step (test x) x e (find test xs) all.0 (found-in_range test xs e all.1) h

-- the entry of a profile that a search finds has its numbers in their ranges
entry_of-in_range : (contents : Contents) (test : LabelEntry → Bool) (e : LabelEntry) → IsProfile contents
    → find test contents.labels ≡ Some e → IsKindInRange e.kind
entry_of-in_range contents test e p found =
    let doc = p.0 in
    let sections = first_or_none (first_section_fault doc section_keys) _ p.1 in
    let labels = first_or_none (labels_fault doc) _ sections.1 in
    (found-in_range test (labels_of doc) e (array-in_range (get_member (codes "label") doc) labels.0)
    (rw (← (ap (λ (c : Contents). c.labels) p.2)) found)).numbers

-- the same, of an entry that is lent
lent : {X : Type 0} (now : X → LabelEntry) (o : Option X) → IfSome (option_map now o) (λ e. IsKindInRange e.kind)
    → IfSome o (λ x. IsKindInRange (now x).kind)
lent now None h = tt
lent now (Some x) h = h

found_all : (contents : Contents) (test : LabelEntry → Bool) (o : Option LabelEntry) → IsProfile contents → o ≡ find test contents.labels
    → IfSome o (λ e. IsKindInRange e.kind)
found_all contents test None p found = tt
found_all contents test (Some e) p found = entry_of-in_range contents test e p (sym found)

pub lent-in_range : {X : Type 0} (now : X → LabelEntry) (contents : Contents) (test : LabelEntry → Bool) (o : Option X) → IsProfile contents
    → option_map now o ≡ find test contents.labels → IfSome o (λ x. IsKindInRange (now x).kind)
lent-in_range now contents test o p found = lent now o (found_all contents test (option_map now o) p found)
