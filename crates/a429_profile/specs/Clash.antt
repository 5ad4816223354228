-- Where the entries and numbers of a profile clash (profile).
use Rattle.std.specs.Prelude.{◌≡◌, ◌≢◌, ℕ, List, [], ◌∷◌, ◌++◌, map, Bool, true, false, ◌==◌, ◌&&◌, ◌||◌, nat_eq, Option, Some, None, if◌then◌else◌}
use Rattle.std.specs.List.{list_any, IsDistinct}
use Rattle.a429_profile.specs.declared.codes.Codes.{Codes}
use Rattle.a429_profile.specs.declared.entry.Flag.{Flag}
use Rattle.a429_profile.specs.declared.entry.Kind.{Kind}
use Rattle.a429_profile.specs.declared.entry.Kind.TheVariants.{Discrete}
use Rattle.a429_profile.specs.declared.entry.LabelEntry.{LabelEntry}
use Rattle.a429_profile.specs.declared.key.SectionKey.{SectionKey}
use Rattle.a429_profile.specs.declared.key.SectionKey.TheVariants as key
use Rattle.a429_profile.specs.declared.fault.ProfileFault.{ProfileFault}
use Rattle.a429_profile.specs.declared.fault.ProfileFault.TheVariants.{LabelClash, CodeClash, BitClash}
use Rattle.a429_profile.specs.Fault.{first_or}

-- no element meets one of those before it
abbrev pub AreApartAfter : {X : Type 0} → (X → X → Bool) → List X → List X → Type 0
AreApartAfter meet earlier [] = Unit {0}
AreApartAfter meet earlier (x ∷ xs) = (list_any (λ o. meet o x) earlier ≡ false) × AreApartAfter meet (earlier ++ x ∷ []) xs

-- ---- labels

-- two SDIs name some word both: they are equal, or one is not stated
abbrev pub sdis_meet : Option ℕ → Option ℕ → Bool
sdis_meet (Some s) (Some t) = s == t
sdis_meet _ _ = true

abbrev pub entries_meet : LabelEntry → LabelEntry → Bool
entries_meet a b = (a.label == b.label) && sdis_meet a.sdi b.sdi

-- an entry has an address label of the transfer, or meets an earlier entry
abbrev pub label_clashes : Codes → List LabelEntry → LabelEntry → Bool
label_clashes codes earlier e = (e.label == codes.to_sink) || (e.label == codes.to_source) || list_any (λ o. entries_meet o e) earlier

-- the first entry that clashes, after some earlier ones
abbrev pub label_clash_after : Codes → List LabelEntry → List LabelEntry → Option ProfileFault
label_clash_after codes earlier [] = None
label_clash_after codes earlier (e ∷ es) = if label_clashes codes earlier e then Some (LabelClash e.label) else label_clash_after codes (earlier ++ e ∷ []) es

-- ---- types and codes

-- a number and its key
abbrev pub NumberAtKey : Type 0
NumberAtKey = SectionKey × ℕ

-- the key of the first of some numbers that is n
abbrev pub key_of : ℕ → List NumberAtKey → Option SectionKey
key_of n [] = None
key_of n (x ∷ xs) = if x.1 == n then Some x.0 else key_of n xs

abbrev pub twins : Option SectionKey → SectionKey → Option ProfileFault → Option ProfileFault
twins (Some earlier) later rest = Some (CodeClash earlier later)
twins None later rest = rest

-- the first number that equals an earlier one
abbrev pub twins_after : List NumberAtKey → List NumberAtKey → Option ProfileFault
twins_after earlier [] = None
twins_after earlier (x ∷ xs) = twins (key_of x.1 earlier) x.0 (twins_after (earlier ++ x ∷ []) xs)

-- numbers at one key
abbrev pub all_at_key : SectionKey → List ℕ → List NumberAtKey
all_at_key k ns = map (λ n. (k, n)) ns

-- the types, the codes and the codes of partial words, in the order of the keys, the ignored ones last
abbrev pub types_at_keys : Codes → List NumberAtKey
types_at_keys c = ((key.Full, c.full) ∷ (key.Partial, c.partial) ∷ (key.Protocol, c.protocol) ∷ (key.Sot, c.sot) ∷ (key.Eot, c.eot) ∷ []) ++ all_at_key key.IgnoredTypes c.ignored_types

abbrev pub codes_at_keys : Codes → List NumberAtKey
codes_at_keys c = ((key.Rts, c.rts) ∷ (key.Cts, c.cts) ∷ (key.Ack, c.ack) ∷ (key.Nak, c.nak) ∷ []) ++ all_at_key key.IgnoredCodes c.ignored_codes

abbrev pub partial_codes_at_keys : Codes → List NumberAtKey
partial_codes_at_keys c = all_at_key key.PartialCodes c.partial_codes

abbrev pub code_clash : Codes → Option ProfileFault
code_clash c = first_or (twins_after [] (types_at_keys c)) (first_or (twins_after [] (codes_at_keys c)) (twins_after [] (partial_codes_at_keys c)))

-- ---- bits of flags

-- the first flag whose bit an earlier one has
abbrev pub bit_after : ℕ → List Flag → List Flag → Option ProfileFault
bit_after label earlier [] = None
bit_after label earlier (f ∷ fs) = if list_any (λ o. o.bit == f.bit) earlier then Some (BitClash label f.bit) else bit_after label (earlier ++ f ∷ []) fs

abbrev pub bit_clash_in : ℕ → Kind → Option ProfileFault
bit_clash_in label (Discrete fs) = bit_after label [] fs
bit_clash_in label _ = None

abbrev pub bit_clash : List LabelEntry → Option ProfileFault
bit_clash [] = None
bit_clash (e ∷ es) = first_or (bit_clash_in e.label e.kind) (bit_clash es)

-- ---- the first clash: labels, then codes, then bits

abbrev pub first_clash : Codes → List LabelEntry → Option ProfileFault
first_clash c es = first_or (label_clash_after c [] es) (first_or (code_clash c) (bit_clash es))

-- ---- what holds of entries that do not clash

-- all types that words may have, and all codes of protocol words
abbrev pub all_types : Codes → List ℕ
all_types c = (c.full ∷ c.partial ∷ c.protocol ∷ c.sot ∷ c.eot ∷ []) ++ c.ignored_types

abbrev pub all_codes : Codes → List ℕ
all_codes c = (c.rts ∷ c.cts ∷ c.ack ∷ c.nak ∷ []) ++ c.ignored_codes

-- no two flags have one bit
abbrev pub HasDistinctBits : Kind → Type 0
HasDistinctBits (Discrete flags) = IsDistinct nat_eq (map (λ f. f.bit) flags)
HasDistinctBits _ = Unit {0}

-- an entry is for neither of the labels that the transfer uses
abbrev pub IsNoAddress : Codes → LabelEntry → Type 0
IsNoAddress c e = (e.label ≢ c.to_sink) × (e.label ≢ c.to_source)
