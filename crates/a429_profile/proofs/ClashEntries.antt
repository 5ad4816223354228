-- No entry of a profile clashes.
use Rattle.std.proofs.Common.{◌≡◌, ◌≢◌, ℕ, List, [], ◌∷◌, ◌++◌, map, All, Bool, false, ◌||◌, ◌==◌, None, refl, subst}
use Rattle.std.specs.List.{AllByRecursion, list_any}
use Rattle.std.proofs.lemmas.Bool.{or_parts, or_from, eqb-false}
use Rattle.std.proofs.lemmas.List.{map-append}
use Rattle.std.proofs.lemmas.List.Elements.{All-from_recursion}
use Rattle.a429_profile.specs.declared.codes.Codes.{Codes}
use Rattle.a429_profile.specs.declared.entry.Flag.{Flag}
use Rattle.a429_profile.specs.declared.entry.Kind.{Kind}
use Rattle.a429_profile.specs.declared.entry.Kind.TheVariants.{Bnr, Bcd, Discrete}
use Rattle.a429_profile.specs.declared.entry.LabelEntry.{LabelEntry}
use Rattle.a429_profile.specs.declared.fault.ProfileFault.TheVariants.{LabelClash, BitClash}
use Rattle.a429_profile.specs.Fault.{first_or}
use Rattle.a429_profile.specs.Clash.{entries_meet, label_clashes, label_clash_after, code_clash, bit_after, bit_clash_in, bit_clash, HasDistinctBits, IsNoAddress}
use Rattle.a429_profile.specs.Profile.{Contents, IsProfile}
use Rattle.a429_profile.proofs.ProfileLookup.{first_or_none, no_clash, not_some}
use Rattle.a429_profile.proofs.ClashNumbers.{AreNewAfter, distinct_of}

-- ---- addresses

neither : (label a b : ℕ) (rest : Bool) → ((label == a) || (label == b) || rest) ≡ false → (label ≢ a) × (label ≢ b)
neither label a b rest h =
    let parts = or_parts ((label == a) || (label == b)) rest h in
    let both = or_parts (label == a) (label == b) parts.0 in
    (eqb-false label a both.0, eqb-false label b both.1)

no_address : (c : Codes) (earlier es : List LabelEntry) → label_clash_after c earlier es ≡ None → AllByRecursion (IsNoAddress c) es
no_address c earlier [] h = tt
no_address c earlier (e ∷ es) h =
    let parts = not_some (label_clashes c earlier e) (LabelClash e.label) (label_clash_after c (earlier ++ e ∷ []) es) h in
    (neither e.label c.to_sink c.to_source (list_any (λ o. entries_meet o e) earlier) parts.0, no_address c (earlier ++ e ∷ []) es parts.1)

-- ---- bits

abbrev bits : List Flag → List ℕ
bits fs = map (λ f. f.bit) fs

none_before : (n : ℕ) (earlier : List Flag) → list_any (λ o. o.bit == n) earlier ≡ false → list_any (λ m. m == n) (bits earlier) ≡ false
none_before n [] h = refl
none_before n (f ∷ fs) h =
    let parts = or_parts (f.bit == n) (list_any (λ o. o.bit == n) fs) h in
    or_from (f.bit == n) (list_any (λ m. m == n) (bits fs)) parts.0 (none_before n fs parts.1)

new_of : (label : ℕ) (earlier fs : List Flag) → bit_after label earlier fs ≡ None → AreNewAfter (bits earlier) (bits fs)
new_of label earlier [] h = tt
new_of label earlier (f ∷ fs) h =
    let parts = not_some (list_any (λ o. o.bit == f.bit) earlier) (BitClash label f.bit) (bit_after label (earlier ++ f ∷ []) fs) h in (
      none_before f.bit earlier parts.0,
      subst (λ ns. AreNewAfter ns (bits fs)) (map-append (λ (g : Flag). g.bit) earlier (f ∷ []))
          (new_of label (earlier ++ f ∷ []) fs parts.1),
    )

distinct_bits : (label : ℕ) (kind : Kind) → bit_clash_in label kind ≡ None → HasDistinctBits kind
distinct_bits label (Bnr significant range decimals) h = tt
distinct_bits label (Bcd digits decimals) h = tt
distinct_bits label (Discrete flags) h = distinct_of [] (bits flags) (new_of label [] flags h)

all_distinct : (es : List LabelEntry) → bit_clash es ≡ None → AllByRecursion (λ e. HasDistinctBits e.kind) es
all_distinct [] h = tt
all_distinct (e ∷ es) h =
    let parts = first_or_none (bit_clash_in e.label e.kind) (bit_clash es) h in
    (distinct_bits e.label e.kind parts.0, all_distinct es parts.1)

-- ---- of a profile

pub no_addresses : (c : Contents) → IsProfile c → All (IsNoAddress c.codes) c.labels
no_addresses c p =
    let parts = first_or_none (label_clash_after c.codes [] c.labels) (first_or (code_clash c.codes) (bit_clash c.labels)) (no_clash c p) in
    All-from_recursion (IsNoAddress c.codes) c.labels (no_address c.codes [] c.labels parts.0)

pub bits_differ : (c : Contents) → IsProfile c → All (λ e. HasDistinctBits e.kind) c.labels
bits_differ c p =
    let parts = first_or_none (label_clash_after c.codes [] c.labels) (first_or (code_clash c.codes) (bit_clash c.labels)) (no_clash c p) in
    All-from_recursion (λ e. HasDistinctBits e.kind) c.labels
    (all_distinct c.labels (first_or_none (code_clash c.codes) (bit_clash c.labels) parts.1).1)
