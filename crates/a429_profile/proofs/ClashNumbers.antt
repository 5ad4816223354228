-- No number of a profile is given twice.
use Rattle.std.proofs.Common.{◌≡◌, ℕ, List, [], ◌∷◌, ◌++◌, map, Bool, true, false, nat_eq, ◌==◌, Option, Some, None, if◌then◌else◌, refl, ap, subst}
use Rattle.std.specs.List.{IsDistinct, list_any}
use Rattle.std.proofs.lemmas.Bool.{or_from}
use Rattle.std.proofs.lemmas.List.{map-append}
use Rattle.a429_profile.specs.declared.key.SectionKey.{SectionKey}
use Rattle.a429_profile.specs.declared.key.SectionKey.TheVariants as key
use Rattle.a429_profile.specs.declared.fault.ProfileFault.{ProfileFault}
use Rattle.a429_profile.specs.Fault.{first_or}
use Rattle.a429_profile.specs.Clash.{AreApartAfter, NumberAtKey, key_of, twins, twins_after, all_at_key, types_at_keys, codes_at_keys, partial_codes_at_keys, code_clash, label_clash_after, bit_clash, all_types, all_codes}
use Rattle.a429_profile.specs.Profile.{Contents, IsProfile}
use Rattle.a429_profile.proofs.Apart.{meets_none-first}
use Rattle.a429_profile.proofs.ProfileLookup.{first_or_none, no_clash}

-- ---- numbers of which none is one of those before it

abbrev pub AreNewAfter : List ℕ → List ℕ → Type 0
AreNewAfter earlier ns = AreApartAfter (λ m n. m == n) earlier ns

pub distinct_of : (earlier ns : List ℕ) → AreNewAfter earlier ns → IsDistinct nat_eq ns
unfolding IsDistinct
distinct_of earlier [] new = tt
distinct_of earlier (n ∷ ns) new = (meets_none-first (λ m k. m == k) earlier n ns new, distinct_of (earlier ++ n ∷ []) ns new.1)

-- ---- numbers at their keys

abbrev numbers : List NumberAtKey → List ℕ
numbers xs = map (λ x. x.1) xs

not_found : (b : Bool) (k : SectionKey) (rest : Option SectionKey) → (if b then Some k else rest) ≡ None → (b ≡ false) × (rest ≡ None)
not_found true k rest h = absurd (cc)
not_found false k rest h = (refl, h)

no_twin : (o : Option SectionKey) (k : SectionKey) (rest : Option ProfileFault) → twins o k rest ≡ None → (o ≡ None) × (rest ≡ None)
no_twin (Some e) k rest h = absurd (cc)
no_twin None k rest h = (refl, h)

none_before : (n : ℕ) (earlier : List NumberAtKey) → key_of n earlier ≡ None → list_any (λ m. m == n) (numbers earlier) ≡ false
none_before n [] h = refl
none_before n (x ∷ xs) h =
    let parts = not_found (x.1 == n) x.0 (key_of n xs) h in
    or_from (x.1 == n) (list_any (λ m. m == n) (numbers xs)) parts.0 (none_before n xs parts.1)

new_of : (earlier xs : List NumberAtKey) → twins_after earlier xs ≡ None → AreNewAfter (numbers earlier) (numbers xs)
new_of earlier [] h = tt
new_of earlier (x ∷ xs) h =
    let parts = no_twin (key_of x.1 earlier) x.0 (twins_after (earlier ++ x ∷ []) xs) h in (
      none_before x.1 earlier parts.0,
      subst (λ ns. AreNewAfter ns (numbers xs)) (map-append (λ (y : NumberAtKey). y.1) earlier (x ∷ []))
          (new_of (earlier ++ x ∷ []) xs parts.1),
    )

differ : (xs : List NumberAtKey) → twins_after [] xs ≡ None → IsDistinct nat_eq (numbers xs)
differ xs h = distinct_of [] (numbers xs) (new_of [] xs h)

numbers-at_key : (k : SectionKey) (ns : List ℕ) → numbers (all_at_key k ns) ≡ ns
numbers-at_key k [] = refl
numbers-at_key k (n ∷ ns) = ap (λ ms. n ∷ ms) (numbers-at_key k ns)

-- a profile's codes do not clash
no_code_clash : (c : Contents) → IsProfile c → code_clash c.codes ≡ None
no_code_clash c p =
    let rest = first_or_none (label_clash_after c.codes [] c.labels) (first_or (code_clash c.codes) (bit_clash c.labels)) (no_clash c p) in
    (first_or_none (code_clash c.codes) (bit_clash c.labels) rest.1).0

pub types_differ : (c : Contents) → IsProfile c → IsDistinct nat_eq (all_types c.codes)
types_differ c p =
    let none = first_or_none (twins_after [] (types_at_keys c.codes)) _ (no_code_clash c p) in
    rw (← numbers-at_key key.IgnoredTypes c.codes.ignored_types) (differ (types_at_keys c.codes) none.0)

pub codes_differ : (c : Contents) → IsProfile c → IsDistinct nat_eq (all_codes c.codes)
codes_differ c p =
    let none = first_or_none (twins_after [] (types_at_keys c.codes)) _ (no_code_clash c p) in
    let more = first_or_none (twins_after [] (codes_at_keys c.codes)) (twins_after [] (partial_codes_at_keys c.codes)) none.1 in
    rw (← numbers-at_key key.IgnoredCodes c.codes.ignored_codes) (differ (codes_at_keys c.codes) more.0)

pub partial_codes_differ : (c : Contents) → IsProfile c → IsDistinct nat_eq c.codes.partial_codes
partial_codes_differ c p =
    let none = first_or_none (twins_after [] (types_at_keys c.codes)) _ (no_code_clash c p) in
    let more = first_or_none (twins_after [] (codes_at_keys c.codes)) (twins_after [] (partial_codes_at_keys c.codes)) none.1 in
    rw (← numbers-at_key key.PartialCodes c.codes.partial_codes) (differ (partial_codes_at_keys c.codes) more.1)
