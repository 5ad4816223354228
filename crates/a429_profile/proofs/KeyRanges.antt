-- What stands at a key without a fault lies in the range of its rule.
use Rattle.std.proofs.Common.{◌≡◌, ℕ, ◌-◌, ◌+◌, ◌*◌, ◌≤◌, ℤ, pos, negsuc, List, [], ◌∷◌, map, length, All, Bool, true, false, ◌&&◌, nat_eq, nat_le, Some, None, if◌then◌else◌, refl, ◌∙◌, arith}
use Rattle.std.specs.List.{list_all}
use Rattle.std.specs.Option.{IfSome}
use Rattle.std.proofs.lemmas.Bool.{and_parts, leb-true, eqb-true}
use Rattle.std.proofs.lemmas.List.{length-map}
use Rattle.std.proofs.lemmas.List.Elements.{All-nil, All-cons, All-map}
use Rattle.toml.specs.Data.{Data}
use Rattle.a429_profile.specs.declared.key.Key.{Key}
use Rattle.a429_profile.specs.declared.fault.ProfileFault.{ProfileFault}
use Rattle.a429_profile.specs.Value.{Rule, octal, number, numbers, four_numbers, printable, has_kind, is_in_range, is_octal, octal_number, text_of_value, is_between, integer_of_value, number_of_value, natural, elements_of, is_number_between, is_printable, is_printable_text}
use Rattle.a429_profile.specs.Key.{Place, nothing, no_section, value, place_fault}
use Rattle.a429_profile.specs.Codes.{value_at_place}
use Rattle.a429_profile.specs.Labels.{fault_unless_missing, number_at_place}
use Rattle.a429_profile.specs.Entry.{IsPrintable, IsTextOf}

passes : (a b : Bool) (f g : ProfileFault) → (if a then (if b then None else Some f) else Some g) ≡ None → b ≡ true
passes true true f g h = refl
passes true false f g h = absurd (cc)
passes false b f g h = absurd (cc)

pub in_its_range : (k : Key) (rule : Rule) (p : Place) → place_fault k rule p ≡ None → is_in_range rule (value_at_place p) ≡ true
in_its_range k rule nothing h = absurd (cc)
in_its_range k rule no_section h = absurd (cc)
in_its_range k rule (value d) h = passes (has_kind rule d) (is_in_range rule d) _ _ h

-- what holds where a test does holds of all where the test does of all
pub each : {X : Type 0} (test : X → Bool) (P : X → Type 0) → ((x : X) → test x ≡ true → P x) → (xs : List X) → list_all test xs ≡ true
    → All P xs
each test P holds [] h = All-nil P
each test P holds (x ∷ xs) h =
    let parts = and_parts (test x) (list_all test xs) h in All-cons P x xs (holds x parts.0) (each test P holds xs parts.1)

-- ---- numbers

pub between : (low high : ℕ) (z : ℤ) → is_between low high z ≡ true → (low ≤ natural z) × (natural z ≤ high)
between low high (pos n) h = let p = and_parts (nat_le low n) (nat_le n high) h in (leb-true low n p.0, leb-true n high p.1)
between low high (negsuc n) h = absurd (cc)

pub number_place : (k : Key) (low high : ℕ) (p : Place)
    → place_fault k (number low high) p ≡ None → (low ≤ number_of_value (value_at_place p)) × (number_of_value (value_at_place p) ≤ high)
number_place k low high p h = between low high (integer_of_value (value_at_place p)) (in_its_range k (number low high) p h)

octal_sum : (a b c : ℕ) → a ≤ 51 → b ≤ 55 → c ≤ 55 → 64 * (a - 48) + 8 * (b - 48) + (c - 48) ≤ 255
octal_sum a b c ha hb hc = omega arith

octal_text : (t : List ℕ) → is_octal t ≡ true → octal_number t ≤ 255
octal_text (a ∷ b ∷ c ∷ []) h =
    let last = and_parts _ (nat_le c 55) h in
    let middle = and_parts _ (nat_le b 55) (and_parts _ (nat_le 48 c) last.0).0 in
    let first = and_parts _ (nat_le a 51) (and_parts _ (nat_le 48 b) middle.0).0 in
    octal_sum a b c (leb-true a 51 first.1) (leb-true b 55 middle.1) (leb-true c 55 last.1)
octal_text _ h = absurd (cc)

pub octal_place : (k : Key) (p : Place) → place_fault k octal p ≡ None → octal_number (text_of_value (value_at_place p)) ≤ 255
octal_place k p h = octal_text (text_of_value (value_at_place p)) (in_its_range k octal p h)

-- an SDI may be missing
pub sdi_place : (k : Key) (p : Place)
    → fault_unless_missing true (place_fault k (number 0 3) p) p ≡ None → IfSome (number_at_place p) (λ s. s ≤ 3)
sdi_place k nothing h = tt
sdi_place k no_section h = tt
sdi_place k (value d) h = (number_place k 0 3 (value d) h).1

-- ---- arrays of numbers

all_between : (high : ℕ) (ds : List Data) → list_all (is_number_between 0 high) ds ≡ true → All (λ n. n ≤ high) (map number_of_value ds)
all_between high ds h =
    All-map (λ n. n ≤ high) number_of_value ds
    (each (is_number_between 0 high) (λ d. number_of_value d ≤ high) (λ d is. (between 0 high (integer_of_value d) is).1) ds h)

pub numbers_place : (k : Key) (high : ℕ) (p : Place)
    → place_fault k (numbers 0 high) p ≡ None → All (λ n. n ≤ high) (map number_of_value (elements_of (value_at_place p)))
numbers_place k high p h = all_between high (elements_of (value_at_place p)) (in_its_range k (numbers 0 high) p h)

pub four_place : (k : Key) (high : ℕ) (p : Place) → place_fault k (four_numbers 0 high) p ≡ None →
    (length (map number_of_value (elements_of (value_at_place p))) ≡ 4)
    × All (λ n. n ≤ high) (map number_of_value (elements_of (value_at_place p)))
four_place k high p h =
    let ds : List Data = elements_of (value_at_place p) in
    let parts = and_parts (nat_eq (length ds) 4) _ (in_its_range k (four_numbers 0 high) p h) in
    (length-map ds number_of_value ∙ eqb-true (length ds) 4 parts.0, all_between high ds parts.1)

-- ---- texts

printable_code : (c : ℕ) → is_printable c ≡ true → IsPrintable c
printable_code c h = let p = and_parts (nat_le 32 c) (nat_le c 126) h in (leb-true 32 c p.0, leb-true c 126 p.1)

pub printable_text : (least most : ℕ) (t : List ℕ) → is_printable_text least most t ≡ true → IsTextOf least most t
printable_text least most t h =
    let p = and_parts (nat_le least (length t) && nat_le (length t) most) (list_all is_printable t) h in
    let q = and_parts (nat_le least (length t)) (nat_le (length t) most) p.0 in
    (leb-true least (length t) q.0, leb-true (length t) most q.1, each is_printable IsPrintable printable_code t p.1)

pub text_place : (k : Key) (least most : ℕ) (p : Place)
    → place_fault k (printable least most) p ≡ None → IsTextOf least most (text_of_value (value_at_place p))
text_place k least most p h = printable_text least most (text_of_value (value_at_place p)) (in_its_range k (printable least most) p h)
