-- The elements of an array as a list, and their numbers.
use Rattle.std.proofs.Common.{◌≡◌, ℕ, ◌≤◌, ℤ, pos, negsuc, List, [], ◌∷◌, map, Bool, true, false, ◌&&◌, nat_le, nat_eq, length, get_or, ◌<◌, is_some, Some, None, if◌then◌else◌, refl, sym, ap, ◌∙◌, arith}
use Rattle.std.specs.List.{list_all}
use Rattle.std.proofs.Math.Bool.{and-false}
use Rattle.std.proofs.lemmas.Bool.{and_parts, le-leb, leb-true}
use Rattle.toml.specs.Data.{Data, as_array}
use Rattle.toml.specs.View.{view, items_view}
use Rattle.toml.specs.declared.value.Value.{Value}
use Rattle.std.proofs.lemmas.List.{length-map}
use Rattle.std.proofs.lemmas.List.Folds.{list_all-map}
use Rattle.a429_profile.specs.declared.key.Key.{Key}
use Rattle.a429_profile.specs.declared.fault.ProfileFault.TheVariants.{WrongKind, OutOfRange}
use Rattle.a429_profile.specs.Key.{value_fault}
use Rattle.a429_profile.specs.Value.{numbers, four_numbers, flags, flag_of, is_flag, is_flag_in_range, elements_of, is_array_of, is_integer, list_of, integer_of_value, natural, number_of_value, byte_of, is_between, is_number_between}

pub list_of-items_view : (vs : List Value) → list_of (items_view vs) ≡ map view vs
list_of-items_view [] = refl
list_of-items_view (v ∷ vs) = ap (λ ds. view v ∷ ds) (list_of-items_view vs)

-- a number up to a byte's limit is a byte
natural_between : (low high : ℕ) (z : ℤ)
    → high ≤ 255 → is_between low high z ≡ true → (if nat_le (natural z) 255 then natural z else 0) ≡ natural z
natural_between low high (pos n) h e =
    let below : n ≤ high = leb-true n high (and_parts _ _ e).1 in
    let fits : n ≤ 255 = omega arith in
    ap (λ b. if b then n else 0) (le-leb n 255 fits)
natural_between low high (negsuc n) h e = refl

pub byte_of-between : (low high : ℕ) (d : Data) → high ≤ 255 → is_number_between low high d ≡ true → byte_of d ≡ number_of_value d
unfolding byte_of
byte_of-between low high d h e = natural_between low high (integer_of_value d) h e

pub map-byte_of : (low high : ℕ) (vs : List Value) → high ≤ 255 → list_all (λ v. is_number_between low high (view v)) vs ≡ true
    → map number_of_value (map view vs) ≡ map (λ v. byte_of (view v)) vs
map-byte_of low high [] h e = refl
map-byte_of low high (v ∷ vs) h e =
    let parts = and_parts (is_number_between low high (view v)) (list_all (λ v. is_number_between low high (view v)) vs) e in
    ap (λ n. n ∷ map number_of_value (map view vs)) (sym (byte_of-between low high (view v) h parts.0))
    ∙ ap (λ ns. byte_of (view v) ∷ ns) (map-byte_of low high vs h parts.1)

-- ---- what is wrong with an array of integers

-- whether the elements of an array are integers
pub is_array_of-integers : (d : Data) (vs : List Value) (b : Bool)
    → true ≡ is_some (as_array d) → elements_of d ≡ map view vs → b ≡ list_all (λ v. is_integer (view v)) vs → b ≡ is_array_of is_integer d
is_array_of-integers d vs b has e h =
    h ∙ sym (list_all-map is_integer view vs) ∙ ap (list_all is_integer) (sym e) ∙ ap (λ t. t && list_all is_integer (elements_of d)) has

-- an array of integers, in the words of its elements
pub record AreIntegers (d : Data) (vs : List Value) (low high : ℕ) (b : Bool) : Type 0 where
  pub kind : true ≡ is_array_of is_integer d
  pub elements : elements_of d ≡ map view vs
  pub between : b ≡ list_all (λ v. is_number_between low high (view v)) vs

range_of : (d : Data) (vs : List Value) (low high : ℕ) (b : Bool)
    → AreIntegers d vs low high b → list_all (is_number_between low high) (elements_of d) ≡ b
range_of d vs low high b are =
    ap (list_all (is_number_between low high)) are.elements ∙ list_all-map (is_number_between low high) view vs ∙ sym are.between

pub value_fault-numbers : (k : Key) (d : Data) (vs : List Value) (low high : ℕ) (b : Bool)
    → AreIntegers d vs low high b → value_fault k (numbers low high) d ≡ (if b then None else Some (OutOfRange k))
value_fault-numbers k d vs low high b are = rw (← are.kind, range_of d vs low high b are) refl

-- four integers of which one lies outside the range, or another number of them
pub value_fault-not_between : (k : Key) (d : Data) (vs : List Value) (low high : ℕ)
    → AreIntegers d vs low high false → value_fault k (four_numbers low high) d ≡ Some (OutOfRange k)
value_fault-not_between k d vs low high are =
    rw (← are.kind, range_of d vs low high false are, and-false (nat_eq (length (elements_of d)) 4)) refl

-- what a list of four elements is made into
pub map-four : (f : Value → ℕ) (vs : List Value) (a b c d : Value) → 4 ≤ length vs → length vs < 5 → a ≡ get_or vs 0 a → b ≡ get_or vs 1 b
    → c ≡ get_or vs 2 c → d ≡ get_or vs 3 d → map f vs ≡ f a ∷ f b ∷ f c ∷ f d ∷ []
map-four f [] a b c d h l ea eb ec ed = absurd (omega arith)
map-four f (v ∷ []) a b c d h l ea eb ec ed = absurd (omega arith)
map-four f (v ∷ w ∷ []) a b c d h l ea eb ec ed = absurd (omega arith)
map-four f (v ∷ w ∷ x ∷ []) a b c d h l ea eb ec ed = absurd (omega arith)
map-four f (v ∷ w ∷ x ∷ y ∷ []) a b c d h l ea eb ec ed = rw (ea, eb, ec, ed) refl
map-four f (v ∷ w ∷ x ∷ y ∷ z ∷ vs) a b c d h l ea eb ec ed = absurd (omega arith)

-- ---- what is wrong with an array of flags

pub value_fault-flags : (k : Key) (d : Data) (vs : List Value) (b r : Bool)
    → true ≡ is_some (as_array d) → elements_of d ≡ map view vs → b ≡ list_all (λ v. is_flag (view v)) vs
    → r ≡ (nat_le 1 (length vs) && nat_le (length vs) 19 && list_all (λ v. is_flag_in_range (view v)) vs)
    → value_fault k flags d ≡ (if b then (if r then None else Some (OutOfRange k)) else Some (WrongKind k))
value_fault-flags k d vs b r has e kinds ranges =
    rw (← has, e, list_all-map is_flag view vs, list_all-map is_flag_in_range view vs, length-map vs view, ← kinds, ← ranges) refl

pub map-flag_of : (vs : List Value) → map flag_of (map view vs) ≡ map (λ v. flag_of (view v)) vs
map-flag_of [] = refl
map-flag_of (v ∷ vs) = ap (λ fs. flag_of (view v) ∷ fs) (map-flag_of vs)
