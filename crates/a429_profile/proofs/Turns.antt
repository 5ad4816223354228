-- A loop a turn further.
use Rattle.std.proofs.Common.{◌≡◌, ℕ, suc, ◌+◌, ◌<◌, List, ◌∷◌, ◌++◌, [], length, get_or, take, drop, map, Bool, true, false, ◌==◌, if◌then◌else◌, Some, None, sym, ap, ◌∙◌, arith, append_assoc}
use Rattle.std.specs.List.{list_all, list_any}
use Rattle.std.proofs.lemmas.Bool.{and_parts}
use Rattle.std.proofs.lemmas.List.{drop_more, take_more}
use Rattle.toml.specs.View.{view}
use Rattle.toml.specs.declared.value.Value.{Value}
use Rattle.a429_profile.specs.declared.entry.Flag.{Flag}
use Rattle.a429_profile.specs.declared.fault.ProfileFault.TheVariants.{BitClash}
use Rattle.a429_profile.specs.Clash.{bit_after}
use Rattle.a429_profile.specs.Fault.{first_or}
use Rattle.a429_profile.specs.Labels.{entries_fault, entry_fault, table_of}

-- what is left begins with the next
pub next : {X : Type 0} (vs : List X) (i : ℕ) (v : X) → i < length vs → v ≡ get_or vs i v → drop i vs ≡ v ∷ drop (i + 1) vs
next vs i v h e = drop_more vs i v h ∙ ap (λ x. x ∷ drop (i + 1) vs) (sym e)

-- a table without a fault leaves the faults of those after it
pub entries_fault-next : (vs : List Value) (i : ℕ) (v : Value)
    → i < length vs → v ≡ get_or vs i v → entry_fault i (table_of (view v)) ≡ None
    → entries_fault i (map view (drop i vs)) ≡ entries_fault (i + 1) (map view (drop (i + 1) vs))
entries_fault-next vs i v h e ok =
    let more : suc i ≡ i + 1 = omega arith in
    ap (λ ws. entries_fault i (map view ws)) (next vs i v h e)
    ∙ ap (λ f. first_or f (entries_fault (suc i) (map view (drop (i + 1) vs)))) ok
    ∙ ap (λ n. entries_fault n (map view (drop (i + 1) vs))) more

-- one more made, one fewer to make
pub map-next : {A : Type 0} (f : Value → A) (made : List A) (vs : List Value) (i : ℕ) (v : Value) → i < length vs → v ≡ get_or vs i v
    → made ++ map f (drop i vs) ≡ (made ++ f v ∷ []) ++ map f (drop (i + 1) vs)
map-next f made vs i v h e = ap (λ ws. made ++ map f ws) (next vs i v h e) ∙ sym (append_assoc made (f v ∷ []) (map f (drop (i + 1) vs)))

-- what holds of all holds of the next and of those after it
pub list_all-next : (p : Value → Bool) (vs : List Value) (i : ℕ) (v : Value) → i < length vs → v ≡ get_or vs i v
    → list_all p (drop i vs) ≡ true → (p v ≡ true) × (list_all p (drop (i + 1) vs) ≡ true)
list_all-next p vs i v h e all = and_parts _ _ (sym (ap (list_all p) (next vs i v h e)) ∙ all)

-- ---- a loop over flags that looks back at those before

once : (fs : List Flag) (i : ℕ) (f : Flag) → i < length fs → f ≡ get_or fs i f → take i fs ++ f ∷ [] ≡ take (i + 1) fs
once fs i f h e = ap (λ x. take i fs ++ x ∷ []) e ∙ sym (take_more fs i f h)

-- a flag without a twin leaves the faults of those after it
pub bit_after-next : (label : ℕ) (fs : List Flag) (i : ℕ) (f : Flag)
    → i < length fs → f ≡ get_or fs i f → list_any (λ o. o.bit == f.bit) (take i fs) ≡ false
    → bit_after label (take i fs) (drop i fs) ≡ bit_after label (take (i + 1) fs) (drop (i + 1) fs)
bit_after-next label fs i f h e none =
    ap (bit_after label (take i fs)) (next fs i f h e)
    ∙ ap (λ b. if b then Some (BitClash label f.bit) else bit_after label (take i fs ++ f ∷ []) (drop (i + 1) fs)) none
    ∙ ap (λ earlier. bit_after label earlier (drop (i + 1) fs)) (once fs i f h e)

-- a flag with a twin gives it
pub bit_after-here : (label : ℕ) (fs : List Flag) (i : ℕ) (f : Flag)
    → i < length fs → f ≡ get_or fs i f → list_any (λ o. o.bit == f.bit) (take i fs) ≡ true
    → bit_after label (take i fs) (drop i fs) ≡ Some (BitClash label f.bit)
bit_after-here label fs i f h e twin =
    ap (bit_after label (take i fs)) (next fs i f h e)
    ∙ ap (λ b. if b then Some (BitClash label f.bit) else bit_after label (take i fs ++ f ∷ []) (drop (i + 1) fs)) twin
