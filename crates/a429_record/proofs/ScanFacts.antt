-- The steps of a scan are those of `csv`.
use Rattle.std.proofs.Common.{◌≡◌, ℕ, List, [], ◌∷◌, ◌++◌, Some, None, true, false, refl}
use Rattle.csv.specs.Machine.{next_record, step, is_end, fields_after, field_after, ends_at_end}
use Rattle.csv.specs.Reading.{default_config}
use Rattle.csv.specs.declared.parser.State.{State}
use Rattle.csv.specs.declared.parser.State.TheVariants as st
use Rattle.csv.specs.declared.parser.Action.{Action}

-- a byte that ends no record
pub goes_on : (s t : State) (a : Action) (fields : List (List ℕ)) (field : List ℕ) (b : ℕ) (rest : List ℕ)
    → (t, a) ≡ step default_config s b → is_end a ≡ false
    → next_record default_config s fields field (b ∷ rest)
    ≡ next_record default_config t (fields_after a fields field) (field_after a b field) rest
unfolding next_record
goes_on s t a fields field b rest e n = rw (← e, n) refl

-- a byte that ends one
pub stops_at : (s t : State) (a : Action) (fields : List (List ℕ)) (field : List ℕ) (b : ℕ) (rest : List ℕ)
    → (t, a) ≡ step default_config s b → is_end a ≡ true
    → next_record default_config s fields field (b ∷ rest) ≡ Some (fields_after a fields field, t, rest)
unfolding next_record
stops_at s t a fields field b rest e n = rw (← e, n) refl

-- the end of the bytes
pub last_ends : (s : State) (fields : List (List ℕ)) (field : List ℕ) → ends_at_end s ≡ true
    → next_record default_config s fields field [] ≡ Some (fields ++ (field ∷ []), st.StartRecord, [])
unfolding next_record
last_ends s fields field e = rw e refl

pub last_none : (s : State) (fields : List (List ℕ)) (field : List ℕ)
    → ends_at_end s ≡ false → next_record default_config s fields field [] ≡ None
unfolding next_record
last_none s fields field e = rw e refl
