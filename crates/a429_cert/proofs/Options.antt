-- Steps that give a value, none or an error.
use Rattle.std.proofs.Common.{◌≡◌, ◌⊎◌, inl, inr, if◌then◌else◌, Bool, true, false, Option, Some, None, option_map, Result, Ok, Err, OnErr, refl}
use Rattle.a429_cert.specs.Field.{when, ◌>>=◌}

-- the value of a step that gave one
pub bind_some : {A B : Type 0} (o : Option A) (f : A → Option B) (y : B) → (o >>= f) ≡ Some y → (x : A) × (o ≡ Some x) × (f x ≡ Some y)
bind_some (Some x) f y e = (x, refl, e)
bind_some None f y e = absurd cc

-- the value of a step that was changed
pub mapped : {A B : Type 0} (f : A → B) (o : Option A) (y : B) → option_map f o ≡ Some y → (x : A) × (o ≡ Some x) × (f x ≡ y)
mapped f (Some x) y e = (x, refl, cc)
mapped f None y e = absurd cc

pub when_some : {A : Type 0} (test : Bool) (x y : A) → when test x ≡ Some y → (test ≡ true) × (x ≡ y)
when_some true x y e = (refl, cc)
when_some false x y e = absurd cc

pub when_none : {A : Type 0} (test : Bool) (x : A) → when test x ≡ None → test ≡ false
when_none true x e = absurd cc
when_none false x e = refl

-- a choice that gave a value
pub split : {A : Type 0} (test : Bool) (x rest : Option A) (v : A)
    → (if test then x else rest) ≡ Some v → ((test ≡ true) × (x ≡ Some v)) ⊎ (rest ≡ Some v)
split true x rest v e = inl (refl, e)
split false x rest v e = inr e

-- the same, where the test matters for the other
pub parted : {A : Type 0} (test : Bool) (x rest : Option A) (v : A)
    → (if test then x else rest) ≡ Some v → ((test ≡ true) × (x ≡ Some v)) ⊎ ((test ≡ false) × (rest ≡ Some v))
parted true x rest v e = inl (refl, e)
parted false x rest v e = inr (refl, e)

-- a choice of two that are the same
pub either : {A : Type 0} (test : Bool) (x rest v : A) → x ≡ v → rest ≡ v → (if test then x else rest) ≡ v
either true x rest v e f = e
either false x rest v e f = f

-- a fact on an error, where it always holds
pub on_err : {T E P : Type 0} (r : Result T E) → P → OnErr r P
on_err (Ok x) h = tt
on_err (Err e) h = h
