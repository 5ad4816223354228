-- What follows from what is said of an option, or of a result's value or error.
use Rattle.std.proofs.Common.{◌≡◌, false, Option, Some, None, IsSome, is_some, Result, Ok, Err, IfOk, IfErr, IfSome, refl}

-- the value that is there
pub some_value : {X : Type 0} (o : Option X) → IsSome o → (x : X) × (o ≡ Some x)
some_value None h = absurd (cc h)
some_value (Some x) h = (x, refl)

pub not_some : {X : Type 0} (o : Option X) → is_some o ≡ false → o ≡ None
not_some None e = refl
not_some (Some x) e = absurd (cc e)

pub if_ok_map : {T E : Type 0} {P Q : T → Type 0} (r : Result T E) → IfOk r P → ((x : T) → P x → Q x) → IfOk r Q
if_ok_map (Ok x) h f = f x h
if_ok_map (Err e) h f = tt

pub if_err_map : {T E : Type 0} {P Q : E → Type 0} (r : Result T E) → IfErr r P → ((e : E) → P e → Q e) → IfErr r Q
if_err_map (Ok x) h f = tt
if_err_map (Err e) h f = f e h

pub each_some : {T E : Type 0} {P Q : T → Type 0} (r : Result (Option T) E) → ((x : T) → P x → Q x) → IfOk r (λ o. IfSome o P)
    → IfOk r (λ o. IfSome o Q)
each_some (Ok (Some x)) f h = f x h
each_some (Ok None) f h = tt
each_some (Err e) f h = tt
