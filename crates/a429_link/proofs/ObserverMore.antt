-- What an observer has seen, and that each word is allowed, with one word more.
use Rattle.std.proofs.Common.{◌≡◌, ℕ, zero, suc, List, [], ◌∷◌, ◌++◌, take, slice_get, Some, ap}
use Rattle.a429_profile.specs.Profile.{Contents}
use Rattle.a429_link.specs.declared.seen.Seen.{Seen}
use Rattle.a429_link.specs.Observer.{Allows, AreAllowed, Observer, observed, sees}

pub observed_more : (p : Contents) (items : List Seen) (n : ℕ) (i : Seen) (o : Observer)
    → slice_get items n ≡ Some i → observed p (take (suc n) items) o ≡ sees p i (observed p (take n items) o)
observed_more p [] n i o at = absurd (cc at)
observed_more p (x ∷ items) zero i o at = ap (λ (j : Seen). sees p j o) (cc at)
observed_more p (x ∷ items) (suc n) i o at = observed_more p items n i (sees p x o) at

pub allowed_push : (p : Contents) (items : List Seen) (i : Seen) (o : Observer)
    → AreAllowed p o items → Allows p (observed p items o) i → AreAllowed p o (items ++ i ∷ [])
allowed_push p [] i o h a = (a, tt)
allowed_push p (x ∷ items) i o h a = (h.0, allowed_push p items i (sees p x o) h.1 a)
