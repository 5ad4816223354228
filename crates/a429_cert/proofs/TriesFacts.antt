-- A listener that was given some reports, by one call after the other.
use Rattle.std.proofs.Common.{◌++◌, ◌∷◌, List, [], refl, sym, subst}
use Rattle.std.specs.List.{FoldsTo}
use Rattle.a429_profile.specs.Profile.{Contents}
use Rattle.a429_cert.specs.Report.{Hearing, Report, TriesSome, listening}

module _ {T : Type 0} (tries : Hearing T) (p : Contents) where
  pub tries_none : (a : T) → TriesSome (listening tries a a) p
  tries_none a = ([], refl)

  pub tries_one : (a b : T) (t : Report) → tries p a t b → TriesSome (listening tries a b) p
  tries_one a b t h = (t ∷ [], (b, h, refl))

  folds_both : (a b c : T) (xs ys : List Report) → FoldsTo (tries p) a xs b → FoldsTo (tries p) b ys c → FoldsTo (tries p) a (xs ++ ys) c
  folds_both a b c [] ys h g = subst (λ (q : T). FoldsTo (tries p) q ys c) (sym h) g
  folds_both a b c (x ∷ xs) ys h g = (h.0, h.1, folds_both h.0 b c xs ys h.2 g)

  pub tries_both : (a b c : T) → TriesSome (listening tries a b) p → TriesSome (listening tries b c) p → TriesSome (listening tries a c) p
  tries_both a b c h g = (h.0 ++ g.0, folds_both a b c h.0 g.0 h.1 g.1)
