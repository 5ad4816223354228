-- The data words of several attempts.
use Rattle.std.proofs.Common.{◌≡◌, ◌<◌, ℕ, List, length, get_or, Option, Some, None, Result, Ok, Err, IfOk, IfNone, inl, inr}
use Rattle.a429_profile.specs.Profile.{Contents}
use Rattle.a429_merge.specs.Order.{HasEach}
use Rattle.a429_merge.specs.Fill.{IsFilled, AreDataOf, HasOneByte, CanBeFilled, CanBeCompleted}
use Rattle.a429_merge.proofs.SubsequenceFacts.{sub_trans}

-- two clauses on a result that is none, and what follows from both
pub none_from : {X E : Type 0} (P Q R : Type 0) (r : Result (Option X) E)
    → (P → Q → R) → IfOk r (λ o. IfNone o P) → IfOk r (λ o. IfNone o Q) → IfOk r (λ o. IfNone o R)
none_from P Q R (Ok (Some x)) f p q = p
none_from P Q R (Ok None) f p q = f p q
none_from P Q R (Err e) f p q = p

-- words that cannot be filled up, nor to two of one byte together, cannot be completed
pub not_completed : (p : Contents) (count : ℕ) (wanted : Option ℕ) (words : List ℕ) → ¬ CanBeFilled p count wanted words
    → (count ≡ 2 → length words < 2 → ¬ HasOneByte p wanted words) → ¬ CanBeCompleted p count wanted words
not_completed p count wanted words none one (inl filled) = none filled
not_completed p count wanted words none one (inr h) = one h.0 h.1 h.2

-- a merge that is filled up
pub merge_filled : (p : Contents) (count : ℕ) (wanted : Option ℕ) (lists : List (List ℕ)) (merged words : List ℕ)
    → HasEach merged lists → IsFilled p count wanted merged words → AreDataOf p count wanted lists words
merge_filled p count wanted lists merged words each f = record {
  long = f.long;
  each = λ k d l. sub_trans (get_or lists k d) merged words (each k d l) f.kept;
  fits = f.fits;
}
