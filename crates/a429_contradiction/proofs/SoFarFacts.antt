-- Numbers that a source may come to from that of a start word.
use Rattle.std.proofs.Common.{◌≡◌, ◌≢◌, ◌⊎◌, ◌↔◌, ℕ, ◌+◌, ◌-◌, ◌%◌, ◌≤◌, ap, inl, inr, arith}
use Rattle.a429_link.specs.declared.number.UnitNumber.{UnitNumber}
use Rattle.a429_link.specs.Group.{IsFurther}

-- that of another file is at most 128 files past
pub follows_file : (n m : UnitNumber) (k : ℕ)
    → n.file ≤ 255 → m.file ≤ 255 → k ≡ (m.file + (256 - n.file)) % 256 → k ≢ 0 → (k ≤ 128) ↔ ((m ≡ n) ⊎ IsFurther n m)
follows_file n m k a b is other = (
  (λ l. inr (inr (k, omega (arith, other), l, omega (arith, a, b, is)))),
  (λ h. elim h [
    | inl e ↦ absurd (same (ap (λ (u : UnitNumber). u.file) e))
    | inr (inl (e, _)) ↦ absurd (same e)
    | inr (inr (d, l, r, e)) ↦ omega (arith, a, b, is, l, r, e)
  ]),
)
  where
    same : m.file ≡ n.file → ⊥
    same e = other (omega (arith, a, is, e))
