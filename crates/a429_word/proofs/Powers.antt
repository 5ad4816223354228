-- Powers of ten and of sixteen.
use Rattle.std.proofs.Common.{◌≡◌, ℕ, zero, suc, ◌+◌, ◌*◌, ◌^◌, ◌<◌, ◌≤◌, refl, sym, ap, ◌∙◌, arith, pow-suc}
use Rattle.std.proofs.lemmas.Nat.{pow_pos, pow-add}
use Rattle.std.proofs.Math.Nat.{pow-le-pow_right}

pub pow-10_pos : (k : ℕ) → 0 < 10 ^ k
pow-10_pos zero = omega arith
pow-10_pos (suc k) = let low = pow-10_pos k in rw pow-suc (omega arith)

pub tens_le : (k : ℕ) → k ≤ 18 → 10 ^ k ≤ 10 ^ 18
tens_le k h = pow-le-pow_right (omega arith) h

-- four bits are a digit in hexadecimal
pub pow-16 : (j : ℕ) → 2 ^ (4 * j) ≡ 16 ^ j
pow-16 zero = refl
pow-16 (suc j) =
    let up : 4 * suc j ≡ 4 * j + 4 = omega arith in
    ap (λ x. 2 ^ x) up ∙ pow-add 2 (4 * j) 4 ∙ ap (λ x. x * 16) (pow-16 j) ∙ sym (pow-suc 16 j)

pub pow-16_pos : (k : ℕ) → 0 < 16 ^ k
pow-16_pos k = rw (← pow-16 k) (pow_pos (4 * k))
