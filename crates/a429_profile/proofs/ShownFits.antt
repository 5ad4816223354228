-- The values of words.
use Rattle.std.proofs.Common.{ℕ, ◌<◌, ◌≤◌, ℤ, pos, ◌*ℤ◌, arith, FitsSigned}
use Rattle.std.proofs.lemmas.Int.{fits_signed_mul}
use Rattle.std.specs.Int.{w64}
use Rattle.std.specs.Int.Signed.{mag, nat_abs-le}

pub times_range-fits : (raw : ℤ) (range : ℕ) → mag raw < 2147483648 → range ≤ 1000000000 → FitsSigned w64 (raw *ℤ pos range)
times_range-fits raw range small h = fits_signed_mul w64 raw (pos range) 2147483648 1000000000 (nat_abs-le raw small) h (omega arith)
