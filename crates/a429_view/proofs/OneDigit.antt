-- The text of a number of one digit.
use Rattle.std.proofs.Common.{◌≡◌, ℕ, ◌+◌, ◌<◌, ◌≤◌, sym, arith, ap, ◌∙◌, [], ◌∷◌}
use Rattle.std.specs.Fmt.{decimal}
use Rattle.std.proofs.lemmas.Fmt.{decimal_digit}

pub one_digit : (n d : ℕ) → d ≡ n → d ≤ 3 → (48 + d) ∷ [] ≡ decimal n
one_digit n d e small = let few : d < 10 = omega arith in sym (decimal_digit d few) ∙ ap decimal e
