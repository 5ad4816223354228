-- Semi-octets, four bits each, the bytes that they make, and how those of a data word are kept.
use Rattle.std.specs.Prelude.{ℕ, ◌-◌, ◌/◌, ◌%◌, ◌≤◌, ◌<◌, ◌≡◌, List, [], ◌∷◌, ◌++◌, length, take, replicate}
use Rattle.std.specs.List.{AllByRecursion}
use Rattle.std.proofs.Common.{sym, ap, ◌∙◌}
use Rattle.a429_ldu.specs.declared.semis.Semis.TheInside.{Inside}

-- what one data word can carry: 1 to 5 of them (ARINC 429 Part 3)
abbrev pub AreSemis : List ℕ → Type 0
AreSemis semis = (1 ≤ length semis) × (length semis ≤ 5) × AllByRecursion (λ s. s < 16) semis

-- those of bytes: of each byte the low one, and then the high one (profile)
abbrev pub semis_of_bytes : List ℕ → List ℕ
semis_of_bytes [] = []
semis_of_bytes (b ∷ bs) = b % 16 ∷ b / 16 ∷ semis_of_bytes bs

-- the five of a number of 20 bits, the lowest first
abbrev pub five_of : ℕ → List ℕ
five_of n = n % 16 ∷ n / 16 % 16 ∷ n / 256 % 16 ∷ n / 4096 % 16 ∷ n / 65536 % 16 ∷ []

-- ---- how they are kept

-- in an array of five, with zeros after them
pub record AreKept (kept : Inside) : Type 0 where
  pub semis : AreSemis (take kept.count kept.digits)
  pub count : length (take kept.count kept.digits) ≡ kept.count
  pub zeros : kept.digits ≡ take kept.count kept.digits ++ replicate (5 - kept.count) 0

abbrev pub refilled : List ℕ → Inside
refilled semis = record { digits = semis ++ replicate (5 - length semis) 0; count = length semis }

pub refilled-kept : (kept : Inside) → AreKept kept → refilled (take kept.count kept.digits) ≡ kept
refilled-kept kept are =
    let semis = take kept.count kept.digits in
    ap {B = Inside} (λ n. record { digits = semis ++ replicate (5 - n) 0; count = n }) are.count ∙ ap {B = Inside} (λ ds. record { digits = ds; count = kept.count }) (sym are.zeros)
