-- How much work a search may take (profile).
use Rattle.std.specs.Prelude.{◌≡◌, ℕ, ◌+◌, ◌-◌, ◌*◌, ◌^◌, min}
use Rattle.a429_merge.specs.declared.budget.Limit.{Limit}
use Rattle.a429_merge.specs.declared.budget.Limit.TheVariants.{Attempts, Fillings, Places, Steps}

-- The steps for a recording of so many entries: 1,000 for each, and 1,000,000,000 besides, as far as 64 bits hold their number.
abbrev pub steps_for : ℕ → ℕ
steps_for n = min (n * 1000 + 1000000000) (2 ^ 64 - 1)

-- How much a limit leaves. Of steps and of places: how many may still be taken. Of attempts to send one link data unit: how many may
-- still come before there are 17. Of merged data words that no way which is tried fills up: one more than those beyond what is wanted, and
-- nothing where there are fewer.
abbrev pub leaves : Limit → ℕ
leaves (Steps left) = left
leaves (Attempts recorded) = 17 - recorded
leaves (Places left) = left
leaves (Fillings merged wanted) = merged + 1 - wanted

-- the limit was reached: it leaves nothing
abbrev pub IsReached : Limit → Type 0
IsReached l = leaves l ≡ 0
