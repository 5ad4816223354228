-- What the source does before a group of attempts, and the numbers that it has (profile).
use Rattle.std.specs.Prelude.{ℕ, ◌+◌, ◌==◌, Bool, false, if◌then◌else◌, Option, Some, None, List, [], ◌∷◌, slice_get}
use Rattle.a429_profile.specs.declared.codes.Codes.{Codes}
use Rattle.a429_profile.specs.Profile.{Contents}
use Rattle.a429_ldu.specs.Ldu.{LduValue, IsLdu}
use Rattle.a429_link.specs.declared.number.UnitNumber.{UnitNumber}
use Rattle.a429_link.specs.Number.{first_number, files_past, number_after}
use Rattle.a429_link.specs.State.{rest}
use Rattle.a429_explain.specs.declared.attempts.Role.{Role}
use Rattle.a429_explain.specs.declared.attempts.Role.TheVariants.{Request}
use Rattle.a429_explain.specs.declared.attempts.StartNumbers.{StartNumbers}
use Rattle.a429_explain.specs.declared.plan.Plan.{Plan}

-- ---- numbers

-- those of a group whose first start word has these, where the source comes to it with those of `place`: if the file is another,
-- the source gives up each file before that one
abbrev pub place_from : Codes → UnitNumber → Option StartNumbers → UnitNumber
place_from c place None = place
place_from c place (Some start) = if start.file == place.file then place else first_number c start.file

-- how many files it gives up
abbrev pub give_ups_from : UnitNumber → Option StartNumbers → ℕ
give_ups_from place None = 0
give_ups_from place (Some start) = files_past start.file place.file

-- those with which it leaves the group: the next ones, where its link data unit was acknowledged
abbrev pub place_after : Codes → UnitNumber → LduValue → Bool → UnitNumber
place_after c place u settled = if settled then number_after c place u else place

-- ---- plans

-- each link data unit is one of the profile
abbrev pub ArePlans : Contents → List Plan → Type 0
ArePlans p [] = Unit {0}
ArePlans p (plan ∷ plans) = IsLdu p plan.unit × ArePlans p plans

-- at the request of this entry no file is given up, and this link data unit is loaded
abbrev pub plain : ℕ → LduValue → Plan
plain at u = record { at = at; give_ups = 0; unit = u }

-- the first plan is one for this entry
abbrev pub begins_at : ℕ → List Plan → Bool
begins_at at [] = false
begins_at at (plan ∷ plans) = plan.at == at

-- what the source does before this entry, where these plans come next: at a request, the first plan where it is one for it
abbrev pub plan_for : Role → ℕ → List Plan → Option Plan
plan_for (Request n start) at plans = if begins_at at plans then slice_get plans 0 else None
plan_for _ at plans = None

-- the plans that come next after it
abbrev pub plans_left : Role → ℕ → List Plan → List Plan
plans_left (Request n start) at plans = if begins_at at plans then rest plans else plans
plans_left _ at plans = plans

-- those that come next after entries with these roles, the first of them entry `at`
abbrev pub plans_after : List Role → ℕ → List Plan → List Plan
plans_after [] at plans = plans
plans_after (r ∷ rs) at plans = plans_after rs (at + 1) (plans_left r at plans)
