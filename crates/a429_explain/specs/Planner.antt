-- The plans of a recording's groups, one entry after the other (profile).
use Rattle.std.specs.Prelude.{◌≡◌, ◌≤◌, ◌<◌, ◌+◌, ◌⊎◌, ℕ, List, Option, Some, None, slice_get}
use Rattle.a429_ldu.specs.Ldu.{LduValue}
use Rattle.a429_link.specs.declared.number.UnitNumber.{UnitNumber}
use Rattle.a429_cert.specs.Change.{Change}
use Rattle.a429_explain.specs.declared.plan.Plan.{Plan}
use Rattle.a429_explain.specs.declared.planner.Planner.{Planner}
use Rattle.a429_explain.specs.declared.stop.Stop.{Stop}
use Rattle.a429_explain.specs.declared.stop.Stop.TheVariants.{OutOfMemory}
use Rattle.a429_explain.specs.Attempts.{roles}
use Rattle.a429_explain.specs.Block.{IsMatchedUnit, IsStopIn, HasCrossed}
use Rattle.a429_explain.specs.Decoded.{HeardValue, sight_at, forms_of}
use Rattle.a429_explain.specs.Groups.{group_from, group_start}
use Rattle.a429_explain.specs.Guess.{Annotated, annotated, decoded, request_at, place_at_group, place_past, ArePlansBefore}
use Rattle.a429_explain.specs.Plan.{give_ups_from}
use Rattle.a429_explain.specs.Whole.{wanted}

-- a recording with the roles of its entries
abbrev pub with_roles : HeardValue → Annotated
with_roles h = annotated h.profile h.items (roles (forms_of h.profile.codes h.items))

-- how many words the request of this entry asks for, if it is one
abbrev pub wanted_at : Annotated → ℕ → Option ℕ
wanted_at r at = wanted (sight_at r.profile.codes (slice_get r.items at))

-- the numbers of a group that begins at this entry
abbrev pub numbers_at : Annotated → Planner → ℕ → UnitNumber
numbers_at r s at = place_at_group r.profile.codes r.roles (group_from r.roles at) s.place

-- this link data unit crosses without loss in that group, whose first request asks for so many words
abbrev pub CrossesAt : Annotated → Planner → ℕ → ℕ → LduValue → Type 0
CrossesAt r s at wants u = HasCrossed (decoded r.profile r.items) (request_at r.roles at wants) (numbers_at r s at) u

-- a group begins at this entry, and its first request asks for so many words
pub record BeginsGroup (r : Annotated) (s : Planner) (at wants : ℕ) : Type 0 where
  pub follows : s.next ≤ at
  pub request : wanted_at r at ≡ Some wants

-- this is its plan, and the next group is looked for from its end on
pub record PlansGroup (r : Annotated) (at : ℕ) (plan : Plan) (s : Change Planner) : Type 0 where
  pub wants : ℕ
  pub begins : BeginsGroup r s.old at wants
  pub at_is : plan.at ≡ at
  pub give_ups : plan.give_ups ≡ give_ups_from s.old.place (group_start r.roles (group_from r.roles at))
  pub unit : IsMatchedUnit (decoded r.profile r.items) (request_at r.roles at wants) (numbers_at r s.old at) plan.unit
  pub crossed : (u : LduValue) → CrossesAt r s.old at wants u → plan.unit ≡ u
  pub goes_on : s.new ≡ record { place = place_past r.profile.codes r.roles (group_from r.roles at) s.old.place plan.unit; next = (group_from r.roles at).to }

-- no group begins at this entry: it is one of the last group, or no request
abbrev pub PlansNone : Annotated → ℕ → Change Planner → Type 0
PlansNone r at s = ((at < s.old.next) × (s.new ≡ s.old)) ⊎ ((s.old.next ≤ at) × (wanted_at r at ≡ None) × (s.new ≡ record { place = s.old.place; next = at + 1 }))

-- what the source does before this entry, by the plan of the group that begins there
abbrev pub PlansAt : Annotated → ℕ → Option Plan → Change Planner → Type 0
PlansAt r at None s = PlansNone r at s
PlansAt r at (Some plan) s = PlansGroup r at plan s

-- the group that begins at this entry fails a test, or memory is refused; where its link data unit crosses without loss, it is
-- memory
pub record StopsAt (r : Annotated) (at : ℕ) (s : Planner) (stop : Stop) : Type 0 where
  pub wants : ℕ
  pub begins : BeginsGroup r s at wants
  pub is : IsStopIn (decoded r.profile r.items) (request_at r.roles at wants) (numbers_at r s at) stop
  pub crossed : (u : LduValue) → CrossesAt r s at wants u → stop ≡ OutOfMemory

-- ---- the groups before an entry

-- after the last group come these numbers and this entry; from there to where the planner looks on there is no request
pub record HasCome (r : Annotated) (s : Planner) (numbers : UnitNumber) (from : ℕ) : Type 0 where
  pub same : numbers ≡ s.place
  pub follows : from ≤ s.next
  pub none : (k : ℕ) → from ≤ k → k < s.next → wanted_at r k ≡ None

-- where the source begins with the first numbers, the groups before the planner's next entry have plans
pub record IsPlannedTo (r : Annotated) (start : UnitNumber) (s : Planner) : Type 0 where
  pub plans : List Plan
  pub are : ArePlansBefore (HasCome r s) r start 0 plans
