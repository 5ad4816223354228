-- What the source does before each group of a recording, and the first doubt (profile).
use Rattle.std.specs.Prelude.{◌≡◌, ℕ, ◌+◌, ◌≤◌, ◌<◌, if◌then◌else◌, Option, Some, None, is_some, List, [], ◌∷◌, length, slice_get}
use Rattle.a429_profile.specs.declared.codes.Codes.{Codes}
use Rattle.a429_profile.specs.Profile.{Contents}
use Rattle.a429_ldu.specs.declared.forms.Form.{Form}
use Rattle.a429_ldu.specs.declared.forms.Form.TheVariants.{Sot}
use Rattle.a429_ldu.specs.Ldu.{LduValue}
use Rattle.a429_ldu.specs.Sight.{sight_of}
use Rattle.a429_link.specs.Clean.{AllFit, without_free, clean_blocks}
use Rattle.a429_link.specs.declared.seen.Seen.{Seen}
use Rattle.a429_explain.specs.declared.attempts.Role.{Role}
use Rattle.a429_explain.specs.declared.attempts.StartNumbers.{StartNumbers}
use Rattle.a429_explain.specs.declared.groups.Group.{Group}
use Rattle.a429_explain.specs.declared.groups.Request.{Request}
use Rattle.a429_explain.specs.declared.guess.Guess.{Guess}
use Rattle.a429_link.specs.declared.number.UnitNumber.{UnitNumber}
use Rattle.a429_explain.specs.declared.stop.Stop.{Stop}
use Rattle.a429_explain.specs.declared.stop.Stop.TheVariants.{Unexplained, OutOfMemory}
use Rattle.a429_explain.specs.declared.verdict.Doubt.{Doubt}
use Rattle.a429_explain.specs.declared.verdict.Doubt.TheVariants.{NotReplayed}
use Rattle.a429_explain.specs.Attempts.{next_start, roles}
use Rattle.a429_explain.specs.Block.{IsMatchedUnit, IsDoubtIn}
use Rattle.a429_explain.specs.Groups.{group_from, group_start, is_settled}
use Rattle.a429_explain.specs.Decoded.{HeardValue, sight_at, forms_of}
use Rattle.a429_link.specs.Number.{first_number}
use Rattle.a429_explain.specs.declared.plan.Plan.{Plan}
use Rattle.a429_explain.specs.Plan.{place_from, give_ups_from, place_after, ArePlans, plain}
use Rattle.a429_explain.specs.Whole.{wanted}

-- ---- the first numbers

-- the file number of a start word
abbrev pub started : Option Form → Option ℕ
started (Some (Sot gfi file ldu)) = Some file
started _ = None

abbrev pub file_of : Option StartNumbers → ℕ
file_of None = 0
file_of (Some n) = n.file

-- the file number of the first start word, or 0
abbrev pub first_file_of : List (Option Form) → ℕ
first_file_of forms = file_of (next_start forms)

-- the source begins with the first link data unit of the first start word's file, or of file 0
abbrev pub first_place : Contents → List Seen → UnitNumber
first_place p items = first_number p.codes (first_file_of (forms_of p.codes items))

-- ---- plans

-- the first request from place `at` on is here
pub record IsFirstRequest (c : Codes) (items : List Seen) (at from wants : ℕ) : Type 0 where
  pub follows : at ≤ from
  pub request : wanted (sight_at c (slice_get items from)) ≡ Some wants
  pub none : (k : ℕ) → at ≤ k → k < from → wanted (sight_at c (slice_get items k)) ≡ None

-- there is no request from place `at` on
abbrev pub IsNoRequestFrom : Codes → List Seen → ℕ → Type 0
IsNoRequestFrom c items at = (k : ℕ) → at ≤ k → wanted (sight_at c (slice_get items k)) ≡ None

-- the recording of these words
abbrev pub decoded : Contents → List Seen → HeardValue
decoded p items = record { profile = p; items = items }

-- the group that begins with the request at this place
abbrev pub request_at : List Role → ℕ → ℕ → Request
request_at rs from wants = record { group = group_from rs from; count = wants }

-- the numbers of a group, where the source comes to it with those of `place`
abbrev pub place_at_group : Codes → List Role → Group → UnitNumber → UnitNumber
place_at_group c rs g place = place_from c place (group_start rs g)

-- those with which it leaves the group, where this is its link data unit
abbrev pub place_past : Codes → List Role → Group → UnitNumber → LduValue → UnitNumber
place_past c rs g place u = place_after c (place_at_group c rs g place) u (is_settled rs g)

-- a recording under a profile, with the roles of its entries
pub record Annotated : Type 0 where
  pub profile : Contents
  pub items : List Seen
  pub roles : List Role

abbrev pub annotated : Contents → List Seen → List Role → Annotated
annotated p items rs = record { profile = p; items = items; roles = rs }

-- the plan of the first group from place `at` on: its first request, the files that are given up before it, and its link data
-- unit
pub record IsNextPlan (r : Annotated) (place : UnitNumber) (at : ℕ) (plan : Plan) : Type 0 where
  pub from : ℕ
  pub wants : ℕ
  pub at_is : plan.at ≡ from
  pub first : IsFirstRequest r.profile.codes r.items at from wants
  pub give_ups : plan.give_ups ≡ give_ups_from place (group_start r.roles (group_from r.roles from))
  pub is : IsMatchedUnit (decoded r.profile r.items) (request_at r.roles from wants) (place_at_group r.profile.codes r.roles (group_from r.roles from) place) plan.unit

-- the first groups from place `at` on, to the first of which the source comes with these numbers, have these plans; after
-- them this comes, at the numbers and the place that follow
abbrev pub ArePlansBefore : (UnitNumber → ℕ → Type 0) → Annotated → UnitNumber → ℕ → List Plan → Type 0
ArePlansBefore Comes r place at [] = Comes place at
ArePlansBefore Comes r place at (plan ∷ plans) =
    (next : IsNextPlan r place at plan)
    × ArePlansBefore Comes r (place_past r.profile.codes r.roles (group_from r.roles next.from) place plan.unit) (group_from r.roles next.from).to plans

-- all groups from place `at` on have
abbrev pub ArePlansOf : Annotated → UnitNumber → ℕ → List Plan → Type 0
ArePlansOf r place at plans = ArePlansBefore (λ numbers n. IsNoRequestFrom r.profile.codes r.items n) r place at plans

-- ---- doubts

-- the first group from place `at` on is doubted
pub record IsNextDoubt (r : Annotated) (i : ℕ) (doubt : Doubt) (place : UnitNumber) (at : ℕ) : Type 0 where
  pub from : ℕ
  pub wants : ℕ
  pub first : IsFirstRequest r.profile.codes r.items at from wants
  pub is : IsDoubtIn (decoded r.profile r.items) (request_at r.roles from wants) (place_at_group r.profile.codes r.roles (group_from r.roles from) place) i doubt

-- the groups before it pass their tests, and this group does not
pub record IsFirstDoubt (r : Annotated) (place : UnitNumber) (i : ℕ) (doubt : Doubt) : Type 0 where
  pub plans : List Plan
  pub are : ArePlansBefore (IsNextDoubt r i doubt) r place 0 plans

-- ---- a recording

abbrev pub HasFirstDoubt : Contents → List Seen → ℕ → Doubt → Type 0
HasFirstDoubt p items = IsFirstDoubt (annotated p items (roles (forms_of p.codes items))) (first_place p items)

-- each group passes its tests
pub record HasNoDoubt (p : Contents) (items : List Seen) : Type 0 where
  pub plans : List Plan
  pub are : ArePlansOf (annotated p items (roles (forms_of p.codes items))) (first_place p items) 0 plans

-- the doubts of all groups come before those of the steps
abbrev pub IsFirstStop : Contents → List Seen → Stop → Type 0
IsFirstStop p items (Unexplained i NotReplayed) = HasNoDoubt p items
IsFirstStop p items (Unexplained i doubt) = HasFirstDoubt p items i doubt
IsFirstStop p items OutOfMemory = Unit {0}

-- ---- a guess

-- each entry has a role, and each link data unit is one of the profile
pub record IsGuess (p : Contents) (items : List Seen) (g : Guess) : Type 0 where
  pub many : length g.roles.items ≡ length items
  pub plans : ArePlans p g.plans.items

-- ---- without loss

-- no file is given up before any request of these words, the places counted from k, and one of these units is loaded before
-- each, in their order
abbrev pub plain_plans : Codes → ℕ → List LduValue → List Seen → List Plan
plain_plans c k [] items = []
plain_plans c k (u ∷ us) [] = []
plain_plans c k (u ∷ us) (i ∷ items) = if is_some (wanted (sight_of c i.bus i.word)) then plain k u ∷ plain_plans c (k + 1) us items else plain_plans c (k + 1) (u ∷ us) items

-- the recorded words are, free ones left out, those of these link data units that cross without loss, the first of them
-- the first of this file
pub record HaveCrossed (h : HeardValue) (first : ℕ) (us : List LduValue) : Type 0 where
  pub fit : AllFit h.profile (first_number h.profile.codes first) us
  pub words : without_free h.profile.codes h.items ≡ clean_blocks h.profile.codes (first_number h.profile.codes first) us

-- the guess is the run in which link data units cross without loss whose words were recorded, with free words anywhere
pub record IsOfCrossing (h : HeardValue) (g : Guess) : Type 0 where
  pub units : List LduValue
  pub crossed : HaveCrossed h g.first_file units
  pub roles_are : g.roles.items ≡ roles (forms_of h.profile.codes h.items)
  pub plans_are : g.plans.items ≡ plain_plans h.profile.codes 0 units h.items
