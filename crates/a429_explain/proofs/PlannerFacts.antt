-- How far the groups of a recording are planned.
use Rattle.std.proofs.Common.{◌≡◌, ℕ, ◌+◌, ◌≤◌, List, [], ◌∷◌, ◌++◌, length, slice_get, Option, Some, None, inl, inr, refl, sym, ap, ◌∙◌, subst, arith, append-nil}
use Rattle.std.specs.Option.{IfSome}
use Rattle.std.proofs.lemmas.Bool.{cases_order}
use Rattle.std.proofs.lemmas.Option.{slice_get_past}
use Rattle.a429_ldu.specs.Ldu.{LduValue, IsLdu}
use Rattle.a429_link.specs.declared.seen.Seen.{Seen}
use Rattle.a429_link.specs.declared.number.UnitNumber.{UnitNumber}
use Rattle.a429_cert.specs.Change.{change}
use Rattle.a429_explain.specs.declared.groups.Group.{Group}
use Rattle.a429_explain.specs.declared.groups.Request.{Request}
use Rattle.a429_explain.specs.declared.plan.Plan.{Plan}
use Rattle.a429_explain.specs.declared.planner.Planner.{Planner}
use Rattle.a429_explain.specs.declared.stop.Stop.{Stop}
use Rattle.a429_explain.specs.declared.stop.Stop.TheVariants.{Unexplained, OutOfMemory}
use Rattle.a429_explain.specs.declared.verdict.Doubt.{Doubt}
use Rattle.a429_explain.specs.declared.verdict.Doubt.TheVariants.{NeverWhole, NotOneBlock, NotReplayed, OutOfSteps}
use Rattle.a429_explain.specs.Block.{IsMatchedUnit, IsDoubtIn, IsStopIn, HasCrossed}
use Rattle.a429_explain.specs.Decoded.{HeardValue, sight_at}
use Rattle.a429_explain.specs.Groups.{group_from, group_start}
use Rattle.a429_explain.specs.Plan.{give_ups_from}
use Rattle.a429_explain.specs.Guess.{Annotated, decoded, request_at, first_place, IsNoRequestFrom, IsFirstRequest, place_at_group, place_past, ArePlansBefore, IsNextDoubt, IsFirstStop, HasNoDoubt}
use Rattle.a429_explain.specs.Whole.{wanted}
use Rattle.a429_explain.specs.Planner.{with_roles, wanted_at, numbers_at, CrossesAt, HasCome, IsPlannedTo, PlansAt, PlansGroup, StopsAt}

-- ---- what comes behind plans

followed : (Comes Goes : UnitNumber → ℕ → Type 0) (r : Annotated) (place : UnitNumber) (at : ℕ) (us vs : List Plan)
    → ((q : UnitNumber) (n : ℕ) → Comes q n → ArePlansBefore Goes r q n vs) → ArePlansBefore Comes r place at us
    → ArePlansBefore Goes r place at (us ++ vs)
followed Comes Goes r place at [] vs on h = on place at h
followed Comes Goes r place at (u ∷ us) vs on h = (
  h.0,
  followed Comes Goes r (place_past r.profile.codes r.roles (group_from r.roles h.0.from) place u.unit)
      (group_from r.roles h.0.from).to us vs on h.1,
)

ended : (Comes Goes : UnitNumber → ℕ → Type 0) (r : Annotated) (place : UnitNumber) (at : ℕ) (us : List Plan)
    → ((q : UnitNumber) (n : ℕ) → Comes q n → Goes q n) → ArePlansBefore Comes r place at us → ArePlansBefore Goes r place at us
ended Comes Goes r place at us on h = subst (ArePlansBefore Goes r place at) (append-nil us) (followed Comes Goes r place at us [] on h)

-- ---- one entry after the other

abbrev pub looking : UnitNumber → ℕ → Planner
looking place next = record { place = place; next = next }

pub planned_none : (r : Annotated) (start : UnitNumber) → IsPlannedTo r start (record { place = start; next = 0 })
planned_none r start = record { plans = []; are = record { same = refl; follows = omega arith; none = λ k l m. absurd (omega arith) } }

-- past an entry that is no request
planned_free : (r : Annotated) (start place : UnitNumber) (at : ℕ)
    → wanted_at r at ≡ None → IsPlannedTo r start (looking place at) → IsPlannedTo r start (looking place (at + 1))
planned_free r start place at w h =
    record { plans = h.plans; are = ended (HasCome r (looking place at)) (HasCome r (looking place (at + 1))) r start 0 h.plans on h.are }
  where
    on : (q : UnitNumber) (n : ℕ) → HasCome r (looking place at) q n → HasCome r (looking place (at + 1)) q n
    on q n c = record {
      same = c.same;
      follows = omega (arith, c.follows);
      none = λ k l m. elim (cases_order k at) [
        | inl e ↦ subst (λ (j : ℕ). wanted_at r j ≡ None) (sym e) w
        | inr (inl n) ↦ c.none k l n
        | inr (inr n) ↦ absurd (omega arith)
      ];
    }

-- the request that the planner has come to is the next one
next_request : (r : Annotated) (s : Planner) (numbers : UnitNumber) (at from wants : ℕ)
    → s.next ≡ at → wanted_at r at ≡ Some wants → HasCome r s numbers from → IsFirstRequest r.profile.codes r.items from at wants
next_request r s numbers at from wants here w h =
    let follows = h.follows in
    record { follows = omega (arith, here, follows); request = w; none = λ k l m. h.none k l (omega (arith, here)) }

-- past a group
planned_group : (r : Annotated) (start : UnitNumber) (at : ℕ) (plan : Plan) (s t : Planner)
    → at ≤ s.next → PlansGroup r at plan (change s t) → IsPlannedTo r start s → IsPlannedTo r start t
planned_group r start at plan s t near h k =
    record { plans = k.plans ++ plan ∷ []; are = followed (HasCome r s) (HasCome r t) r start 0 k.plans (plan ∷ []) on k.are }
  where
    here : s.next ≡ at
    here = let follows = h.begins.follows in omega (arith, near, follows)

    on : (q : UnitNumber) (n : ℕ) → HasCome r s q n → ArePlansBefore (HasCome r t) r q n (plan ∷ [])
    on q n c = (
      record {
        from = at;
        wants = h.wants;
        at_is = h.at_is;
        first = next_request r s q at n h.wants here h.begins.request c;
        give_ups =
            subst (λ (m : UnitNumber). plan.give_ups ≡ give_ups_from m (group_start r.roles (group_from r.roles at)))
            (sym c.same) h.give_ups;
        is =
            subst (λ (m : UnitNumber). IsMatchedUnit (decoded r.profile r.items) (request_at r.roles at h.wants)
            (place_at_group r.profile.codes r.roles (group_from r.roles at) m) plan.unit)
            (sym c.same) h.unit;
      },
      subst (λ (m : Planner).
          HasCome r m (place_past r.profile.codes r.roles (group_from r.roles at) q plan.unit) (group_from r.roles at).to)
          (sym h.goes_on) (record {
            same = ap (λ (m : UnitNumber). place_past r.profile.codes r.roles (group_from r.roles at) m plan.unit) c.same;
            follows = omega arith;
            none = λ k l m. absurd (omega arith);
          }),
    )

-- past an entry
pub planned_on : (r : Annotated) (start : UnitNumber) (at : ℕ) (plan : Option Plan) (s t : Planner)
    → at ≤ s.next → PlansAt r at plan (change s t) → IsPlannedTo r start s → IsPlannedTo r start t
planned_on r start at None s t near (inl h) k = subst (IsPlannedTo r start) (sym h.1) k
planned_on r start at None s t near (inr h) k =
    let same : s.next ≡ at = let follows = h.0 in omega (arith, near, follows) in
    subst (IsPlannedTo r start) (sym h.2)
    (planned_free r start s.place at h.1 (subst (λ (n : ℕ). IsPlannedTo r start (looking s.place n)) same k))
planned_on r start at (Some plan) s t near h k = planned_group r start at plan s t near h k

-- ---- the end

-- all groups are planned
pub planned_all : (h : HeardValue) (s : Planner)
    → length h.items ≤ s.next → IsPlannedTo (with_roles h) (first_place h.profile h.items) s → HasNoDoubt h.profile h.items
planned_all h s l k = record {
  plans = k.plans;
  are = ended (HasCome r s) (λ numbers n. IsNoRequestFrom h.profile.codes h.items n) r (first_place h.profile h.items) 0 k.plans on k.are;
}
  where
    r : Annotated
    r = with_roles h

    past : (k : ℕ) → length h.items ≤ k → wanted (sight_at h.profile.codes (slice_get h.items k)) ≡ None
    past k o = ap (λ (s : Option Seen). wanted (sight_at h.profile.codes s)) (slice_get_past h.items k o)

    on : (q : UnitNumber) (n : ℕ) → HasCome r s q n → IsNoRequestFrom h.profile.codes h.items n
    on q n c = λ k m. elim (cases_order k s.next) [
      | inl e ↦ past k (omega (arith, e, l))
      | inr (inl o) ↦ c.none k m o
      | inr (inr o) ↦ past k (omega (arith, o, l))
    ]

-- or the next one fails a test
pub planned_stop : (h : HeardValue) (at : ℕ) (s : Planner) (stop : Stop) → at ≤ s.next → StopsAt (with_roles h) at s stop
    → IsPlannedTo (with_roles h) (first_place h.profile h.items) s → IsFirstStop h.profile h.items stop
planned_stop h at s stop near k planned = by stop k.is
  where
    r : Annotated
    r = with_roles h

    here : s.next ≡ at
    here = let follows = k.begins.follows in omega (arith, near, follows)

    doubted : (i : ℕ) (doubt : Doubt)
        → IsDoubtIn (decoded h.profile h.items) (request_at r.roles at k.wants)
        (place_at_group h.profile.codes r.roles (group_from r.roles at) s.place) i doubt
        → ArePlansBefore (IsNextDoubt r i doubt) r (first_place h.profile h.items) 0 planned.plans
    doubted i doubt is = ended (HasCome r s) (IsNextDoubt r i doubt) r (first_place h.profile h.items) 0 planned.plans on planned.are
      where
        on : (q : UnitNumber) (n : ℕ) → HasCome r s q n → IsNextDoubt r i doubt q n
        on q n c = record {
          from = at;
          wants = k.wants;
          first = next_request r s q at n k.wants here k.begins.request c;
          is =
              subst (λ (m : UnitNumber). IsDoubtIn (decoded h.profile h.items) (request_at r.roles at k.wants)
              (place_at_group h.profile.codes r.roles (group_from r.roles at) m) i doubt)
              (sym c.same) is;
        }

    by : (o : Stop)
        → IsStopIn (decoded h.profile h.items) (request_at r.roles at k.wants)
        (place_at_group h.profile.codes r.roles (group_from r.roles at) s.place) o
        → IsFirstStop h.profile h.items o
    by OutOfMemory is = tt
    by (Unexplained i NotReplayed) is = absurd is
    by (Unexplained i OutOfSteps) is = absurd is
    by (Unexplained i NeverWhole) is = record { plans = planned.plans; are = doubted i NeverWhole is }
    by (Unexplained i NotOneBlock) is = record { plans = planned.plans; are = doubted i NotOneBlock is }

-- the link data unit of a plan is one of the profile
pub planned_fits : (r : Annotated) (at : ℕ) (plan : Option Plan) (s t : Planner)
    → PlansAt r at plan (change s t) → IfSome plan (λ q. IsLdu r.profile q.unit)
planned_fits r at None s t h = tt
planned_fits r at (Some plan) s t h = h.unit.gives.unit

-- ---- the group that begins at an entry

moved : (F : Request → UnitNumber → Type 0) (wants : ℕ) (g h : Group) (m n : UnitNumber) → g ≡ h → m ≡ n
    → F (record { group = g; count = wants }) m → F (record { group = h; count = wants }) n
moved F wants g h m n same numbers x =
    subst (F (record { group = h; count = wants })) numbers (subst (λ (q : Group). F (record { group = q; count = wants }) m) same x)

-- what is found of it
pub record IsGroupAt (r : Annotated) (s : Planner) (at wants : ℕ) (g : Group) (numbers : UnitNumber) : Type 0 where
  pub follows : s.next ≤ at
  pub request : wanted_at r at ≡ Some wants
  pub group_is : g ≡ group_from r.roles at
  pub numbers_is : numbers ≡ place_at_group r.profile.codes r.roles g s.place

numbers_are : (r : Annotated) (s : Planner) (at wants : ℕ) (g : Group) (numbers : UnitNumber)
    → IsGroupAt r s at wants g numbers → numbers ≡ numbers_at r s at
numbers_are r s at wants g numbers h = h.numbers_is ∙ ap (λ (x : Group). place_at_group r.profile.codes r.roles x s.place) h.group_is

-- it is found again
not_moved : (r : Annotated) (s : Planner) (at wants : ℕ) (g : Group) (numbers : UnitNumber) (u : LduValue)
    → IsGroupAt r s at wants g numbers → CrossesAt r s at wants u
    → HasCrossed (decoded r.profile r.items) (record { group = g; count = wants }) numbers u
not_moved r s at wants g numbers u h =
    moved (λ q n. HasCrossed (decoded r.profile r.items) q n u) wants (group_from r.roles at) g (numbers_at r s at) numbers (sym h.group_is)
    (sym (numbers_are r s at wants g numbers h))

pub stops_at : (r : Annotated) (s : Planner) (at wants : ℕ) (g : Group) (numbers : UnitNumber) (stop : Stop)
    → IsGroupAt r s at wants g numbers → IsStopIn (decoded r.profile r.items) (record { group = g; count = wants }) numbers stop
    → ((u : LduValue) → HasCrossed (decoded r.profile r.items) (record { group = g; count = wants }) numbers u → stop ≡ OutOfMemory)
    → StopsAt r at s stop
stops_at r s at wants g numbers stop h is crossed = record {
  wants = wants;
  begins = record { follows = h.follows; request = h.request };
  is =
      moved (λ q n. IsStopIn (decoded r.profile r.items) q n stop) wants g (group_from r.roles at) numbers (numbers_at r s at) h.group_is
      (numbers_are r s at wants g numbers h) is;
  crossed = λ u k. crossed u (not_moved r s at wants g numbers u h k);
}

pub plans_group : (r : Annotated) (s t : Planner) (at wants : ℕ) (g : Group) (numbers : UnitNumber) (plan : Plan)
    → IsGroupAt r s at wants g numbers → plan.at ≡ at → plan.give_ups ≡ give_ups_from s.place (group_start r.roles g)
    → IsMatchedUnit (decoded r.profile r.items) (record { group = g; count = wants }) numbers plan.unit
    → ((u : LduValue) → HasCrossed (decoded r.profile r.items) (record { group = g; count = wants }) numbers u → plan.unit ≡ u)
    → t ≡ record { place = place_past r.profile.codes r.roles g s.place plan.unit; next = g.to } → PlansGroup r at plan (change s t)
plans_group r s t at wants g numbers plan h here gives is crossed goes_on = record {
  wants = wants;
  begins = record { follows = h.follows; request = h.request };
  at_is = here;
  give_ups = gives ∙ ap (λ (x : Group). give_ups_from s.place (group_start r.roles x)) h.group_is;
  unit =
      moved (λ q n. IsMatchedUnit (decoded r.profile r.items) q n plan.unit) wants g (group_from r.roles at) numbers
      (numbers_at r s at) h.group_is (numbers_are r s at wants g numbers h) is;
  crossed = λ u k. crossed u (not_moved r s at wants g numbers u h k);
  goes_on =
      subst (λ (x : Group). t ≡ record { place = place_past r.profile.codes r.roles x s.place plan.unit; next = x.to }) h.group_is goes_on;
}
