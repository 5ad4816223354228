-- The plans that are made of a recording without loss are those of its run.
use Rattle.std.proofs.Common.{◌≡◌, ℕ, suc, ◌+◌, ◌≤◌, ◌<◌, ◌==◌, Bool, true, false, cond, List, [], ◌∷◌, ◌++◌, length, take, drop, get_or, slice_get, Option, Some, None, is_some, inl, inr, refl, sym, ap, ◌∙◌, subst, arith, eq-eqb}
use Rattle.std.proofs.Math.Seq.{take-suc}
use Rattle.std.proofs.lemmas.Bool.{ne_eqb}
use Rattle.std.proofs.lemmas.Option.{slice_get_within, get_or_from_slice_get}
use Rattle.a429_profile.specs.declared.codes.Codes.{Codes}
use Rattle.a429_profile.specs.Profile.{Contents, IsProfile}
use Rattle.a429_ldu.specs.declared.forms.Form.{Form}
use Rattle.a429_ldu.specs.declared.forms.Form.TheVariants.{Rts, Cts, Ack, Nak, Sot, Part, Eot}
use Rattle.a429_ldu.specs.declared.sight.Sight.TheVariants as sight
use Rattle.a429_ldu.specs.Form.{form_of, is_free}
use Rattle.a429_ldu.specs.Sight.{sight_of, sight_in}
use Rattle.a429_ldu.specs.Ldu.{LduValue}
use Rattle.a429_link.specs.declared.number.UnitNumber.{UnitNumber}
use Rattle.a429_explain.specs.declared.attempts.StartNumbers.{StartNumbers}
use Rattle.a429_link.specs.declared.seen.Seen.{Seen}
use Rattle.a429_link.specs.Link.{LinkValue}
use Rattle.a429_link.specs.Number.{first_number}
use Rattle.a429_link.specs.Run.{IsRun}
use Rattle.a429_link.specs.State.{start, rest}
use Rattle.a429_cert.specs.Change.{change}
use Rattle.a429_explain.specs.declared.attempts.Role.{Role}
use Rattle.a429_explain.specs.declared.attempts.Role.TheVariants.{Request}
use Rattle.a429_explain.specs.declared.plan.Plan.{Plan}
use Rattle.a429_explain.specs.declared.planner.Planner.{Planner}
use Rattle.a429_explain.specs.declared.stop.Stop.{Stop}
use Rattle.a429_explain.specs.declared.stop.Stop.TheVariants.{OutOfMemory}
use Rattle.a429_explain.specs.Attempts.{attempt_start, role_of, roles}
use Rattle.a429_explain.specs.Block.{HasCrossed}
use Rattle.a429_explain.specs.Decoded.{forms_of, sight_at}
use Rattle.a429_explain.specs.Groups.{group_from}
use Rattle.a429_explain.specs.Guess.{decoded, request_at, place_past, plain_plans, HaveCrossed}
use Rattle.a429_explain.specs.Plan.{plain, begins_at, plan_for, plans_left}
use Rattle.a429_explain.specs.Planner.{with_roles, wanted_at, PlansAt, PlansGroup, StopsAt}
use Rattle.a429_explain.specs.Scribe.{IsLossless, lossless_steps, link_after}
use Rattle.a429_explain.specs.Whole.{wanted}
use Rattle.a429_explain.proofs.CrossedUnits.{IsLeft, left_all, left_free, left_group, plans_free, next_group, next_place, next_plan, next_number_is}
use Rattle.a429_explain.proofs.ScribeWithoutLoss.{OnPlan, Goes, role_in, role_at, plan_starts, plan_next, plan_kept, goes_run, goes_lossless}

-- the entries up to the next one
pub items_next : (items : List Seen) (n : ℕ) (i : Seen) → slice_get items n ≡ Some i → take n items ++ i ∷ [] ≡ take (n + 1) items
items_next items n i e =
    let one : n + 1 ≡ suc n = omega arith in
    rw one
    (sym (take-suc items n i (slice_get_within items n i e)
    ∙ ap (λ (x : Seen). take n items ++ x ∷ []) (get_or_from_slice_get items n i i e)))

-- ---- the plan of an entry

-- it is the one for this entry, where these plans come next
pub record IsPlanOf (r : Role) (n : ℕ) (plan : Option Plan) (plans left : List Plan) : Type 0 where
  pub is : plan ≡ plan_for r n plans
  pub left_is : left ≡ plans_left r n plans

no_plan : (r : Role) (n : ℕ) (plans : List Plan) → begins_at n plans ≡ false → IsPlanOf r n None plans plans
no_plan (Request k start) n plans e = record {
  is = sym (ap (λ (t : Bool). cond t (slice_get plans 0) None) e);
  left_is = sym (ap (λ (t : Bool). cond t (rest plans) plans) e);
}
no_plan _ n plans e = record { is = refl; left_is = refl }

its_plan : (r : Role) (k : ℕ) (start : Option StartNumbers) (n : ℕ) (u : LduValue) (more : List Plan)
    → r ≡ Request k start → IsPlanOf r n (Some (plain n u)) (plain n u ∷ more) more
its_plan r k start n u more e =
    let here : (n == n) ≡ true = eq-eqb n n refl in
    subst (λ q. IsPlanOf q n (Some (plain n u)) (plain n u ∷ more) more) (sym e) (record {
      is = sym (ap (λ (t : Bool). cond t (Some (plain n u)) None) here);
      left_is = sym (ap (λ (t : Bool). cond t more (plain n u ∷ more)) here);
    })

-- plans from a later entry on are none for this one
begins_later : (c : Codes) (n k : ℕ) (us : List LduValue) (items : List Seen) → n < k → begins_at n (plain_plans c k us items) ≡ false
begins_later c n k [] items l = refl
begins_later c n k (u ∷ us) [] l = refl
begins_later c n k (u ∷ us) (i ∷ items) l =
    by (is_some (wanted (sight_of c i.bus i.word))) (begins_later c n (k + 1) (u ∷ us) items (omega (arith, l)))
  where
    by : (t : Bool) → begins_at n (plain_plans c (k + 1) (u ∷ us) items) ≡ false
        → begins_at n (cond t (plain k u ∷ plain_plans c (k + 1) us items) (plain_plans c (k + 1) (u ∷ us) items)) ≡ false
    by true more = ne_eqb k n (λ e. omega (arith, l, e))
    by false more = more

-- a request is one to the steps
asks_role : (c : Codes) (i : Seen) (more : List (Option Form)) (n : ℕ)
    → wanted (sight_of c i.bus i.word) ≡ Some n → role_of (form_of c i.bus i.word) more ≡ Request n (attempt_start more)
asks_role c i more n e = by (is_free c i.bus i.word) (form_of c i.bus i.word) e
  where
    by : (t : Bool) (o : Option Form) → wanted (cond t sight.Free (sight_in o)) ≡ Some n → role_of o more ≡ Request n (attempt_start more)
    by true o e = absurd (cc e)
    by false None e = absurd (cc e)
    by false (Some (Rts k)) e = let same : k ≡ n = cc e in ap (λ (m : ℕ). Request m (attempt_start more)) same
    by false (Some (Cts k)) e = absurd (cc e)
    by false (Some (Ack f l)) e = absurd (cc e)
    by false (Some (Nak b)) e = absurd (cc e)
    by false (Some (Sot g f l)) e = absurd (cc e)
    by false (Some (Part s)) e = absurd (cc e)
    by false (Some (Eot f k)) e = absurd (cc e)

-- ---- the plans that are still to be made

abbrev pub left_plans : (p : Contents) (items : List Seen) (place : UnitNumber) (at : ℕ) → IsLeft p items place at → List Plan
left_plans p items place at h = plain_plans p.codes at h.rest (drop at items)

-- this is the first of them, if it is for this entry, and the others are still to be made
record GoesOn (p : Contents) (items : List Seen) (r : Role) (at : ℕ) (plan : Option Plan) (plans : List Plan) (t : Planner) : Type 0 where
  left : IsLeft p items t.place t.next
  its : IsPlanOf r at plan plans (left_plans p items t.place t.next left)

-- from the entry on that the planner has come to
at_entry : (p : Contents) (items : List Seen) (r : Role) (at : ℕ) (plan : Option Plan) (s t : Planner)
    → s.next ≡ at → ((h : IsLeft p items s.place at) → GoesOn p items r at plan (left_plans p items s.place at h) t)
    → (h : IsLeft p items s.place s.next) → GoesOn p items r at plan (left_plans p items s.place s.next h) t
at_entry p items r at plan s t same on =
    subst (λ (n : ℕ). (h : IsLeft p items s.place n) → GoesOn p items r at plan (left_plans p items s.place n h) t) (sym same) on

goes_free : (p : Contents) → IsProfile p → (items : List Seen) (r : Role) (at : ℕ) (place : UnitNumber) → at < length items
    → wanted_at (with_roles (decoded p items)) at ≡ None → (h : IsLeft p items place at)
    → GoesOn p items r at None (left_plans p items place at h) (record { place = place; next = at + 1 })
goes_free p is items r at place inside w h =
    let left = plain_plans p.codes (at + 1) h.rest (drop (at + 1) items) in
    record {
      left = left_free p is items place at inside w h;
      its =
          subst (λ (plans : List Plan). IsPlanOf r at None plans left) (sym (plans_free p.codes items h.rest at inside w))
          (no_plan r at left (begins_later p.codes at (at + 1) h.rest (drop (at + 1) items) (omega arith)));
    }

goes_group : (p : Contents)
    → IsProfile p → (items : List Seen) (i : Seen) (r : Role) (at : ℕ) (plan : Plan) (s t : Planner) → slice_get items at ≡ Some i
    → r ≡ role_in p.codes i (drop (suc at) items) → PlansGroup (with_roles (decoded p items)) at plan (change s t)
    → (h : IsLeft p items s.place at) → GoesOn p items r at (Some plan) (left_plans p items s.place at h) t
goes_group p is items i r at plan s t here role k h =
    let rs = roles (forms_of p.codes items) in
    let q = request_at rs at k.wants in
    let next = next_group p is items s.place at k.wants (slice_get_within items at i here) k.begins.request h in
    let same : plan.unit ≡ next.unit =
    k.crossed next.unit
    (subst (λ (n : UnitNumber). HasCrossed (decoded p items) q n next.unit)
    (sym (next_place p items rs h.rest s.place q next)) next.crossed) in
    let planned : plan ≡ plain at next.unit = next_plan p items rs h.rest s.place q plan next k.at_is k.give_ups same in
    let after = next_number_is p items rs h.rest s.place q plan.unit next same in
    let asks : wanted (sight_of p.codes i.bus i.word) ≡ Some k.wants =
    ap (λ (o : Option Seen). wanted (sight_at p.codes o)) (sym here) ∙ k.begins.request in
    let more = plain_plans p.codes (group_from rs at).to next.more (drop (group_from rs at).to items) in
    let its =
    its_plan r k.wants (attempt_start (forms_of p.codes (drop (suc at) items))) at next.unit more
    (role ∙ asks_role p.codes i (forms_of p.codes (drop (suc at) items)) k.wants asks) in
    subst (λ (m : Planner). GoesOn p items r at (Some plan) (left_plans p items s.place at h) m) (sym k.goes_on) (record {
      left = left_group p items rs h.rest s.place (place_past p.codes rs (group_from rs at) s.place plan.unit) q next after;
      its =
          subst (λ (x : Plan). IsPlanOf r at (Some x) (left_plans p items s.place at h) more) (sym planned)
          (subst (λ (plans : List Plan). IsPlanOf r at (Some (plain at next.unit)) plans more) (sym next.plans) its);
    })

goes_on : (p : Contents)
    → IsProfile p → (items : List Seen) (i : Seen) (r : Role) (at : ℕ) (plan : Option Plan) (s t : Planner) → slice_get items at ≡ Some i
    → r ≡ role_in p.codes i (drop (suc at) items) → at ≤ s.next → PlansAt (with_roles (decoded p items)) at plan (change s t)
    → (h : IsLeft p items s.place s.next) → GoesOn p items r at plan (left_plans p items s.place s.next h) t
goes_on p is items i r at None s t here role near (inl k) h =
    let plans = left_plans p items s.place s.next h in
    subst (GoesOn p items r at None plans) (sym k.1)
    (record { left = h; its = no_plan r at plans (begins_later p.codes at s.next h.rest (drop s.next items) k.0) })
goes_on p is items i r at None s t here role near (inr k) h =
    let same : s.next ≡ at = let follows = k.0 in omega (arith, near, follows) in
    subst (GoesOn p items r at None (left_plans p items s.place s.next h)) (sym k.2)
    (at_entry p items r at None s (record { place = s.place; next = at + 1 }) same
    (goes_free p is items r at s.place (slice_get_within items at i here) k.1) h)
goes_on p is items i r at (Some plan) s t here role near k h =
    let same : s.next ≡ at = let follows = k.begins.follows in omega (arith, near, follows) in
    at_entry p items r at (Some plan) s t same (goes_group p is items i r at plan s t here role k) h

-- ---- a recording without loss

-- from this entry on it is that of a run without loss that goes on from the link, with the plans that are still to be made
pub record IsOnPlan (p : Contents) (items : List Seen) (at : ℕ) (s : Planner) (l : LinkValue) : Type 0 where
  pub left : IsLeft p items s.place s.next
  pub on : OnPlan p (drop at items) at (left_plans p items s.place s.next left) l

pub on_plan_first : (p : Contents) → IsProfile p → (items : List Seen) (first : ℕ) (us : List LduValue) (l : LinkValue) → first ≤ 255
    → HaveCrossed (decoded p items) first us → l ≡ record { profile = p; state = start p first }
    → IsOnPlan p items 0 (record { place = first_number p.codes first; next = 0 }) l
on_plan_first p is items first us l f h same =
    record { left = left_all p items first us f h; on = plan_starts p is items first us l f h same }

-- the steps of its next entry can be made, and it goes on after them
pub record IsWritten (p : Contents) (items : List Seen) (i : Seen) (r : Role) (at : ℕ) (plan : Option Plan) (t : Planner)
    (l : LinkValue) : Type 0 where
  pub lossless : IsLossless r plan
  pub run : IsRun l.profile (lossless_steps r i plan) l.state
  pub more : (m : LinkValue) → m ≡ link_after (lossless_steps r i plan) l → IsOnPlan p items (at + 1) t m

pub on_plan_next : (p : Contents) → IsProfile p
    → (items : List Seen) (i : Seen) (r : Role) (at : ℕ) (plan : Option Plan) (s t : Planner) (l : LinkValue) → slice_get items at ≡ Some i
    → r ≡ get_or (roles (forms_of p.codes items)) at r → at ≤ s.next → PlansAt (with_roles (decoded p items)) at plan (change s t)
    → l.profile ≡ p → IsOnPlan p items at s l → IsWritten p items i r at plan t l
on_plan_next p is items i r at plan s t l here its near k same h =
    let inside = slice_get_within items at i here in
    let item : get_or items at i ≡ i = get_or_from_slice_get items at i i here in
    let role : r ≡ role_in p.codes i (drop (suc at) items) =
    its ∙ role_at p.codes items at i r inside ∙ ap (λ (x : Seen). role_in p.codes x (drop (suc at) items)) item in
    let plans = left_plans p items s.place s.next h.left in
    let more = drop (at + 1) items in
    let found = goes_on p is items i r at plan s t here role near k h.left in
    let goes : Goes p i more at r plans l =
    plan_next p items at i r (roles (forms_of p.codes items)) plans l inside (sym item) refl its h.on in
    record {
      lossless = goes_lossless p i more at r plan plans l found.its.is goes;
      run = goes_run p i more at r plan plans l same found.its.is goes;
      more = λ m made. record {
        left = found.left;
        on = plan_kept p i more at r plan plans (left_plans p items t.place t.next found.left) l m goes found.its.is found.its.left_is made;
      };
    }

-- no group of it fails a test
pub on_plan_stop : (p : Contents) → IsProfile p → (items : List Seen) (at : ℕ) (s : Planner) (stop : Stop) → at < length items → at ≤ s.next
    → StopsAt (with_roles (decoded p items)) at s stop → IsLeft p items s.place s.next → stop ≡ OutOfMemory
on_plan_stop p is items at s stop inside near k h =
    let same : s.next ≡ at = let follows = k.begins.follows in omega (arith, near, follows) in
    by (subst (IsLeft p items s.place) same h)
  where
    by : IsLeft p items s.place at → stop ≡ OutOfMemory
    by left =
        let rs = roles (forms_of p.codes items) in
        let q = request_at rs at k.wants in
        let next = next_group p is items s.place at k.wants inside k.begins.request left in
        k.crossed next.unit
        (subst (λ (n : UnitNumber). HasCrossed (decoded p items) q n next.unit)
        (sym (next_place p items rs left.rest s.place q next)) next.crossed)
