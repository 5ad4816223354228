-- That hypotheses make nothing up: what they say of the last attempt is the end of an assignment of all.
use Rattle.std.proofs.Common.{◌≡◌, ◌↔◌, ◌⊎◌, ℕ, zero, suc, ◌+◌, ◌≤◌, Bool, true, false, List, [], ◌∷◌, ◌++◌, length, take, Option, Some, None, IfSome, is_some, slice_get, refl, sym, ap, ◌∙◌, subst, inl, inr, arith}
use Rattle.std.proofs.lemmas.List.{take_all}
use Rattle.a429_word.proofs.ListFacts.{next_item, some_within}
use Rattle.a429_profile.specs.Profile.{Contents, IsProfile}
use Rattle.a429_profile.specs.declared.codes.Codes.{Codes}
use Rattle.a429_ldu.specs.Ldu.{LduValue}
use Rattle.a429_link.specs.declared.number.UnitNumber.{UnitNumber}
use Rattle.a429_link.specs.declared.seen.Seen.{Seen}
use Rattle.a429_link.specs.Assignment.{AreAssigned, Assigned, ComesTo, GoOnAssigned, IsAssignable, IsNext, IsOf, IsSound}
use Rattle.a429_link.specs.Attempt.{Attempt, attempts, latest}
use Rattle.a429_link.specs.Run.{BeginsARun}
use Rattle.a429_link.specs.Observer.{AllowsNext, AreAllowed, at_first, observed}
use Rattle.a429_link.proofs.ObserverMore.{allowed_push}
use Rattle.a429_link.proofs.RunAssigned.{next_comes}
use Rattle.a429_explain.specs.Walk.{AreAllowedUpTo}
use Rattle.a429_search.specs.declared.attempts.Attempt as kept
use Rattle.a429_search.specs.declared.attempts.StartWord.{StartWord}
use Rattle.a429_search.specs.declared.groups.Group.{Group}
use Rattle.a429_search.specs.declared.searching.Hypothesis.{Hypothesis}
use Rattle.a429_search.specs.declared.standing.Standing.{Standing}
use Rattle.a429_search.specs.declared.standing.Ways.{Ways}
use Rattle.a429_merge.specs.Block.{MayBeUnitOf}
use Rattle.a429_search.specs.Frontier.{AddCarried, AreCarried, AreHeard, AreSame, CanSend, FitsGroup, FitsSome, IsCarriedFrom, IsHeardBy, IsReal, IsStart, LeadsBy, SomeSays, TakesOn}
use Rattle.a429_search.specs.Recorded.{IsAttemptFrom, IsWholeIfHeard, MayBeOf, MayBeTo, number_of}
use Rattle.a429_search.specs.Standing.{CanBe, CanComeTo, CanStand, IsInRange, IsNamed, IsRegular, MakeNothingUp, all_give_ups, past}
use Rattle.a429_search.proofs.FrontierFacts.{CanReach, in_range}
use Rattle.a429_contradiction.proofs.RivalFacts.{get_push}
use Rattle.a429_search.proofs.ShapeFacts.{heard_whole, is_of}
use Rattle.a429_search.proofs.StandingFacts.{can_first, can_now, range_now}

-- ---- the first words of those that are allowed

pub allowed_first : (p : Contents) (items : List Seen) (n : ℕ)
    → n ≤ length items → AreAllowedUpTo p items n → AreAllowed p at_first (take n items)
allowed_first p items zero l h = tt
allowed_first p items (suc n) l h =
    let i = some_within items n l in
    subst (AreAllowed p at_first) (sym (next_item n i.0 items i.1))
    (allowed_push p (take n items) i.0 at_first (allowed_first p items n (omega (arith, l)) (λ k less. h k (omega (arith, less))))
    (subst (AllowsNext p (observed p (take n items) at_first)) i.1 (h n (omega arith))))

-- ---- along the attempts

reach_push : (p : Contents) (last : Option Assigned) (acked : Bool) (done : List Attempt) (now : Option Assigned) (ok : Bool) (t : Assigned)
    (a : Attempt)
    → CanReach p last acked done now ok → IsSound p t → IsNext p.codes now ok t → IsOf p (Some t) a
    → CanReach p last acked (done ++ a ∷ []) (Some t) (is_some a.acked)
reach_push p last acked [] now ok t a (same, was) sound next of = (
  t,
  sound,
  subst (λ (b : Bool). IsNext p.codes last b t) was (subst (λ (o : Option Assigned). IsNext p.codes o ok t) same next),
  of,
  (refl, refl),
)
reach_push p last acked (b ∷ done) now ok t a (u, s, n, o, rest) sound next of =
    (u, s, n, o, reach_push p (Some u) (is_some b.acked) done now ok t a rest sound next of)

reach_units : (p : Contents) (last : Option Assigned) (acked : Bool) (done : List Attempt) (now : Option Assigned) (ok : Bool)
    → CanReach p last acked done now ok → (units : List Assigned) × AreAssigned p last acked done units
reach_units p last acked [] now ok h = ([], tt)
reach_units p last acked (a ∷ done) now ok (t, sound, next, of, rest) =
    let more = reach_units p (Some t) (is_some a.acked) done now ok rest in
    (t ∷ more.0, (sound, next, of, more.1))

-- all these attempts can be assigned so that the last of them is assigned to `now`. The first is what was recorded before the first request
abbrev pub ReachesTo : Contents → List Attempt → Option Assigned → Bool → Type 0
ReachesTo p [] now ok = ⊥
ReachesTo p (before ∷ done) now ok = CanReach p None (is_some before.acked) done now ok

to_push : (p : Contents) (all : List Attempt) (now : Option Assigned) (ok : Bool) (t : Assigned) (a : Attempt) → ReachesTo p all now ok
    → IsSound p t → IsNext p.codes now ok t → IsOf p (Some t) a → ReachesTo p (all ++ a ∷ []) (Some t) (is_some a.acked)
to_push p [] now ok t a h sound next of = absurd h
to_push p (before ∷ done) now ok t a h sound next of = reach_push p None (is_some before.acked) done now ok t a h sound next of

assigned : (p : Contents) (all : List Attempt) (now : Option Assigned) (ok : Bool)
    → ReachesTo p all now ok → (units : List Assigned) × GoOnAssigned p None all units
assigned p [] now ok h = absurd h
assigned p (before ∷ done) now ok h =
    let units = reach_units p None (is_some before.acked) done now ok h in
    (units.0, (tt, units.1))

-- ---- what hypotheses say

-- without a group: the attempts can be assigned so, and from there the source comes to what the hypothesis says
pub record WaitsAt (p : Contents) (all : List Attempt) (ok : Bool) (s : Standing) : Type 0 where
  pub now : Option Assigned
  pub reaches : ReachesTo p all now ok
  pub comes : (t : Assigned) → IsSound p t → CanStand p.codes.first_ldu s t.number t.give_ups → ComesTo p.codes now ok t.number t.give_ups

abbrev pub HasReached : Contents → List Attempt → Bool → Standing → Option Group → Type 0
HasReached p all ok s None = WaitsAt p all ok s
HasReached p all ok s (Some g) = (t : Assigned) → IsSound p t → CanSend p s (Some g) t → ReachesTo p all (Some t) ok

-- each hypothesis makes nothing up
abbrev pub AreSure : Contents → List Attempt → Bool → List Hypothesis → Type 0
AreSure p all ok hyps = (k : ℕ) (h : Hypothesis)
    → slice_get hyps k ≡ Some h → IsReal p h.standing h.group × HasReached p all ok h.standing h.group

-- from one attempt to the next
module _ (p : Contents) (all : List Attempt) (ok : Bool) (a : Attempt) (t : Assigned) (sound : IsSound p t) (of : IsOf p (Some t) a) where
  lead : (s : Standing) (o : Option Group)
      → HasReached p all ok s o → LeadsBy p s o t → ReachesTo p (all ++ a ∷ []) (Some t) (is_some a.acked)
  lead s None w l = to_push p all w.now ok t a w.reaches sound (next_comes p.codes w.now ok t (w.comes t sound l)) of
  lead s (Some g) f (inl can) = to_push p all (Some t) ok t a (f t sound can) sound (inl refl) of
  lead s (Some g) f (inr (t0, s0, can, up)) = to_push p all (Some t0) ok t a (f t0 s0 can) sound (inr (inl up)) of

sure_carried : (p : Contents) (all : List Attempt) (ok : Bool) (a : Attempt) (b : kept.Attempt) (hyps next : List Hypothesis)
    → AreSure p all ok hyps → AreCarried p hyps b next → ((t : Assigned) → MayBeTo p b t → IsOf p (Some t) a)
    → AreSure p (all ++ a ∷ []) (is_some a.acked) next
sure_carried p all ok a b hyps next sure carried of k h at =
    let c = carried k h at in (
      c.from.real,
      by h.group c.from.group (λ t sound can.
          let comes = c.from.comes t sound can in
          lead p all ok a t sound (of t comes.0) c.hypothesis.standing c.hypothesis.group (sure c.place c.hypothesis c.is).1 comes.1),
    )
  where
    by : (o : Option Group) → is_some o ≡ true
        → ((t : Assigned) → IsSound p t → CanSend p h.standing o t → ReachesTo p (all ++ a ∷ []) (Some t) (is_some a.acked))
        → HasReached p (all ++ a ∷ []) (is_some a.acked) h.standing o
    by None e f = absurd (cc e)
    by (Some g) e f = f

-- what one of them says
said : (p : Contents) (all : List Attempt) (ok : Bool) (t : Assigned) → IsSound p t → (s : Standing) (o : Option Group) → is_some o ≡ true
    → CanSend p s o t → HasReached p all ok s o → ReachesTo p all (Some t) ok
said p all ok t sound s None e can f = absurd (cc e)
said p all ok t sound s (Some g) e can f = f t sound can

sure_heard : (p : Contents) (all : List Attempt) (ok : Bool) (next hyps : List Hypothesis)
    → ok ≡ true → AreSure p all ok next → AreHeard p next hyps → AreSure p all ok hyps
sure_heard p all ok next hyps good sure heard k h at = (let both = heard k h at in (both.0, by h.standing h.group both.1))
  where
    some : (t : Assigned) → IsSound p t → SomeSays p next t → ReachesTo p all (Some t) ok
    some t sound s = said p all ok t sound s.hypothesis.standing s.hypothesis.group s.group s.says (sure s.place s.hypothesis s.is).1

    by : (s : Standing) (o : Option Group) → IsHeardBy p next s o → HasReached p all ok s o
    by s None (last, sound, says, leaves) = record {
      now = Some last;
      reaches = some last sound says;
      comes = λ t is can. subst (λ (b : Bool). ComesTo p.codes (Some last) b t.number t.give_ups) (sym good) (leaves t is can);
    }
    by s (Some g) f = λ t sound can. some t sound (f t sound can)

sure_same : (p : Contents) (all : List Attempt) (ok : Bool) (old new : List Hypothesis)
    → AreSure p all ok old → AreSame old new → AreSure p all ok new
sure_same p all ok old new sure same k h at =
    let s = same k h at in
    let was = sure s.0 s.1 s.2 in (
      subst (λ (x : Standing). IsReal p x h.group) (sym s.3) (subst (IsReal p s.1.standing) (sym s.4) was.0),
      subst (λ (x : Standing). HasReached p all ok x h.group) (sym s.3) (subst (HasReached p all ok s.1.standing) (sym s.4) was.1),
    )

-- the attempt as a whole
pub sure_on : (p : Contents) (all : List Attempt) (ok : Bool) (a : Attempt) (b : kept.Attempt) (hyps new : List Hypothesis)
    → is_some b.acknowledged ≡ is_some a.acked → AreSure p all ok hyps → TakesOn p hyps b new
    → ((t : Assigned) → MayBeTo p b t → IsOf p (Some t) a) → AreSure p (all ++ a ∷ []) (is_some a.acked) new
sure_on p all ok a b hyps new acked sure takes of =
    sure_same p (all ++ a ∷ []) (is_some a.acked) takes.heard new (by takes.after) takes.same
  where
    carried : AreCarried p hyps b takes.next
    carried = takes.carried (λ k h at. (sure k h at).0)

    next : AreSure p (all ++ a ∷ []) (is_some a.acked) takes.next
    next = sure_carried p all ok a b hyps takes.next sure carried of

    by : (takes.heard ≡ takes.next)
        ⊎ ((is_some b.acknowledged ≡ true) × (AreCarried p hyps b takes.next → AreHeard p takes.next takes.heard))
        → AreSure p (all ++ a ∷ []) (is_some a.acked) takes.heard
    by (inl same) = subst (AreSure p (all ++ a ∷ []) (is_some a.acked)) (sym same) next
    by (inr (good, heard)) = sure_heard p (all ++ a ∷ []) (is_some a.acked) takes.next takes.heard (sym acked ∙ good) next (heard carried)

-- ---- that there is an assignment

-- something that a hypothesis with a group says
pub says_some : (p : Contents) (s : Standing) (g : Group) → IsReal p s (Some g) → (t : Assigned) × IsSound p t × CanSend p s (Some g) t
says_some p s g real = by s.known refl
  where
    first : ℕ
    first = p.codes.first_ldu

    few : all_give_ups s ≤ 127
    few = real.standing.few

    by : (o : Option UnitNumber) → s.known ≡ o → (t : Assigned) × IsSound p t × CanSend p s (Some g) t
    by None e = (
      record { number = record { file = 0; ldu = first }; unit = g.unit; give_ups = all_give_ups s },
      record { unit = real.unit.unit; file = omega arith; ldu = omega arith; give_ups = few },
      (can_first first s (record { file = 0; ldu = first }) (all_give_ups s) e refl (omega arith), real.unit),
    )
    by (Some n) e =
        let range = range_now first s n e real.standing s.since refl in (
          record { number = past first n s.since; unit = g.unit; give_ups = s.give_ups + s.since },
          record { unit = real.unit.unit; file = range.file; ldu = range.ldu; give_ups = range.give_ups },
          (
            subst (λ (o : Option UnitNumber). CanBe first o s.is_started s (past first n s.since) (s.give_ups + s.since)) (sym e)
                (can_now first s n e real.standing s.is_started refl),
            real.unit,
          ),
        )

pub sure_assignable : (p : Contents) (items : List Seen) (all : List Attempt) (ok : Bool) (hyps : List Hypothesis) (k : ℕ) (h : Hypothesis)
    → attempts p items ≡ all → slice_get hyps k ≡ Some h → AreSure p all ok hyps → IsAssignable p items
sure_assignable p items all ok hyps k h is at sure = let both = sure k h at in by h.standing h.group both.0 both.1
  where
    whole : (now : Option Assigned) → ReachesTo p all now ok → IsAssignable p items
    whole now r =
        let units = assigned p all now ok r in
        record { units = units.0; are = subst (λ (l : List Attempt). GoOnAssigned p None l units.0) (sym is) units.1 }

    by : (s : Standing) (o : Option Group) → IsReal p s o → HasReached p all ok s o → IsAssignable p items
    by s None real w = whole w.now w.reaches
    by s (Some g) real f = let t = says_some p s g real in whole (Some t.0) (f t.0 t.1 t.2)

-- ---- a hypothesis that is put to others

named_back : (a : kept.Attempt) (n : UnitNumber) → IsNamed (number_of a.start) n → IfSome a.start (λ s. s.number ≡ n)
named_back a n h = by a.start h
  where
    by : (o : Option StartWord) → IsNamed (number_of o) n → IfSome o (λ s. s.number ≡ n)
    by None h = tt
    by (Some s) h = h

leads_joined : (p : Contents) (s : Standing) (o : Option Group) (t : Assigned)
    → CanStand p.codes.first_ldu s t.number t.give_ups → FitsGroup p o t.unit → LeadsBy p s o t
leads_joined p s None t can fits = can
leads_joined p s (Some g) t can fits = inl (can, fits)

leads_begun : (p : Contents) (s : Standing) (o : Option Group) (t : Assigned)
    → IsReal p s o → (is_some o ≡ true → CanComeTo p.codes.first_ldu s t.number t.give_ups)
    → (is_some o ≡ false → CanStand p.codes.first_ldu s t.number t.give_ups) → LeadsBy p s o t
leads_begun p s None t real comes stands = stands refl
leads_begun p s (Some g) t real comes stands =
    let c = comes refl in
    inr (
      record { number = c.number; unit = g.unit; give_ups = c.give_ups },
      record { unit = real.unit.unit; file = c.range.file; ldu = c.range.ldu; give_ups = c.range.give_ups },
      (c.stands, real.unit),
      (c.files, c.some, c.file, c.ldu, c.all),
    )

module _ (p : Contents) (h : Hypothesis) (a : kept.Attempt) (s : Standing) (g : Group) (real : IsReal p h.standing h.group)
    (regular : IsRegular p.codes.first_ldu s true) (unit : MayBeUnitOf p g.pieces g.unit) where
  pub joined_from :
      ((m : UnitNumber) (n : ℕ) → IsInRange p.codes.first_ldu m n → CanStand p.codes.first_ldu s m n
      → IsNamed (number_of a.start) m × CanStand p.codes.first_ldu h.standing m n)
      → ((u : LduValue) → MayBeUnitOf p g.pieces u → FitsGroup p h.group u × MayBeOf p a u) → IsCarriedFrom p h a s (Some g)
  joined_from comes only = record {
    real = record { standing = regular; unit = unit };
    group = refl;
    comes = λ t sound can.
        let stands = comes t.number t.give_ups (in_range p t sound) can.0 in
        let fits = only t.unit can.1 in
        (record { unit = fits.1; number = named_back a t.number stands.0 }, leads_joined p h.standing h.group t stands.1 fits.0);
  }

  pub begun_from :
      ((m : UnitNumber) (n : ℕ) → IsInRange p.codes.first_ldu m n → CanStand p.codes.first_ldu s m n
      → IsNamed (number_of a.start) m × (is_some h.group ≡ true → CanComeTo p.codes.first_ldu h.standing m n)
      × (is_some h.group ≡ false → CanStand p.codes.first_ldu h.standing m n))
      → ((u : LduValue) → MayBeUnitOf p g.pieces u → MayBeOf p a u) → IsCarriedFrom p h a s (Some g)
  begun_from comes only = record {
    real = record { standing = regular; unit = unit };
    group = refl;
    comes = λ t sound can.
        let stands = comes t.number t.give_ups (in_range p t sound) can.0 in (
          record { unit = only t.unit can.1; number = named_back a t.number stands.0 },
          leads_begun p h.standing h.group t real stands.1 stands.2,
        );
  }

pub add_one : (p : Contents) (h : Hypothesis) (a : kept.Attempt) (old new : List Hypothesis) (x : Hypothesis)
    → new ≡ old ++ x ∷ [] → IsCarriedFrom p h a x.standing x.group → AddCarried p h a old new
add_one p h a old new x is from k y at = elim (get_push old x y k (subst (λ (l : List Hypothesis). slice_get l k ≡ Some y) is at)) [
  | inl was ↦ inl was
  | inr now ↦ inr (subst (λ (z : Hypothesis). IsCarriedFrom p h a z.standing z.group) (sym now) from)
]

pub add_both : (p : Contents) (h : Hypothesis) (a : kept.Attempt) (old mid new : List Hypothesis)
    → AddCarried p h a old mid → AddCarried p h a mid new → AddCarried p h a old new
add_both p h a old mid new first then k x at = elim (then k x at) [
  | inl was ↦ first k x was
  | inr from ↦ inr from
]

pub add_carried : (p : Contents) (hyps : List Hypothesis) (a : kept.Attempt) (place : ℕ) (h : Hypothesis) (old new : List Hypothesis)
    → slice_get hyps place ≡ Some h → AreCarried p hyps a old → AddCarried p h a old new → AreCarried p hyps a new
add_carried p hyps a place h old new is before add k x at = elim (add k x at) [
  | inl was ↦ before k x was
  | inr from ↦ record { place = place; hypothesis = h; is = is; from = from }
]

-- the ways of a hypothesis
pub ways_only : (p : Contents) (a : kept.Attempt) (h : Hypothesis) (codes : Codes) (start : Option UnitNumber) (has_group : Bool)
    (ways : Ways)
    → codes ≡ p.codes → start ≡ number_of a.start → has_group ≡ is_some h.group → IsReal p h.standing h.group
    → (IsRegular codes.first_ldu h.standing has_group → MakeNothingUp codes.first_ldu h.standing start has_group ways)
    → MakeNothingUp p.codes.first_ldu h.standing (number_of a.start) (is_some h.group) ways
ways_only p a h codes start has_group ways is same group real only =
    subst (λ (c : Codes). MakeNothingUp c.first_ldu h.standing (number_of a.start) (is_some h.group) ways) is
    (subst (λ (o : Option UnitNumber). MakeNothingUp codes.first_ldu h.standing o (is_some h.group) ways) same
    (subst (λ (b : Bool). MakeNothingUp codes.first_ldu h.standing start b ways) group
    (only (subst (λ (b : Bool). IsRegular codes.first_ldu h.standing b) (sym group)
    (subst (λ (c : Codes). IsRegular c.first_ldu h.standing (is_some h.group)) (sym is) real.standing)))))

-- ---- with other places in the trail

pub same_self : (hyps : List Hypothesis) → AreSame hyps hyps
same_self hyps k h at = (k, h, at, refl, refl)

pub moved_same : (old xs ys : List Hypothesis) (h g : Hypothesis)
    → g.standing ≡ h.standing → g.group ≡ h.group → AreSame old (xs ++ h ∷ ys) → AreSame old ((xs ++ g ∷ []) ++ ys)
moved_same old xs ys h g stands group same k x at = elim (by xs k at) [
  | inl was ↦ same k x was
  | inr (now, is) ↦
      let one = same k h now in
      (one.0, one.1, one.2, ap (λ (y : Hypothesis). y.standing) is ∙ stands ∙ one.3, ap (λ (y : Hypothesis). y.group) is ∙ group ∙ one.4)
]
  where
    by : (zs : List Hypothesis) (k : ℕ) → slice_get ((zs ++ g ∷ []) ++ ys) k ≡ Some x
        → (slice_get (zs ++ h ∷ ys) k ≡ Some x) ⊎ ((slice_get (zs ++ h ∷ ys) k ≡ Some h) × (x ≡ g))
    by [] zero e = inr (refl, sym (cc e))
    by [] (suc k) e = inl e
    by (z ∷ zs) zero e = inl e
    by (z ∷ zs) (suc k) e = by zs k e

get_first : (xs ys : List Hypothesis) (k : ℕ) (h : Hypothesis) → slice_get xs k ≡ Some h → slice_get (xs ++ ys) k ≡ Some h
get_first [] ys k h e = absurd (cc e)
get_first (x ∷ xs) ys zero h e = e
get_first (x ∷ xs) ys (suc k) h e = get_first xs ys k h e

pub same_first : (old xs ys : List Hypothesis) → AreSame old (xs ++ ys) → AreSame old xs
same_first old xs ys same k h at = same k h (get_first xs ys k h at)

-- ---- before all attempts, and after all

sure_start : (p : Contents) (a : Attempt) (hyps : List Hypothesis) → IsStart hyps → AreSure p (a ∷ []) (is_some a.acked) hyps
sure_start p a hyps (h, is, known, gave, since, started, group) k x at =
    by (subst (λ (l : List Hypothesis). slice_get l k ≡ Some x) is at)
  where
    regular : IsRegular p.codes.first_ldu h.standing false
    regular = record {
      started = λ e. absurd (cc (e, started));
      file = subst (λ (o : Option UnitNumber). IfSome o (λ n. n.file ≤ 255)) (sym known) tt;
      loaded = λ e z. absurd (cc e);
      few = omega (arith, gave, since);
    }

    none : IsReal p h.standing None × HasReached p (a ∷ []) (is_some a.acked) h.standing None
    none = (
      record { standing = regular; unit = tt },
      record {
        now = None;
        reaches = (refl, refl);
        comes =
            λ t sound can.
            (subst (λ (o : Option UnitNumber). CanBe p.codes.first_ldu o h.standing.is_started h.standing t.number t.give_ups) known can).0;
      },
    )

    one : IsReal p h.standing h.group × HasReached p (a ∷ []) (is_some a.acked) h.standing h.group
    one = subst (λ (o : Option Group). IsReal p h.standing o × HasReached p (a ∷ []) (is_some a.acked) h.standing o) (sym group) none

    by : slice_get (h ∷ []) k ≡ Some x → IsReal p x.standing x.group × HasReached p (a ∷ []) (is_some a.acked) x.standing x.group
    by e = same k e
      where
        same : (j : ℕ)
            → slice_get (h ∷ []) j ≡ Some x → IsReal p x.standing x.group × HasReached p (a ∷ []) (is_some a.acked) x.standing x.group
        same zero e =
            let y : h ≡ x = cc e in
            subst (λ (z : Hypothesis). IsReal p z.standing z.group × HasReached p (a ∷ []) (is_some a.acked) z.standing z.group) y one
        same (suc j) e = absurd (cc e)

-- the hypotheses make nothing up of the first n items
abbrev pub AreSureOf : Contents → List Seen → ℕ → List Hypothesis → Type 0
AreSureOf p items n hyps = (ok : Bool) × AreSure p (attempts p (take n items)) ok hyps

pub sure_at_first : (p : Contents) (items : List Seen) (n : ℕ) (hyps : List Hypothesis)
    → attempts p (take n items) ≡ latest p (take n items) ∷ [] → IsStart hyps → AreSureOf p items n hyps
sure_at_first p items n hyps is start =
    let a = latest p (take n items) in
    (is_some a.acked, subst (λ (l : List Attempt). AreSure p l (is_some a.acked) hyps) (sym is) (sure_start p a hyps start))

-- one attempt more
pub sure_next : (p : Contents) → IsProfile p
    → (items : List Seen) (from to : ℕ) (hyps new : List Hypothesis) (b : kept.Attempt) (q : Contents)
    → AreAllowedUpTo p items (length items) → to ≤ length items → q ≡ p → IsAttemptFrom p items from to b
    → AreSureOf p items from hyps → TakesOn q hyps b new → AreSureOf p items to new
sure_next p good items from to hyps new b q allowed inside same is (ok, sure) takes_so =
    let takes = subst (λ (r : Contents). TakesOn r hyps b new) same takes_so in
    let a = latest p (take to items) in
    let may = allowed_first p items to inside (λ k less. allowed k (omega (arith, less, inside))) in (
      is_some a.acked,
      subst (λ (l : List Attempt). AreSure p l (is_some a.acked) new) (sym is.all)
          (sure_on p (attempts p (take from items)) ok a b hyps new is.is.acked sure takes
          (λ t maybe. is_of p good (take to items) may b t is.is maybe)),
    )

-- after all attempts some run's words begin so
pub sure_begins : (p : Contents)
    → IsProfile p → ((these : List Seen) → IsProfile p → BeginsARun p these ↔ (AreAllowed p at_first these × IsAssignable p these))
    → (items : List Seen) (from : ℕ) (hyps : List Hypothesis) (k : ℕ) (h : Hypothesis) → AreAllowedUpTo p items (length items)
    → length items ≤ from → slice_get hyps k ≡ Some h → AreSureOf p items from hyps → BeginsARun p items
sure_begins p good law items from hyps k h allowed all at (ok, sure) =
    let whole : take from items ≡ items = take_all from items all in
    let may =
    subst (AreAllowed p at_first) (take_all (length items) items (omega arith))
    (allowed_first p items (length items) (omega arith) allowed) in
    (law items good).1 (may, sure_assignable p items (attempts p (take from items)) ok hyps k h (ap (attempts p) (sym whole)) at sure)

some_first : (hyps : List Hypothesis) → (hyps ≡ [] → ⊥) → (h : Hypothesis) × (slice_get hyps 0 ≡ Some h)
some_first [] some = absurd (some refl)
some_first (h ∷ hyps) some = (h, refl)

-- where a hypothesis is left of the first items, some run's words begin with them
begins_first : (p : Contents)
    → IsProfile p → ((these : List Seen) → IsProfile p → BeginsARun p these ↔ (AreAllowed p at_first these × IsAssignable p these))
    → (items : List Seen) (n : ℕ) (hyps : List Hypothesis) → AreAllowedUpTo p items (length items) → n ≤ length items → (hyps ≡ [] → ⊥)
    → AreSureOf p items n hyps → BeginsARun p (take n items)
begins_first p good law items n hyps allowed inside some (ok, sure) =
    let h = some_first hyps some in
    let may = allowed_first p items n inside (λ k less. allowed k (omega (arith, less, inside))) in
    (law (take n items) good).1 (may, sure_assignable p (take n items) (attempts p (take n items)) ok hyps 0 h.0 refl h.1 sure)

-- up to before a word, where the attempt that it is of fits one of them so far
pub sure_before : (p : Contents)
    → IsProfile p → ((these : List Seen) → IsProfile p → BeginsARun p these ↔ (AreAllowed p at_first these × IsAssignable p these))
    → (items : List Seen) (from to : ℕ) (hyps : List Hypothesis) → AreAllowedUpTo p items (length items) → to ≤ length items
    → AreSureOf p items from hyps → FitsSome p items hyps from to → BeginsARun p (take to items)
sure_before p good law items from to hyps allowed inside sure (inl (same, some)) =
    begins_first p good law items to hyps allowed inside some (subst (λ (n : ℕ). AreSureOf p items n hyps) same sure)
sure_before p good law items from to hyps allowed inside sure (inr (a, is, next, carried, some)) =
    begins_first p good law items to next allowed inside some
    (sure_next p good items from to hyps next a p allowed inside refl is sure
    (record { next = next; carried = carried; heard = next; after = inl refl; same = same_self next }))

-- one that was acknowledged is whole
pub whole_if_heard : (p : Contents) → IsProfile p → (items : List Seen) (from to : ℕ) (b : kept.Attempt)
    → AreAllowedUpTo p items (length items) → to ≤ length items → IsAttemptFrom p items from to b → IsWholeIfHeard b
whole_if_heard p good items from to b allowed inside is =
    let may = allowed_first p items to inside (λ k less. allowed k (omega (arith, less, inside))) in
    heard_whole p good (take to items) may b is.is
