-- What hypotheses cover, from one attempt to the next.
use Rattle.std.proofs.Common.{◌≡◌, ◌⊎◌, ℕ, ◌+◌, Bool, true, false, List, [], ◌∷◌, ◌++◌, Option, Some, None, is_some, refl, sym, subst, inl, inr, arith}
use Rattle.a429_profile.specs.Profile.{Contents}
use Rattle.a429_profile.specs.declared.codes.Codes.{Codes}
use Rattle.a429_link.specs.declared.number.UnitNumber.{UnitNumber}
use Rattle.a429_link.specs.declared.seen.Seen.{Seen}
use Rattle.a429_link.specs.Assignment.{Assigned, AreAssigned, GivesUp, GoOnAssigned, IsAssignable, IsNext, IsOf, IsSound}
use Rattle.a429_link.specs.Attempt.{Attempt, attempts}
use Rattle.a429_link.specs.Number.{number_after}
use Rattle.a429_link.specs.State.{IsNonEmpty}
use Rattle.a429_search.specs.declared.searching.Hypothesis.{Hypothesis}
use Rattle.a429_search.specs.declared.standing.Standing.{Standing}
use Rattle.a429_search.specs.Standing.{IsHeard, IsInRange, MayGoOn, MayStand, MayStandLater, Stands, StandsLater}
use Rattle.a429_search.specs.Frontier.{AreCovered, Covers, FitsGroup}
use Rattle.a429_search.proofs.StandingFacts.{further}

pub in_range : (p : Contents) (t : Assigned) → IsSound p t → IsInRange p.codes.first_ldu t.number t.give_ups
in_range p t s = record { file = s.file; ldu = s.ldu; give_ups = s.give_ups }

-- ---- from an attempt to the next

up_by : (c : Codes) (known : Option UnitNumber) (started : Bool) (s : Standing) (m m' : UnitNumber) (g g' : ℕ)
    → MayStand c.first_ldu known started s m g → GivesUp c m g m' g' → MayStandLater c.first_ldu known s m' g'
up_by c None started s m m' g g' (ldu, few) (d, some, f, l, e) = (l, omega (arith, few, some, e))
up_by c (Some n) true s m m' g g' (since, same, few) (d, some, f, l, e) =
    (0 + d, omega (arith, some, since), further c.first_ldu n m m' 0 d some same f l, omega (arith, few, e))
up_by c (Some n) false s m m' g g' (k, least, is, few) (d, some, f, l, e) =
    (k + d, omega (arith, least, some), further c.first_ldu n m m' k d some is f l, omega (arith, few, e))

up_more : (c : Codes) (known : Option UnitNumber) (s : Standing) (m m' : UnitNumber) (g g' : ℕ)
    → MayStandLater c.first_ldu known s m g → GivesUp c m g m' g' → MayStandLater c.first_ldu known s m' g'
up_more c None s m m' g g' (ldu, few) (d, some, f, l, e) = (l, omega (arith, few, some, e))
up_more c (Some n) s m m' g g' (k, least, is, few) (d, some, f, l, e) =
    (k + d, omega (arith, least, some), further c.first_ldu n m m' k d some is f l, omega (arith, few, e))

-- giving files up leads on
gives_up : (p : Contents) (h : Hypothesis) (t t' : Assigned)
    → Covers p h t → GivesUp p.codes t.number t.give_ups t'.number t'.give_ups → Covers p h t'
gives_up p h t t' (inl later) up = inl (up_more p.codes h.standing.known h.standing t.number t'.number t.give_ups t'.give_ups later up)
gives_up p h t t' (inr (stands, fits)) up =
    inl (up_by p.codes h.standing.known h.standing.is_started h.standing t.number t'.number t.give_ups t'.give_ups stands up)

heard_from : (p : Contents) (n : UnitNumber) (h : Hypothesis) (t : Assigned) → IsHeard n h.standing
    → ((least : ℕ) → MayGoOn p.codes.first_ldu n 0 least t.number t.give_ups
    → MayGoOn p.codes.first_ldu n h.standing.give_ups least t.number t.give_ups)
heard_from p n h t is least goes = subst (λ (k : ℕ). MayGoOn p.codes.first_ldu n k least t.number t.give_ups) (sym is.give_ups) goes

heard_stands : (p : Contents) (n : UnitNumber) (h : Hypothesis) (t : Assigned)
    → IsHeard n h.standing → MayGoOn p.codes.first_ldu n 0 0 t.number t.give_ups → Stands p.codes.first_ldu h.standing t.number t.give_ups
heard_stands p n h t is goes =
    let first = p.codes.first_ldu in
    let m = t.number in
    let g = t.give_ups in
    subst (λ (b : Bool). MayStand first h.standing.known b h.standing m g) (sym is.started)
    (subst (λ (o : Option UnitNumber). MayStand first o false h.standing m g) (sym is.known)
    (subst (λ (k : ℕ). MayGoOn first n h.standing.give_ups k m g) (sym is.since) (heard_from p n h t is 0 goes)))

heard_later : (p : Contents) (n : UnitNumber) (h : Hypothesis) (t : Assigned) → IsHeard n h.standing
    → MayGoOn p.codes.first_ldu n 0 1 t.number t.give_ups → StandsLater p.codes.first_ldu h.standing t.number t.give_ups
heard_later p n h t is goes =
    let first = p.codes.first_ldu in
    let m = t.number in
    let g = t.give_ups in
    let one : 1 ≡ h.standing.since + 1 = omega (arith, is.since) in
    subst (λ (o : Option UnitNumber). MayStandLater first o h.standing m g) (sym is.known)
    (subst (λ (k : ℕ). MayGoOn first n h.standing.give_ups k m g) one (heard_from p n h t is 1 goes))

-- a hypothesis covers what may follow an attempt that was not acknowledged; else one that has heard the acknowledgement does so
pub comes_next : (p : Contents) (h : Hypothesis) (t t' : Assigned) (acked : Bool) → Covers p h t → IsNext p.codes (Some t) acked t'
    → Covers p h t'
    ⊎ ((acked ≡ true) × ((heard : Hypothesis) → IsHeard (number_after p.codes t.number t.unit) heard.standing
    → FitsGroup p heard.group t'.unit → Covers p heard t'))
comes_next p h t t' acked covers (inl same) = inl (subst (Covers p h) (sym same) covers)
comes_next p h t t' acked covers (inr (inl up)) = inl (gives_up p h t t' covers up)
comes_next p h t t' acked covers (inr (inr (is, inl (same, zeros)))) =
    let n = number_after p.codes t.number t.unit in
    inr (is, λ heard at fits. inr (heard_stands p n heard t' at (0, omega arith, same, omega arith), fits))
comes_next p h t t' acked covers (inr (inr (is, inr (d, some, f, l, e)))) =
    let n = number_after p.codes t.number t.unit in
    inr (
      is,
      λ heard at fits.
          inl (heard_later p n heard
          t' at (0 + d, omega (arith, some), further p.codes.first_ldu n n t'.number 0 d some refl f l, omega (arith, e))),
    )

-- ---- along the attempts

-- attempts after one that was assigned to `last`, and acknowledged or not, can be assigned so that the last of them is assigned to `now`,
-- and acknowledged or not
abbrev pub CanReach : Contents → Option Assigned → Bool → List Attempt → Option Assigned → Bool → Type 0
CanReach p last acked [] now ok = (now ≡ last) × (ok ≡ acked)
CanReach p last acked (a ∷ more) now ok =
    (t : Assigned) × IsSound p t × IsNext p.codes last acked t × IsOf p (Some t) a × CanReach p (Some t) (is_some a.acked) more now ok

-- whatever an attempt after all these may be assigned to is covered. The first of them is what was recorded
-- before the first request
abbrev pub CoverNext : Contents → List Attempt → List Hypothesis → Type 0
CoverNext p [] hyps = ⊥
CoverNext p (before ∷ done) hyps = (now : Option Assigned) (ok : Bool) (t : Assigned)
    → CanReach p None (is_some before.acked) done now ok → IsNext p.codes now ok t → AreCovered p hyps t

-- the last of several attempts, and those before it
record LastStep (p : Contents) (last : Option Assigned) (acked : Bool) (done : List Attempt) (a : Attempt) (now : Option Assigned)
    (ok : Bool) : Type 0 where
  mid : Option Assigned
  was : Bool
  this : Assigned
  before : CanReach p last acked done mid was
  sound : IsSound p this
  follows : IsNext p.codes mid was this
  of : IsOf p (Some this) a
  now_is : now ≡ Some this
  ok_is : ok ≡ is_some a.acked

reach_more : (p : Contents) (last : Option Assigned) (acked : Bool) (done : List Attempt) (a : Attempt) (now : Option Assigned) (ok : Bool)
    → CanReach p last acked (done ++ a ∷ []) now ok → LastStep p last acked done a now ok
reach_more p last acked [] a now ok (t, sound, next, of, ends) = record {
  mid = last;
  was = acked;
  this = t;
  before = (refl, refl);
  sound = sound;
  follows = next;
  of = of;
  now_is = ends.0;
  ok_is = ends.1;
}
reach_more p last acked (b ∷ done) a now ok (u, sound, next, of, rest) =
    let more = reach_more p (Some u) (is_some b.acked) done a now ok rest in
    record {
      mid = more.mid;
      was = more.was;
      this = more.this;
      before = (u, sound, next, of, more.before);
      sound = more.sound;
      follows = more.follows;
      of = more.of;
      now_is = more.now_is;
      ok_is = more.ok_is;
    }

-- one attempt more, where whatever may follow it is covered
pub cover_more : (p : Contents) (done : List Attempt) (a : Attempt) (whole : Bool) (hyps next : List Hypothesis)
    → IsNonEmpty done → (whole ≡ true → CoverNext p done hyps)
    → ((t u : Assigned) → (whole ≡ true → AreCovered p hyps t) → IsSound p t → IsOf p (Some t) a
    → IsNext p.codes (Some t) (is_some a.acked) u → AreCovered p next u)
    → CoverNext p (done ++ a ∷ []) next
cover_more p [] a whole hyps next some cover step = absurd some
cover_more p (before ∷ done) a whole hyps next some cover step = λ now ok t reach follows.
    let r = reach_more p None (is_some before.acked) done a now ok reach in
    let follows_this : IsNext p.codes (Some r.this) (is_some a.acked) t =
    subst (λ (b : Bool). IsNext p.codes (Some r.this) b t) r.ok_is
    (subst (λ (o : Option Assigned). IsNext p.codes o ok t) r.now_is follows) in
    step r.this t (λ is. cover is r.mid r.was r.this r.before r.follows) r.sound r.of follows_this

-- an assignment reaches its last attempt
record Reached (p : Contents) (last : Option Assigned) (acked : Bool) (all : List Attempt) : Type 0 where
  now : Option Assigned
  ok : Bool
  is : CanReach p last acked all now ok

assigned_reach : (p : Contents) (last : Option Assigned) (acked : Bool) (all : List Attempt) (units : List Assigned)
    → AreAssigned p last acked all units → Reached p last acked all
assigned_reach p last acked [] [] h = record { now = last; ok = acked; is = (refl, refl) }
assigned_reach p last acked [] (t ∷ units) h = absurd h
assigned_reach p last acked (a ∷ more) [] h = absurd h
assigned_reach p last acked (a ∷ more) (t ∷ units) (sound, next, of, rest) =
    let later = assigned_reach p (Some t) (is_some a.acked) more units rest in
    record { now = later.now; ok = later.ok; is = (t, sound, next, of, later.is) }

none_goes_on : (p : Contents) (done : List Attempt) (a : Attempt) (units : List Assigned) (hyps : List Hypothesis) → CoverNext p done hyps
    → ((t : Assigned) → IsSound p t → IsOf p (Some t) a → ¬ AreCovered p hyps t) → ¬ GoOnAssigned p None (done ++ a ∷ []) units
none_goes_on p [] a units hyps cover dead goes = cover
none_goes_on p (first ∷ done) a units hyps cover dead (of, assigned) =
    let reach = assigned_reach p None (is_some first.acked) (done ++ a ∷ []) units assigned in
    let r = reach_more p None (is_some first.acked) done a reach.now reach.ok reach.is in
    dead r.this r.sound r.of (cover r.mid r.was r.this r.before r.follows)

-- where nothing that the last attempt may be assigned to is covered, the attempts cannot be assigned
pub not_assignable : (p : Contents) (items : List Seen) (done : List Attempt) (a : Attempt) (hyps : List Hypothesis)
    → attempts p items ≡ done ++ a ∷ [] → CoverNext p done hyps → ((t : Assigned) → IsSound p t → IsOf p (Some t) a → ¬ AreCovered p hyps t)
    → ¬ IsAssignable p items
not_assignable p items done a hyps all cover dead assignable =
    none_goes_on p done a assignable.units hyps cover dead (subst (λ l. GoOnAssigned p None l assignable.units) all assignable.are)
