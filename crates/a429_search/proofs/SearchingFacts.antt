-- Hypotheses that are put to others, and carried on to an attempt.
use Rattle.std.proofs.Common.{◌≡◌, ◌⊎◌, ℕ, zero, suc, ◌+◌, ◌<◌, ◌≤◌, Bool, true, false, List, [], ◌∷◌, ◌++◌, length, take, Option, Some, None, IfSome, IsSomeAnd, is_some, not, slice_get, get_or, length-append, refl, sym, ap, ◌∙◌, subst, inl, inr, arith}
use Rattle.std.specs.Option.{option_or}
use Rattle.std.proofs.lemmas.Bool.{cases_order}
use Rattle.std.proofs.lemmas.Option.{same_Some, slice_get_read, slice_get_within}
use Rattle.a429_word.proofs.ListFacts.{some_within}
use Rattle.a429_profile.specs.Profile.{Contents, IsProfile}
use Rattle.a429_profile.specs.declared.codes.Codes.{Codes}
use Rattle.a429_ldu.specs.Ldu.{LduValue, is_final}
use Rattle.a429_link.specs.declared.number.UnitNumber.{UnitNumber}
use Rattle.a429_link.specs.declared.seen.Seen.{Seen}
use Rattle.a429_link.specs.Assignment.{Assigned, IsAssignable, IsNext, IsSound}
use Rattle.a429_link.specs.Attempt.{attempts, fresh, latest}
use Rattle.a429_link.specs.Attempt as link
use Rattle.a429_link.specs.Run.{BeginsARun}
use Rattle.a429_link.proofs.AssignedSteps.{some_attempts}
use Rattle.a429_link.specs.Number.{next_number, number_after}
use Rattle.a429_search.specs.declared.attempts.Attempt.{Attempt}
use Rattle.a429_search.specs.declared.attempts.StartWord.{StartWord}
use Rattle.a429_merge.specs.declared.budget.Cut.{Cut}
use Rattle.a429_merge.specs.declared.pieces.EndWord.{EndWord}
use Rattle.a429_search.specs.declared.groups.Group.{Group}
use Rattle.a429_search.specs.declared.searching.Hypothesis.{Hypothesis}
use Rattle.a429_search.specs.declared.standing.Standing.{Standing}
use Rattle.a429_search.specs.declared.standing.Ways.{Ways}
use Rattle.a429_search.specs.Frontier.{AreAt, AreCovered, AreKept, CarriesOn, Covers, FitsGroup, FitsNone, GoOnFrom, HasFewest, AreCuts, IsAmong, IsAtRequest, IsRefused, IsStart, leaves_nothing_out}
use Rattle.a429_contradiction.specs.Contradiction.{HasNoRun}
use Rattle.a429_search.specs.Recorded.{IsRequestAt, IsAttemptFrom, MayBeOf, MayBeTo, number_of}
use Rattle.a429_search.specs.Standing.{Begins, IsAt, IsHeard, IsNamed, LeaveNothingOut, MayStand, Stands, StandsLater, all_give_ups}
use Rattle.a429_search.proofs.FrontierFacts.{CoverNext, comes_next, cover_more, in_range, not_assignable}
use Rattle.a429_search.proofs.RecordedFacts.{may_be_to}
use Rattle.a429_contradiction.proofs.RivalFacts.{get_push}
use Rattle.a429_search.proofs.StandingFacts.{at_stands, fewer_later, fewer_stands}

-- ---- one more hypothesis

module _ (old new : List Hypothesis) (h : Hypothesis) (is : new ≡ old ++ h ∷ []) where
  pub at_pushed : (start : Option UnitNumber) → IfSome start (λ n. IsAt n h.standing) → AreAt start old → AreAt start new
  at_pushed None here all = tt
  at_pushed (Some n) here all = λ k x at. elim (get_push old h x k (subst (λ (l : List Hypothesis). slice_get l k ≡ Some x) is at)) [
    | inl was ↦ all k x was
    | inr now ↦ subst (λ (y : Hypothesis). IsAt n y.standing) (sym now) here
  ]

pub covered_kept : (p : Contents) (old new : List Hypothesis) (t : Assigned) → AreKept old new → AreCovered p old t → AreCovered p new t
covered_kept p old new t kept c =
    record { place = c.place; hypothesis = c.hypothesis; is = kept c.place c.hypothesis c.is; covers = c.covers }

-- ---- one way of a hypothesis

-- the standing of the way is at the number of the start word
pub at_way : {X : Type 0} (o : Option X) (x : X) (f : X → Standing) (start : Option UnitNumber) → o ≡ Some x
    → IfSome start (λ n. IfSome o (λ y. IsAt n (f y))) → IfSome start (λ n. IsAt n (f x))
at_way o x f None is all = tt
at_way {X} o x f (Some n) is all = subst (λ (q : Option X). IfSome q (λ y. IsAt n (f y))) is all

-- ---- both ways

join_way : (o : Option Standing) (F G : Standing → Type 0) (A : Type 0) → ((s : Standing) → F s → G s) → IsSomeAnd o F
    → IfSome o (λ j. G j → A) → A
join_way None F G A weak h f = absurd h
join_way (Some s) F G A weak h f = f (weak s h)

pub named : (p : Contents) (a : Attempt) (t : Assigned) → MayBeTo p a t → IsNamed (number_of a.start) t.number
named p a t may = by a.start may.number
  where
    by : (o : Option StartWord) → IfSome o (λ s. s.number ≡ t.number) → IsNamed (number_of o) t.number
    by None h = tt
    by (Some s) h = h

pub ways_cover : (p : Contents) (a : Attempt) (s : Standing) (codes : Codes) (start : Option UnitNumber) (has_group : Bool) (ways : Ways)
    → codes ≡ p.codes → start ≡ number_of a.start → LeaveNothingOut codes.first_ldu s start has_group ways
    → LeaveNothingOut p.codes.first_ldu s (number_of a.start) has_group ways
ways_cover p a s codes start has_group ways is same all =
    subst (λ (c : Codes). LeaveNothingOut c.first_ldu s (number_of a.start) has_group ways) is
    (subst (λ (o : Option UnitNumber). LeaveNothingOut codes.first_ldu s o has_group ways) same all)

pub then_too : (o : Option Standing) (F : Standing → Type 0) (A B : Type 0) → (A → B) → IfSome o (λ j. F j → A) → IfSome o (λ j. F j → B)
then_too None F A B f h = tt
then_too (Some s) F A B f h = λ x. f (h x)

-- what was not cut short then was not before
-- what the hypothesis covers is covered, where each way that its standing has is
pub carried_on : (p : Contents) (h : Hypothesis) (ways : Ways) (start : Option UnitNumber) (has_group : Bool) (t : Assigned) (A : Type 0)
    → LeaveNothingOut p.codes.first_ldu h.standing start has_group ways → has_group ≡ is_some h.group → IsSound p t → IsNamed start t.number
    → Covers p h t
    → (FitsGroup p h.group t.unit → IfSome ways.join (λ j. IsAmong p.codes.first_ldu j t → A))
    → (Begins ways (λ b. Stands p.codes.first_ldu b t.number t.give_ups) → A) → A
carried_on p h ways start has_group t A all group sound is covers join begin = by covers
  where
    first : ℕ
    first = p.codes.first_ldu

    none : (o : Option Group) → has_group ≡ is_some o → has_group ≡ false → FitsGroup p o t.unit
    none None e f = tt
    none (Some g) e f = absurd (cc (e, f))

    by : Covers p h t → A
    by (inl later) = elim (all.later t.number t.give_ups (in_range p t sound) is later) [
      | inl b ↦ begin b
      | inr (off, j) ↦
          join_way ways.join (λ j. Stands first j t.number t.give_ups ⊎ StandsLater first j t.number t.give_ups) (λ j. IsAmong first j t) A
          (λ s k. k) j (join (none h.group group off))
    ]
    by (inr (stands, fits)) = elim (all.same t.number t.give_ups (in_range p t sound) is stands) [
      | inl j ↦ join_way ways.join (λ j. Stands first j t.number t.give_ups) (λ j. IsAmong first j t) A (λ s k. inl k) j (join fits)
      | inr b ↦ begin b
    ]

-- ---- all hypotheses

-- those up to one, and that one
pub one_carried : (p : Contents) (hyps next : List Hypothesis) (t : Assigned) (n : ℕ) (x : Hypothesis)
    → slice_get hyps n ≡ Some x → ((k : ℕ) (h : Hypothesis) → k < n → slice_get hyps k ≡ Some h → Covers p h t → AreCovered p next t)
    → (Covers p x t → AreCovered p next t) → (k : ℕ) (h : Hypothesis) → k < n + 1 → slice_get hyps k ≡ Some h → Covers p h t
    → AreCovered p next t
one_carried p hyps next t n x at before here k h l is covers = elim (cases_order k n) [
  | inl same ↦
      let one : h ≡ x = same_Some h x (sym is ∙ ap (slice_get hyps) same ∙ at) in here (subst (λ (y : Hypothesis). Covers p y t) one covers)
  | inr (inl less) ↦ before k h less is covers
  | inr (inr more) ↦ absurd (omega (arith, l, more))
]

pub all_carried : (p : Contents) (hyps next : List Hypothesis) (t : Assigned) (n : ℕ)
    → length hyps ≤ n → ((k : ℕ) (h : Hypothesis) → k < n → slice_get hyps k ≡ Some h → Covers p h t → AreCovered p next t)
    → AreCovered p hyps t → AreCovered p next t
all_carried p hyps next t n all each c =
    each c.place c.hypothesis (omega (arith, all, slice_get_within hyps c.place c.hypothesis c.is)) c.is c.covers

-- ---- the one with the fewest files given up

pub fewest_of : (hyps : List Hypothesis) (best n : ℕ) → best < length hyps → length hyps ≤ n
    → ((b : Hypothesis) → slice_get hyps best ≡ Some b → (k : ℕ) (h : Hypothesis) → k < n → slice_get hyps k ≡ Some h
    → all_give_ups b.standing ≤ all_give_ups h.standing)
    → HasFewest hyps best
fewest_of hyps best n l all few =
    let found = some_within hyps best l in
    (found.0, found.1, λ k h is. few found.0 found.1 k h (omega (arith, all, slice_get_within hyps k h is)) is)

pub fewest_is : (hyps : List Hypothesis) (place : ℕ) (x : Hypothesis) → HasFewest hyps place → x ≡ get_or hyps place x
    → (k : ℕ) (h : Hypothesis) → slice_get hyps k ≡ Some h → all_give_ups x.standing ≤ all_give_ups h.standing
fewest_is hyps place x (best, at, few) is k h there =
    let here = slice_get_read hyps (length hyps) place x refl (slice_get_within hyps place best at) is in
    let same = same_Some best x (sym at ∙ here) in
    subst (λ (y : Hypothesis). all_give_ups y.standing ≤ all_give_ups h.standing) same (few k h there)

-- ---- after an acknowledgement

named_of : (o : Option StartWord) (s : StartWord) (m : UnitNumber) → o ≡ Some s → IfSome o (λ x. x.number ≡ m) → s.number ≡ m
named_of o s m is h = subst (λ (q : Option StartWord). IfSome q (λ x. x.number ≡ m)) is h

pub at_of : (o : Option StartWord) (s : StartWord) (hyps : List Hypothesis)
    → o ≡ Some s → AreAt (number_of o) hyps → (k : ℕ) (h : Hypothesis) → slice_get hyps k ≡ Some h → IsAt s.number h.standing
at_of o s hyps is h = subst (λ (q : Option StartWord). AreAt (number_of q) hyps) is h

flags_of : (o : Option EndWord) (e : EndWord) (u : LduValue)
    → o ≡ Some e → IfSome o (λ x. (u.flags ≡ x.flags) × (u.check ≡ x.check)) → u.flags ≡ e.flags
flags_of o e u is h = (subst (λ (q : Option EndWord). IfSome q (λ x. (u.flags ≡ x.flags) × (u.check ≡ x.check))) is h).0

-- the hypothesis that they have become, and beside it that of a source that has heard the acknowledgement
pub record IsMerged (p : Contents) (next : List Hypothesis) (whole : Bool) (a : Attempt) (n : UnitNumber) (one : Hypothesis) : Type 0 where
  pub at : IsAt n one.standing
  pub group : (u : LduValue) → MayBeOf p a u → FitsGroup p one.group u
  pub few : whole ≡ true → (k : ℕ) (h : Hypothesis) → slice_get next k ≡ Some h → IsAt n h.standing
      → one.standing.give_ups ≤ h.standing.give_ups
  pub none : whole ≡ false → one.standing.give_ups ≡ 0

merged_covers : (p : Contents) (next : List Hypothesis) (whole : Bool) (a : Attempt) (n : UnitNumber) (one : Hypothesis) (t : Assigned)
    → IsMerged p next whole a n one → ((k : ℕ) (h : Hypothesis) → slice_get next k ≡ Some h → IsAt n h.standing) → n ≡ t.number
    → MayBeOf p a t.unit → (whole ≡ true → AreCovered p next t) → Covers p one t
merged_covers p next whole a n one t is all same may before = by whole refl
  where
    first : ℕ
    first = p.codes.first_ldu

    by : (b : Bool) → whole ≡ b → Covers p one t
    by true e =
        let c = before e in
        let at = all c.place c.hypothesis c.is in
        let few = is.few e c.place c.hypothesis c.is at in
        elim c.covers [
          | inl later ↦ inl (fewer_later first n t.number c.hypothesis.standing one.standing t.give_ups at is.at few later)
          | inr (stands, fits) ↦
              inr (fewer_stands first n t.number c.hypothesis.standing one.standing t.give_ups at is.at few stands, is.group t.unit may)
        ]
    by false e = inr (at_stands first one.standing n t.number t.give_ups is.at same (omega (arith, is.none e)), is.group t.unit may)

pub heard_goes_on : (p : Contents) (next hyps : List Hypothesis) (whole : Bool) (a : Attempt) (one heard : Hypothesis) (start : StartWord)
    (end : EndWord) (known : UnitNumber)
    → a.start ≡ Some start → a.end ≡ Some end → AreAt (number_of a.start) next → IsMerged p next whole a start.number one
    → IsHeard known heard.standing → heard.group ≡ None → known ≡ next_number p.codes start.number (is_final p.codes end.flags)
    → hyps ≡ one ∷ (heard ∷ []) → GoOnFrom p whole next a hyps
heard_goes_on p next hyps whole a one heard start end known starts ends all is at none after both = λ t u before sound may follows.
    let same = named_of a.start start t.number starts may.number in
    let flags = flags_of a.end end t.unit ends may.unit.end in
    let one_covers = merged_covers p next whole a start.number one t is (at_of a.start start next starts all) same may.unit before in
    let comes : known ≡ number_after p.codes t.number t.unit =
    after ∙ ap (λ (n : UnitNumber). next_number p.codes n (is_final p.codes end.flags)) same
    ∙ ap (λ (f : ℕ). next_number p.codes t.number (is_final p.codes f)) (sym flags) in
    elim (comes_next p one t u (is_some a.acknowledged) one_covers follows) [
      | inl c ↦ record { place = 0; hypothesis = one; is = ap (λ (l : List Hypothesis). slice_get l 0) both; covers = c }
      | inr (acked, goes) ↦ record {
        place = 1;
        hypothesis = heard;
        is = ap (λ (l : List Hypothesis). slice_get l 1) both;
        covers =
            goes heard (subst (λ (n : UnitNumber). IsHeard n heard.standing) comes at)
            (subst (λ (o : Option Group). FitsGroup p o u.unit) (sym none) tt);
      }
    ]

-- ---- without an acknowledgement

pub goes_on : (p : Contents) (hyps next kept : List Hypothesis) (whole : Bool) (a : Attempt) → is_some a.acknowledged ≡ false → whole ≡ true
    → CarriesOn p hyps a next → ((t : Assigned) → AreCovered p next t → AreCovered p kept t) → GoOnFrom p whole hyps a kept
goes_on p hyps next kept whole a quiet is carries keep = λ t u before sound may follows.
    let c = carries t sound may (before is) in
    elim (comes_next p c.hypothesis t u (is_some a.acknowledged) c.covers follows) [
      | inl covers ↦ keep u (record { place = c.place; hypothesis = c.hypothesis; is = c.is; covers = covers })
      | inr (acked, goes) ↦ absurd (cc (quiet, acked))
    ]

pub none_is : {X : Type 0} (o : Option X) (b : Bool) → is_some o ≡ not b → b ≡ true → is_some o ≡ false
none_is o b is e = is ∙ ap not e

-- after one that was heard to be acknowledged, and whatever was left out before
pub heard_on : (p : Contents) (hyps next heard kept : List Hypothesis) (old whole : Bool) (a : Attempt)
    → (whole ≡ true → old ≡ true) → (whole ≡ true → CarriesOn p hyps a next) → GoOnFrom p whole next a heard
    → ((t : Assigned) → AreCovered p heard t → AreCovered p kept t) → GoOnFrom p old hyps a kept
heard_on p hyps next heard kept old whole a still carries goes keep = λ t u before sound may follows.
    keep u (goes t u (λ is. carries is t sound may (before (still is))) sound may follows)

-- ---- with other places in the trail

pub moved_many : (all xs ys : List Hypothesis) (h g : Hypothesis)
    → length (xs ++ h ∷ ys) ≡ length all → length ((xs ++ g ∷ []) ++ ys) ≡ length all
moved_many all xs ys h g many =
    omega (arith, many, length-append xs (h ∷ ys), length-append (xs ++ g ∷ []) ys, length-append xs (g ∷ []))

pub moved_one : (p : Contents) (t : Assigned) (xs ys : List Hypothesis) (h g : Hypothesis)
    → g.standing ≡ h.standing → g.group ≡ h.group → AreCovered p (xs ++ h ∷ ys) t → AreCovered p ((xs ++ g ∷ []) ++ ys) t
moved_one p t xs ys h g stands group c = by xs c.place c.is
  where
    covers : (x : Hypothesis) → x ≡ h → Covers p x t → Covers p g t
    covers x same k =
        subst (λ (s : Standing). StandsLater p.codes.first_ldu s t.number t.give_ups
        ⊎ (Stands p.codes.first_ldu s t.number t.give_ups × FitsGroup p g.group t.unit)) (sym stands)
        (subst (λ (o : Option Group). StandsLater p.codes.first_ldu h.standing t.number t.give_ups
        ⊎ (Stands p.codes.first_ldu h.standing t.number t.give_ups × FitsGroup p o t.unit))
        (sym group) (subst (λ (y : Hypothesis). Covers p y t) same k))

    Found : List Hypothesis → Type 0
    Found l = AreCovered p l t

    later : (z : Hypothesis) (l : List Hypothesis) → Found l → Found (z ∷ l)
    later z l f = record { place = suc f.place; hypothesis = f.hypothesis; is = f.is; covers = f.covers }

    by : (zs : List Hypothesis) (k : ℕ) → slice_get (zs ++ h ∷ ys) k ≡ Some c.hypothesis → Found ((zs ++ g ∷ []) ++ ys)
    by [] zero is = record { place = 0; hypothesis = g; is = refl; covers = covers c.hypothesis (sym (same_Some h c.hypothesis is)) c.covers }
    by [] (suc k) is = record { place = suc k; hypothesis = c.hypothesis; is = is; covers = c.covers }
    by (z ∷ zs) zero is = record { place = 0; hypothesis = c.hypothesis; is = is; covers = c.covers }
    by (z ∷ zs) (suc k) is = later z ((zs ++ g ∷ []) ++ ys) (by zs k is)

-- ---- along the attempts

-- before all of them
pub start_covers : (p : Contents) (a : link.Attempt) (hyps : List Hypothesis) → IsStart hyps → CoverNext p (a ∷ []) hyps
start_covers p a hyps (h, is, known, gave, since, started, group) now ok t (none, was) next = record {
  place = 0;
  hypothesis = h;
  is = ap (λ (l : List Hypothesis). slice_get l 0) is;
  covers = inr (stands, subst (λ (o : Option Group). FitsGroup p o t.unit) (sym group) tt);
}
  where
    ldu : t.number.ldu ≡ p.codes.first_ldu
    ldu = subst (λ (o : Option Assigned). IsNext p.codes o ok t) none next

    stands : Stands p.codes.first_ldu h.standing t.number t.give_ups
    stands =
        subst (λ (o : Option UnitNumber). MayStand p.codes.first_ldu o h.standing.is_started h.standing t.number t.give_ups) (sym known)
        (ldu, omega (arith, gave, since))

-- of an attempt that is known by its first and its last word
pub is_refused : (p : Contents) (items : List Seen) (from to : ℕ) (hyps : List Hypothesis) (a : Attempt) (q : Contents)
    → q ≡ p → IsAttemptFrom p items from to a → FitsNone q hyps a → IsRefused p items hyps from to
is_refused p items from to hyps a q same is none = (a, is, subst (λ (r : Contents). FitsNone r hyps a) same none)

-- where nothing is left out, no search was cut short
pub none_cut : (o : Option Cut) → leaves_nothing_out o ≡ true → o ≡ None
none_cut None e = refl
none_cut (Some c) e = absurd (cc e)

pub none_left : (p : Contents) (hyps next : List Hypothesis) (a : Attempt) → next ≡ [] → CarriesOn p hyps a next → FitsNone p hyps a
none_left p hyps next a none carries t sound may covered =
    let c = carries t sound may covered in
    let off : slice_get [] c.place ≡ Some c.hypothesis =
    subst (λ (l : List Hypothesis). slice_get l c.place ≡ Some c.hypothesis) none c.is in
    absurd (cc off)

-- after an attempt from which the hypotheses go on
pub covers_on : (p : Contents) → IsProfile p → (items : List Seen) (from to : ℕ) (whole : Bool) (hyps next : List Hypothesis)
    (a : Attempt) (q : Contents) → q ≡ p → IsAttemptFrom p items from to a
    → (whole ≡ true → CoverNext p (attempts p (take from items)) hyps) → GoOnFrom q whole hyps a next
    → CoverNext p (attempts p (take to items)) next
covers_on p good items from to whole hyps next a q same is covers goes_so =
    let goes = subst (λ (r : Contents). GoOnFrom r whole hyps a next) same goes_so in
    subst (λ l. CoverNext p l next) (sym is.all)
    (cover_more p (attempts p (take from items)) (latest p (take to items)) whole hyps next
    (some_attempts p (fresh 0) (take from items)) covers
    (λ t u before sound of follows. goes t u before sound (may_be_to p good (latest p (take to items)) a t is.is sound of)
    (subst (λ (b : Bool). IsNext p.codes (Some t) b u) (sym is.is.acked) follows)))

-- at a word with which the attempt fits none of them
pub no_run_at : (p : Contents) → IsProfile p → ((items : List Seen) → BeginsARun p items → IsAssignable p items)
    → (items : List Seen) (from entry : ℕ) (hyps : List Hypothesis) → CoverNext p (attempts p (take from items)) hyps
    → IsRefused p items hyps from (entry + 1) → HasNoRun p items entry
no_run_at p good law items from entry hyps covers (a, is, none) run =
    let to = entry + 1 in
    not_assignable p (take to items) (attempts p (take from items)) (latest p (take to items)) hyps is.all covers
    (λ t sound of covered. none t sound (may_be_to p good (latest p (take to items)) a t is.is sound of) covered)
    (law (take to items) run)

-- ---- where a search was cut short

pub some_left : (hyps : List Hypothesis) → IsStart hyps → hyps ≡ [] → ⊥
some_left hyps (h, is, known, give_ups, since, started, group) none = absurd (cc (is, none))

pub no_cut : {X : Type 0} (o q : Option X) → option_or o q ≡ None → (o ≡ None) × (q ≡ None)
no_cut None q e = (refl, e)
no_cut (Some x) q e = absurd (cc e)

-- where a search was cut short first: before, or at this entry
pub first_cut : (o q : Option Cut) (entry : ℕ) → IfSome q (λ c. c.entry ≡ entry) → IfSome (option_or o q) (λ c. (c.entry ≡ entry) ⊎ (o ≡ Some c))
first_cut None None entry at = tt
first_cut None (Some c) entry at = inl at
first_cut (Some c) q entry at = inr refl

-- where each cut before was at a request, and this attempt has one, so is a cut after it
pub at_request : (p : Contents) (items : List Seen) (one other : Option Cut) (from at : ℕ) (new : Option Cut)
    → at ≡ from → IsRequestAt p items from → IsAtRequest p items one → IsAtRequest p items other → AreCuts one other at new
    → IsAtRequest p items new
at_request p items one other from at None same here h k cuts = tt
at_request p items one other from at (Some c) same here h k (inl is) = subst (IsRequestAt p items) (sym (is ∙ same)) here
at_request p items one other from at (Some c) same here h k (inr (inl is)) = subst (IsAtRequest p items) is h
at_request p items one other from at (Some c) same here h k (inr (inr is)) = subst (IsAtRequest p items) is k

pub none_whole : {X : Type 0} (o : Option X) (b : Bool) → is_some o ≡ not b → o ≡ None → b ≡ true
none_whole o true is e = refl
none_whole o false is e = absurd (cc (sym (ap is_some e) ∙ is))

pub whole_old : (o : Option Cut) → o ≡ None → leaves_nothing_out o ≡ true
whole_old o e = ap leaves_nothing_out e
