-- What a watch knows after one word more, and that it misses no place.
use Rattle.std.proofs.Common.{◌≡◌, ◌≤◌, ◌<◌, ◌⊎◌, ◌∙◌, true, false, ◌+◌, Bool, cond, Result, ℕ, suc, List, drop, Option, Some, None, refl, sym, ap, subst, inl, inr, arith}
use Rattle.std.specs.Prelude.{◌==◌, IfSome, length, IsOk, OnOk, slice_get, unwrap_or}
use Rattle.std.proofs.lemmas.Bool.{cases_eq}
use Rattle.a429_word.specs.declared.bus.Bus.{Bus}
use Rattle.a429_word.specs.declared.bus.Bus.TheVariants as bus
use Rattle.a429_profile.specs.declared.codes.Codes.{Codes}
use Rattle.a429_profile.specs.Profile.{Contents}
use Rattle.a429_ldu.specs.declared.forms.Form.{Form}
use Rattle.a429_ldu.specs.declared.forms.Form.TheVariants.{Rts, Cts, Ack, Nak, Sot, Part, Eot}
use Rattle.a429_ldu.specs.Form.{form_of, is_free}
use Rattle.a429_ldu.specs.Sight.{form_in, full_in, sight_in, sight_of}
use Rattle.a429_ldu.specs.declared.sight.Sight.{Sight}
use Rattle.a429_ldu.specs.declared.sight.Sight.TheVariants as sight
use Rattle.a429_ldu.proofs.SightFacts.{form_of-sight}
use Rattle.a429_ldu.proofs.FormFree.{free_none}
use Rattle.a429_link.specs.declared.number.UnitNumber.{UnitNumber}
use Rattle.a429_link.specs.declared.seen.Seen.{Seen}
use Rattle.a429_link.specs.Sink.{IsAck, Number, SinkPhase, Quiet, OwesClear, Granted, InBlock, OwesAck, OwesNak, EndWord, at_end, at_part, end_word}
use Rattle.a429_link.specs.Observer.{Observer, Allows, AllowsForm, at_first, sees, sees_form}
use Rattle.a429_parts.specs.declared.doubt.Doubt.{Doubt}
use Rattle.a429_parts.specs.declared.doubt.Doubt.TheVariants.{AfterUnit, Anew}
use Rattle.a429_parts.specs.Cutting.{Course, Follows, Lost, BeginsFile, CourseAfter, GoesOn, IsPlace, IsRequest, crossing, crossing_of, next_start}
use Rattle.a429_parts.specs.Watch.{FindsAll, Finds, FollowsBy, FollowsWord, HasNoBlock, IsBetween, IsInDoubt, IsKnown, IsKnownIn, IsQuiet, KnowsFirst, Leaves, MakesCertain, RulesOut, SeesWord, Settles, SettlesDoubt, TakesWord, Watched, Watches, after_none, doubt_after, doubt_crossed, doubt_lost, doubt_refused, place_of}
use Rattle.a429_parts.proofs.CuttingFacts.{allows_by, crossed_in, last_step, leaves_none, lost_in, lost_on, lost_place, no_request, no_request_none, of_ok, ruled_out, same_course, seen_in, sees_none, settle_none, settle_place, begun_in, waits_on}

-- ---- the place in doubt is settled

no_doubt_left : (f : Option Form) → Leaves f None
no_doubt_left f = tt

quiet_none : (observer : Option Observer) → IsQuiet observer None
quiet_none None = tt
quiet_none (Some o) = tt

quiet_lost : (doubt : Option Doubt) → IsQuiet None doubt
quiet_lost None = tt
quiet_lost (Some d) = tt

module _ (p : Contents) (items : List Seen) (i : Seen) (old new : Watched) (place : Option ℕ) (get : slice_get items old.count ≡ Some i)
    (knows : Watches p items old) where
  same_watch : new ≡ old → Watches p items new
  same_watch same = subst (Watches p items) (sym same) knows

  watched_none : (observer : Option Observer)
      → new ≡ record { count = old.count; observer = observer; doubt = None } → IsKnown p items old.count observer → Watches p items new
  watched_none observer is known = subst (Watches p items) (sym is) known

  watches_by : (doubt : Option Doubt)
      → old.doubt ≡ doubt → SettlesDoubt p.codes (form_of p.codes i.bus i.word) doubt old new place → Watches p items new
  watches_by None is h = same_watch h.0
  watches_by (Some d) is (inl h) = same_watch h.1
  watches_by (Some d) is (inr (inl h)) =
      watched_none old.observer h.1 (settle_place p items old i d (form_of p.codes i.bus i.word) is get refl h.0 knows).0
  watches_by (Some d) is (inr (inr h)) =
      watched_none (after_none d old.observer) h.1 (settle_none p items old i d (form_of p.codes i.bus i.word) is get refl h.0 knows)

  pub settled_watches : Settles p.codes (form_of p.codes i.bus i.word) old new place → Watches p items new
  settled_watches h = watches_by old.doubt refl h

  no_place : place ≡ None → IfSome place (IsPlace p items)
  no_place none = subst (λ (q : Option ℕ). IfSome q (IsPlace p items)) (sym none) tt

  place_by : (doubt : Option Doubt)
      → old.doubt ≡ doubt → SettlesDoubt p.codes (form_of p.codes i.bus i.word) doubt old new place → IfSome place (IsPlace p items)
  place_by None is h = no_place h.1
  place_by (Some d) is (inl h) = no_place h.2
  place_by (Some d) is (inr (inl h)) =
      subst (λ (q : Option ℕ). IfSome q (IsPlace p items)) (sym h.2)
      (settle_place p items old i d (form_of p.codes i.bus i.word) is get refl h.0 knows).1
  place_by (Some d) is (inr (inr h)) = no_place h.2

  pub settled_place : Settles p.codes (form_of p.codes i.bus i.word) old new place → IfSome place (IsPlace p items)
  settled_place h = place_by old.doubt refl h

  -- the doubt that is left is left by the word
  leaves_by_doubt : (doubt : Option Doubt) → old.doubt ≡ doubt → SettlesDoubt p.codes (form_of p.codes i.bus i.word) doubt old new place
      → Leaves (form_of p.codes i.bus i.word) new.doubt
  leaves_by_doubt None is h =
      subst (λ (d : Option Doubt). Leaves (form_of p.codes i.bus i.word) d) (sym (ap (λ (w : Watched). w.doubt) h.0 ∙ is))
      (no_doubt_left (form_of p.codes i.bus i.word))
  leaves_by_doubt (Some d) is (inl h) =
      subst (λ (x : Option Doubt). Leaves (form_of p.codes i.bus i.word) x) (sym (ap (λ (w : Watched). w.doubt) h.1 ∙ is)) h.0
  leaves_by_doubt (Some d) is (inr (inl h)) =
      subst (λ (x : Option Doubt). Leaves (form_of p.codes i.bus i.word) x) (sym (ap (λ (w : Watched). w.doubt) h.1))
      (no_doubt_left (form_of p.codes i.bus i.word))
  leaves_by_doubt (Some d) is (inr (inr h)) =
      subst (λ (x : Option Doubt). Leaves (form_of p.codes i.bus i.word) x) (sym (ap (λ (w : Watched). w.doubt) h.1))
      (no_doubt_left (form_of p.codes i.bus i.word))

  pub settled_leaves : Settles p.codes (form_of p.codes i.bus i.word) old new place → Leaves (form_of p.codes i.bus i.word) new.doubt
  settled_leaves h = leaves_by_doubt old.doubt refl h

  pub settled_count : Settles p.codes (form_of p.codes i.bus i.word) old new place → new.count ≡ old.count
  settled_count h = by old.doubt h
    where
      by : (doubt : Option Doubt) → SettlesDoubt p.codes (form_of p.codes i.bus i.word) doubt old new place → new.count ≡ old.count
      by None h = ap (λ (w : Watched). w.count) h.0
      by (Some d) (inl h) = ap (λ (w : Watched). w.count) h.1
      by (Some d) (inr (inl h)) = ap (λ (w : Watched). w.count) h.1
      by (Some d) (inr (inr h)) = ap (λ (w : Watched). w.count) h.1

  -- no place is missed by it
  module _ (last : ℕ) (finds : Finds p items last old) where
    found_same : place ≡ None → new ≡ old → Finds p items (unwrap_or place last) new
    found_same none same =
        subst (λ (q : Option ℕ). Finds p items (unwrap_or q last) new) (sym none) (subst (Finds p items last) (sym same) finds)

    found_none : (now : ℕ) (observer : Option Observer)
        → unwrap_or place last ≡ now → new ≡ record { count = old.count; observer = observer; doubt = None } → now ≤ old.count → last ≤ now
        → ((m : ℕ) → now < m → IsPlace p items m → IsInDoubt m old.doubt → ⊥) → Finds p items (unwrap_or place last) new
    found_none now observer is same until more out =
        subst (λ (k : ℕ). Finds p items k new) (sym is) (subst (Finds p items now) (sym same) (record {
          until = until;
          ahead = tt;
          quiet = quiet_none observer;
          all = λ m after most found. by m after found (finds.all m (omega (arith, after, more)) most found);
        }))
      where
        by : (m : ℕ) → now < m → IsPlace p items m → IsInDoubt m old.doubt ⊎ ((m ≡ old.count) × CourseAfter p items m Lost)
            → ⊥ ⊎ ((m ≡ old.count) × CourseAfter p items m Lost)
        by m after found (inl doubt) = absurd (out m after found doubt)
        by m after found (inr end) = inr end

    finds_by : (doubt : Option Doubt) → old.doubt ≡ doubt → SettlesDoubt p.codes (form_of p.codes i.bus i.word) doubt old new place
        → Finds p items (unwrap_or place last) new
    finds_by None is h = found_same h.1 h.0
    finds_by (Some d) is (inl h) = found_same h.2 h.1
    finds_by (Some d) is (inr (inl h)) =
        let ahead = subst (IsBetween last old.count) is finds.ahead in
        found_none (place_of d) old.observer (ap (λ (q : Option ℕ). unwrap_or q last) h.2) h.1 ahead.1 ahead.0
        (λ m after found doubt. omega (arith, after, subst (IsInDoubt m) is doubt))
    finds_by (Some d) is (inr (inr h)) =
        found_none last (after_none d old.observer) (ap (λ (q : Option ℕ). unwrap_or q last) h.2) h.1 finds.until (omega arith)
        (λ m after found doubt. ruled_out p items old i d (form_of p.codes i.bus i.word) is get refl h.0 knows
        (subst (IsPlace p items) (sym (subst (IsInDoubt m) is doubt)) found))

    pub settled_finds : Settles p.codes (form_of p.codes i.bus i.word) old new place → Finds p items (unwrap_or place last) new
    settled_finds h = finds_by old.doubt refl h

-- ---- while a place is in doubt, the sink has no block

is_ack : (c : Codes) (last : Option Number) (phase : SinkPhase) (f : Option Form) (unit : UnitNumber)
    → crossing_of c last phase f ≡ Some unit → IsAck f
is_ack c last Quiet f unit e = absurd (cc e)
is_ack c last OwesClear f unit e = absurd (cc e)
is_ack c last Granted f unit e = absurd (cc e)
is_ack c last (InBlock b) f unit e = absurd (cc e)
is_ack c last OwesNak f unit e = absurd (cc e)
is_ack c last (OwesAck b flags) None unit e = absurd (cc e)
is_ack c last (OwesAck b flags) (Some (Rts n)) unit e = absurd (cc e)
is_ack c last (OwesAck b flags) (Some (Cts n)) unit e = absurd (cc e)
is_ack c last (OwesAck b flags) (Some (Ack file ldu)) unit e = tt
is_ack c last (OwesAck b flags) (Some (Nak bits)) unit e = absurd (cc e)
is_ack c last (OwesAck b flags) (Some (Sot gfi file ldu)) unit e = absurd (cc e)
is_ack c last (OwesAck b flags) (Some (Part semis)) unit e = absurd (cc e)
is_ack c last (OwesAck b flags) (Some (Eot end check)) unit e = absurd (cc e)

pub no_ack : (c : Codes) (last : Option Number) (phase : SinkPhase) (f : Option Form) → f ≡ None → crossing_of c last phase f ≡ None
no_ack c last phase f none = by (crossing_of c last phase f) refl
  where
    by : (crosses : Option UnitNumber) → crossing_of c last phase f ≡ crosses → crosses ≡ None
    by None is = refl
    by (Some unit) is = absurd (subst IsAck none (is_ack c last phase f unit is))

ack_quiet : (p : Contents) (o : Observer) (b : Bus) (w : ℕ) (f : Option Form)
    → IsAck f → AllowsForm o b f → HasNoBlock (sees_form p b w f o).phase
ack_quiet p o bus.A w (Some (Ack file ldu)) ack allows = absurd allows
ack_quiet p o bus.B w (Some (Ack file ldu)) ack allows = tt
ack_quiet p o b w None ack allows = absurd ack
ack_quiet p o b w (Some (Rts n)) ack allows = absurd ack
ack_quiet p o b w (Some (Cts n)) ack allows = absurd ack
ack_quiet p o b w (Some (Nak bits)) ack allows = absurd ack
ack_quiet p o b w (Some (Sot gfi file ldu)) ack allows = absurd ack
ack_quiet p o b w (Some (Part semis)) ack allows = absurd ack
ack_quiet p o b w (Some (Eot flags check)) ack allows = absurd ack

-- after an acknowledgement by which a file crosses
crossed_quiet : (p : Contents) (o : Observer) (i : Seen) (unit : UnitNumber)
    → Allows p o i → crossing p o i ≡ Some unit → HasNoBlock (sees p i o).phase
crossed_quiet p o i unit allows crosses = by allows
  where
    ack : IsAck (form_of p.codes i.bus i.word)
    ack = is_ack p.codes o.last o.phase (form_of p.codes i.bus i.word) unit crosses

    by : Allows p o i → HasNoBlock (sees p i o).phase
    by (inl free) = absurd (subst IsAck (free_none p.codes i.bus i.word free) ack)
    by (inr allowed) = ack_quiet p o i.bus i.word (form_of p.codes i.bus i.word) ack allowed

no_crossing : (c : Codes) (last : Option Number) (phase : SinkPhase) (f : Option Form)
    → HasNoBlock phase → crossing_of c last phase f ≡ None
no_crossing c last Quiet f quiet = refl
no_crossing c last OwesClear f quiet = refl
no_crossing c last Granted f quiet = refl
no_crossing c last (InBlock b) f quiet = absurd quiet
no_crossing c last (OwesAck b flags) f quiet = absurd quiet
no_crossing c last OwesNak f quiet = refl

part_quiet : (word : ℕ) (phase : SinkPhase) → HasNoBlock phase → HasNoBlock (at_part word phase)
part_quiet word Quiet quiet = tt
part_quiet word OwesClear quiet = tt
part_quiet word Granted quiet = tt
part_quiet word (InBlock b) quiet = absurd quiet
part_quiet word (OwesAck b flags) quiet = absurd quiet
part_quiet word OwesNak quiet = tt

end_quiet : (p : Contents) (last : Option Number) (count : ℕ) (e : EndWord) (phase : SinkPhase)
    → HasNoBlock phase → HasNoBlock (at_end p last count e phase)
end_quiet p last count e Quiet quiet = tt
end_quiet p last count e OwesClear quiet = tt
end_quiet p last count e Granted quiet = tt
end_quiet p last count e (InBlock b) quiet = absurd quiet
end_quiet p last count e (OwesAck b flags) quiet = absurd quiet
end_quiet p last count e OwesNak quiet = tt

-- after a word that is no start word
goes_quiet : (p : Contents) (o : Observer) (b : Bus) (w : ℕ) (f : Option Form) (d : Doubt)
    → Leaves f (Some d) → HasNoBlock o.phase → HasNoBlock (sees_form p b w f o).phase
goes_quiet p o b w None d leaves quiet = quiet
goes_quiet p o bus.A w (Some (Rts n)) d leaves quiet = tt
goes_quiet p o bus.A w (Some (Cts n)) d leaves quiet = quiet
goes_quiet p o bus.A w (Some (Ack file ldu)) d leaves quiet = quiet
goes_quiet p o bus.A w (Some (Nak bits)) d leaves quiet = quiet
goes_quiet p o bus.A w (Some (Sot gfi file ldu)) d leaves quiet = absurd leaves
goes_quiet p o bus.A w (Some (Part semis)) d leaves quiet = part_quiet w o.phase quiet
goes_quiet p o bus.A w (Some (Eot flags check)) d leaves quiet = end_quiet p o.last o.count (end_word flags check) o.phase quiet
goes_quiet p o bus.B w (Some (Rts n)) d leaves quiet = quiet
goes_quiet p o bus.B w (Some (Cts n)) d leaves quiet = tt
goes_quiet p o bus.B w (Some (Ack file ldu)) d leaves quiet = tt
goes_quiet p o bus.B w (Some (Nak bits)) d leaves quiet = tt
goes_quiet p o bus.B w (Some (Sot gfi file ldu)) d leaves quiet = absurd leaves
goes_quiet p o bus.B w (Some (Part semis)) d leaves quiet = quiet
goes_quiet p o bus.B w (Some (Eot flags check)) d leaves quiet = quiet

request_quiet : (p : Contents) (o : Observer) (b : Bus) (w : ℕ) (f : Option Form) → IsRequest b f → HasNoBlock (sees_form p b w f o).phase
request_quiet p o bus.A w (Some (Rts n)) request = tt
request_quiet p o bus.A w None request = absurd request
request_quiet p o bus.A w (Some (Cts n)) request = absurd request
request_quiet p o bus.A w (Some (Ack file ldu)) request = absurd request
request_quiet p o bus.A w (Some (Nak bits)) request = absurd request
request_quiet p o bus.A w (Some (Sot gfi file ldu)) request = absurd request
request_quiet p o bus.A w (Some (Part semis)) request = absurd request
request_quiet p o bus.A w (Some (Eot flags check)) request = absurd request
request_quiet p o bus.B w f request = absurd request

-- the doubt after a word that is allowed
quiet_after : (p : Contents) (o : Observer) (i : Seen) (place : ℕ) (doubt : Option Doubt) → Leaves (form_of p.codes i.bus i.word) doubt
    → Allows p o i → IsQuiet (Some o) doubt → IsQuiet (Some (sees p i o)) (doubt_after place (crossing p o i) doubt)
quiet_after p o i place None leaves allows quiet = by (crossing p o i) refl
  where
    by : (crosses : Option UnitNumber) → crossing p o i ≡ crosses → IsQuiet (Some (sees p i o)) (doubt_after place crosses None)
    by None is = tt
    by (Some unit) is = crossed_quiet p o i unit allows is
quiet_after p o i place (Some d) leaves allows quiet =
    subst (λ (c : Option UnitNumber). IsQuiet (Some (sees p i o)) (doubt_after place c (Some d)))
    (sym (no_crossing p.codes o.last o.phase (form_of p.codes i.bus i.word) quiet))
    (goes_quiet p o i.bus i.word (form_of p.codes i.bus i.word) d leaves quiet)

between_after : (last n : ℕ) (crosses : Option UnitNumber) (doubt : Option Doubt)
    → last ≤ n → IsBetween last n doubt → IsBetween last (suc n) (doubt_after (suc n) crosses doubt)
between_after last n None None until ahead = tt
between_after last n None (Some d) until ahead = (ahead.0, omega (arith, ahead.1))
between_after last n (Some unit) None until ahead = (omega (arith, until), omega arith)
between_after last n (Some unit) (Some (AfterUnit place other)) until ahead = (omega (arith, until), omega arith)
between_after last n (Some unit) (Some (Anew place)) until ahead = (ahead.0, omega (arith, ahead.1))

between_lost : (last n : ℕ) (doubt : Option Doubt) → IsBetween last n doubt → IsBetween last (suc n) (doubt_lost doubt)
between_lost last n None ahead = tt
between_lost last n (Some (AfterUnit place unit)) ahead = tt
between_lost last n (Some (Anew place)) ahead = (ahead.0, omega (arith, ahead.1))

between_more : (last n : ℕ) (doubt : Option Doubt) → IsBetween last n doubt → IsBetween last (suc n) doubt
between_more last n None ahead = tt
between_more last n (Some d) ahead = (ahead.0, omega (arith, ahead.1))

stays_in_doubt : (p : Contents) (o : Observer) (i : Seen) (place m : ℕ) (doubt : Option Doubt)
    → IsQuiet (Some o) doubt → IsInDoubt m doubt → IsInDoubt m (doubt_after place (crossing p o i) doubt)
stays_in_doubt p o i place m None quiet h = absurd h
stays_in_doubt p o i place m (Some d) quiet h =
    subst (λ (c : Option UnitNumber). IsInDoubt m (doubt_after place c (Some d)))
    (sym (no_crossing p.codes o.last o.phase (form_of p.codes i.bus i.word) quiet)) h

crossed_in_doubt : (p : Contents) (o : Observer) (i : Seen) (place : ℕ) (doubt : Option Doubt) (unit : UnitNumber)
    → IsQuiet (Some o) doubt → crossing p o i ≡ Some unit → IsInDoubt place (doubt_after place (crossing p o i) doubt)
crossed_in_doubt p o i place None unit quiet crosses =
    subst (λ (c : Option UnitNumber). IsInDoubt place (doubt_after place c None)) (sym crosses) refl
crossed_in_doubt p o i place (Some d) unit quiet crosses =
    let none = no_crossing p.codes o.last o.phase (form_of p.codes i.bus i.word) quiet in absurd (cc (none, crosses))

-- ---- what is known of a course

some_is : (x y : Observer) → Some x ≡ Some y → x ≡ y
some_is x y e = cc e

follows_known : (p : Contents) (items : List Seen) (n : ℕ) (observer : Option Observer) (x : Observer) (crossed : Option UnitNumber)
    → CourseAfter p items n (Follows x crossed) → IsKnown p items n observer → observer ≡ Some x
follows_known p items n None x crossed after (Follows y other, before, same) = absurd same
follows_known p items n (Some z) x crossed after (Follows y other, before, same) =
    let e = same_course p items n (Follows y other) (Follows x crossed) before after in cc (same, e)
follows_known p items n observer x crossed after (Lost, before, same) =
    let e = same_course p items n Lost (Follows x crossed) before after in absurd (cc e)

begins_or_not : (c : Codes) (start : Option UnitNumber) → BeginsFile c start ⊎ (BeginsFile c start → ⊥)
begins_or_not c None = inr (λ h. h)
begins_or_not c (Some n) = cases_eq n.ldu c.first_ldu

follows_in : (p : Contents) (items : List Seen) (n : ℕ) (observer : Option Observer) (doubt : Option Doubt) (x : Observer)
    (crossed : Option UnitNumber)
    → CourseAfter p items n (Follows x crossed) → IsKnownIn p items n observer doubt (drop n items) → observer ≡ Some x
follows_in p items n observer None x crossed after h = follows_known p items n observer x crossed after h
follows_in p items n observer (Some (AfterUnit place unit)) x crossed after h = follows_known p items n observer x crossed after h.0
follows_in p items n observer (Some (Anew place)) x crossed after h = by (begins_or_not p.codes (next_start p.codes (drop n items)))
  where
    by : BeginsFile p.codes (next_start p.codes (drop n items)) ⊎ (BeginsFile p.codes (next_start p.codes (drop n items)) → ⊥)
        → observer ≡ Some x
    by (inl begins) = follows_known p items n observer x crossed after (h.0 begins).0
    by (inr not) = let lost = follows_known p items n None x crossed after (h.1 not) in absurd (cc lost)

lost_known : (p : Contents) (items : List Seen) (n : ℕ) (o : Observer) → CourseAfter p items n Lost → IsKnown p items n (Some o) → ⊥
lost_known p items n o after (Follows y other, before, same) = let e = same_course p items n (Follows y other) Lost before after in cc e
lost_known p items n o after (Lost, before, same) = same

-- no place is where an observer follows what is lost
lost_in_place : (p : Contents) (items : List Seen) (n : ℕ) (i : Seen) (o : Observer) (doubt : Option Doubt)
    → slice_get items n ≡ Some i → Leaves (form_of p.codes i.bus i.word) doubt → IsKnownIn p items n (Some o) doubt (drop n items)
    → CourseAfter p items n Lost → IsPlace p items n → ⊥
lost_in_place p items n i o None get leaves h after found = lost_known p items n o after h
lost_in_place p items n i o (Some (AfterUnit place unit)) get leaves h after found = lost_known p items n o after h.0
lost_in_place p items n i o (Some (Anew place)) get leaves h after found =
    no_request place i.bus (form_of p.codes i.bus i.word) leaves (lost_place p items n i get after found).0

-- a file crosses by this word, as this observer sees it
abbrev Crosses : Contents → Seen → Option Observer → Type 0
Crosses p i observer = (x : Observer) × (unit : UnitNumber) × (observer ≡ Some x) × Allows p x i × (crossing p x i ≡ Some unit)

-- a place after the next word
place_after : (p : Contents) (items : List Seen) (n : ℕ) (i : Seen) (observer : Option Observer) (doubt : Option Doubt)
    → slice_get items n ≡ Some i → IsKnownIn p items n observer doubt (drop n items) → IsPlace p items (suc n)
    → CourseAfter p items (suc n) Lost ⊎ Crosses p i observer
place_after p items n i observer doubt get h (Lost, after, may) = inl after
place_after p items n i observer doubt get h (Follows o None, after, may) = absurd may
place_after p items n i observer doubt get h (Follows o (Some unit), after, may) =
    inr (by (last_step p items n i (Follows o (Some unit)) get after))
  where
    by : (before : Course) × CourseAfter p items n before × GoesOn p before i (drop (suc n) items) (Follows o (Some unit))
        → Crosses p i observer
    by (Follows x crossed, before, inl goes) = (x, unit, follows_in p items n observer doubt x crossed before h, goes.0, by_course goes.1)
      where
        by_course : Follows o (Some unit) ≡ Follows (sees p i x) (crossing p x i) → crossing p x i ≡ Some unit
        by_course e = cc e
    by (Follows x crossed, before, inr goes) = let e = goes.1 in absurd (cc e)
    by (Lost, before, inl goes) = let e = goes.1 in absurd (cc e)
    by (Lost, before, inr goes) = let e = goes.1 in absurd (cc e)

-- ---- the next word is followed

up_to_next : (m n : ℕ) → m ≤ suc n → (m ≤ n) ⊎ (m ≡ suc n)
up_to_next m n h = by (cases_eq m (suc n))
  where
    by : (m ≡ suc n) ⊎ (m ≡ suc n → ⊥) → (m ≤ n) ⊎ (m ≡ suc n)
    by (inl is) = inr is
    by (inr not) = inl (omega (arith, h, not))

module _ (p : Contents) (items : List Seen) (i : Seen) (old new : Watched) (get : slice_get items old.count ≡ Some i)
    (knows : Watches p items old) (leaves : Leaves (form_of p.codes i.bus i.word) old.doubt) where
  known_by : (observer : Option Observer) → old.observer ≡ observer → IsKnownIn p items old.count observer old.doubt (drop old.count items)
  known_by observer is = subst (λ (o : Option Observer). IsKnownIn p items old.count o old.doubt (drop old.count items)) is knows

  after_by : (o : Observer) (crosses : Option UnitNumber) → crossing p o i ≡ crosses → old.observer ≡ Some o → Allows p o i
      → IsKnownIn p items (suc old.count) (Some (sees p i o)) (doubt_after (suc old.count) crosses old.doubt) (drop (suc old.count) items)
  after_by o None none is allows = seen_in p items old.count i o old.doubt get leaves (known_by (Some o) is) allows
  after_by o (Some unit) crosses is allows =
      crossed_in p items old.count i o unit old.doubt get leaves (known_by (Some o) is) allows crosses

  knows_by : (observer : Option Observer)
      → old.observer ≡ observer → FollowsBy p i observer old new → KnowsFirst p items (suc old.count) new
  knows_by None is (inl h) =
      subst (KnowsFirst p items (suc old.count)) (sym h.1) (begun_in p items old.count i old.doubt get leaves h.0 (known_by None is))
  knows_by None is (inr h) =
      subst (KnowsFirst p items (suc old.count)) (sym h.1)
      (subst (λ (o : Option Observer). IsKnownIn p items (suc old.count) o old.doubt (drop (suc old.count) items)) (sym is)
      (lost_on p items old.count i old.doubt get leaves (known_by None is) h.0))
  knows_by (Some o) is (inl h) = subst (KnowsFirst p items (suc old.count)) (sym h.1) (after_by o (crossing p o i) refl is h.0)
  knows_by (Some o) is (inr h) =
      subst (KnowsFirst p items (suc old.count)) (sym h.1) (lost_in p items old.count i o old.doubt get leaves (known_by (Some o) is) h.0)

  pub followed_knows : FollowsWord p i old new → KnowsFirst p items (suc old.count) new
  followed_knows h = knows_by old.observer refl h

  module _ (last : ℕ) (finds : Finds p items last old) where
    -- by what was found before, and by what is found at the next word
    all_by : (doubt : Option Doubt)
        → ((m : ℕ) → IsPlace p items m → IsInDoubt m old.doubt → IsInDoubt m doubt)
        → (CourseAfter p items old.count Lost → IsPlace p items old.count → IsInDoubt old.count doubt)
        → (Crosses p i old.observer → IsInDoubt (suc old.count) doubt)
        → (m : ℕ) → last < m → m ≤ suc old.count → IsPlace p items m
        → IsInDoubt m doubt ⊎ ((m ≡ suc old.count) × CourseAfter p items m Lost)
    all_by doubt stays begins crosses m after most found = by (up_to_next m old.count most)
      where
        before : IsInDoubt m old.doubt ⊎ ((m ≡ old.count) × CourseAfter p items m Lost) → IsInDoubt m doubt
        before (inl h) = stays m found h
        before (inr h) =
            subst (λ (k : ℕ). IsInDoubt k doubt) (sym h.0)
            (begins (subst (λ (k : ℕ). CourseAfter p items k Lost) h.0 h.1) (subst (IsPlace p items) h.0 found))

        here : m ≡ suc old.count → CourseAfter p items (suc old.count) Lost ⊎ Crosses p i old.observer
            → IsInDoubt m doubt ⊎ ((m ≡ suc old.count) × CourseAfter p items m Lost)
        here is (inl lost) = inr (is, subst (λ (k : ℕ). CourseAfter p items k Lost) (sym is) lost)
        here is (inr h) = inl (subst (λ (k : ℕ). IsInDoubt k doubt) (sym is) (crosses h))

        by : (m ≤ old.count) ⊎ (m ≡ suc old.count) → IsInDoubt m doubt ⊎ ((m ≡ suc old.count) × CourseAfter p items m Lost)
        by (inl few) = inl (before (finds.all m after few found))
        by (inr is) = here is (place_after p items old.count i old.observer old.doubt get knows (subst (IsPlace p items) is found))

    not_crossed : old.observer ≡ None → Crosses p i old.observer → ⊥
    not_crossed none (x, unit, is, allows, crosses) = cc (none, is)

    doubt_ends : (m : ℕ) (doubt : Option Doubt)
        → Leaves (form_of p.codes i.bus i.word) doubt → IsRequest i.bus (form_of p.codes i.bus i.word)
        → IsKnownIn p items old.count None doubt (drop old.count items) → IsInDoubt m doubt → ⊥
    doubt_ends m None left request h in_doubt = in_doubt
    doubt_ends m (Some (AfterUnit place unit)) left request h in_doubt = absurd h.1
    doubt_ends m (Some (Anew place)) left request h in_doubt = no_request place i.bus (form_of p.codes i.bus i.word) left request

    lost_doubt : (o : Observer) (m : ℕ) (doubt : Option Doubt) → Leaves (form_of p.codes i.bus i.word) doubt → (Allows p o i → ⊥)
        → IsKnownIn p items old.count (Some o) doubt (drop old.count items) → IsPlace p items m → IsInDoubt m doubt
        → IsInDoubt m (doubt_lost doubt)
    lost_doubt o m None left refused h found in_doubt = absurd in_doubt
    lost_doubt o m (Some (Anew place)) left refused h found in_doubt = in_doubt
    lost_doubt o m (Some (AfterUnit place unit)) left refused h found in_doubt =
        absurd (refused (waits_on p items old.count i o place unit get left (h.1.1 (subst (IsPlace p items) (sym in_doubt) found))).0)

    found_with : (observer : Option Observer)
        → old.observer ≡ observer → FollowsBy p i observer old new → FindsAll p items last (suc old.count) new.observer new.doubt
    found_with None is (inl h) = subst (λ (w : Watched). FindsAll p items last (suc old.count) w.observer w.doubt) (sym h.1) (record {
      until = omega (arith, finds.until);
      ahead = (finds.until, omega arith);
      quiet = request_quiet p at_first i.bus i.word (form_of p.codes i.bus i.word) h.0;
      all =
          all_by (Some (Anew old.count)) (λ m found in_doubt. absurd (doubt_ends m old.doubt leaves h.0 (known_by None is) in_doubt))
          (λ lost found. refl) (λ crosses. absurd (not_crossed is crosses));
    })
    found_with None is (inr h) = subst (λ (w : Watched). FindsAll p items last (suc old.count) w.observer w.doubt) (sym h.1) (record {
      until = omega (arith, finds.until);
      ahead = between_more last old.count old.doubt finds.ahead;
      quiet = finds.quiet;
      all =
          all_by old.doubt (λ m found in_doubt. in_doubt) (λ lost found. absurd (h.0 (lost_place p items old.count i get lost found).0))
          (λ crosses. absurd (not_crossed is crosses));
    })
    found_with (Some o) is (inl h) = subst (λ (w : Watched). FindsAll p items last (suc old.count) w.observer w.doubt) (sym h.1) (record {
      until = omega (arith, finds.until);
      ahead = between_after last old.count (crossing p o i) old.doubt finds.until finds.ahead;
      quiet = quiet_after p o i (suc old.count) old.doubt leaves h.0 quiet;
      all =
          all_by (doubt_after (suc old.count) (crossing p o i) old.doubt)
          (λ m found in_doubt. stays_in_doubt p o i (suc old.count) m old.doubt quiet in_doubt)
          (λ lost found. absurd (lost_in_place p items old.count i o old.doubt get leaves (known_by (Some o) is) lost found)) crosses_here;
    })
      where
        quiet : IsQuiet (Some o) old.doubt
        quiet = subst (λ (x : Option Observer). IsQuiet x old.doubt) is finds.quiet

        crosses_here : Crosses p i old.observer → IsInDoubt (suc old.count) (doubt_after (suc old.count) (crossing p o i) old.doubt)
        crosses_here (x, unit, same, allows, crosses) =
            let e = some_is x o (sym same ∙ is) in
            crossed_in_doubt p o i (suc old.count) old.doubt unit quiet (subst (λ (q : Observer). crossing p q i ≡ Some unit) e crosses)
    found_with (Some o) is (inr h) = subst (λ (w : Watched). FindsAll p items last (suc old.count) w.observer w.doubt) (sym h.1) (record {
      until = omega (arith, finds.until);
      ahead = between_lost last old.count old.doubt finds.ahead;
      quiet = quiet_lost (doubt_lost old.doubt);
      all = all_by (doubt_lost old.doubt) (λ m found in_doubt. lost_doubt o m old.doubt leaves h.0 (known_by (Some o) is) found in_doubt)
          (λ lost found. absurd (lost_in_place p items old.count i o old.doubt get leaves (known_by (Some o) is) lost found)) refused_here;
    })
      where
        refused_here : Crosses p i old.observer → IsInDoubt (suc old.count) (doubt_lost old.doubt)
        refused_here (x, unit, same, allows, crosses) =
            absurd (h.0 (subst (λ (q : Observer). Allows p q i) (some_is x o (sym same ∙ is)) allows))

    pub followed_finds : FollowsWord p i old new → FindsAll p items last (suc old.count) new.observer new.doubt
    followed_finds h = found_with old.observer refl h

-- ---- one word more

module _ (p : Contents) (items : List Seen) (i : Seen) (old new : Watched) (place : Option ℕ) (takes : TakesWord p i old new place)
    (get : slice_get items old.count ≡ Some i) (knows : Watches p items old) where
  abbrev mid : Watched
  mid = takes.sees.settled

  same_count : mid.count ≡ old.count
  same_count = settled_count p items i old mid place get knows takes.sees.settles

  get_mid : slice_get items mid.count ≡ Some i
  get_mid = subst (λ (n : ℕ). slice_get items n ≡ Some i) (sym same_count) get

  knows_mid : Watches p items mid
  knows_mid = settled_watches p items i old mid place get knows takes.sees.settles

  leaves_mid : Leaves (form_of p.codes i.bus i.word) mid.doubt
  leaves_mid = settled_leaves p items i old mid place get knows takes.sees.settles

  -- what is known goes on
  pub takes_watches : Watches p items new
  takes_watches =
      subst (Watches p items) (sym takes.counts)
      (subst (λ (n : ℕ). KnowsFirst p items n takes.seen) (ap suc same_count)
      (followed_knows p items i mid takes.seen get_mid knows_mid leaves_mid takes.sees.follows))

  -- the place that the word makes certain is one
  pub takes_place : IfSome place (IsPlace p items)
  takes_place = settled_place p items i old mid place get knows takes.sees.settles

  -- the last place is not after the words so far
  pub takes_until : (last : ℕ) → Finds p items last old → unwrap_or place last ≤ old.count
  takes_until last finds = omega (arith, (settled_finds p items i old mid place get knows last finds takes.sees.settles).until, same_count)

  -- and none is missed
  pub takes_finds : (last : ℕ) → Finds p items last old → Finds p items (unwrap_or place last) new
  takes_finds last finds =
      subst (Finds p items (unwrap_or place last)) (sym takes.counts)
      (subst (λ (n : ℕ). FindsAll p items (unwrap_or place last) n takes.seen.observer takes.seen.doubt) (ap suc same_count)
      (followed_finds p items i mid takes.seen get_mid knows_mid leaves_mid (unwrap_or place last)
      (settled_finds p items i old mid place get knows last finds takes.sees.settles) takes.sees.follows))

-- a place that a word makes certain was in doubt
pub takes_found : (p : Contents) (i : Seen) (old new : Watched) (place : Option ℕ)
    → TakesWord p i old new place → (P : ℕ → Type 0) → IfSome old.doubt (λ doubt. P (place_of doubt)) → IfSome place P
takes_found p i old new place takes P near = by old.doubt takes.sees.settles near
  where
    no_place : place ≡ None → IfSome place P
    no_place none = subst (λ (q : Option ℕ). IfSome q P) (sym none) tt

    by : (doubt : Option Doubt) → SettlesDoubt p.codes (form_of p.codes i.bus i.word) doubt old takes.sees.settled place
        → IfSome doubt (λ doubt. P (place_of doubt)) → IfSome place P
    by None h few = no_place h.1
    by (Some d) (inl h) few = no_place h.2
    by (Some d) (inr (inl h)) few = subst (λ (q : Option ℕ). IfSome q P) (sym h.2) few
    by (Some d) (inr (inr h)) few = no_place h.2

-- ---- what the code does with a word

abbrev watched_of : ℕ → Option Observer → Option Doubt → Watched
watched_of n observer doubt = record { count = n; observer = observer; doubt = doubt }

pub watched_is : (w : Watched) (n : ℕ) (observer : Option Observer) (doubt : Option Doubt)
    → w.count ≡ n → w.observer ≡ observer → w.doubt ≡ doubt → w ≡ record { count = n; observer = observer; doubt = doubt }
watched_is w n observer doubt a b c = ap (λ (x : ℕ). watched_of x w.observer w.doubt) a
    ∙ (ap (λ (x : Option Observer). watched_of n x w.doubt) b ∙ ap (λ (x : Option Doubt). watched_of n observer x) c)

pub settles_nothing : (c : Codes) (f : Option Form) (w : Watched) → w.doubt ≡ None → Settles c f w w None
settles_nothing c f w is = subst (λ (d : Option Doubt). SettlesDoubt c f d w w None) (sym is) (refl, refl)

pub settles_open : (c : Codes) (f : Option Form) (w : Watched) (d : Doubt) → w.doubt ≡ Some d → Leaves f (Some d) → Settles c f w w None
settles_open c f w d is leaves = subst (λ (x : Option Doubt). SettlesDoubt c f x w w None) (sym is) (inl (leaves, refl, refl))

pub settles_place : (c : Codes) (f : Option Form) (w new : Watched) (d : Doubt) (place : ℕ) → w.doubt ≡ Some d → MakesCertain c d f
    → new.count ≡ w.count → new.observer ≡ w.observer → new.doubt ≡ None → place ≡ place_of d → Settles c f w new (Some place)
settles_place c f w new d place is sure count observer doubt at =
    subst (λ (x : Option Doubt). SettlesDoubt c f x w new (Some place)) (sym is)
    (inr (inl (sure, watched_is new w.count w.observer None count observer doubt, ap (λ (k : ℕ). Some k) at)))

pub settles_none : (c : Codes) (f : Option Form) (w new : Watched) (d : Doubt) → w.doubt ≡ Some d → RulesOut c d f → new.count ≡ w.count
    → new.observer ≡ after_none d w.observer → new.doubt ≡ None → Settles c f w new None
settles_none c f w new d is out count observer doubt =
    subst (λ (x : Option Doubt). SettlesDoubt c f x w new None) (sym is)
    (inr (inr (out, watched_is new w.count (after_none d w.observer) None count observer doubt, refl)))

module _ (p : Contents) (i : Seen) (w new : Watched) where
  follows_by : (observer : Option Observer) → w.observer ≡ observer → FollowsBy p i observer w new → FollowsWord p i w new
  follows_by observer is h = subst (λ (o : Option Observer). FollowsBy p i o w new) (sym is) h

  pub follows_seen : (o : Observer) → w.observer ≡ Some o → Allows p o i → crossing p o i ≡ None → new.count ≡ w.count
      → new.observer ≡ Some (sees p i o) → new.doubt ≡ w.doubt → FollowsWord p i w new
  follows_seen o is allows crosses count observer doubt =
      follows_by (Some o) is (inl (
        allows,
        watched_is new w.count (Some (sees p i o)) (doubt_after (suc w.count) (crossing p o i) w.doubt) count observer
            (doubt ∙ ap (λ (c : Option UnitNumber). doubt_after (suc w.count) c w.doubt) (sym crosses)),
      ))

  pub follows_crossed : (o : Observer) (unit : UnitNumber)
      → w.observer ≡ Some o → Allows p o i → crossing p o i ≡ Some unit → new.count ≡ w.count → new.observer ≡ Some (sees p i o)
      → new.doubt ≡ doubt_crossed (w.count + 1) unit w.doubt → FollowsWord p i w new
  follows_crossed o unit is allows crosses count observer doubt =
      follows_by (Some o) is (inl (
        allows,
        watched_is new w.count (Some (sees p i o)) (doubt_after (suc w.count) (crossing p o i) w.doubt) count observer (doubt
            ∙ (ap (λ (n : ℕ). doubt_crossed n unit w.doubt) (at_next w.count)
            ∙ ap (λ (c : Option UnitNumber). doubt_after (suc w.count) c w.doubt) (sym crosses))),
      ))
    where
      at_next : (n : ℕ) → n + 1 ≡ suc n
      at_next n = omega arith

  pub follows_lost : (o : Observer) → w.observer ≡ Some o → (Allows p o i → ⊥) → new.count ≡ w.count → new.observer ≡ None
      → new.doubt ≡ doubt_lost w.doubt → FollowsWord p i w new
  follows_lost o is refused count observer doubt =
      follows_by (Some o) is (inr (refused, watched_is new w.count None (doubt_lost w.doubt) count observer doubt))

  pub follows_begun : {T E : Type 0} (o : Observer) (r : Result T E)
      → w.observer ≡ None → IsRequest i.bus (form_of p.codes i.bus i.word) → (Allows p at_first i → IsOk r) → OnOk r (o ≡ sees p i at_first)
      → new.count ≡ w.count → new.observer ≡ Some o → new.doubt ≡ Some (Anew w.count) → FollowsWord p i w new
  follows_begun o r is request ok taken count observer doubt =
      let seen = of_ok r (ok (inr (allows_by at_first i.bus (form_of p.codes i.bus i.word) request))) taken in
      follows_by None is (inl (
        request,
        watched_is new w.count (Some (sees p i at_first)) (Some (Anew w.count)) count (observer ∙ ap (λ (x : Observer). Some x) seen) doubt,
      ))

pub follows_on : (p : Contents) (i : Seen) (w : Watched)
    → w.observer ≡ None → (IsRequest i.bus (form_of p.codes i.bus i.word) → ⊥) → FollowsWord p i w w
follows_on p i w is other = follows_by p i w w None is (inr (other, refl))

-- ---- a word without form

free_is : (c : Codes) (b : Bus) (w : ℕ) → sight.Free ≡ sight_of c b w → is_free c b w ≡ true
free_is c b w e = by (is_free c b w) (form_of c b w) e
  where
    by : (t : Bool) (f : Option Form) → sight.Free ≡ cond t sight.Free (sight_in f) → t ≡ true
    by true f e = refl
    by false None e = absurd (cc e)
    by false (Some x) e = absurd (cc e)

taken_is : (c : Codes) (b : Bus) (w : ℕ) → sight.NoForm ≡ sight_of c b w → is_free c b w ≡ false
taken_is c b w e = by (is_free c b w) (form_of c b w) e
  where
    by : (t : Bool) (f : Option Form) → sight.NoForm ≡ cond t sight.Free (sight_in f) → t ≡ false
    by true f e = absurd (cc e)
    by false f e = refl

full_by : (t : Bool) (f x : Form) → cond t (Some f) None ≡ Some x → Some f ≡ Some x
full_by true f x e = e
full_by false f x e = absurd (cc e)

-- a word that has the form of a full one has this form
pub full_is : (o : Option Form) (x : Form) → full_in o ≡ Some x → o ≡ Some x
full_is None x e = absurd (cc e)
full_is (Some (Part semis)) x e = full_by (length semis == 5) (Part semis) x e
full_is (Some (Rts n)) x e = absurd (cc e)
full_is (Some (Cts n)) x e = absurd (cc e)
full_is (Some (Ack file ldu)) x e = absurd (cc e)
full_is (Some (Nak bits)) x e = absurd (cc e)
full_is (Some (Sot gfi file ldu)) x e = absurd (cc e)
full_is (Some (Eot flags check)) x e = absurd (cc e)

pub form_is : (c : Codes) (b : Bus) (w : ℕ) (s : Sight) → s ≡ sight_of c b w → form_of c b w ≡ form_in s
form_is c b w s e = sym (ap form_in e ∙ form_of-sight c b w)

module _ (p : Contents) (i : Seen) (w : Watched) where
  settles_by_none : form_of p.codes i.bus i.word ≡ None → Settles p.codes (form_of p.codes i.bus i.word) w w None
  settles_by_none none = subst (λ (f : Option Form). Settles p.codes f w w None) (sym none) (by w.doubt)
    where
      by : (doubt : Option Doubt) → SettlesDoubt p.codes None doubt w w None
      by None = (refl, refl)
      by (Some d) = inl (leaves_none (Some d), refl, refl)

  no_request_by : form_of p.codes i.bus i.word ≡ None → IsRequest i.bus (form_of p.codes i.bus i.word) → ⊥
  no_request_by none request = no_request_none i.bus (subst (IsRequest i.bus) none request)

  -- a free word changes nothing
  pub sees_free : sight.Free ≡ sight_of p.codes i.bus i.word → SeesWord p i w w None
  sees_free e = record { settled = w; settles = settles_by_none none; follows = by w.observer refl }
    where
      free : is_free p.codes i.bus i.word ≡ true
      free = free_is p.codes i.bus i.word e

      none : form_of p.codes i.bus i.word ≡ None
      none = free_none p.codes i.bus i.word free

      by : (observer : Option Observer) → w.observer ≡ observer → FollowsWord p i w w
      by None is = follows_on p i w is (no_request_by none)
      by (Some o) is =
          follows_seen p i w w o is (inl free) (no_ack p.codes o.last o.phase (form_of p.codes i.bus i.word) none) refl
          (is ∙ ap (λ (x : Observer). Some x) (sym (sees_none p i o none))) refl

  -- another one is refused, where an observer follows
  pub sees_refused : (new : Watched) → sight.NoForm ≡ sight_of p.codes i.bus i.word → new.count ≡ w.count → new.observer ≡ None
      → new.doubt ≡ doubt_refused w.observer w.doubt → SeesWord p i w new None
  sees_refused new e count observer doubt = record { settled = w; settles = settles_by_none none; follows = by w.observer refl }
    where
      none : form_of p.codes i.bus i.word ≡ None
      none = form_is p.codes i.bus i.word sight.NoForm e

      refused : (o : Observer) → Allows p o i → ⊥
      refused o (inl free) = let taken = taken_is p.codes i.bus i.word e in cc (free, taken)
      refused o (inr allows) = subst (AllowsForm o i.bus) none allows

      by : (o : Option Observer) → w.observer ≡ o → FollowsWord p i w new
      by None is =
          subst (FollowsWord p i w)
          (sym (watched_is new w.count w.observer w.doubt count (observer ∙ sym is)
          (doubt ∙ ap (λ (x : Option Observer). doubt_refused x w.doubt) is)))
          (follows_on p i w is (no_request_by none))
      by (Some o) is =
          follows_lost p i w new o is (refused o) count observer (doubt ∙ ap (λ (x : Option Observer). doubt_refused x w.doubt) is)
