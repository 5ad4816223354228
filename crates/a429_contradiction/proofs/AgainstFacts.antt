-- What a word is held against.
use Rattle.std.proofs.Common.{◌≡◌, ℕ, zero, suc, ◌+◌, Bool, true, false, List, [], ◌∷◌, length, take, Option, Some, None, IfSome, IfOk, Result, slice_get, refl, sym, ap, ◌∙◌, subst, arith}
use Rattle.std.proofs.lemmas.List.{take-map}
use Rattle.std.proofs.Math.Seq.{take-length}
use Rattle.a429_word.specs.declared.bus.Bus.{Bus}
use Rattle.a429_word.specs.declared.bus.Bus.TheVariants as bus
use Rattle.a429_word.proofs.ListFacts.{next_item}
use Rattle.a429_word.proofs.Outcomes.{each_some}
use Rattle.a429_profile.specs.Profile.{Contents}
use Rattle.a429_ldu.specs.declared.forms.Form.{Form}
use Rattle.a429_ldu.specs.declared.forms.Form.TheVariants.{Rts, Cts, Ack, Nak, Sot, Part, Eot}
use Rattle.a429_ldu.specs.Form.{form_of}
use Rattle.a429_link.specs.declared.doing.Doing.{Doing}
use Rattle.a429_link.specs.declared.doing.Doing.TheVariants as doing
use Rattle.a429_link.specs.declared.number.UnitNumber.{UnitNumber}
use Rattle.a429_link.specs.declared.seen.Seen.{Seen}
use Rattle.a429_link.specs.declared.why.Why.{Why}
use Rattle.a429_link.specs.declared.why.Why.TheVariants as why
use Rattle.a429_link.specs.Attempt.{Attempt}
use Rattle.a429_link.specs.Contradiction.{SoFar, so_far}
use Rattle.a429_link.specs.Implied.{Implied, does, doing_in, implied, implied_at_first, implies, implies_form, observer_of, why_at}
use Rattle.a429_link.specs.Observer.{Observer, at_first, observed, sees, sees_form, sink_of}
use Rattle.a429_link.specs.Sink.{Number, Sink, SinkPhase, Quiet, OwesClear, Granted, InBlock, OwesAck, OwesNak, MayAnswer, answers, is_same, number_of, takes}
use Rattle.a429_link.proofs.ImpliedFacts.{implied_push, observer_again}
use Rattle.a429_link.proofs.NumberFacts.{number_from}
use Rattle.a429_record.specs.declared.entry.Entry.{Entry}
use Rattle.a429_link.proofs.Contradictions.{same_number}
use Rattle.a429_cert.specs.Explained.{items_of, seen_of}
use Rattle.a429_explain.specs.Decoded.{HeardValue}
use Rattle.a429_explain.specs.declared.verdict.Reason.{Reason}
use Rattle.a429_explain.specs.declared.verdict.Reason.TheVariants.{BadBlock, NoRun}
use Rattle.a429_contradiction.specs.declared.against.Acked.{Acked}
use Rattle.a429_contradiction.specs.declared.against.Against.{Against}
use Rattle.a429_contradiction.specs.declared.against.Against.TheVariants as against
use Rattle.a429_contradiction.specs.Against.{AllowsIfForm, HasSemis, HoldsForm, IsAcked, IsHeldAfter, IsHeldAt, IsHeldForm, IsHeldNext, Known, acked_after, as_against, by_doing, known_by, last_number}
use Rattle.a429_contradiction.specs.declared.rival.Rival.{Rival}
use Rattle.a429_contradiction.specs.Rival.{IsRivalAt}
use Rattle.a429_contradiction.specs.SoFar.{unheard}
use Rattle.a429_contradiction.proofs.ContradictionFacts.{Witnesses, heard_other, heard_wrong}

-- ---- the acknowledgement recorded last

abbrev on : Bus → ℕ → Seen
on b w = record { bus = b; word = w }

same_last : (l : Option Number) (n : UnitNumber) → is_same l n ≡ true → last_number l ≡ Some n
same_last None n e = absurd (cc e)
same_last (Some m) n e = ap (λ (x : UnitNumber). Some x) (same_number m.number n e)

-- the number accepted last, after a word of this form
abbrev pub last_next : Bus → Option Form → Option UnitNumber → Option UnitNumber
last_next bus.B (Some (Ack f l)) old = Some (record { file = f; ldu = l })
last_next _ _ old = old

accepted : (p : Contents) (k : Sink) (f l : ℕ) (ph : SinkPhase) → MayAnswer k.count ph (Ack f l)
    → last_number (answers p.codes (Ack f l) (record k { phase = ph })).last ≡ Some (record { file = f; ldu = l })
accepted p k f l (OwesAck b flags) h = with_is (is_same k.last (number_of b)) refl
  where
    numbers : number_of b ≡ record { file = f; ldu = l }
    numbers = number_from (number_of b) (record { file = f; ldu = l }) (sym h.0) (sym h.1)

    with_is : (t : Bool) → is_same k.last (number_of b) ≡ t
        → last_number (answers p.codes (Ack f l) (record k { phase = OwesAck b flags })).last ≡ Some (record { file = f; ldu = l })
    with_is true e = rw e (same_last k.last (number_of b) e ∙ ap (λ (x : UnitNumber). Some x) numbers)
    with_is false e = rw e (ap (λ (x : UnitNumber). Some x) numbers)
accepted p k f l Quiet h = absurd h
accepted p k f l OwesClear h = absurd h
accepted p k f l Granted h = absurd h
accepted p k f l (InBlock b) h = absurd h
accepted p k f l OwesNak h = absurd h

last_after : (p : Contents) (b : Bus) (w : ℕ) (x : Option Form) (o : Observer)
    → AllowsIfForm o b x → last_number (sees_form p b w x o).last ≡ last_next b x (last_number o.last)
last_after p bus.A w None o h = refl
last_after p bus.A w (Some (Rts n)) o h = refl
last_after p bus.A w (Some (Cts n)) o h = refl
last_after p bus.A w (Some (Ack f l)) o h = refl
last_after p bus.A w (Some (Nak q)) o h = refl
last_after p bus.A w (Some (Sot g f l)) o h = refl
last_after p bus.A w (Some (Part q)) o h = refl
last_after p bus.A w (Some (Eot f c)) o h = refl
last_after p bus.B w None o h = refl
last_after p bus.B w (Some (Rts n)) o h = refl
last_after p bus.B w (Some (Cts n)) o h = refl
last_after p bus.B w (Some (Ack f l)) o h = accepted p (sink_of o) f l o.phase h
last_after p bus.B w (Some (Nak q)) o h = refl
last_after p bus.B w (Some (Sot g f l)) o h = refl
last_after p bus.B w (Some (Part q)) o h = refl
last_after p bus.B w (Some (Eot f c)) o h = refl

acked_same : (p : Contents) (items : List Seen) (a : Option Acked) (o q : Observer)
    → last_number q.last ≡ last_number o.last → IsAcked p items a o → IsAcked p items a q
acked_same p items None o q e h = e ∙ h
acked_same p items (Some a) o q e h = (h.0, e ∙ h.1)

acked_form : (p : Contents) (items : List Seen) (n : ℕ) (b : Bus) (w : ℕ) (x : Option Form) (o q : Observer) (a : Option Acked)
    → slice_get items n ≡ Some (on b w) → form_of p.codes b w ≡ x → last_number q.last ≡ last_next b x (last_number o.last)
    → IsAcked p items a o → IsAcked p items (acked_after n b x a) q
acked_form p items n bus.B w (Some (Ack f l)) o q a at is e h = (rw (at, is) refl, e)
acked_form p items n bus.B w None o q a at is e h = acked_same p items a o q e h
acked_form p items n bus.B w (Some (Rts c)) o q a at is e h = acked_same p items a o q e h
acked_form p items n bus.B w (Some (Cts c)) o q a at is e h = acked_same p items a o q e h
acked_form p items n bus.B w (Some (Nak s)) o q a at is e h = acked_same p items a o q e h
acked_form p items n bus.B w (Some (Sot g f l)) o q a at is e h = acked_same p items a o q e h
acked_form p items n bus.B w (Some (Part s)) o q a at is e h = acked_same p items a o q e h
acked_form p items n bus.B w (Some (Eot f c)) o q a at is e h = acked_same p items a o q e h
acked_form p items n bus.A w x o q a at is e h = acked_same p items a o q e h

-- ---- what the words so far have shown

-- after the first n words
pub record Watches (p : Contents) (items : List Seen) (n : ℕ) (o : Observer) (s : SoFar) (parts : List ℕ) (k : Implied)
    (a : Option Acked) : Type 0 where
  pub known : Witnesses p items n o s parts
  pub sink : k ≡ implied p (take n items) implied_at_first
  pub acked : IsAcked p items a o

-- one word more
pub watches_more : (p : Contents) (items : List Seen) (n : ℕ) (i : Seen) (x : Option Form) (o q : Observer) (s t : SoFar)
    (parts after : List ℕ) (k l : Implied) (a b : Option Acked)
    → slice_get items n ≡ Some i → form_of p.codes i.bus i.word ≡ x → Watches p items n o s parts k a → Witnesses p items (n + 1) q t after
    → q ≡ sees p i o → AllowsIfForm (observer_of k) i.bus x → l ≡ implies_form p i.bus i.word x k → b ≡ acked_after n i.bus x a
    → Watches p items (n + 1) q t after l b
watches_more p items n i x o q s t parts after k l a b at is h next seen may took acks =
    let one : n + 1 ≡ suc n = omega arith in
    let same : observer_of k ≡ o = ap observer_of h.sink ∙ observer_again p (take n items) ∙ sym h.known.observer in
    let allowed : AllowsIfForm o i.bus x = subst (λ (z : Observer). AllowsIfForm z i.bus x) same may in
    let last : last_number q.last ≡ last_next i.bus x (last_number o.last) =
    ap (λ (z : Observer). last_number z.last) (seen ∙ ap (λ (y : Option Form). sees_form p i.bus i.word y o) is)
    ∙ last_after p i.bus i.word x o allowed in
    record {
      known = next;
      sink = took ∙ ap (λ (y : Option Form). implies_form p i.bus i.word y k) (sym is) ∙ ap (implies p i) h.sink
          ∙ sym (implied_push p (take n items) i implied_at_first)
          ∙ ap (λ (z : List Seen). implied p z implied_at_first) (sym (next_item n i items at))
          ∙ ap (λ (m : ℕ). implied p (take m items) implied_at_first) (sym one);
      acked = subst (λ (c : Option Acked). IsAcked p items c q) (sym acks) (acked_form p items n i.bus i.word x o q a at is last h.acked);
    }

-- ---- what a word is held against

abbrev plain : Attempt → Attempt
plain a = record a { acked = None }

heard_semis : (p : Contents) (k : Implied) (a : Attempt) (b : Bus) (w : ℕ) (x : Option Form) (n : ℕ)
    → HasSemis p k (plain a) b w x n ≡ HasSemis p k a b w x n
heard_semis p k a bus.A w (Some (Eot f c)) n = refl
heard_semis p k a bus.A w (Some (Part q)) n = refl
heard_semis p k a _ w _ n = refl

-- what is acknowledged in the attempt does not matter
heard_holds : (p : Contents) (k : Implied) (o : Observer) (s : SoFar) (before : List Seen) (b : Bus) (w : ℕ) (x : Option Form) (a : Against)
    → HoldsForm p (known_by k o (unheard s)) before b w x a ≡ HoldsForm p (known_by k o s) before b w x a
heard_holds p k o s before b w x (against.Allowed next) = refl
heard_holds p k o s before b w x (against.Semis n) = heard_semis p k s.attempt b w x n
heard_holds p k o s before b w x (against.Check r c) = refl
heard_holds p k o s before b w x (against.NotFirst n) = refl
heard_holds p k o s before b w x (against.Rival r) = refl
heard_holds p k o s before b w x (against.AfterAck n m e) = refl
heard_holds p k o s before b w x (against.AfterStart n m v e) = wrong _ _ _ _ (heard_wrong b x s)
  where
    wrong : (P Q R S : Type 0) {T U : Type 0} → T ≡ U → (P × Q × R × S × T) ≡ (P × Q × R × S × U)
    wrong P Q R S e = ap (λ (T : Type 0). P × Q × R × S × T) e
heard_holds p k o s before b w x (against.OtherStart n v e) = other _ _ _ _ (heard_other b w x s)
  where
    other : (P Q R S : Type 0) {T U : Type 0} → T ≡ U → (P × Q × R × S × T) ≡ (P × Q × R × S × U)
    other P Q R S e = ap (λ (T : Type 0). P × Q × R × S × T) e
heard_holds p k o s before b w x (against.OtherCount n m v e) = other _ _ _ _ _ (heard_other b w x s)
  where
    other : (P Q R S V : Type 0) {T U : Type 0} → T ≡ U → (P × Q × R × S × V × T) ≡ (P × Q × R × S × V × U)
    other P Q R S V e = ap (λ (T : Type 0). P × Q × R × S × V × T) e
heard_holds p k o s before b w x (against.OtherEnd n v e) = other _ _ _ _ (heard_other b w x s)
  where
    other : (P Q R S : Type 0) {T U : Type 0} → T ≡ U → (P × Q × R × S × T) ≡ (P × Q × R × S × U)
    other P Q R S e = ap (λ (T : Type 0). P × Q × R × S × T) e
heard_holds p k o s before b w x (against.OtherWord n v z e) = other _ _ _ _ (heard_other b w x s)
  where
    other : (P Q R S : Type 0) {T U : Type 0} → T ≡ U → (P × Q × R × S × T) ≡ (P × Q × R × S × U)
    other P Q R S e = ap (λ (T : Type 0). P × Q × R × S × T) e

-- after all words
pub holds_after : (p : Contents) (items : List Seen) (o : Observer) (s : SoFar) (parts : List ℕ) (k : Implied) (c : Option Acked) (b : Bus)
    (w : ℕ) (x : Option Form) (a : Against) → Watches p items (length items) o s parts k c
    → HoldsForm p (known_by k o s) items b w x a
    → HoldsForm p (known_by (implied p items implied_at_first) (observed p items at_first) (so_far p items)) items b w x a
holds_after p items o s parts k c b w x a is h =
    let all = take-length items in
    let sink : k ≡ implied p items implied_at_first = is.sink ∙ ap (λ (z : List Seen). implied p z implied_at_first) all in
    let observer : o ≡ observed p items at_first = is.known.observer ∙ ap (λ (z : List Seen). observed p z at_first) all in
    let same : unheard s ≡ unheard (so_far p items) = is.known.so_far ∙ ap (λ (z : List Seen). unheard (so_far p z)) all in
    let first = subst (λ (T : Type 0). T) (sym (heard_holds p k o s items b w x a)) h in
    let second = subst (λ (t : SoFar). HoldsForm p (known_by k o t) items b w x a) same first in
    let third = subst (λ (T : Type 0). T) (heard_holds p k o (so_far p items) items b w x a) second in
    let fourth = subst (λ (z : Implied). HoldsForm p (known_by z o (so_far p items)) items b w x a) sink third in
    subst (λ (z : Observer). HoldsForm p (known_by (implied p items implied_at_first) z (so_far p items)) items b w x a) observer fourth

-- ---- a block that is that of no link data unit

-- a sink that owes a negative answer for this reason after an end word
by_phase : (count : ℕ) (r : Option Why) (ph : SinkPhase) (y : Why)
    → doing_in count r ph ≡ doing.OwesNak y → ¬ (y ≡ why.NoStart) → r ≡ Some y
by_phase count None OwesNak y e other = absurd (other (sym (cc e)))
by_phase count (Some z) OwesNak y e other = cc e
by_phase count r Quiet y e other = absurd (cc e)
by_phase count r OwesClear y e other = absurd (cc e)
by_phase count r Granted y e other = absurd (cc e)
by_phase count r (InBlock b) y e other = absurd (cc e)
by_phase count r (OwesAck b f) y e other = absurd (cc e)

pub owes_by : (p : Contents) (w flags check : ℕ) (k : Sink) (y : Why)
    → doing.OwesNak y ≡ does p bus.A w (Eot flags check) k → ¬ (y ≡ why.NoStart) → why_at p (Eot flags check) k ≡ Some y
owes_by p w flags check k y e other =
    by_phase (takes p w (Eot flags check) k).count (why_at p (Eot flags check) k) (takes p w (Eot flags check) k).phase y (sym e) other

-- what an end word is held against
pub bad_by : (p : Contents) (k : Known) (before : List Seen) (w flags check : ℕ) (d : Doing)
    → d ≡ does p bus.A w (Eot flags check) k.sink.sink
    → IfSome (by_doing check d) (IsHeldForm p k before bus.A w (Some (Eot flags check)) BadBlock)
bad_by p k before w flags check (doing.OwesNak (why.HalfBytes n)) e =
    (refl, owes_by p w flags check k.sink.sink (why.HalfBytes n) e (λ z. absurd (cc z)))
bad_by p k before w flags check (doing.OwesNak (why.OtherCheck c)) e =
    (refl, (refl, owes_by p w flags check k.sink.sink (why.OtherCheck c) e (λ z. absurd (cc z))))
bad_by p k before w flags check (doing.OwesNak why.NoStart) e = tt
bad_by p k before w flags check (doing.OwesNak (why.OtherCount a b)) e = tt
bad_by p k before w flags check (doing.OwesNak why.OutOfSequence) e = tt
bad_by p k before w flags check doing.Quiet e = tt
bad_by p k before w flags check (doing.OwesClear n) e = tt
bad_by p k before w flags check (doing.Granted n) e = tt
bad_by p k before w flags check (doing.InBlock f l a b) e = tt
bad_by p k before w flags check (doing.OwesAck f l) e = tt
bad_by p k before w flags check (doing.Accepts f l c) e = tt
bad_by p k before w flags check (doing.Again f l) e = tt

-- ---- at an entry

next_is : (p : Contents) (items : List Seen) (n : ℕ) (i : Seen) (o : Option Seen) (reason : Reason) (a : Against)
    → o ≡ Some i → IsHeldAfter p (take n items) i reason a → IsHeldNext p (take n items) o reason a
next_is p items n i o reason a is h = subst (λ (z : Option Seen). IsHeldNext p (take n items) z reason a) (sym is) h

got : (es : List Entry) (n : ℕ) (e : Entry) → slice_get es n ≡ Some e → slice_get (items_of es) n ≡ Some (seen_of e)
got [] n e is = absurd (cc is)
got (x ∷ es) zero e is = let same : x ≡ e = cc is in ap (λ (z : Entry). Some (seen_of z)) same
got (x ∷ es) (suc n) e is = got es n e is

pub held_at : {E : Type 0} (p : Contents) (es : List Entry) (n : ℕ) (reason : Reason) (before : HeardValue) (e : Entry) (i : Seen)
    (r : Result (Option Against) E)
    → before ≡ record { profile = p; items = items_of (take n es) } → slice_get es n ≡ Some e → i ≡ seen_of e
    → IfOk r (λ o. IfSome o (IsHeldAfter before.profile before.items i reason)) → IfOk r (λ o. IfSome o (IsHeldAt p (items_of es) n reason))
held_at p es n reason before e i r is at seen h =
    let first = subst (λ (z : HeardValue). IfOk r (λ o. IfSome o (IsHeldAfter z.profile z.items i reason))) is h in
    let second = subst (λ (l : List Seen). IfOk r (λ o. IfSome o (IsHeldAfter p l i reason))) (sym (take-map seen_of n es)) first in
    each_some r
    (λ a k. next_is p (items_of es) n i (slice_get (items_of es) n) reason a (got es n e at ∙ ap (λ (z : Seen). Some z) (sym seen)) k)
    second

rival_held : (p : Contents) (items : List Seen) (n : ℕ) (i : Seen) (r : Rival)
    → slice_get items n ≡ Some i → IsRivalAt p (take (n + 1) items) r → IsHeldAt p items n NoRun (against.Rival r)
rival_held p items n i r at h =
    let one : n + 1 ≡ suc n = omega arith in
    let here = subst (λ (l : List Seen). IsRivalAt p l r) (ap (λ (m : ℕ). take m items) one ∙ next_item n i items at) h in
    subst (λ (z : Option Seen). IsHeldNext p (take n items) z NoRun (against.Rival r)) (sym at) (refl, here)

as_held : (p : Contents) (items : List Seen) (n : ℕ) (i : Seen) (o : Option Rival)
    → slice_get items n ≡ Some i → IfSome o (IsRivalAt p (take (n + 1) items)) → IfSome (as_against o) (IsHeldAt p items n NoRun)
as_held p items n i (Some r) at h = rival_held p items n i r at h
as_held p items n i None at h = tt

-- the attempt that the one of an entry is held against
pub rival_of_entries : (p : Contents) (es : List Entry) (n : ℕ) (d : HeardValue) (e : Entry) (o : Option Rival)
    → d ≡ record { profile = p; items = items_of (take (n + 1) es) } → slice_get es n ≡ Some e → IfSome o (IsRivalAt d.profile d.items)
    → IfSome (as_against o) (IsHeldAt p (items_of es) n NoRun)
rival_of_entries p es n d e o is at h =
    let first = subst (λ (z : HeardValue). IfSome o (IsRivalAt z.profile z.items)) is h in
    let second = subst (λ (l : List Seen). IfSome o (IsRivalAt p l)) (sym (take-map seen_of (n + 1) es)) first in
    as_held p (items_of es) n (seen_of e) o (got es n e at) second
