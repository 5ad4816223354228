-- What a sink owes, and what it owed when the last request came.
use Rattle.std.proofs.Common.{◌≡◌, ◌↔◌, ◌⊎◌, ℕ, zero, suc, ◌+◌, ◌<◌, Bool, true, false, cond, nat_lt, List, [], ◌∷◌, ◌++◌, length, take, Option, Some, None, slice_get, refl, sym, ap, ◌∙◌, subst, inl, inr, arith}
use Rattle.std.specs.Prelude.{Contains}
use Rattle.std.proofs.lemmas.Bool.{cases_order}
use Rattle.std.proofs.lemmas.List.{take-append-le}
use Rattle.std.proofs.lemmas.List.Elements.{Contains-push_cases}
use Rattle.std.proofs.Math.Seq.{take-append_seam}
use Rattle.a429_word.specs.declared.bus.Bus.{Bus}
use Rattle.a429_word.specs.declared.bus.Bus.TheVariants as bus
use Rattle.a429_word.proofs.ListFacts.{last_item}
use Rattle.a429_profile.specs.Profile.{Contents}
use Rattle.a429_ldu.specs.Form.{form_of}
use Rattle.a429_ldu.specs.declared.forms.Form.{Form}
use Rattle.a429_ldu.specs.declared.forms.Form.TheVariants as form
use Rattle.a429_link.specs.declared.seen.Seen.{Seen}
use Rattle.a429_link.specs.Allowed.{AckOf, AnyNak, CtsOf, Kind, kind_of}
use Rattle.a429_link.specs.Sink.{Granted, InBlock, MayAnswer, MayAnswerForm, OwesAck, OwesClear, OwesNak, Quiet, Sink, SinkPhase}
use Rattle.a429_link.specs.Trace.{sink_after, sink_at_first, sink_sees}
use Rattle.a429_link.proofs.Message.{IsRead}
use Rattle.a429_sink.specs.declared.owed.Owed.{Owed}
use Rattle.a429_sink.specs.declared.owed.Owed.TheVariants as owed
use Rattle.a429_sink.specs.declared.lone_trace.Request.{Request}
use Rattle.a429_sink.specs.Alone.{AreSinkAllowed, IsSinkRefused, SinkAllows, SinkAllowsNext, SinkAllowsOn, SinkKeeps}
use Rattle.a429_sink.specs.Lone.{capped_in, kept}
use Rattle.a429_sink.specs.LoneTrace.{IsLastAsked, IsOwedBeforeAny, IsOwedForm, WasOwed}
use Rattle.a429_sink.specs.Owed.{IsLastRequest, IsOwed, IsOwedBefore, IsRequest, kinds_owed, owed_by, owed_in}
use Rattle.a429_sink.proofs.AloneFacts.{allowed_keeps, keeps_allowed}
use Rattle.a429_sink.proofs.LoneRuns.{kept_sink}

-- ---- the answer that is owed

pub may_owed : (count : ℕ) (phase : SinkPhase) (x : Form) → MayAnswer count phase x ↔ IsOwed (owed_in count phase) x
may_owed count phase x = (there phase x, back phase x)
  where
    there : (phase : SinkPhase) (x : Form) → MayAnswer count phase x → IsOwed (owed_in count phase) x
    there OwesClear (form.Cts n) a = a
    there (OwesAck b flags) (form.Ack file ldu) a = a
    there (OwesAck b flags) (form.Nak bits) a = a
    there OwesNak (form.Nak bits) a = a
    there _ _ a = absurd a

    back : (phase : SinkPhase) (x : Form) → IsOwed (owed_in count phase) x → MayAnswer count phase x
    back OwesClear (form.Cts n) a = a
    back (OwesAck b flags) (form.Ack file ldu) a = a
    back (OwesAck b flags) (form.Nak bits) a = a
    back OwesNak (form.Nak bits) a = a
    back _ _ a = absurd a

-- ---- as kinds of words

none_in : (q : Kind) → Contains [] q → ⊥
none_in q h = let l = h.1 in absurd (omega arith)

one_in : (k q : Kind) → Contains (k ∷ []) q → k ≡ q
one_in k q h = elim (Contains-push_cases [] k q h) [ inl n ↦ absurd (none_in q n) | inr e ↦ e ]

two_in : (k l q : Kind) → Contains (k ∷ (l ∷ [])) q → (k ≡ q) ⊎ (l ≡ q)
two_in k l q h = elim (Contains-push_cases (k ∷ []) l q h) [ inl n ↦ inl (one_in k q n) | inr e ↦ inr e ]

cts_from : (count : ℕ) (x : Form) → CtsOf count ≡ kind_of x → IsOwed (owed.Clear count) x
cts_from count (form.Cts n) e = cc e
cts_from count _ e = absurd (cc e)

ack_from : (file ldu : ℕ) (x : Form) → AckOf file ldu ≡ kind_of x → IsOwed (owed.Ack file ldu) x
ack_from file ldu (form.Ack f l) e = (cc e, cc e)
ack_from file ldu _ e = absurd (cc e)

nak_in_place : (file ldu : ℕ) (x : Form) → AnyNak ≡ kind_of x → IsOwed (owed.Ack file ldu) x
nak_in_place file ldu (form.Nak bits) e = tt
nak_in_place file ldu _ e = absurd (cc e)

nak_from : (x : Form) → AnyNak ≡ kind_of x → IsOwed owed.Nak x
nak_from (form.Nak bits) e = tt
nak_from _ e = absurd (cc e)

pub listed_owed : (o : Owed) (x : Form) → Contains (kinds_owed o) (kind_of x) ↔ IsOwed o x
listed_owed o x = (there o, back o x)
  where
    there : (o : Owed) → Contains (kinds_owed o) (kind_of x) → IsOwed o x
    there owed.Nothing h = absurd (none_in (kind_of x) h)
    there (owed.Clear count) h = cts_from count x (one_in (CtsOf count) (kind_of x) h)
    there (owed.Ack file ldu) h =
        elim (two_in (AckOf file ldu) AnyNak (kind_of x) h) [ inl e ↦ ack_from file ldu x e | inr e ↦ nak_in_place file ldu x e ]
    there owed.Nak h = nak_from x (one_in AnyNak (kind_of x) h)

    back : (o : Owed) (x : Form) → IsOwed o x → Contains (kinds_owed o) (kind_of x)
    back (owed.Clear count) (form.Cts n) a = (zero, omega arith, ap CtsOf (sym a))
    back (owed.Ack file ldu) (form.Ack f l) a = (zero, omega arith, ap (λ n. AckOf n ldu) (sym a.0) ∙ ap (AckOf f) (sym a.1))
    back (owed.Ack file ldu) (form.Nak bits) a = (suc zero, omega arith, refl)
    back owed.Nak (form.Nak bits) a = (zero, omega arith, refl)
    back _ _ a = absurd a

-- a block that is left out owes nothing, as it did
owed_capped : (count : ℕ) (phase : SinkPhase) → owed_in count (capped_in count phase) ≡ owed_in count phase
owed_capped count (InBlock b) = by (nat_lt count (length b.words + 2))
  where
    by : (t : Bool) → owed_in count (cond t Granted (InBlock b)) ≡ owed.Nothing
    by true = refl
    by false = refl
owed_capped count Quiet = refl
owed_capped count OwesClear = refl
owed_capped count Granted = refl
owed_capped count (OwesAck b flags) = refl
owed_capped count OwesNak = refl

pub owed_kept : (p : Contents) (items : List Seen) → owed_by (kept p items sink_at_first) ≡ owed_by (sink_after p items sink_at_first)
owed_kept p items = let s = sink_after p items sink_at_first in ap owed_by (kept_sink p items) ∙ owed_capped s.count s.phase

-- ---- items with one more

request_kept : (p : Contents) (items : List Seen) (i : Seen) (m : ℕ)
    → IsRequest p (slice_get items m) → IsRequest p (slice_get (items ++ i ∷ []) m)
request_kept p [] i zero h = absurd h
request_kept p [] i (suc m) h = absurd h
request_kept p (x ∷ items) i zero h = h
request_kept p (x ∷ items) i (suc m) h = request_kept p items i m h

request_cases : (p : Contents) (items : List Seen) (i : Seen) (m : ℕ)
    → IsRequest p (slice_get (items ++ i ∷ []) m) → IsRequest p (slice_get items m) ⊎ ((m ≡ length items) × IsRequest p (Some i))
request_cases p [] i zero h = inr (refl, h)
request_cases p [] i (suc m) h = absurd h
request_cases p (x ∷ items) i zero h = inl h
request_cases p (x ∷ items) i (suc m) h = elim (request_cases p items i m h) [ inl r ↦ inl r | inr r ↦ inr (ap suc r.0, r.1) ]

request_within : (p : Contents) (items : List Seen) (m : ℕ) → IsRequest p (slice_get items m) → m < length items
request_within p [] zero h = absurd h
request_within p [] (suc m) h = absurd h
request_within p (x ∷ items) zero h = omega arith
request_within p (x ∷ items) (suc m) h = let l = request_within p items m h in omega arith

take_first : (items : List Seen) (i : Seen) (m : ℕ) → m < length items → take m (items ++ i ∷ []) ≡ take m items
take_first items i m l = take-append-le m items (i ∷ []) (omega arith)

pub asked_more : (p : Contents) (items : List Seen) (i : Seen) (r : Option Request)
    → (IsRequest p (Some i) → ⊥) → IsLastAsked p items r → IsLastAsked p (items ++ i ∷ []) r
asked_more p items i None never h = λ m q. elim (request_cases p items i m q) [ inl q ↦ h m q | inr q ↦ never q.1 ]
asked_more p items i (Some r) never h = (
  (request_kept p items i r.entry h.0.0, λ m later q. elim (request_cases p items i m q) [ inl q ↦ h.0.1 m later q | inr q ↦ never q.1 ]),
  subst (λ (l : List Seen). r.owed ≡ owed_by (sink_after p l sink_at_first))
      (sym (take_first items i r.entry (request_within p items r.entry h.0.0))) h.1,
)

pub asked_now : (p : Contents) (items : List Seen) (i : Seen) (r : Request) → IsRequest p (Some i) → r.entry ≡ length items
    → r.owed ≡ owed_by (sink_after p items sink_at_first) → IsLastAsked p (items ++ i ∷ []) (Some r)
asked_now p items i r is e o =
    subst (λ (n : ℕ). IsLastRequest p (items ++ i ∷ []) n × (r.owed ≡ owed_by (sink_after p (take n (items ++ i ∷ [])) sink_at_first)))
    (sym e) (
      (
        subst (IsRequest p) (sym (last_item items i)) is,
        λ m later q. elim (request_cases p items i m q) [
          | inl q ↦ (let l = request_within p items m q in absurd (omega arith))
          | inr q ↦ (let l = q.0 in absurd (omega arith))
        ],
      ),
      subst (λ (l : List Seen). r.owed ≡ owed_by (sink_after p l sink_at_first)) (sym (take-append_seam items (i ∷ []))) o,
    )

-- ---- a word that is refused, and was owed

-- a word that some sink may not have sent, another may have sent where it owed that answer
allowed_then : (p : Contents) (s k : Sink) (i : Seen)
    → (SinkAllows p s i → ⊥) → SinkAllows p k i ↔ IsOwedForm (owed_by k) (form_of p.codes i.bus i.word)
allowed_then p s k i never = by i.bus i.word never
  where
    answer : (x : Option Form) → MayAnswerForm k.count k.phase x ↔ IsOwedForm (owed_by k) x
    answer None = (λ h. h, λ h. h)
    answer (Some x) = may_owed k.count k.phase x

    by : (b : Bus) (w : ℕ) → (SinkAllowsOn p s b w → ⊥) → SinkAllowsOn p k b w ↔ IsOwedForm (owed_by k) (form_of p.codes b w)
    by bus.A w never = absurd (never tt)
    by bus.B w never = (
      λ a. elim a [ inl f ↦ absurd (never (inl f)) | inr m ↦ (answer (form_of p.codes bus.B w)).0 m ],
      λ o. inr ((answer (form_of p.codes bus.B w)).1 o),
    )

-- there is one last request
one_last : (p : Contents) (items : List Seen) (j m : ℕ) → IsLastRequest p items j → IsLastRequest p items m → j ≡ m
one_last p items j m h q =
    elim (cases_order j m) [ inl e ↦ e | inr r ↦ elim r [ inl l ↦ absurd (h.1 m l q.0) | inr l ↦ absurd (q.1 j l h.0) ] ]

-- what it is that item n of these, the last one, was owed before
owed_at : (p : Contents) (items : List Seen) (i : Seen) (j : ℕ) → IsSinkRefused p (items ++ i ∷ []) (length items) → IsLastRequest p items j
    → SinkAllows p (sink_after p (take j items) sink_at_first) i → IsOwedBefore p (items ++ i ∷ []) (length items) j
owed_at p items i j refused last a = (
  refused,
  subst (λ (l : List Seen). IsLastRequest p l j) (sym (take-append_seam items (i ∷ []))) last,
  subst (SinkAllowsNext p (sink_after p (take j (items ++ i ∷ [])) sink_at_first)) (sym (last_item items i))
      (subst (λ (l : List Seen). SinkAllows p (sink_after p l sink_at_first) i)
      (sym (take_first items i j (request_within p items j last.0))) a),
)

at_owed : (p : Contents) (items : List Seen) (i : Seen) (j : ℕ) → IsOwedBefore p (items ++ i ∷ []) (length items) j
    → IsLastRequest p items j × SinkAllows p (sink_after p (take j items) sink_at_first) i
at_owed p items i j h =
    let last = subst (λ (l : List Seen). IsLastRequest p l j) (take-append_seam items (i ∷ [])) h.1 in (
      last,
      subst (λ (l : List Seen). SinkAllows p (sink_after p l sink_at_first) i) (take_first items i j (request_within p items j last.0))
          (subst (SinkAllowsNext p (sink_after p (take j (items ++ i ∷ [])) sink_at_first)) (last_item items i) h.2),
    )

pub refused_last : (p : Contents) (items : List Seen) (i : Seen)
    → (SinkAllows p (sink_after p items sink_at_first) i → ⊥) → IsSinkRefused p (items ++ i ∷ []) (length items)
refused_last p items i never =
    subst (λ (x : Option Seen). SinkAllowsNext p (sink_after p (take (length items) (items ++ i ∷ [])) sink_at_first) x → ⊥)
    (sym (last_item items i))
    (subst (λ (l : List Seen). SinkAllows p (sink_after p l sink_at_first) i → ⊥) (sym (take-append_seam items (i ∷ []))) never)

pub last_refused : (p : Contents) (items : List Seen) (i : Seen)
    → IsSinkRefused p (items ++ i ∷ []) (length items) → SinkAllows p (sink_after p items sink_at_first) i → ⊥
last_refused p items i refused a =
    refused (subst (SinkAllowsNext p (sink_after p (take (length items) (items ++ i ∷ [])) sink_at_first)) (sym (last_item items i))
    (subst (λ (l : List Seen). SinkAllows p (sink_after p l sink_at_first) i) (sym (take-append_seam items (i ∷ []))) a))

pub owed_before_any : (p : Contents) (items : List Seen) (i : Seen) (r : Option Request) (j : Option ℕ)
    → (SinkAllows p (sink_after p items sink_at_first) i → ⊥) → IsLastAsked p items r → WasOwed r (form_of p.codes i.bus i.word) j
    → IsOwedBeforeAny p (items ++ i ∷ []) (length items) j
owed_before_any p items i None None never asked was = λ j h. asked j (at_owed p items i j h).0.0
owed_before_any p items i None (Some j) never asked was = absurd was
owed_before_any p items i (Some r) None never asked was = λ j h.
    let at = at_owed p items i j h in
    let k = sink_after p (take r.entry items) sink_at_first in
    let here =
    subst (λ (n : ℕ). SinkAllows p (sink_after p (take n items) sink_at_first) i) (one_last p items j r.entry at.0 asked.0) at.1 in
    was (subst (λ (o : Owed). IsOwedForm o (form_of p.codes i.bus i.word)) (sym asked.1)
    ((allowed_then p (sink_after p items sink_at_first) k i never).0 here))
owed_before_any p items i (Some r) (Some j) never asked was =
    let k = sink_after p (take r.entry items) sink_at_first in
    subst (IsOwedBefore p (items ++ i ∷ []) (length items)) (sym was.0)
    (owed_at p items i r.entry (refused_last p items i never) asked.0 ((allowed_then p (sink_after p items sink_at_first) k i never).1
    (subst (λ (o : Owed). IsOwedForm o (form_of p.codes i.bus i.word)) asked.1 was.1)))

-- ---- just before that request it could have come

allowed_before : (p : Contents) (items : List Seen) (i j : ℕ) (k : Sink)
    → IsRequest p (slice_get (take i items) j) → AreSinkAllowed p k (take i items) → AreSinkAllowed p k (take j items)
allowed_before p [] zero zero k h a = absurd h
allowed_before p [] zero (suc j) k h a = absurd h
allowed_before p [] (suc i) zero k h a = absurd h
allowed_before p [] (suc i) (suc j) k h a = absurd h
allowed_before p (x ∷ items) zero zero k h a = absurd h
allowed_before p (x ∷ items) zero (suc j) k h a = absurd h
allowed_before p (x ∷ items) (suc i) zero k h a = tt
allowed_before p (x ∷ items) (suc i) (suc j) k h a = (a.0, allowed_before p items i j (sink_sees p x.bus x.word k) h a.1)

pub allowed_push : (p : Contents) (items : List Seen) (i : Seen) (k : Sink)
    → AreSinkAllowed p k items → SinkAllows p (sink_after p items k) i → AreSinkAllowed p k (items ++ i ∷ [])
allowed_push p [] i k h a = (a, tt)
allowed_push p (x ∷ items) i k h a = (h.0, allowed_push p items i (sink_sees p x.bus x.word k) h.1 a)

pub could_have_come : (p : Contents) → IsRead p → (items : List Seen) (i j : ℕ) (word : Seen) → SinkKeeps p (take i items)
    → slice_get items i ≡ Some word → IsOwedBefore p items i j → SinkKeeps p (take j items ++ word ∷ [])
could_have_come p good items i j word keeps is h =
    allowed_keeps p good (take j items ++ word ∷ []) sink_at_first
    (allowed_push p (take j items) word sink_at_first
    (allowed_before p items i j sink_at_first h.1.0 (keeps_allowed p good (take i items) sink_at_first keeps))
    (subst (SinkAllowsNext p (sink_after p (take j items) sink_at_first)) is h.2))
