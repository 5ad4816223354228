-- What the entries so far say of a recording that begins anywhere.
use Rattle.std.proofs.Common.{◌≡◌, ℕ, zero, suc, Bool, true, false, cond, List, [], ◌∷◌, ◌++◌, length, take, Option, Some, None, slice_get, refl, sym, ap, ◌∙◌, subst, inl, inr}
use Rattle.a429_word.specs.declared.bus.Bus.{Bus}
use Rattle.a429_word.specs.declared.bus.Bus.TheVariants as bus
use Rattle.a429_profile.specs.declared.codes.Codes.{Codes}
use Rattle.a429_profile.specs.Profile.{Contents}
use Rattle.a429_ldu.specs.Form.{form_of}
use Rattle.a429_ldu.specs.Ldu.{is_final}
use Rattle.a429_ldu.specs.Sight.{sight_in}
use Rattle.a429_ldu.specs.declared.sight.Sight.TheVariants as sight
use Rattle.a429_ldu.specs.declared.forms.Form.{Form}
use Rattle.a429_ldu.specs.declared.forms.Form.TheVariants as form
use Rattle.a429_link.specs.declared.number.UnitNumber.{UnitNumber}
use Rattle.a429_link.specs.declared.seen.Seen.{Seen}
use Rattle.a429_link.specs.Observer.{Observer}
use Rattle.a429_link.specs.Sink.{Block, IsAck, Number, OwesAck, SinkPhase, number_of}
use Rattle.a429_sink.specs.declared.file_units.FileUnits.{FileUnits}
use Rattle.a429_sink.specs.declared.fault.SinkFault.{SinkFault}
use Rattle.a429_sink.specs.declared.fault.SinkFault.TheVariants as fault
use Rattle.a429_sink.specs.declared.glimpsed.Accepted.{Accepted}
use Rattle.a429_sink.specs.declared.glimpsed.GlimpsedSink.{GlimpsedSink}
use Rattle.a429_sink.specs.declared.glimpsed_trace.GlimpsedTrace.{GlimpsedTrace}
use Rattle.a429_sink.specs.Anywhere.{Glimpse, GlimpseAllows, GlimpseAllowsForm, GlimpseAllowsNext, IsRefusedAnywhere, Known, glimpse_at_first, glimpsed, glimpses, glimpses_form, is_known, learned, learns, unknown}
use Rattle.a429_sink.specs.FileUnits.{AreUnits}
use Rattle.a429_sink.specs.Glimpsed.{FollowsWord, IsGlimpseFault, IsKnownIn, IsKnownOf, IsPhaseKnown, files_with, glimpse_of, unit_by, unit_in, unit_of}
use Rattle.a429_sink.specs.GlimpsedTrace.{IsGlimpseStop, IsGlimpsedTrace, MakesSure}
use Rattle.a429_sink.proofs.GlimpsedFacts.{ack_owed}
use Rattle.a429_sink.proofs.LoneFacts.{form_seen}
use Rattle.a429_sink.specs.History.{units_after, units_by, with_block, with_unit}

-- ---- one more item

glimpsed_push : (p : Contents) (items : List Seen) (i : Seen) (g : Glimpse)
    → glimpsed p (items ++ i ∷ []) g ≡ glimpses p i (glimpsed p items g)
glimpsed_push p [] i g = refl
glimpsed_push p (x ∷ items) i g = glimpsed_push p items i (glimpses p x g)

learned_push : (p : Contents) (items : List Seen) (i : Seen) (t : Known) → learned p (items ++ i ∷ []) t ≡ learns p i (learned p items t)
learned_push p [] i t = refl
learned_push p (x ∷ items) i t = learned_push p items i (learns p x t)

units_push : (p : Contents) (items : List Seen) (i : Seen) (t : Known) (us : List FileUnits)
    → units_after p t us (items ++ i ∷ [])
    ≡ units_by p.codes i.bus (form_of p.codes i.bus i.word) (learned p items t) (units_after p t us items)
units_push p [] i t us = refl
units_push p (x ∷ items) i t us = units_push p items i (learns p x t) (units_by p.codes x.bus (form_of p.codes x.bus x.word) t us)

allowed_push : (p : Contents) (items : List Seen) (i : Seen) (g : Glimpse)
    → ((m : ℕ) → (GlimpseAllowsNext p (glimpsed p (take m items) g) (slice_get items m) → ⊥) → ⊥) → GlimpseAllows p (glimpsed p items g) i
    → (k : ℕ) → (GlimpseAllowsNext p (glimpsed p (take k (items ++ i ∷ [])) g) (slice_get (items ++ i ∷ []) k) → ⊥) → ⊥
allowed_push p [] i g n a zero h = h a
allowed_push p [] i g n a (suc k) h = h tt
allowed_push p (x ∷ items) i g n a zero h = n zero h
allowed_push p (x ∷ items) i g n a (suc k) h = allowed_push p items i (glimpses p x g) (λ m. n (suc m)) a k h

refused_at : (p : Contents) (items : List Seen) (i : Seen) (g : Glimpse) → (GlimpseAllows p (glimpsed p items g) i → ⊥)
    → GlimpseAllowsNext p (glimpsed p (take (length items) (items ++ i ∷ [])) g) (slice_get (items ++ i ∷ []) (length items)) → ⊥
refused_at p [] i g h a = h a
refused_at p (x ∷ items) i g h a = refused_at p items i (glimpses p x g) h a

refused_next : (p : Contents) (items : List Seen) (i : Seen) (t : GlimpsedTrace)
    → IsGlimpsedTrace p items t → (GlimpseAllows p (glimpse_of t.sink) i → ⊥) → IsRefusedAnywhere p (items ++ i ∷ []) (length items)
refused_next p items i t is h =
    refused_at p items i glimpse_at_first (λ a. h (subst (λ (g : Glimpse). GlimpseAllows p g i) (sym is.glimpse) a))

-- ---- the units

-- with the unit that is accepted, if one is
abbrev pub with_new : Codes → Option Number → List FileUnits → List FileUnits
with_new c None us = us
with_new c (Some n) us = with_unit c n us

none_as : (c : Codes) (b : Bus) (t : Known) (us : List FileUnits) → units_by c b None t us ≡ with_new c (unit_by c b None t) us
none_as c bus.A t us = refl
none_as c bus.B t us = refl

-- a block that comes again is not accepted
again_as : (c : Codes) (b : Block) (flags : ℕ) (last : Option UnitNumber) (us : List FileUnits)
    → with_block c (OwesAck b flags) last us ≡ with_new c (unit_in c (OwesAck b flags) last) us
again_as c b flags last us = by (is_known last (number_of b))
  where
    by : (k : Bool)
        → cond k us (with_unit c (record { number = number_of b; final = is_final c flags }) us)
        ≡ with_new c (cond k None (Some (record { number = number_of b; final = is_final c flags }))) us
    by true = refl
    by false = refl

-- an acknowledgement that is allowed: one that is owed, or nothing is known yet
ack_as : (c : Codes) (s : GlimpsedSink) (t : Known) (us : List FileUnits) (file ldu : ℕ) (known : Bool) → s.is_known ≡ known
    → GlimpseAllowsForm known (glimpse_of s).observer bus.B (Some (form.Ack file ldu)) → IsKnownIn known s.implied.sink.phase t
    → (known ≡ false → us ≡ []) → with_block c t.phase t.last us ≡ with_new c (unit_in c t.phase t.last) us
ack_as c s t us file ldu true e a k n =
    let o = ack_owed s.implied.sink.count s.implied.sink.phase file ldu a in
    let phase = subst (λ (q : SinkPhase). IsPhaseKnown q t.phase) o.owed k in
    subst (λ (q : SinkPhase). with_block c q t.last us ≡ with_new c (unit_in c q t.last) us) (sym phase)
    (again_as c o.block o.flags t.last us)
ack_as c s t us file ldu false e a k n =
    subst (λ (q : Known). with_block c q.phase q.last us ≡ with_new c (unit_in c q.phase q.last) us) (sym k) (sym (n refl))

units_as : (p : Contents) (i : Seen) (s : GlimpsedSink) (t : Known) (us : List FileUnits)
    → GlimpseAllows p (glimpse_of s) i → IsKnownOf t s → (s.is_known ≡ false → us ≡ [])
    → units_by p.codes i.bus (form_of p.codes i.bus i.word) t us
    ≡ with_new p.codes (unit_by p.codes i.bus (form_of p.codes i.bus i.word) t) us
units_as p i s t us (inl free) k n =
    subst (λ (x : Option Form). units_by p.codes i.bus x t us ≡ with_new p.codes (unit_by p.codes i.bus x t) us)
    (sym (form_seen p i.bus i.word sight.Free (sym (ap (λ (f : Bool). cond f sight.Free (sight_in (form_of p.codes i.bus i.word))) free))))
    (none_as p.codes i.bus t us)
units_as p i s t us (inr a) k n = by i.bus (form_of p.codes i.bus i.word) a
  where
    by : (b : Bus) (x : Option Form)
        → GlimpseAllowsForm s.is_known (glimpse_of s).observer b x → units_by p.codes b x t us ≡ with_new p.codes (unit_by p.codes b x t) us
    by bus.A None a = refl
    by bus.A (Some (form.Rts n)) a = refl
    by bus.A (Some (form.Sot g f l)) a = refl
    by bus.A (Some (form.Part w)) a = refl
    by bus.A (Some (form.Eot f c)) a = refl
    by bus.A (Some (form.Cts n)) a = refl
    by bus.A (Some (form.Ack f l)) a = refl
    by bus.A (Some (form.Nak n)) a = refl
    by bus.B None a = refl
    by bus.B (Some (form.Rts n)) a = refl
    by bus.B (Some (form.Sot g f l)) a = refl
    by bus.B (Some (form.Part w)) a = refl
    by bus.B (Some (form.Eot f c)) a = refl
    by bus.B (Some (form.Cts n)) a = refl
    by bus.B (Some (form.Nak n)) a = refl
    by bus.B (Some (form.Ack f l)) a = ack_as p.codes s t us f l s.is_known refl a k.phase n

-- ---- before the first request and the first clear answer

-- what is known stays known
stays_known : (p : Contents) (b : Bus) (w : ℕ) (x : Option Form) (g : Glimpse) → (glimpses_form p b w x g).known ≡ false → g.known ≡ false
stays_known p b w x g h = by b x h
  where
    same : (k : Bool) (o : Observer) → (cond k (record g { observer = o }) g).known ≡ false → g.known ≡ false
    same true o e = e
    same false o e = e

    by : (b : Bus) (x : Option Form) → (glimpses_form p b w x g).known ≡ false → g.known ≡ false
    by bus.A (Some (form.Rts n)) e = absurd (cc e)
    by bus.B (Some (form.Cts n)) e = absurd (cc e)
    by bus.A None e = same g.known _ e
    by bus.A (Some (form.Sot a f l)) e = same g.known _ e
    by bus.A (Some (form.Part s)) e = same g.known _ e
    by bus.A (Some (form.Eot f c)) e = same g.known _ e
    by bus.A (Some (form.Cts n)) e = same g.known _ e
    by bus.A (Some (form.Ack f l)) e = same g.known _ e
    by bus.A (Some (form.Nak n)) e = same g.known _ e
    by bus.B None e = same g.known _ e
    by bus.B (Some (form.Rts n)) e = same g.known _ e
    by bus.B (Some (form.Sot a f l)) e = same g.known _ e
    by bus.B (Some (form.Part s)) e = same g.known _ e
    by bus.B (Some (form.Eot f c)) e = same g.known _ e
    by bus.B (Some (form.Ack f l)) e = same g.known _ e
    by bus.B (Some (form.Nak n)) e = same g.known _ e

-- nothing is accepted then
none_by : (c : Codes) (b : Bus) (x : Option Form) → units_by c b x unknown [] ≡ []
none_by c bus.A None = refl
none_by c bus.A (Some (form.Rts n)) = refl
none_by c bus.A (Some (form.Sot g f l)) = refl
none_by c bus.A (Some (form.Part s)) = refl
none_by c bus.A (Some (form.Eot f k)) = refl
none_by c bus.A (Some (form.Cts n)) = refl
none_by c bus.A (Some (form.Ack f l)) = refl
none_by c bus.A (Some (form.Nak n)) = refl
none_by c bus.B None = refl
none_by c bus.B (Some (form.Rts n)) = refl
none_by c bus.B (Some (form.Sot g f l)) = refl
none_by c bus.B (Some (form.Part s)) = refl
none_by c bus.B (Some (form.Eot f k)) = refl
none_by c bus.B (Some (form.Cts n)) = refl
none_by c bus.B (Some (form.Ack f l)) = refl
none_by c bus.B (Some (form.Nak n)) = refl

still_none : (p : Contents) (items : List Seen) (i : Seen) (old : GlimpsedTrace)
    → IsGlimpsedTrace p items old → old.sink.is_known ≡ false → units_after p unknown [] (items ++ i ∷ []) ≡ []
still_none p items i old is e =
    let k : learned p items unknown ≡ unknown =
    subst (λ (t : Bool). IsKnownIn t old.sink.implied.sink.phase (learned p items unknown)) e is.known.phase in
    units_push p items i unknown []
    ∙ ap (λ (t : Known). units_by p.codes i.bus (form_of p.codes i.bus i.word) t (units_after p unknown [] items)) k
    ∙ ap (λ (us : List FileUnits). units_by p.codes i.bus (form_of p.codes i.bus i.word) unknown us) (is.begun e)
    ∙ none_by p.codes i.bus (form_of p.codes i.bus i.word)

-- ---- what is said then

pub trace_more : (p : Contents) (items : List Seen) (i : Seen) (old new : GlimpsedTrace) (said : Option Accepted)
    → IsGlimpsedTrace p items old → GlimpseAllows p (glimpse_of old.sink) i
    → glimpse_of new.sink ≡ glimpses p i (glimpse_of old.sink) → FollowsWord p i old.sink new.sink said
    → ((us : List FileUnits) → AreUnits p.codes us old.units → AreUnits p.codes (with_new p.codes (unit_of said) us) new.units)
    → IsGlimpsedTrace p (items ++ i ∷ []) new
trace_more p items i old new said is allowed glimpse follows units =
    let k = learned p items unknown in
    let f = follows k is.known in
    record {
      allowed = allowed_push p items i glimpse_at_first is.allowed (subst (λ (g : Glimpse). GlimpseAllows p g i) is.glimpse allowed);
      glimpse = glimpse ∙ ap (glimpses p i) is.glimpse ∙ sym (glimpsed_push p items i glimpse_at_first);
      known = subst (λ (t : Known). IsKnownOf t new.sink) (sym (learned_push p items i unknown)) f.known;
      units =
          subst (λ (us : List FileUnits). AreUnits p.codes us new.units)
          (ap (λ (n : Option Number). with_new p.codes n (units_after p unknown [] items)) f.unit
          ∙ sym (units_as p i old.sink k (units_after p unknown [] items) allowed is.known is.begun)
          ∙ sym (units_push p items i unknown []))
          (units (units_after p unknown [] items) is.units);
      begun =
          λ e. still_none p items i old is
          (stays_known p i.bus i.word (form_of p.codes i.bus i.word) (glimpse_of old.sink)
          (ap (λ (g : Glimpse). g.known) (sym glimpse) ∙ e));
    }

pub sure_more : (p : Contents) (items : List Seen) (i : Seen) (old new : GlimpsedTrace) (said : Option Accepted)
    → IsGlimpsedTrace p items old → FollowsWord p i old.sink new.sink said → MakesSure p items i (files_with said)
sure_more p items i old new said is follows =
    ap (λ (t : Known). t.files) (learned_push p items i unknown) ∙ (follows (learned p items unknown) is.known).files

-- what stops the sink stops the trace
pub trace_stops : (p : Contents) (items : List Seen) (i : Seen) (t : GlimpsedTrace) (f : SinkFault)
    → IsGlimpsedTrace p items t → IsGlimpseFault p (glimpse_of t.sink) i f → IsGlimpseStop p items i f
trace_stops p items i t fault.Refused is h = refused_next p items i t is h
trace_stops p items i t fault.OutOfMemory is h = h.1

pub nothing_refused : (p : Contents) (k : ℕ) → IsRefusedAnywhere p [] k → ⊥
nothing_refused p zero h = h tt
nothing_refused p (suc k) h = h tt

-- a unit is accepted by an acknowledgement alone
pub accepted_acked : (p : Contents) (i : Seen) (old new : GlimpsedTrace) (a : Accepted) (k : Known)
    → IsKnownOf k old.sink → FollowsWord p i old.sink new.sink (Some a) → IsAck (form_of p.codes i.bus i.word)
accepted_acked p i old new a k is follows = by i.bus (form_of p.codes i.bus i.word) (sym (follows k is).unit)
  where
    by : (b : Bus) (x : Option Form) {n : Number} → unit_by p.codes b x k ≡ Some n → IsAck x
    by bus.A None h = absurd (cc h)
    by bus.A (Some (form.Rts n)) h = absurd (cc h)
    by bus.A (Some (form.Sot g f l)) h = absurd (cc h)
    by bus.A (Some (form.Part s)) h = absurd (cc h)
    by bus.A (Some (form.Eot f c)) h = absurd (cc h)
    by bus.A (Some (form.Cts n)) h = absurd (cc h)
    by bus.A (Some (form.Ack f l)) h = tt
    by bus.A (Some (form.Nak n)) h = absurd (cc h)
    by bus.B None h = absurd (cc h)
    by bus.B (Some (form.Rts n)) h = absurd (cc h)
    by bus.B (Some (form.Sot g f l)) h = absurd (cc h)
    by bus.B (Some (form.Part s)) h = absurd (cc h)
    by bus.B (Some (form.Eot f c)) h = absurd (cc h)
    by bus.B (Some (form.Cts n)) h = absurd (cc h)
    by bus.B (Some (form.Ack f l)) h = tt
    by bus.B (Some (form.Nak n)) h = absurd (cc h)
