-- A word that the observer does not allow begins no run's trace.
use Rattle.std.proofs.Common.{◌≡◌, ℕ, zero, suc, Bool, true, false, cond, List, [], ◌∷◌, ◌++◌, take, Option, Some, None, slice_get, refl, sym, ap, ◌∙◌, subst, inl, inr}
use Rattle.a429_ldu.specs.Carried.{bytes_in}
use Rattle.a429_word.specs.declared.bus.Bus.TheVariants as bus
use Rattle.a429_ldu.specs.Form.{form_of}
use Rattle.a429_ldu.specs.Ldu.{is_final}
use Rattle.a429_link.proofs.Message.{IsRead, MaySay, Part, Message, Sot, message_in}
use Rattle.a429_link.specs.Observer.{Allows, AllowsForm, AllowsNext, HasGrant, IsRefused, Observer, at_first, observed, sees, sees_form, watching}
use Rattle.a429_link.specs.Run.{BeginsARun}
use Rattle.a429_link.specs.Sink.{nothing_received, Granted, InBlock, Number, OwesAck, OwesClear, OwesNak, Quiet, Sink, SinkPhase, accepts_owed, answers, is_same, put, received_for, number_of}
use Rattle.a429_link.specs.declared.seen.Seen.{Seen}
use Rattle.a429_profile.specs.Profile.{Contents}
use Rattle.a429_word.specs.declared.bus.Bus.{Bus}
use Rattle.a429_ldu.specs.declared.forms.Form.{Form}
use Rattle.a429_ldu.specs.declared.forms.Form.TheVariants as form
use Rattle.a429_profile.specs.declared.codes.Codes.{Codes}
use Rattle.a429_link.proofs.StateConfigs.{InGrant, acks_count}
use Rattle.a429_link.specs.Implied.{sink_sees_form}
use Rattle.a429_link.specs.Trace.{sink_at_first, sink_sees}
use Rattle.a429_link.proofs.RunTraces.{parts_in, see, see_item, AllowsMessage, Allowed, AllAllowed, trace_allowed}

abbrev has_message : List Message → Bool
has_message [] = false
has_message (w ∷ ws) = true

-- the observer with the block words that it has seen
abbrev pub seeing : Sink → List Message → Observer
seeing k seen = watching k (has_message seen) (parts_in seen)

some_push : (seen : List Message) (w : Message) → has_message (seen ++ w ∷ []) ≡ true
some_push [] w = refl
some_push (v ∷ seen) w = refl

part_push : (seen : List Message) (s : ℕ) → parts_in (seen ++ Part s ∷ []) ≡ suc (parts_in seen)
part_push [] s = refl
part_push (Part q ∷ seen) s = ap (λ n. suc n) (part_push seen s)
part_push (_ ∷ seen) s = part_push seen s

sot_push : (seen : List Message) (g f l : ℕ) → parts_in (seen ++ Sot g f l ∷ []) ≡ parts_in seen
sot_push [] g f l = refl
sot_push (Part q ∷ seen) g f l = ap (λ n. suc n) (sot_push seen g f l)
sot_push (_ ∷ seen) g f l = sot_push seen g f l

pub sees_on_as : (p : Contents) (b : Bus) (w : ℕ) (k : Sink) → sink_sees p b w k ≡ sink_sees_form p b w (form_of p.codes b w) k
sees_on_as p bus.A w k = refl
sees_on_as p bus.B w k = refl

-- the files of a sink change nothing else
abbrev bare : Sink → Sink
bare k = record k { received = nothing_received }

accepts_last : (c : Codes) (kp : SinkPhase) (k : Sink) → (accepts_owed c kp (bare k)).last ≡ (accepts_owed c kp k).last
accepts_last c (OwesAck b flags) k = by_same (is_same k.last (number_of b))
  where
    by_same : (t : Bool)
        → (cond t (bare k) (record (bare k) {
          last = Some (record { number = number_of b; final = is_final c flags });
          received = put b.file (bytes_in c b.words) (is_final c flags) (received_for k.last b.file nothing_received);
        })).last
        ≡ (cond t k (record k {
          last = Some (record { number = number_of b; final = is_final c flags });
          received = put b.file (bytes_in c b.words) (is_final c flags) (received_for k.last b.file k.received);
        })).last
    by_same true = refl
    by_same false = refl
accepts_last c Quiet k = refl
accepts_last c OwesClear k = refl
accepts_last c Granted k = refl
accepts_last c (InBlock b) k = refl
accepts_last c OwesNak k = refl

answers_watched : (c : Codes) (x : Form) (k : Sink) (b : Bool) (n : ℕ) → watching (answers c x (bare k)) b n ≡ watching (answers c x k) b n
answers_watched c (form.Rts n) k b m = refl
answers_watched c (form.Cts n) k b m = refl
answers_watched c (form.Ack f l) k b m = ap2 at (accepts_last c k.phase k) (acks_count c k.phase (bare k) ∙ sym (acks_count c k.phase k))
  where
    at : Option Number → ℕ → Observer
    at o n = record { last = o; count = n; phase = Quiet; begun = b; parts = m }

    ap2 : (g : Option Number → ℕ → Observer) {x y : Option Number} {u v : ℕ} → x ≡ y → u ≡ v → g x u ≡ g y v
    ap2 g {x} {y} {u} {v} e h = ap (λ o. g o u) e ∙ ap (g y) h
answers_watched c (form.Nak q) k b m = refl
answers_watched c (form.Sot g f l) k b m = refl
answers_watched c (form.Part s) k b m = refl
answers_watched c (form.Eot f ch) k b m = refl

sees_form_same : (p : Contents) (b : Bus) (w : ℕ) (o : Option Form) (k : Sink) (seen : List Message)
    → sees_form p b w o (seeing k seen) ≡ seeing (sink_sees_form p b w o k) (see b (message_in w o) seen)
sees_form_same p bus.A w None k seen = refl
sees_form_same p bus.B w None k seen = refl
sees_form_same p bus.A w (Some (form.Sot g f l)) k seen = rw (some_push seen (Sot g f l)) (rw (sot_push seen g f l) refl)
sees_form_same p bus.A w (Some (form.Part s)) k seen = rw (some_push seen (Part w)) (rw (part_push seen w) refl)
sees_form_same p bus.A w (Some (form.Rts n)) k seen = refl
sees_form_same p bus.A w (Some (form.Cts n)) k seen = refl
sees_form_same p bus.A w (Some (form.Ack f l)) k seen = refl
sees_form_same p bus.A w (Some (form.Nak b)) k seen = refl
sees_form_same p bus.A w (Some (form.Eot f c)) k seen = refl
sees_form_same p bus.B w (Some (form.Cts n)) k seen = refl
sees_form_same p bus.B w (Some (form.Ack f l)) k seen = answers_watched p.codes (form.Ack f l) k (has_message seen) (parts_in seen)
sees_form_same p bus.B w (Some (form.Rts n)) k seen = refl
sees_form_same p bus.B w (Some (form.Nak b)) k seen = refl
sees_form_same p bus.B w (Some (form.Sot g f l)) k seen = refl
sees_form_same p bus.B w (Some (form.Part s)) k seen = refl
sees_form_same p bus.B w (Some (form.Eot f c)) k seen = refl

pub sees_same : (p : Contents) (i : Seen) (k : Sink) (seen : List Message)
    → sees p i (seeing k seen) ≡ seeing (sink_sees p i.bus i.word k) (see_item p i seen)
sees_same p i k seen = sees_form_same p i.bus i.word (form_of p.codes i.bus i.word) k seen
    ∙ ap (λ q. seeing q (see_item p i seen)) (sym (sees_on_as p i.bus i.word k))

has_grant : (kp : SinkPhase) → InGrant kp → HasGrant kp
has_grant Granted g = tt
has_grant (InBlock b) g = tt
has_grant Quiet g = absurd g
has_grant OwesClear g = absurd g
has_grant (OwesAck b f) g = absurd g
has_grant OwesNak g = absurd g

allows_form : (k : Sink) (seen : List Message) (b : Bus) (w : ℕ) (o : Option Form)
    → AllowsMessage k seen b (message_in w o) → AllowsForm (seeing k seen) b o
allows_form k seen b w None a = absurd a
allows_form k seen bus.A w (Some (form.Rts n)) a = tt
allows_form k seen bus.A w (Some (form.Sot g f l)) a = (has_grant k.phase a.0, ap has_message a.1)
allows_form k seen bus.A w (Some (form.Part s)) a = (has_grant k.phase a.0, a.1)
allows_form k seen bus.A w (Some (form.Eot f c)) a = has_grant k.phase a
allows_form k seen bus.A w (Some (form.Cts n)) a = absurd a
allows_form k seen bus.A w (Some (form.Ack f l)) a = absurd a
allows_form k seen bus.A w (Some (form.Nak b)) a = absurd a
allows_form k seen bus.B w (Some (form.Rts n)) a = a
allows_form k seen bus.B w (Some (form.Cts n)) a = a
allows_form k seen bus.B w (Some (form.Ack f l)) a = a
allows_form k seen bus.B w (Some (form.Nak b)) a = a
allows_form k seen bus.B w (Some (form.Sot g f l)) a = a
allows_form k seen bus.B w (Some (form.Part s)) a = absurd (no_data k.phase a)
  where
    no_data : (kp : SinkPhase) → MaySay k.count kp (Part w) → ⊥
    no_data Quiet m = m
    no_data OwesClear m = m
    no_data Granted m = m
    no_data (InBlock b) m = m
    no_data (OwesAck b f) m = m
    no_data OwesNak m = m
allows_form k seen bus.B w (Some (form.Eot f c)) a = a

pub allows_same : (p : Contents) (k : Sink) (seen : List Message) (i : Seen) → Allowed p k seen i → Allows p (seeing k seen) i
allows_same p k seen i (inl e) = inl e
allows_same p k seen i (inr a) = inr (allows_form k seen i.bus i.word (form_of p.codes i.bus i.word) a)

allowed_at : (p : Contents) (items more : List Seen) (k : Sink) (seen : List Message) (i : ℕ) (o : Observer)
    → o ≡ seeing k seen → AllAllowed p (take (suc i) items ++ more) k seen → AllowsNext p (observed p (take i items) o) (slice_get items i)
allowed_at p [] more k seen zero o e h = tt
allowed_at p [] more k seen (suc i) o e h = tt
allowed_at p (x ∷ items) more k seen zero o e h = subst (λ q. Allows p q x) (sym e) (allows_same p k seen x h.0)
allowed_at p (x ∷ items) more k seen (suc i) o e h =
    allowed_at p items more (sink_sees p x.bus x.word k) (see_item p x seen) i (sees p x o) (ap (sees p x) e ∙ sees_same p x k seen) h.1

-- what the observer refuses begins no trace
pub impossible : (p : Contents) → IsRead p → (items : List Seen) (i : ℕ) → IsRefused p items i → BeginsARun p (take (suc i) items) → ⊥
impossible p good items i refused r =
    refused (allowed_at p items r.more sink_at_first [] i at_first refl
    (subst (λ t. AllAllowed p t sink_at_first []) r.records (trace_allowed p good r.first r.byte r.steps r.run)))
