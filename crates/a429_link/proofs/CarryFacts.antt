-- A data word that is sent, and taken at once.
use Rattle.std.proofs.Common.{◌≡◌, ◌≢◌, ◌<◌, ◌≤◌, ◌+◌, ℕ, zero, suc, List, [], ◌∷◌, ◌++◌, length, Option, Some, None, IfNone, slice_get, refl, ap, subst, arith}
use Rattle.std.proofs.lemmas.Option.{same_Some}
use Rattle.a429_word.specs.declared.bus.Bus.TheVariants.{A}
use Rattle.a429_profile.specs.declared.codes.Codes.{Codes}
use Rattle.a429_profile.specs.Profile.{Contents}
use Rattle.a429_ldu.specs.declared.forms.Form.TheVariants.{Part}
use Rattle.a429_ldu.specs.Form.{IsForm, form_of}
use Rattle.a429_ldu.specs.Carried.{AreDataWords}
use Rattle.a429_ldu.proofs.FormFacts.{form_of-is, form_is_not_free}
use Rattle.a429_ldu.specs.Ldu.{LduValue, count_of}
use Rattle.a429_link.specs.declared.carry.NextWord.{NextWord}
use Rattle.a429_link.specs.declared.state.SourceState.TheVariants.{Sending}
use Rattle.a429_link.specs.declared.step.Step.TheVariants.{Sent, SinkTakes}
use Rattle.a429_link.specs.Source.{next_word_of, with_word_sent}
use Rattle.a429_link.specs.Sink.{Block, SinkPhase, Quiet, OwesClear, Granted, InBlock, OwesAck, OwesNak, takes_part}
use Rattle.a429_link.specs.Step.{Can}
use Rattle.a429_link.specs.State.{State}
use Rattle.a429_link.specs.Link.{IsKept}
use Rattle.a429_link.specs.Carry.{HasTaken, SendsNext, IsAtWord, on_a, sends_word, after_sent, after_both}
use Rattle.a429_link.specs.Losses.{StaysBounded}
use Rattle.a429_link.specs.Run.{IsRun}
use Rattle.a429_link.proofs.LinkKept.{kept_holds}
use Rattle.a429_link.proofs.LossesFacts.{kept_run}
use Rattle.a429_link.proofs.StateHolds.{Current}
use Rattle.a429_ldu.proofs.CarriedFacts.{carries_of}

-- ---- a word inside a block is a data word

inside : (ws : List ℕ) (last j w : ℕ) → slice_get (ws ++ last ∷ []) j ≡ Some w → j ≢ length ws → slice_get ws j ≡ Some w
inside [] last zero w e n = absurd (n refl)
inside [] last (suc j) w e n = absurd (cc e)
inside (v ∷ ws) last zero w e n = e
inside (v ∷ ws) last (suc j) w e n = inside ws last j w e (λ q. n (ap suc q))

data_word : (c : Codes) (ws : List ℕ) (semis : List (List ℕ)) (j w : ℕ)
    → AreDataWords c ws semis → slice_get ws j ≡ Some w → (s : List ℕ) × IsForm c A w (Part s)
data_word c [] semis j w h e = absurd (cc e)
data_word c (v ∷ ws) [] j w h e = absurd h
data_word c (v ∷ ws) (s ∷ ss) zero w h e = (s, subst (λ x. IsForm c A x (Part s)) (same_Some v w e) h.0)
data_word c (v ∷ ws) (s ∷ ss) (suc j) w h e = data_word c ws ss j w h.1 e

part_there : (p : Contents) (s : State) (u : LduValue) (k w : ℕ)
    → IsKept p s → s.source.current ≡ Some u → s.source.phase ≡ Sending k → 1 ≤ k → suc k < count_of u
    → next_word_of p s.source ≡ Some w → (semis : List ℕ) × (form_of p.codes A w ≡ Some (Part semis))
part_there p s u zero w kept current phase least more next = absurd (omega arith)
part_there p s u (suc j) w kept current phase least more next =
    let unit : Current p (Some u) s.source.number.ldu =
    subst (λ o. Current p o s.source.number.ldu) current (kept_holds p s kept).current in
    let carries = carries_of p kept.sound u.words unit.2.bytes unit.2.carries in
    let place = rw (current, phase) at next in
    let here = inside u.words _ j w place (λ q. absurd (omega (arith, q, more))) in
    let form = data_word p.codes u.words carries.semis j w carries.words here in
    (form.0, (form_of-is p kept.sound A w (Part form.0)).1 (form_is_not_free p kept.sound A w (Part form.0) form.1, form.1))

-- the block that the sink is in
abbrev InOne : SinkPhase → List ℕ → ℕ → Type 0
InOne phase coming k = (b : Block) × (phase ≡ InBlock b) × (length b.words + 1 ≡ k) × (coming ≡ [])

in_one : (phase : SinkPhase) (coming : List ℕ) (k : ℕ) → HasTaken phase coming k → InOne phase coming k
in_one (InBlock b) coming k h = (b, refl, h.1, h.0)
in_one Quiet coming k h = absurd h
in_one OwesClear coming k h = absurd h
in_one Granted coming k h = absurd h
in_one (OwesAck b flags) coming k h = absurd h
in_one OwesNak coming k h = absurd h

pub at_word : (p : Contents) (next : NextWord) (s : State) → IsKept p s → SendsNext p next s → IsAtWord p next s
at_word p next s kept h =
    let one = in_one s.sink.phase s.to_sink next.place h.taken in
    let part =
    part_there p s h.sends.unit next.place next.word kept h.sends.current h.sends.sending (omega (arith, one.2)) h.sends.more h.word in
    record {
      unit = h.sends.unit;
      block = one.0;
      semis = part.0;
      current = h.sends.current;
      sending = h.sends.sending;
      more = h.sends.more;
      taking = one.1;
      taken = one.2;
      to_sink = one.3;
      to_source = h.to_source;
      word = h.word;
      part = part.1;
    }

-- ---- where there is none

pub is_next : (p : Contents) (next : NextWord) (s : State) → IsAtWord p next s → SendsNext p next s
is_next p next s h = record {
  sends = record { unit = h.unit; current = h.current; sending = h.sending; more = h.more };
  taken = rw h.taking (h.to_sink, h.taken);
  to_source = h.to_source;
  word = h.word;
}

pub none_then : (r : Option NextWord) {P Q : Type 0} → IfNone r P → (P → Q) → IfNone r Q
none_then None h f = f h
none_then (Some x) h f = tt

-- ---- both steps

pub can_send : (p : Contents) (next : NextWord) (s : State) → IsAtWord p next s → Can p (Sent (on_a next.word)) s
can_send p next s h = (refl, h.word)

pub can_take : (p : Contents) (next : NextWord) (s : State) → IsAtWord p next s → Can p SinkTakes (after_sent p next.word s)
can_take p next s h = (rw h.to_sink tt, rw h.taking tt)

-- they lead here
pub both_made : (p : Contents) (next : NextWord) (s : State) → IsAtWord p next s
    → after_both p next.word s ≡ record s { source = with_word_sent s.source; sink = takes_part next.word s.sink; to_sink = [] }
both_made p next s h = rw (h.to_sink, h.part) refl

pub both_run : (p : Contents) (next : NextWord) (s : State) → IsAtWord p next s → IsRun p (sends_word next.word) s
both_run p next s h = (can_send p next s h, (can_take p next s h, tt))

pub kept_both : (p : Contents) (next : NextWord) (s : State)
    → IsKept p s → IsAtWord p next s → IsKept p (after_both p next.word s) × StaysBounded p (sends_word next.word) s
kept_both p next s kept h = kept_run p (sends_word next.word) s kept (both_run p next s h)
