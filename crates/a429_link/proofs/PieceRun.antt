-- What begins a run, or goes on from a link data unit that may be acknowledged last, is a part of what a run records: the steps
-- before it are written down.
use Rattle.std.proofs.Common.{◌≡◌, ◌⊎◌, ℕ, zero, suc, ◌+◌, ◌-◌, ◌%◌, ◌≤◌, true, false, List, [], ◌∷◌, ◌++◌, Option, Some, None, refl, sym, ap, ◌∙◌, subst, inl, inr, arith, append-nil, eq-eqb}
use Rattle.std.proofs.lemmas.Nat.Bits.{bit_at-zero}
use Rattle.a429_word.specs.declared.bus.Bus.TheVariants as bus
use Rattle.a429_word.proofs.Outcomes.{some_value}
use Rattle.a429_profile.specs.Profile.{Contents, IsProfile}
use Rattle.a429_profile.specs.declared.codes.Codes.{Codes}
use Rattle.a429_ldu.specs.Carried.{bytes_in}
use Rattle.a429_ldu.specs.Form.{form_of}
use Rattle.a429_ldu.specs.Ldu.{IsLdu, LduValue, block_of, count_of, is_final}
use Rattle.a429_link.specs.declared.number.UnitNumber.{UnitNumber}
use Rattle.a429_link.specs.declared.seen.Seen.{Seen}
use Rattle.a429_link.specs.declared.state.SourceState.TheVariants.{Idle, Waiting}
use Rattle.a429_link.specs.declared.step.Step.{Step}
use Rattle.a429_link.specs.declared.step.Step.TheVariants.{Answered}
use Rattle.a429_link.specs.Assignment.{AreAssigned, Assigned, GoOnAssigned, IsOf}
use Rattle.a429_link.specs.Attempt.{asks, attempts_from, fresh, goes_on_to}
use Rattle.a429_link.specs.Carry.{on_b}
use Rattle.a429_link.specs.Clean.{all_steps, block_steps}
use Rattle.a429_link.specs.Number.{next_number, number_after}
use Rattle.a429_link.specs.Piece.{BeginsWithRequest, FollowsUnit, IsReachable, accepted_as, observer_past}
use Rattle.a429_link.specs.Run.{BeginsARun, IsPartOfARun, IsRun, trace}
use Rattle.a429_link.specs.Sink.{Number, Quiet, Received, nothing_received, put}
use Rattle.a429_link.specs.State.{rest, start}
use Rattle.a429_link.proofs.AssignedSteps.{Place, in_attempt, is_answered, source_of, to_number}
use Rattle.a429_link.proofs.AssignedRun.{replay}
use Rattle.a429_link.proofs.AssignedSteps.{at as standing}
use Rattle.a429_link.proofs.CleanRuns.{Comes, Goes, at, block_goes, block_sent, goes_append, may_say, next_comes, owing, run_append, sent_steps, sound, trace_append}
use Rattle.a429_link.proofs.Message.{Ack, IsRead, answers_as, answers_message, message_of, word_of}
use Rattle.a429_link.proofs.NumberFacts.{next_ldu}
use Rattle.a429_link.proofs.ObserverRefuses.{seeing}
use Rattle.a429_link.proofs.PieceAssigned.{acked_attempt, allowed_by_last}
use Rattle.a429_link.proofs.StateConfigs.{sink_at, unit_number}
use Rattle.a429_link.proofs.StateHolds.{HoldsAt, start_holds, holds_after}
use Rattle.a429_link.proofs.Subsequence.{sub_none}

-- ---- to a number

-- a run without words on their way comes to this number, with so many files given up; a link data unit of this number is new to
-- the sink, and in sequence
record Came (p : Contents) (n : UnitNumber) (g : ℕ) : Type 0 where
  first : ℕ
  byte : first ≤ 255
  last : Option Number
  received : Received
  count : ℕ
  steps : List Step
  goes : Goes p steps (start p first) (at g n None Idle (sink_at last received count Quiet))
  comes : Comes p n last received

-- a link data unit with the same data words that is not final
abbrev not_final : LduValue → LduValue
not_final u = record u { flags = 0 }

not_final_sound : (p : Contents) (u : LduValue) → IsLdu p u → IsLdu p (not_final u)
not_final_sound p u h = record {
  gfi = h.gfi;
  flags = omega arith;
  check = h.check;
  length = h.length;
  bytes = h.bytes;
  carries = h.carries;
  checked = h.checked;
}

is_not_final : (c : Codes) → is_final c 0 ≡ false
is_not_final c = rw (bit_at-zero (c.final_bit - 25)) refl

abbrev in_file : ℕ → ℕ → UnitNumber
in_file file ldu = record { file = file; ldu = ldu }

-- nothing is accepted, and the number is a file's first
comes_first : (p : Contents) (n : UnitNumber) → n.file ≤ 255 → n.ldu ≡ p.codes.first_ldu → Comes p n None nothing_received
comes_first p n byte l = record { new = refl; follows = eq-eqb n.ldu p.codes.first_ldu l; byte = byte; room = omega arith; kept = refl }

-- by link data units of the same file, each of them acknowledged
came_in_file : (p : Contents) → IsProfile p → IsRead p → (u : LduValue) → IsLdu p u → (file d l : ℕ) → file ≤ 255 → d ≤ 254
    → l ≡ p.codes.first_ldu + d → Came p (in_file file l) 0
came_in_file p is good u h file zero l byte few e =
    let first : l ≡ p.codes.first_ldu = omega arith in
    record {
      first = file;
      byte = byte;
      last = None;
      received = nothing_received;
      count = 0;
      steps = [];
      goes = record { run = tt; ends = ap (λ m. at 0 (in_file file m) None Idle (sink_at None nothing_received 0 Quiet)) (sym first) };
      comes = comes_first p (in_file file l) byte first;
    }
came_in_file p is good u h file (suc d) l byte few e =
    let low = good.first in
    let v = not_final u in
    let before : ℕ = p.codes.first_ldu + d in
    let n = in_file file before in
    let r = came_in_file p is good u h file d before byte (omega arith) refl in
    let unit = not_final_sound p u h in
    let one = block_goes p good n v unit (sound p is v unit) r.last r.received r.count r.comes in
    let number : number_after p.codes n v ≡ in_file file l =
    ap (next_number p.codes n) (is_not_final p.codes) ∙ ap (in_file file) (next_ldu before (omega arith) ∙ omega arith) in
    let room : (number_after p.codes n v).ldu ≤ p.codes.first_ldu + 254 =
    subst (λ (m : UnitNumber). m.ldu ≤ p.codes.first_ldu + 254) (sym number) (omega arith) in
    let next = next_comes p good n (bytes_in p.codes v.words) (is_final p.codes 0) r.received byte (omega arith) room in
    subst (λ m. Came p m 0) number (record {
      first = r.first;
      byte = r.byte;
      last = Some (unit_number p.codes n v);
      received = put file (bytes_in p.codes v.words) (is_final p.codes 0) r.received;
      count = count_of v;
      steps = r.steps ++ all_steps (block_steps p.codes n v);
      goes = goes_append p r.steps _ _ _ _ r.goes one;
      comes = next;
    })

-- by files that are given up
came_past : (p : Contents) (n : UnitNumber) (g : ℕ) → n.file ≤ 255 → g ≤ 127 → n.ldu ≡ p.codes.first_ldu → Came p n g
came_past p n g byte few l =
    let first : ℕ = (n.file + 256 - g) % 256 in
    let way = to_number p n g (sink_at None nothing_received 0 Quiet) first byte few l refl in
    record {
      first = first;
      byte = omega arith;
      last = None;
      received = nothing_received;
      count = 0;
      steps = way.steps;
      goes = record { run = way.run; ends = way.ends };
      comes = comes_first p n byte l;
    }

came : (p : Contents) → IsProfile p → IsRead p → (t : Assigned) → IsReachable p t → Came p t.number t.give_ups
came p is good t r = by r.given_up
  where
    by : (t.give_ups ≡ 0) ⊎ (t.number.ldu ≡ p.codes.first_ldu) → Came p t.number t.give_ups
    by (inl none) =
        let low = r.low in
        let high = r.sound.ldu in
        subst (λ g. Came p t.number g) (sym none)
        (came_in_file p is good t.unit r.sound.unit t.number.file (t.number.ldu - p.codes.first_ldu) t.number.ldu r.sound.file (omega arith)
        (omega arith))
    by (inr first) = came_past p t.number t.give_ups r.sound.file (let few = r.sound.give_ups in omega arith) first

-- ---- the acknowledgement

-- a run comes to where the acknowledgement of the link data unit is on its way
record Acked (p : Contents) (t : Assigned) : Type 0 where
  first : ℕ
  byte : first ≤ 255
  steps : List Step
  received : Received
  word : ℕ
  says : message_of p bus.B word ≡ Some (Ack t.number.file t.number.ldu)
  goes : Goes p steps (start p first)
      (standing (source_of t Waiting) (sink_at (Some (accepted_as p.codes t)) received (count_of t.unit) Quiet) (word ∷ []))

acked_at : (p : Contents) → IsProfile p → IsRead p → (t : Assigned) → IsReachable p t → Acked p t
acked_at p is good t reachable =
    let r = came p is good t reachable in
    let u = t.unit in
    let number = t.number in
    let s = sound p is u reachable.sound.unit in
    let sent = block_sent p good t.give_ups number u reachable.sound.unit s r.last r.received r.count r.comes in
    let k = owing number u r.last r.received in
    let w = word_of p (Ack number.file number.ldu) in
    let byte = reachable.sound.file in
    let room = reachable.sound.ldu in
    let low = good.first in
    let says : message_of p bus.B w ≡ Some (Ack number.file number.ldu) =
    good.reads bus.B (Ack number.file number.ldu) (byte, omega arith) in
    let kept = put number.file (bytes_in p.codes u.words) (is_final p.codes u.flags) r.received in
    let accepted : answers_message p (Ack number.file number.ldu) k ≡ sink_at (Some (accepted_as p.codes t)) kept (count_of u) Quiet =
    subst (λ o. answers_message p (Ack number.file number.ldu) k ≡ sink_at (Some (accepted_as p.codes t))
    (put number.file (bytes_in p.codes u.words) (is_final p.codes u.flags) o) (count_of u) Quiet) r.comes.kept (rw r.comes.new refl) in
    let answer : Goes p (Answered (on_b w) ∷ []) (at t.give_ups number (Some u) Waiting k)
    (standing (source_of t Waiting) (sink_at (Some (accepted_as p.codes t)) kept (count_of u) Quiet) (w ∷ [])) =
    record {
      run = ((refl, may_say k.count w k.phase (Ack number.file number.ldu) (form_of p.codes bus.B w) (refl, refl) says), tt);
      ends = ap (λ z. standing (source_of t Waiting) z (w ∷ [])) (answers_as p w (Ack number.file number.ldu) k says ∙ accepted);
    } in
    record {
      first = r.first;
      byte = r.byte;
      steps = r.steps ++ (sent_steps p.codes number u ++ Answered (on_b w) ∷ []);
      received = kept;
      word = w;
      says = says;
      goes = goes_append p r.steps _ _ _ _ r.goes (goes_append p (sent_steps p.codes number u) _ _ _ _ sent answer);
    }

-- ---- and then these words

-- the attempts after the first one
behind_first : (p : Contents) (t : Assigned) (i : Seen) (items : List Seen) (n : ℕ) (units : List Assigned)
    → asks i.bus (form_of p.codes i.bus i.word) ≡ Some n → IsOf p (Some t) (acked_attempt t)
    → AreAssigned p (Some t) true (rest (attempts_from p (fresh 0) (i ∷ items))) units
    → GoOnAssigned p (Some t) (attempts_from p (acked_attempt t) (i ∷ items)) units
behind_first p t i items n units e of h = by (asks i.bus (form_of p.codes i.bus i.word)) e h
  where
    by : (o : Option ℕ) → o ≡ Some n
        → AreAssigned p (Some t) true (rest (goes_on_to i (form_of p.codes i.bus i.word) (fresh 0) o (λ c. attempts_from p c items))) units
        → GoOnAssigned p (Some t) (goes_on_to i (form_of p.codes i.bus i.word) (acked_attempt t) o (λ c. attempts_from p c items)) units
    by None e h = absurd (cc e)
    by (Some m) e h = (of, h)

followed : (p : Contents) → IsProfile p → IsRead p → (i : Seen) (items : List Seen) (n : ℕ)
    → asks i.bus (form_of p.codes i.bus i.word) ≡ Some n → FollowsUnit p (i ∷ items) → IsPartOfARun p (i ∷ items)
followed p is good i items n q f =
    let t = f.last in
    let a = acked_at p is good t f.reachable in
    let k = sink_at (Some (accepted_as p.codes t)) a.received (count_of t.unit) Quiet in
    let s = standing (source_of t Waiting) k (a.word ∷ []) in
    let holds : HoldsAt p s =
    subst (HoldsAt p) a.goes.ends (holds_after p good a.steps (start p a.first) a.goes.run (start_holds p a.first a.byte)) in
    let allowed = allowed_by_last p good i n items (observer_past (accepted_as p.codes t)) (seeing k []) q refl f.allowed in
    let of : IsOf p (Some t) (acked_attempt t) =
    (record { asked = refl; words = sub_none (block_of p.codes t.unit t.number.file t.number.ldu) }, refl) in
    let place : Place p (Some t) (acked_attempt t) (source_of t Waiting) (a.word ∷ []) k f.units =
    in_attempt refl (is_answered (λ ok. a.says)) in
    let r =
    replay p is good (i ∷ items) (seeing k []) k [] (Some t) (acked_attempt t) (source_of t Waiting)
    (a.word ∷ []) f.units refl allowed holds place (behind_first p t i items n f.units q of f.are) in
    record {
      first = a.first;
      byte = a.byte;
      steps = a.steps ++ r.way.steps;
      run = run_append p a.steps r.way.steps (start p a.first) a.goes.run (subst (λ z. IsRun p r.way.steps z) (sym a.goes.ends) r.way.run);
      before = trace a.steps;
      more = [];
      records = trace_append a.steps r.way.steps ∙ ap (λ l. trace a.steps ++ l) (r.way.records ∙ sym (append-nil (i ∷ items)));
    }

pub piece_run : (p : Contents) → IsProfile p → IsRead p → (items : List Seen) → BeginsWithRequest p items
    → BeginsARun p items ⊎ FollowsUnit p items → IsPartOfARun p items
piece_run p is good items begins (inl r) =
    record { first = r.first; byte = r.byte; steps = r.steps; run = r.run; before = []; more = r.more; records = r.records }
piece_run p is good [] begins (inr f) = absurd begins
piece_run p is good (i ∷ items) begins (inr f) =
    let asked = some_value (asks i.bus (form_of p.codes i.bus i.word)) begins in followed p is good i items asked.0 asked.1 f
