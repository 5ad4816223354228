-- A sink that has accepted the last unit of a file, and one that has accepted nothing, take and answer alike what comes after.
use Rattle.std.proofs.Common.{◌≡◌, ◌⊎◌, ℕ, suc, ◌+◌, ◌%◌, ◌≤◌, Bool, true, false, cond, eqb, ◌&&◌, List, [], ◌∷◌, ◌++◌, length, Option, Some, None, is_some, take, refl, sym, ap, ◌∙◌, subst, inl, inr, arith, append-nil, eq-eqb}
use Rattle.std.proofs.lemmas.Bool.{and_from, and_left, le-leb, ne_eqb, or_left, or_right}
use Rattle.a429_word.specs.declared.bus.Bus.TheVariants as bus
use Rattle.a429_profile.specs.declared.codes.Codes.{Codes}
use Rattle.a429_profile.specs.Profile.{Contents}
use Rattle.a429_ldu.specs.Form.{form_of}
use Rattle.a429_ldu.specs.Ldu.{LduValue, count_of, is_final}
use Rattle.a429_ldu.specs.Carried.{bytes_carried, bytes_in}
use Rattle.a429_ldu.specs.CheckWord.{agrees}
use Rattle.a429_link.specs.declared.file.FileBytes.{FileBytes}
use Rattle.a429_link.specs.declared.number.UnitNumber.{UnitNumber}
use Rattle.a429_link.specs.declared.seen.Seen.{Seen}
use Rattle.a429_link.specs.declared.state.SourceState.{SourceState}
use Rattle.a429_link.specs.declared.step.Step.{Step}
use Rattle.a429_link.specs.declared.step.Step.TheVariants.{Answered, FreeSeen, GiveUp, Load, LoseAnswer, Sent, SentLost, Silent, SinkTakes, TakeAnswer, TimeOut}
use Rattle.a429_link.specs.Link.{with_earlier}
use Rattle.a429_link.specs.Number.{begins_file, files_past, first_number}
use Rattle.a429_link.specs.Run.{IsRun, IsSubsequenceOf, end_of, offers, settles, trace, with_label}
use Rattle.a429_link.specs.Sink.{Block, EndWord, Granted, InBlock, Listens, MayAnswerForm, Number, OwesAck, OwesClear, OwesNak, Quiet, Received, Sink, SinkPhase, accepts, at_end, at_part, at_start, emptied, end_word, in_phase, is_good, is_same, may_come, nothing_received, number_of, put}
use Rattle.a429_link.specs.Source.{Source, with_answer_first}
use Rattle.a429_link.specs.State.{IsNonEmpty, State}
use Rattle.a429_link.specs.Step.{Can, after, label}
use Rattle.a429_link.proofs.LinkKept.{after_earlier, can_later}
use Rattle.a429_link.proofs.Message.{Ack, AllSay, Cts, Eot, IsRead, MaySay, Message, Nak, Part, Rts, Sot, answers_as, answers_message, block_messages, front, end_message, message_of, taken_messages, takes_as, takes_message, with_answer_as, with_answer_message}
use Rattle.a429_link.proofs.MessageSubsequence.{sub_end, sub_start}
use Rattle.a429_link.proofs.NumberFacts.{number_from}
use Rattle.a429_link.proofs.RunCrossing.{CrossesAt, HasAccepted, HasAck, IsAck, step_crosses}
use Rattle.a429_link.proofs.StateConfigs.{Config, acked, asked, block_taken, cleared, front_words, idle, may_answer, may_owes, refused, sending, sink_at, source_at, unasked, unit_number, waiting, whole}
use Rattle.a429_link.proofs.StateHolds.{HoldsAt, owed_form, step_holds}
use Rattle.a429_link.proofs.Subsequence.{sub_forth, sub_take}
use Rattle.a429_link.proofs.SinkFromTrace.{quiet_owes}

abbrev pub state : Source → Sink → List ℕ → List ℕ → State
state q k ws vs = record { source = q; sink = k; to_sink = ws; to_source = vs }

-- ---- the same words, fewer files

-- steps from the second state record what these record from the first, and deliver these files fewer
pub record Rerun (p : Contents) (files : List FileBytes) (steps : List Step) (s t : State) : Type 0 where
  pub again : List Step
  pub run : IsRun p again t
  pub records : trace again ≡ trace steps
  pub delivers : (end_of p steps s).sink.received.files ≡ files ++ (end_of p again t).sink.received.files

-- a step that both make
pub both_step : (p : Contents) (files : List FileBytes) (a : Step) (steps : List Step) (s t : State)
    → Can p a t → Rerun p files steps (after p a s) (after p a t) → Rerun p files (a ∷ steps) s t
both_step p files a steps s t can r =
    record { again = a ∷ r.again; run = (can, r.run); records = ap (with_label (label a)) r.records; delivers = r.delivers }

-- a step that records nothing, and that the second leaves out
pub one_step : (p : Contents) (files : List FileBytes) (a : Step) (steps : List Step) (s t : State)
    → label a ≡ None → Rerun p files steps (after p a s) t → Rerun p files (a ∷ steps) s t
one_step p files a steps s t none r = record {
  again = r.again;
  run = r.run;
  records = r.records ∙ sym (ap (λ (l : Option Seen). with_label l (trace steps)) none);
  delivers = r.delivers;
}

-- files that were delivered before change nothing else
earlier_rerun : (p : Contents) (files : List FileBytes) (steps : List Step) (t : State)
    → IsRun p steps (with_earlier files t) → Rerun p files steps (with_earlier files t) t
earlier_rerun p files [] t run = record { again = []; run = tt; records = refl; delivers = refl }
earlier_rerun p files (a ∷ steps) t run =
    let later = earlier_rerun p files steps (after p a t) (subst (IsRun p steps) (after_earlier p a files t) run.1) in
    both_step p files a steps (with_earlier files t) t (can_later p a files t run.0)
    (subst (λ (s : State). Rerun p files steps s (after p a t)) (sym (after_earlier p a files t)) later)

-- ---- a sink that has accepted the last unit of a file, and one that has accepted nothing

-- the number of the unit that was accepted last: its file is whole
abbrev pub crossed : UnitNumber → Option Number
crossed unit = Some (record { number = unit; final = true })

-- the last request that was taken is the same, or none counts
abbrev pub AskedAlike : SinkPhase → ℕ → ℕ → Type 0
AskedAlike kp count other = (kp ≡ Quiet) ⊎ (count ≡ other)

pub asked_count : (kp : SinkPhase) (count other : ℕ) → AskedAlike kp count other → (kp ≡ Quiet → ⊥) → count ≡ other
asked_count kp count other (inl quiet) never = absurd (never quiet)
asked_count kp count other (inr same) never = same

start_alike : (b : Block) (kp : SinkPhase) (count other : ℕ) → AskedAlike kp count other → AskedAlike (at_start b kp) count other
start_alike b kp count other (inl quiet) = inl (ap (at_start b) quiet)
start_alike b kp count other (inr same) = inr same

part_alike : (word : ℕ) (kp : SinkPhase) (count other : ℕ) → AskedAlike kp count other → AskedAlike (at_part word kp) count other
part_alike word kp count other (inl quiet) = inl (ap (at_part word) quiet)
part_alike word kp count other (inr same) = inr same

end_alike : (p : Contents) (last : Option Number) (e : EndWord) (kp : SinkPhase) (count other : ℕ)
    → AskedAlike kp count other → AskedAlike (at_end p last count e kp) count other
end_alike p last e kp count other (inl quiet) = inl (ap (at_end p last count e) quiet)
end_alike p last e kp count other (inr same) = inr same

-- a block of these numbers comes alike
abbrev ComesAlike : Codes → Option Number → Option Number → SinkPhase → Type 0
ComesAlike c last before (InBlock b) = may_come c last (number_of b) ≡ may_come c before (number_of b)
ComesAlike c last before kp = Unit {0}

good_alike : (p : Contents) (last before : Option Number) (count other : ℕ) (b : Block) (check : ℕ)
    → count ≡ other → may_come p.codes last (number_of b) ≡ may_come p.codes before (number_of b)
    → is_good p last count b check ≡ is_good p before other b check
good_alike p last before count other b check same comes =
    ap (λ (n : ℕ). is_good p last n b check) same
    ∙ ap (λ (t : Bool).
    eqb (length b.words + 2) other && (is_some (bytes_carried p.codes b.words) && (agrees p.check (bytes_in p.codes b.words) check && t)))
    comes

at_end_alike : (p : Contents) (last before : Option Number) (count other : ℕ) (e : EndWord) (kp : SinkPhase)
    → AskedAlike kp count other → ComesAlike p.codes last before kp → at_end p last count e kp ≡ at_end p before other e kp
at_end_alike p last before count other e kp (inl quiet) comes = ap (at_end p last count e) quiet ∙ sym (ap (at_end p before other e) quiet)
at_end_alike p last before count other e (InBlock b) (inr same) comes =
    ap (λ (t : Bool). cond t (OwesAck b e.flags) OwesNak) (good_alike p last before count other b e.check same comes)
at_end_alike p last before count other e Granted (inr same) comes = refl
at_end_alike p last before count other e Quiet (inr same) comes = refl
at_end_alike p last before count other e OwesClear (inr same) comes = refl
at_end_alike p last before count other e (OwesAck b flags) (inr same) comes = refl
at_end_alike p last before count other e OwesNak (inr same) comes = refl

-- both sinks after a word of bus A
pub record Taken (p : Contents) (x : Message) (last before : Option Number) (received nothing : Received) (count other : ℕ)
    (kp : SinkPhase) : Type 0 where
  pub now : ℕ
  pub other_now : ℕ
  pub phase : SinkPhase
  pub alike : AskedAlike phase now other_now
  pub one : takes_message p x (sink_at last received count kp) ≡ sink_at last received now phase
  pub second : takes_message p x (sink_at before nothing other kp) ≡ sink_at before nothing other_now phase

-- at an end word the blocks are to come alike
abbrev pub EndsAlike : Codes → Message → Option Number → Option Number → SinkPhase → Type 0
EndsAlike c (Eot flags check) last before kp = ComesAlike c last before kp
EndsAlike c x last before kp = Unit {0}

pub take_both : (p : Contents) (x : Message) (last before : Option Number) (received nothing : Received) (count other : ℕ) (kp : SinkPhase)
    → AskedAlike kp count other → EndsAlike p.codes x last before kp → Taken p x last before received nothing count other kp
take_both p (Rts n) last before received nothing count other kp alike ends =
    record { now = n; other_now = n; phase = OwesClear; alike = inr refl; one = refl; second = refl }
take_both p (Cts n) last before received nothing count other kp alike ends =
    record { now = count; other_now = other; phase = kp; alike = alike; one = refl; second = refl }
take_both p (Ack f l) last before received nothing count other kp alike ends =
    record { now = count; other_now = other; phase = kp; alike = alike; one = refl; second = refl }
take_both p (Nak n) last before received nothing count other kp alike ends =
    record { now = count; other_now = other; phase = kp; alike = alike; one = refl; second = refl }
take_both p (Sot g f l) last before received nothing count other kp alike ends =
    let b : Block = record { gfi = g; file = f; ldu = l; words = [] } in
    record { now = count; other_now = other; phase = at_start b kp; alike = start_alike b kp count other alike; one = refl; second = refl }
take_both p (Part w) last before received nothing count other kp alike ends =
    record { now = count; other_now = other; phase = at_part w kp; alike = part_alike w kp count other alike; one = refl; second = refl }
take_both p (Eot flags check) last before received nothing count other kp alike ends =
    let e : EndWord = end_word flags check in
    record {
      now = count;
      other_now = other;
      phase = at_end p last count e kp;
      alike = end_alike p last e kp count other alike;
      one = refl;
      second = ap (λ (q : SinkPhase). sink_at before nothing other q) (sym (at_end_alike p last before count other e kp alike ends));
    }

-- ---- the source is past that file

-- its number is that of the first unit of a file which is later by as many files as it has given up, and one, at most
pub record IsLater (c : Codes) (unit n : UnitNumber) (g : ℕ) : Type 0 where
  pub files : ℕ
  pub some : 1 ≤ files
  pub few : files ≤ suc g
  pub file : n.file ≡ (unit.file + files) % 256
  pub ldu : n.ldu ≡ c.first_ldu

abbrev IsLaterBy : Codes → UnitNumber → Source → Type 0
IsLaterBy c unit q = IsLater c unit q.number q.give_ups

later_other : (c : Codes) (unit n : UnitNumber) (g : ℕ) → unit.file ≤ 255 → g ≤ 127 → IsLater c unit n g → unit.file ≡ n.file → ⊥
later_other c unit n g byte few h same = let some = h.some in let most = h.few in let at = h.file in omega arith

later_comes : (c : Codes) (unit n : UnitNumber) (g : ℕ)
    → unit.file ≤ 255 → g ≤ 127 → IsLater c unit n g → may_come c (crossed unit) n ≡ may_come c None n
later_comes c unit n g byte few h =
    let some = h.some in let most = h.few in let at = h.file in
    let past : files_past n.file unit.file ≡ h.files = omega arith in
    let first : eqb n.ldu c.first_ldu ≡ true = eq-eqb n.ldu c.first_ldu h.ldu in
    or_right (is_same (crossed unit) n) _
    (or_left (begins_file c unit n) _ (and_from _ _ first
    (and_from _ _ (le-leb 1 (files_past n.file unit.file) (omega arith)) (le-leb (files_past n.file unit.file) 128 (omega arith)))))
    ∙ sym first

next_later : (c : Codes) (unit n : UnitNumber) (g : ℕ) → IsLater c unit n g → IsLater c unit (first_number c ((n.file + 1) % 256)) (suc g)
next_later c unit n g h =
    let few = h.few in let at = h.file in
    record { files = suc h.files; some = omega arith; few = omega arith; file = omega arith; ldu = refl }

-- the block that an end word ends has the source's number
block_is : (number : UnitNumber) (u : LduValue) (b : Block) → IsSubsequenceOf (taken_messages b) (front u number) → number_of b ≡ number
block_is number u b h =
    let all = sub_start b.gfi b.file b.ldu u.gfi number.file number.ldu b.words u.words h in
    number_from (number_of b) number all.0 all.1

ended_number : (number : UnitNumber) (cur : Option LduValue) (sp : SourceState) (count : ℕ) (kp : SinkPhase) (flags check : ℕ)
    (xs ys : List Message) (b : Block) → kp ≡ InBlock b → Config number cur sp count kp (Eot flags check ∷ xs) ys → number_of b ≡ number
ended_number number cur sp count kp flags check xs ys b e (sending {u} {k} r g c le h) =
    let all = subst (λ (q : SinkPhase). IsSubsequenceOf (block_taken q ++ Eot flags check ∷ xs) (take k (front u number))) e h in
    block_is number u b
    (sub_forth (taken_messages b) (Eot flags check ∷ xs) (front u number)
    (sub_take k (taken_messages b ++ Eot flags check ∷ xs) (front u number) all))
ended_number number cur sp count kp flags check xs ys b e (waiting {u} r g c h) =
    let all = subst (λ (q : SinkPhase). IsSubsequenceOf (block_taken q ++ Eot flags check ∷ xs) (block_messages u number)) e h in
    block_is number u b (sub_end flags check (end_message u) (taken_messages b) xs (front u number) (front_words u number) all).2

later_ends : (c : Codes) (unit number : UnitNumber) (g : ℕ) (cur : Option LduValue) (sp : SourceState) (count : ℕ) (kp : SinkPhase)
    (x : Message) (xs ys : List Message)
    → unit.file ≤ 255 → g ≤ 127 → IsLater c unit number g → Config number cur sp count kp (x ∷ xs) ys → EndsAlike c x (crossed unit) None kp
later_ends c unit number g cur sp count (InBlock b) (Eot flags check) xs ys byte few h fits =
    let same = ended_number number cur sp count (InBlock b) flags check xs ys b refl fits in
    subst (λ (n : UnitNumber). may_come c (crossed unit) n ≡ may_come c None n) (sym same) (later_comes c unit number g byte few h)
later_ends c unit number g cur sp count Quiet (Eot flags check) xs ys byte few h fits = tt
later_ends c unit number g cur sp count OwesClear (Eot flags check) xs ys byte few h fits = tt
later_ends c unit number g cur sp count Granted (Eot flags check) xs ys byte few h fits = tt
later_ends c unit number g cur sp count (OwesAck b f) (Eot flags check) xs ys byte few h fits = tt
later_ends c unit number g cur sp count OwesNak (Eot flags check) xs ys byte few h fits = tt
later_ends c unit number g cur sp count kp (Rts n) xs ys byte few h fits = tt
later_ends c unit number g cur sp count kp (Cts n) xs ys byte few h fits = tt
later_ends c unit number g cur sp count kp (Ack f l) xs ys byte few h fits = tt
later_ends c unit number g cur sp count kp (Nak n) xs ys byte few h fits = tt
later_ends c unit number g cur sp count kp (Sot a f l) xs ys byte few h fits = tt
later_ends c unit number g cur sp count kp (Part w) xs ys byte few h fits = tt

-- an answer that is no acknowledgement leaves the source's number
either_later : (c : Codes) (unit : UnitNumber) (t : Bool) (a b : Source)
    → IsLaterBy c unit a → IsLaterBy c unit b → IsLaterBy c unit (cond t a b)
either_later c unit true a b h k = h
either_later c unit false a b h k = k

heard_later : (p : Contents) (unit : UnitNumber) (g : ℕ) (number : UnitNumber) (cur : Option LduValue) (sp : SourceState) (count : ℕ)
    (kp : SinkPhase) (xs : List Message) (y : Message) (ys : List Message)
    → Config number cur sp count kp xs (y ∷ ys) → (IsAck (Some y) → ⊥) → IsLater p.codes unit number g
    → IsLaterBy p.codes unit (with_answer_message p cur sp y (source_at g number cur sp))
heard_later p unit g number cur sp count kp xs y ys (cleared {u} {n} r q) never h = either_later p.codes unit (eqb n (count_of u)) _ _ h h
heard_later p unit g number cur sp count kp xs y ys (refused r) never h = h
heard_later p unit g number cur sp count kp xs y ys (acked r ef el) never h = absurd (never tt)

hear_later : (p : Contents) (unit : UnitNumber) (q : Source) (count : ℕ) (kp : SinkPhase) (vs : List ℕ) (xs ys : List Message)
    → IsNonEmpty vs → AllSay p bus.B vs ys → Config q.number q.current q.phase count kp xs ys → (HasAck p vs → ⊥) → IsLaterBy p.codes unit q
    → IsLaterBy p.codes unit (with_answer_first p.codes vs q)
hear_later p unit q count kp [] xs ys some says fits never h = absurd some
hear_later p unit q count kp (v ∷ vs) xs [] some says fits never h = absurd says
hear_later p unit q count kp (v ∷ vs) xs (y ∷ ys) some says fits never h =
    subst (IsLaterBy p.codes unit) (sym (with_answer_as p v y q says.0))
    (heard_later p unit q.give_ups q.number q.current q.phase count kp xs y ys fits (λ ack. never (subst IsAck (sym says.0) ack)) h)

some_same : (m n : Number) → Some m ≡ Some n → m ≡ n
some_same m n e = cc e

-- no acknowledgement is on its way
not_accepted : (p : Contents) (unit : UnitNumber) (number : UnitNumber) (g : ℕ) (cur : Option LduValue) (received o : Received)
    (fs : List FileBytes)
    → unit.file ≤ 255 → g ≤ 127 → IsLater p.codes unit number g → HasAccepted p number cur (crossed unit) received o fs → ⊥
not_accepted p unit number g None received o fs byte few h a = a
not_accepted p unit number g (Some u) received o fs byte few h a =
    later_other p.codes unit number g byte few h
    (ap (λ (n : Number). n.number.file) (some_same (record { number = unit; final = true }) (unit_number p.codes number u) a.last_is))

-- ---- a unit of a later file is accepted by both

put_behind : (file : ℕ) (bytes : List ℕ) (t : Bool) (received : Received)
    → put file bytes t (emptied received) ≡ record {
      files = received.files ++ (put file bytes t nothing_received).files;
      open_bytes = (put file bytes t nothing_received).open_bytes;
    }
put_behind file bytes true received = refl
put_behind file bytes false received = ap (λ (l : List FileBytes). filed l) (sym (append-nil received.files))
  where
    filed : List FileBytes → Received
    filed l = record { files = l; open_bytes = bytes }

-- the sink with files that were delivered before
abbrev behind : List FileBytes → Sink → Sink
behind files k = record k { received = record (k.received) { files = files ++ k.received.files } }

accept_both : (c : Codes) (unit : UnitNumber) (b : Block) (flags count : ℕ) (received : Received) → eqb unit.file b.file ≡ false
    → in_phase Quiet (accepts c b flags (sink_at (crossed unit) received count (OwesAck b flags)))
    ≡ behind received.files (in_phase Quiet (accepts c b flags (sink_at None nothing_received count (OwesAck b flags))))
accept_both c unit b flags count received other =
    ap (λ (t : Bool). in_phase Quiet (cond t k (taken (cond (eqb unit.file b.file) received (emptied received))))) (and_left _ _ other)
    ∙ ap (λ (t : Bool). in_phase Quiet (taken (cond t received (emptied received)))) other
    ∙ ap (λ (r : Received). sink_at (Some (record { number = number_of b; final = is_final c flags })) r count Quiet)
    (put_behind b.file (bytes_in c b.words) (is_final c flags) received)
  where
    k : Sink
    k = sink_at (crossed unit) received count (OwesAck b flags)

    taken : Received → Sink
    taken r = record k {
      last = Some (record { number = number_of b; final = is_final c flags });
      received = put b.file (bytes_in c b.words) (is_final c flags) r;
    }

-- ---- the source is past the file that crossed, and no unit was accepted since

abbrev pub one_state : UnitNumber → Source → Received → ℕ → SinkPhase → List ℕ → List ℕ → State
one_state unit q received count kp ws vs = state q (sink_at (crossed unit) received count kp) ws vs

abbrev pub other_state : Source → ℕ → SinkPhase → List ℕ → List ℕ → State
other_state q count kp ws vs = state q (sink_at None nothing_received count kp) ws vs

-- where these steps go on, both do
abbrev pub Later : Contents → UnitNumber → List Step → Type 0
Later p unit steps =
    (q : Source) (received : Received) (count other : ℕ) (kp : SinkPhase) (ws vs : List ℕ) (o : Received) (fs : List FileBytes)
    → IsRun p steps (one_state unit q received count kp ws vs)
    → HoldsAt p (one_state unit q received count kp ws vs)
    → CrossesAt p (one_state unit q received count kp ws vs) o fs
    → IsLaterBy p.codes unit q
    → AskedAlike kp count other
    → Rerun p received.files steps (one_state unit q received count kp ws vs) (other_state q other kp ws vs)

-- the sink takes a word
later_takes : (p : Contents) (unit : UnitNumber) → unit.file ≤ 255 → (steps : List Step) → Later p unit steps → (q : Source)
    (received : Received) (count other : ℕ) (kp : SinkPhase) (ws vs : List ℕ) (xs ys : List Message) (o : Received) (fs : List FileBytes)
    → IsNonEmpty ws → Listens kp → AllSay p bus.A ws xs → Config q.number q.current q.phase count kp xs ys → q.give_ups ≤ 127
    → IsRun p steps (after p SinkTakes (one_state unit q received count kp ws vs))
    → HoldsAt p (after p SinkTakes (one_state unit q received count kp ws vs))
    → CrossesAt p (after p SinkTakes (one_state unit q received count kp ws vs)) o fs → IsLaterBy p.codes unit q → AskedAlike kp count other
    → Rerun p received.files (SinkTakes ∷ steps) (one_state unit q received count kp ws vs) (other_state q other kp ws vs)
later_takes p unit byte steps go q received count other kp [] vs xs ys o fs some listens says fits few run holds crosses later alike =
    absurd some
later_takes p unit byte steps go q received count other kp (w ∷ ws) vs [] ys o fs some listens says fits few run holds crosses later alike =
    absurd says
later_takes p unit byte steps go q received count other kp (w ∷ ws) vs (x ∷ xs) ys o fs some listens says fits few run holds crosses later
    alike =
    let t =
    take_both p x (crossed unit) None received nothing_received count other kp alike
    (later_ends p.codes unit q.number q.give_ups q.current q.phase count kp x xs ys byte few later fits) in
    let one = takes_as p w x (sink_at (crossed unit) received count kp) says.0 ∙ t.one in
    let second = takes_as p w x (sink_at None nothing_received other kp) says.0 ∙ t.second in
    let next =
    go q received t.now t.other_now t.phase ws vs o fs
    (subst (λ (k : Sink). IsRun p steps (state q k ws vs)) one run)
    (subst (λ (k : Sink). HoldsAt p (state q k ws vs)) one holds)
    (subst (λ (k : Sink). CrossesAt p (state q k ws vs) o fs) one crosses)
    later t.alike in
    both_step p received.files SinkTakes steps (one_state unit q received count kp (w ∷ ws) vs) (other_state q other kp (w ∷ ws) vs)
    (tt, listens)
    (subst (λ (k : Sink). Rerun p received.files steps (state q k ws vs) (after p SinkTakes (other_state q other kp (w ∷ ws) vs))) (sym one)
    (subst (λ (k : Sink). Rerun p received.files steps (one_state unit q received t.now t.phase ws vs) (state q k ws vs))
    (sym second) next))

whole_number : (number : UnitNumber) (cur : Option LduValue) (sp : SourceState) (count : ℕ) (b : Block) (flags : ℕ) (xs ys : List Message)
    → Config number cur sp count (OwesAck b flags) xs ys → number_of b ≡ number
whole_number number cur sp count b flags xs ys (whole r h) = h.told
whole_number number cur sp count b flags xs ys (idle f s) = absurd s
whole_number number cur sp count b flags xs ys (asked r s q) = absurd s
whole_number number cur sp count b flags xs ys (unasked r s) = absurd s
whole_number number cur sp count b flags xs ys (sending r g c le h) = absurd g
whole_number number cur sp count b flags xs ys (waiting r g c h) = absurd g

-- the sink answers
later_answers : (p : Contents) (unit : UnitNumber) → unit.file ≤ 255 → (steps : List Step) → Later p unit steps
    → (i : Seen) (x : Message) (q : Source) (received : Received) (count other : ℕ) (kp : SinkPhase) (ws vs : List ℕ) (xs ys : List Message)
    (o : Received) (fs : List FileBytes) → message_of p bus.B i.word ≡ Some x → MaySay count kp x
    → Can p (Answered i) (other_state q other kp ws vs) → Config q.number q.current q.phase count kp xs ys → q.give_ups ≤ 127
    → count ≡ other → IsRun p steps (after p (Answered i) (one_state unit q received count kp ws vs))
    → HoldsAt p (after p (Answered i) (one_state unit q received count kp ws vs))
    → CrossesAt p (after p (Answered i) (one_state unit q received count kp ws vs)) o fs → IsLaterBy p.codes unit q
    → Rerun p received.files (Answered i ∷ steps) (one_state unit q received count kp ws vs) (other_state q other kp ws vs)
later_answers p unit byte steps go i (Cts n) q received count other OwesClear ws vs xs ys o fs is may can fits few same run holds crosses
    later =
    let one = answers_as p i.word (Cts n) (sink_at (crossed unit) received count OwesClear) is in
    let second = answers_as p i.word (Cts n) (sink_at None nothing_received other OwesClear) is in
    let all = vs ++ i.word ∷ [] in
    let next =
    go q received count other Granted ws all o fs
    (subst (λ (k : Sink). IsRun p steps (state q k ws all)) one run)
    (subst (λ (k : Sink). HoldsAt p (state q k ws all)) one holds)
    (subst (λ (k : Sink). CrossesAt p (state q k ws all) o fs) one crosses)
    later (inr same) in
    both_step p received.files (Answered i) steps _ _ can
    (subst (λ (k : Sink). Rerun p received.files steps (state q k ws all) (after p (Answered i) (other_state q other OwesClear ws vs)))
    (sym one)
    (subst (λ (k : Sink). Rerun p received.files steps (one_state unit q received count Granted ws all) (state q k ws all))
    (sym second) next))
later_answers p unit byte steps go i (Nak n) q received count other kp ws vs xs ys o fs is may can fits few same run holds crosses later =
    let one = answers_as p i.word (Nak n) (sink_at (crossed unit) received count kp) is in
    let second = answers_as p i.word (Nak n) (sink_at None nothing_received other kp) is in
    let all = vs ++ i.word ∷ [] in
    let next =
    go q received count other Quiet ws all o fs
    (subst (λ (k : Sink). IsRun p steps (state q k ws all)) one run)
    (subst (λ (k : Sink). HoldsAt p (state q k ws all)) one holds)
    (subst (λ (k : Sink). CrossesAt p (state q k ws all) o fs) one crosses)
    later (inl refl) in
    both_step p received.files (Answered i) steps _ _ can
    (subst (λ (k : Sink). Rerun p received.files steps (state q k ws all) (after p (Answered i) (other_state q other kp ws vs))) (sym one)
    (subst (λ (k : Sink). Rerun p received.files steps (one_state unit q received count Quiet ws all) (state q k ws all))
    (sym second) next))
later_answers p unit byte steps go i (Ack f l) q received count other (OwesAck b flags) ws vs xs ys o fs is may can fits few same run holds
    crosses later =
    let one = answers_as p i.word (Ack f l) (sink_at (crossed unit) received count (OwesAck b flags)) is in
    let second = answers_as p i.word (Ack f l) (sink_at None nothing_received other (OwesAck b flags)) is in
    let all = vs ++ i.word ∷ [] in
    let number = ap (λ (n : UnitNumber). n.file) (whole_number q.number q.current q.phase count b flags xs ys fits) in
    let apart : eqb unit.file b.file ≡ false =
    ne_eqb unit.file b.file (λ e. later_other p.codes unit q.number q.give_ups byte few later (e ∙ number)) in
    let k : Sink = in_phase Quiet (accepts p.codes b flags (sink_at None nothing_received other (OwesAck b flags))) in
    let both : answers_message p (Ack f l) (sink_at (crossed unit) received count (OwesAck b flags)) ≡ behind received.files k =
    ap (λ (n : ℕ). in_phase Quiet (accepts p.codes b flags (sink_at (crossed unit) received n (OwesAck b flags)))) same
    ∙ accept_both p.codes unit b flags other received apart in
    let next =
    earlier_rerun p received.files steps (state q k ws all) (subst (λ (z : Sink). IsRun p steps (state q z ws all)) (one ∙ both) run) in
    both_step p received.files (Answered i) steps _ _ can
    (subst (λ (z : Sink).
    Rerun p received.files steps (state q z ws all) (after p (Answered i) (other_state q other (OwesAck b flags) ws vs))) (sym (one ∙ both))
    (subst (λ (z : Sink). Rerun p received.files steps (with_earlier received.files (state q k ws all)) (state q z ws all))
    (sym second) next))
later_answers p unit byte steps go i (Cts n) q received count other kp ws vs xs ys o fs is may can fits few same run holds crosses later =
    absurd may
later_answers p unit byte steps go i (Ack f l) q received count other kp ws vs xs ys o fs is may can fits few same run holds crosses later =
    absurd may
later_answers p unit byte steps go i x q received count other kp ws vs xs ys o fs is may can fits few same run holds crosses later =
    absurd (may_answer count kp x may)

pub later_rerun : (p : Contents) → IsRead p → (unit : UnitNumber) → unit.file ≤ 255 → (steps : List Step) → Later p unit steps
later_rerun p good unit byte [] q received count other kp ws vs o fs run holds crosses later alike =
    record { again = []; run = tt; records = refl; delivers = sym (append-nil received.files) }
later_rerun p good unit byte (a ∷ steps) q received count other kp ws vs o fs run holds crosses later alike =
    by (later_rerun p good unit byte steps) a run.0 run.1 (step_holds p good a s run.0 holds)
    (step_crosses p good a s o fs run.0 holds crosses)
  where
    s : State
    s = one_state unit q received count kp ws vs

    t : State
    t = other_state q other kp ws vs

    files : List FileBytes
    files = received.files

    few : q.give_ups ≤ 127
    few = crosses.few

    by : Later p unit steps → (a : Step) → Can p a s → IsRun p steps (after p a s) → HoldsAt p (after p a s)
        → CrossesAt p (after p a s) (offers p a s o) (settles p a s o fs) → Rerun p files (a ∷ steps) s t
    by go (Load u) can run holds_on crosses_on =
        both_step p files (Load u) steps s t can (go _ received count other kp ws vs _ _ run holds_on crosses_on later alike)
    by go (Sent i) can run holds_on crosses_on =
        both_step p files (Sent i) steps s t can (go _ received count other kp _ vs _ _ run holds_on crosses_on later alike)
    by go SentLost can run holds_on crosses_on =
        both_step p files SentLost steps s t can (go _ received count other kp ws vs _ _ run holds_on crosses_on later alike)
    by go TimeOut can run holds_on crosses_on =
        both_step p files TimeOut steps s t can (go _ received count other kp ws vs _ _ run holds_on crosses_on later alike)
    by go TakeAnswer can run holds_on crosses_on =
        let still =
        hear_later p unit q count kp vs holds.xs holds.ys can holds.source_words holds.fits
        (λ ack. not_accepted p unit q.number q.give_ups q.current received o fs byte few later (crosses.accepted ack)) later in
        both_step p files TakeAnswer steps s t can (go _ received count other kp ws _ _ _ run holds_on crosses_on still alike)
    by go LoseAnswer can run holds_on crosses_on =
        both_step p files LoseAnswer steps s t can (go _ received count other kp ws _ _ _ run holds_on crosses_on later alike)
    by go SinkTakes can run holds_on crosses_on =
        later_takes p unit byte steps go q received count other kp ws vs holds.xs holds.ys _ _ can.0 can.1 holds.sink_words holds.fits few
        run holds_on crosses_on later alike
    by go Silent can run holds_on crosses_on =
        both_step p files Silent steps s t can (go _ received count other Quiet ws vs _ _ run holds_on crosses_on later (inl refl))
    by go (Answered i) can run holds_on crosses_on =
        let r = owed_form p s i can in
        let same = asked_count kp count other alike (λ quiet. quiet_owes kp quiet (may_owes count kp r.said r.owed)) in
        later_answers p unit byte steps go i r.said q received count other kp ws vs holds.xs holds.ys _ _ r.is r.owed (
          can.0,
          subst (λ (n : ℕ). MayAnswerForm n kp (form_of p.codes bus.B i.word)) same can.1,
        ) holds.fits few same run holds_on crosses_on later
    by go (FreeSeen i) can run holds_on crosses_on =
        both_step p files (FreeSeen i) steps s t can (go q received count other kp ws vs _ _ run holds_on crosses_on later alike)
    by go GiveUp can run holds_on crosses_on =
        both_step p files GiveUp steps s t can
        (go _ received count other kp ws vs _ _ run holds_on crosses_on (next_later p.codes unit q.number q.give_ups later) alike)
