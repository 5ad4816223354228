-- A run without loss goes through, and free words may stand anywhere in its recording.
use Rattle.std.proofs.Common.{◌≡◌, ℕ, zero, suc, ◌+◌, ◌%◌, ◌≤◌, ◌<◌, Bool, true, false, cond, not, eqb, ◌||◌, List, [], ◌∷◌, ◌++◌, map, length, Option, Some, None, is_some, unwrap_or, slice_get, refl, sym, ap, ◌∙◌, subst, arith, append_assoc, append-nil, length-append, eqb-true, eq-eqb}
use Rattle.std.proofs.lemmas.Bool.{le-leb}
use Rattle.std.proofs.Math.Bool.{or-true}
use Rattle.a429_word.specs.declared.bus.Bus.TheVariants as bus
use Rattle.a429_ldu.specs.Form.{form_of, is_free, word_number}
use Rattle.a429_ldu.specs.Ldu.{IsLdu, LduValue, block_of, count_of, is_final}
use Rattle.a429_link.proofs.Message.{Ack, AllParts, Cts, Eot, IsFit, IsRead, MaySay, Nak, Part, Rts, Message, Sot, answers_as, answers_message, block_messages, block_words, with_answer_as, with_answer_message, end_message, next_message, message_in, message_of, takes_as, takes_message, word_of}
use Rattle.a429_link.specs.Run.{IsRun, end_of, trace, with_label}
use Rattle.a429_link.specs.Sink.{nothing_received, Block, Granted, InBlock, Listens, MayAnswerForm, Number, OwesAck, OwesClear, OwesNak, Quiet, Received, Sink, SinkPhase, answers_word, emptied, in_sequence, is_good, is_same, put, received_for}
use Rattle.a429_link.specs.Source.{Source, after_word, next_word}
use Rattle.a429_link.specs.Step.{after, label}
use Rattle.a429_link.specs.State.{State}
use Rattle.a429_link.specs.declared.state.SourceState.{SourceState}
use Rattle.a429_link.specs.declared.state.SourceState.TheVariants.{Awaiting, Idle, Sending, Waiting}
use Rattle.a429_link.specs.declared.seen.Seen.{Seen}
use Rattle.a429_link.specs.declared.step.Step.{Step}
use Rattle.a429_link.specs.declared.step.Step.TheVariants.{FreeSeen}
use Rattle.a429_profile.specs.Profile.{Contents, IsProfile}
use Rattle.a429_profile.specs.declared.codes.Codes.{Codes}
use Rattle.a429_ldu.specs.declared.forms.Form.{Form}
use Rattle.a429_ldu.specs.declared.forms.Form.TheVariants as form
use Rattle.a429_ldu.specs.Carried.{bytes_carried, bytes_in}
use Rattle.a429_ldu.specs.CheckWord.{check_of, agrees}
use Rattle.a429_link.specs.Clean.{clean_block, clean_blocks, AllFit, shelved, without_free, requests, replies, block_steps, clean_steps, all_steps, first_of, rest_of, weave}
use Rattle.a429_link.specs.Carry.{on_a, on_b, sends_word}
use Rattle.a429_link.proofs.MessageRead.{is_read}
use Rattle.a429_link.proofs.StateConfigs.{sink_at, source_at, unit_number}
use Rattle.a429_link.specs.declared.number.UnitNumber.{UnitNumber}
use Rattle.a429_link.specs.Number.{begins_file, first_number, next_number, number_after}
use Rattle.a429_link.proofs.NumberFacts.{number_same, next_begins, next_other, next_byte}

-- ---- steps one after another

-- the steps are a run from one state to the other
pub record Goes (p : Contents) (acts : List Step) (s t : State) : Type 0 where
  pub run : IsRun p acts s
  pub ends : end_of p acts s ≡ t

pub run_append : (p : Contents) (xs ys : List Step) (s : State) → IsRun p xs s → IsRun p ys (end_of p xs s) → IsRun p (xs ++ ys) s
run_append p [] ys s h k = k
run_append p (x ∷ xs) ys s h k = (h.0, run_append p xs ys (after p x s) h.1 k)

pub end_append : (p : Contents) (xs ys : List Step) (s : State) → end_of p (xs ++ ys) s ≡ end_of p ys (end_of p xs s)
end_append p [] ys s = refl
end_append p (x ∷ xs) ys s = end_append p xs ys (after p x s)

pub goes_append : (p : Contents) (xs ys : List Step) (s t r : State) → Goes p xs s t → Goes p ys t r → Goes p (xs ++ ys) s r
goes_append p xs ys s t r h k = record {
  run = run_append p xs ys s h.run (subst (λ q. IsRun p ys q) (sym h.ends) k.run);
  ends = end_append p xs ys s ∙ ap (end_of p ys) h.ends ∙ k.ends;
}

pub joined_append : (xs ys : List (List Step)) → all_steps (xs ++ ys) ≡ all_steps xs ++ all_steps ys
joined_append [] ys = refl
joined_append (x ∷ xs) ys = ap (λ (l : List Step). x ++ l) (joined_append xs ys) ∙ sym (append_assoc x (all_steps xs) (all_steps ys))

-- ---- a word crosses

-- nothing is on the way; so many files were given up
abbrev pub at : ℕ → UnitNumber → Option LduValue → SourceState → Sink → State
at g number cur sp k = record { source = source_at g number cur sp; sink = k; to_sink = []; to_source = [] }

get_word : (p : Contents) (xs : List Message) (k : ℕ) (x : Message)
    → slice_get xs k ≡ Some x → slice_get (map (word_of p) xs) k ≡ Some (word_of p x)
get_word p [] k x e = absurd (cc e)
get_word p (y ∷ xs) zero x e = let same : y ≡ x = cc in ap (λ z. Some (word_of p z)) same
get_word p (y ∷ xs) (suc k) x e = get_word p xs k x e

next_word_of_message : (p : Contents) (number : UnitNumber) (cur : Option LduValue) (sp : SourceState) (x : Message)
    → next_message number cur sp ≡ Some x → next_word p.codes number cur sp ≡ Some (word_of p x)
next_word_of_message p number (Some u) Idle x e = let same : Rts (count_of u) ≡ x = cc in ap (λ z. Some (word_of p z)) same
next_word_of_message p number (Some u) (Sending k) x e =
    subst (λ (l : List ℕ). slice_get l k ≡ Some (word_of p x)) (block_words p u number) (get_word p (block_messages u number) k x e)
next_word_of_message p number (Some u) Awaiting x e = absurd (cc e)
next_word_of_message p number (Some u) Waiting x e = absurd (cc e)
next_word_of_message p number None sp x e = absurd (cc e)

-- a word of bus A is sent and taken
word_goes : (p : Contents) (g : ℕ) (number : UnitNumber) (cur : Option LduValue) (sp : SourceState) (k : Sink) (x : Message)
    → next_message number cur sp ≡ Some x → Listens k.phase → message_of p bus.A (word_of p x) ≡ Some x
    → Goes p (sends_word (word_of p x)) (at g number cur sp k) (at g number cur (after_word cur sp) (takes_message p x k))
word_goes p g number cur sp k x e l f = record {
  run = ((refl, next_word_of_message p number cur sp x e), ((tt, l), tt));
  ends = ap (λ q. at g number cur (after_word cur sp) q) (takes_as p (word_of p x) x k f);
}

-- an answer is given and heard
abbrev pub heard_at : Source → Sink → State
heard_at s k = record { source = s; sink = k; to_sink = []; to_source = [] }

pub may_say : (count w : ℕ) (kp : SinkPhase) (x : Message) (o : Option Form)
    → MaySay count kp x → message_in w o ≡ Some x → MayAnswerForm count kp o
may_say count w kp x None m e = absurd (cc e)
may_say count w kp x (Some (form.Rts n)) m e = let same : Rts n ≡ x = cc in subst (MaySay count kp) (sym same) m
may_say count w kp x (Some (form.Cts n)) m e = let same : Cts n ≡ x = cc in subst (MaySay count kp) (sym same) m
may_say count w kp x (Some (form.Ack f l)) m e = let same : Ack f l ≡ x = cc in subst (MaySay count kp) (sym same) m
may_say count w kp x (Some (form.Nak b)) m e = let same : Nak b ≡ x = cc in subst (MaySay count kp) (sym same) m
may_say count w kp x (Some (form.Sot g f l)) m e = let same : Sot g f l ≡ x = cc in subst (MaySay count kp) (sym same) m
may_say count w kp x (Some (form.Part s)) m e = let same : Part w ≡ x = cc in absurd (no_part kp (subst (MaySay count kp) (sym same) m))
  where
    no_part : (kp : SinkPhase) → MaySay count kp (Part w) → ⊥
    no_part Quiet m = m
    no_part OwesClear m = m
    no_part Granted m = m
    no_part (InBlock b) m = m
    no_part (OwesAck b f) m = m
    no_part OwesNak m = m
may_say count w kp x (Some (form.Eot f c)) m e = let same : Eot f c ≡ x = cc in subst (MaySay count kp) (sym same) m

reply_goes : (p : Contents) (g : ℕ) (number : UnitNumber) (cur : Option LduValue) (sp : SourceState) (k : Sink) (x : Message)
    → MaySay k.count k.phase x → message_of p bus.B (word_of p x) ≡ Some x
    → Goes p (replies (word_of p x)) (at g number cur sp k)
    (heard_at (with_answer_message p cur sp x (source_at g number cur sp)) (answers_message p x k))
reply_goes p g number cur sp k x m f = record {
  run = ((refl, may_say k.count (word_of p x) k.phase x (form_of p.codes bus.B (word_of p x)) m f), (tt, tt));
  ends = ap (λ q. heard_at q (answers_word p.codes (word_of p x) k)) (with_answer_as p (word_of p x) x (source_at g number cur sp) f)
      ∙ ap (λ q. heard_at (with_answer_message p cur sp x (source_at g number cur sp)) q) (answers_as p (word_of p x) x k f);
}

-- ---- a block crosses

-- the words of a block, by place
pub get_part : (qs : List ℕ) (q : ℕ) (ps : List ℕ) (e : Message) → slice_get (map Part (qs ++ q ∷ ps) ++ e ∷ []) (length qs) ≡ Some (Part q)
get_part [] q ps e = refl
get_part (x ∷ qs) q ps e = get_part qs q ps e

pub get_last : (ps : List ℕ) (e : Message) → slice_get (map Part ps ++ e ∷ []) (length ps) ≡ Some e
get_last [] e = refl
get_last (x ∷ ps) e = get_last ps e

-- the number comes next, and is not that of the last one; there are no bytes of another file that is not whole
pub record Comes (p : Contents) (number : UnitNumber) (last : Option Number) (received : Received) : Type 0 where
  pub new : is_same last number ≡ false
  pub follows : in_sequence p.codes last number ≡ true
  pub byte : number.file ≤ 255
  pub room : number.ldu ≤ p.codes.first_ldu + 254
  pub kept : received_for last number.file received ≡ received

pub not_last : (k n : ℕ) (b : Bool) → eqb k n ≡ b → k < n → b ≡ false
not_last k n true e l = absurd (omega (arith, eqb-true k n e))
not_last k n false e l = refl

-- what makes the block of a link data unit good
pub record Sound (p : Contents) (u : LduValue) : Type 0 where
  pub fit : IsFit p u
  pub carried : is_some (bytes_carried p.codes u.words) ≡ true
  pub agrees : agrees p.check (bytes_in p.codes u.words) u.check ≡ true

pub sound : (p : Contents) → IsProfile p → (u : LduValue) → IsLdu p u → Sound p u
sound p is u h =
    let carried = h.carries in
    record {
      fit = (is_read p is).fit u h;
      carried = ap is_some carried;
      agrees =
          subst (λ (o : Option (List ℕ)). agrees p.check (unwrap_or o []) u.check ≡ true) (sym carried) (compared p.check.compare refl);
    }
  where
    compared : (b : Bool) → p.check.compare ≡ b → (not p.check.compare || eqb u.check (check_of p.check h.bytes)) ≡ true
    compared true e = rw e (eq-eqb _ _ (h.checked e))
    compared false e = rw e refl

holding : LduValue → UnitNumber → List ℕ → SinkPhase
holding u number qs = InBlock (record { gfi = u.gfi; file = number.file; ldu = number.ldu; words = qs })

parts_goes : (p : Contents)
    → IsRead p → (g : ℕ) (number : UnitNumber) (u : LduValue) → Sound p u → (last : Option Number) (received : Received)
    → Comes p number last received → (qs ps : List ℕ) → qs ++ ps ≡ u.words → AllParts p ps → (k : ℕ) → k ≡ suc (length qs)
    → Goes p (all_steps (map sends_word (ps ++ word_of p (end_message u) ∷ [])))
    (at g number (Some u) (Sending k) (sink_at last received (count_of u) (holding u number qs)))
    (at g number (Some u) Waiting
    (sink_at last received (count_of u) (OwesAck (record { gfi = u.gfi; file = number.file; ldu = number.ldu; words = u.words }) u.flags)))
unfolding holding
parts_goes p good g number u s last received c qs [] e a k ek =
    let same : qs ≡ u.words = sym (append-nil qs) ∙ e in
    let place : slice_get (block_messages u number) k ≡ Some (end_message u) = rw ek (rw same (get_last u.words (end_message u))) in
    let h = s.fit in
    let form : message_of p bus.A (word_of p (end_message u)) ≡ Some (end_message u) =
    good.reads bus.A (end_message u) (h.flags, h.check) in
    let whole : eqb (suc k) (count_of u) ≡ true = rw ek (rw same (eq-eqb _ _ (omega arith))) in
    let b : Block = record { gfi = u.gfi; file = number.file; ldu = number.ldu; words = qs } in
    let is : is_good p last (count_of u) b u.check ≡ true =
    rw same (rw (eq-eqb (length u.words + 2) _ refl) (rw s.carried (rw s.agrees (rw c.follows (or-true (is_same last number)))))) in
    let one = word_goes p g number (Some u) (Sending k) (sink_at last received (count_of u) (InBlock b)) (end_message u) place tt form in
    record { run = one.run; ends = one.ends ∙ rw whole (rw is (rw same refl)) }
parts_goes p good g number u s last received c qs (q ∷ ps) e a k ek =
    let place : slice_get (block_messages u number) k ≡ Some (Part q) =
    rw ek (subst (λ ws. slice_get (map Part ws ++ end_message u ∷ []) (length qs) ≡ Some (Part q)) e (get_part qs q ps (end_message u))) in
    let form : message_of p bus.A (word_of p (Part q)) ≡ Some (Part q) = good.reads bus.A (Part q) a.0 in
    let long : length (qs ++ q ∷ ps) ≡ length u.words = ap length e in
    let more : eqb (suc k) (count_of u) ≡ false = not_last (suc k) (count_of u) _ refl (omega (arith, long, length-append qs (q ∷ ps))) in
    let b : Block = record { gfi = u.gfi; file = number.file; ldu = number.ldu; words = qs } in
    let one = word_goes p g number (Some u) (Sending k) (sink_at last received (count_of u) (InBlock b)) (Part q) place tt form in
    let next =
    parts_goes p good g number u s last received c (qs ++ q ∷ []) ps (append_assoc qs (q ∷ []) ps ∙ e) a.1 (suc k)
    (rw ek (omega (arith, length-append qs (q ∷ [])))) in
    goes_append p (sends_word q) _ _ _ _ (record { run = one.run; ends = one.ends ∙ rw more refl }) next

abbrev pub idle_at : UnitNumber → Option Number → Received → ℕ → State
idle_at number last received count = at 0 number None Idle (sink_at last received count Quiet)

joined_words : (ws : List ℕ) (ack : ℕ) → all_steps (map sends_word ws ++ replies ack ∷ []) ≡ all_steps (map sends_word ws) ++ replies ack
joined_words ws ack = joined_append (map sends_word ws) (replies ack ∷ [])
    ∙ ap (λ (l : List Step). all_steps (map sends_word ws) ++ l) (append-nil (replies ack))

-- the steps up to the acknowledgement
abbrev pub sent_steps : Codes → UnitNumber → LduValue → List Step
sent_steps c n u =
    requests c u ++ (replies (word_number c (form.Cts (count_of u))) ++ all_steps (map sends_word (block_of c u n.file n.ldu)))

pub block_split : (c : Codes) (n : UnitNumber) (u : LduValue)
    → all_steps (block_steps c n u) ≡ sent_steps c n u ++ replies (word_number c (form.Ack n.file n.ldu))
block_split c n u =
    ap (λ (l : List Step). requests c u ++ (replies (word_number c (form.Cts (count_of u))) ++ l))
    (joined_words (block_of c u n.file n.ldu) (word_number c (form.Ack n.file n.ldu)))

-- the sink with the whole block of a link data unit, which it has not acknowledged
abbrev pub owing : UnitNumber → LduValue → Option Number → Received → Sink
owing number u last received =
    sink_at last received (count_of u) (OwesAck (record { gfi = u.gfi; file = number.file; ldu = number.ldu; words = u.words }) u.flags)

-- one link data unit is sent without loss
pub block_sent : (p : Contents) → IsRead p → (g : ℕ) (number : UnitNumber) (u : LduValue) → IsLdu p u → Sound p u
    → (last : Option Number) (received : Received) (count : ℕ) → Comes p number last received
    → Goes p (sent_steps p.codes number u) (at g number None Idle (sink_at last received count Quiet))
    (at g number (Some u) Waiting (owing number u last received))
unfolding holding
block_sent p good g number u is s last received count c =
    let h = s.fit in
    let some = h.some in
    let room = h.room in
    let low = good.first in
    let fit = c.room in
    let byte = c.byte in
    let n = count_of u in
    let rts : message_of p bus.A (word_of p (Rts n)) ≡ Some (Rts n) = good.reads bus.A (Rts n) (omega arith, omega arith) in
    let cts : message_of p bus.B (word_of p (Cts n)) ≡ Some (Cts n) = good.reads bus.B (Cts n) (omega arith, omega arith) in
    let sot : message_of p bus.A (word_of p (Sot u.gfi number.file number.ldu)) ≡ Some (Sot u.gfi number.file number.ldu) =
    good.reads bus.A (Sot u.gfi number.file number.ldu) (h.gfi, byte, omega arith) in
    let asked = word_goes p g number (Some u) Idle (sink_at last received count Quiet) (Rts n) refl tt rts in
    let ask : Goes p (requests p.codes u) (at g number None Idle (sink_at last received count Quiet))
    (at g number (Some u) Awaiting (sink_at last received n OwesClear)) =
    record {
      run = ((tt, refl, fit, is), asked.run);
      ends = asked.ends;
    } in
    let cleared = reply_goes p g number (Some u) Awaiting (sink_at last received n OwesClear) (Cts n) refl cts in
    let clear : Goes p (replies (word_of p (Cts n))) (at g number (Some u) Awaiting (sink_at last received n OwesClear))
    (at g number (Some u) (Sending 0) (sink_at last received n Granted)) =
    record {
      run = cleared.run;
      ends = cleared.ends ∙ rw (eq-eqb n n refl) refl;
    } in
    let begun =
    word_goes p g number (Some u) (Sending 0) (sink_at last received n Granted) (Sot u.gfi number.file number.ldu) refl tt sot in
    let more : eqb 1 n ≡ false = not_last 1 n _ refl (omega arith) in
    let begin : Goes p (sends_word (word_of p (Sot u.gfi number.file number.ldu)))
    (at g number (Some u) (Sending 0) (sink_at last received n Granted))
    (at g number (Some u) (Sending 1) (sink_at last received n (holding u number []))) =
    record {
      run = begun.run;
      ends = begun.ends ∙ rw more refl;
    } in
    let words = parts_goes p good g number u s last received c [] u.words refl h.parts 1 refl in
    goes_append p (requests p.codes u) _ _ _ _ ask
    (goes_append p (replies (word_of p (Cts n))) _ _ _ _ clear
    (goes_append p (sends_word (word_of p (Sot u.gfi number.file number.ldu))) _ _ _ _ begin words))

-- one link data unit crosses without loss
pub block_goes : (p : Contents) → IsRead p → (number : UnitNumber) (u : LduValue) → IsLdu p u → Sound p u
    → (last : Option Number) (received : Received) (count : ℕ) → Comes p number last received
    → Goes p (all_steps (block_steps p.codes number u)) (idle_at number last received count)
    (idle_at (number_after p.codes number u) (Some (unit_number p.codes number u))
    (put number.file (bytes_in p.codes u.words) (is_final p.codes u.flags) received) (count_of u))
block_goes p good number u is s last received count c =
    let low = good.first in
    let fit = c.room in
    let byte = c.byte in
    let n = count_of u in
    let ack : message_of p bus.B (word_of p (Ack number.file number.ldu)) ≡ Some (Ack number.file number.ldu) =
    good.reads bus.B (Ack number.file number.ldu) (byte, omega arith) in
    let b : Block = record { gfi = u.gfi; file = number.file; ldu = number.ldu; words = u.words } in
    let settled =
    reply_goes p 0 number (Some u) Waiting (sink_at last received n (OwesAck b u.flags)) (Ack number.file number.ldu) (refl, refl) ack in
    let settle : Goes p (replies (word_of p (Ack number.file number.ldu)))
    (at 0 number (Some u) Waiting (sink_at last received n (OwesAck b u.flags))) (idle_at (number_after p.codes number u)
    (Some (unit_number p.codes number u)) (put number.file (bytes_in p.codes u.words) (is_final p.codes u.flags) received) n) =
    subst (λ (o : Received).
    Goes p (replies (word_of p (Ack number.file number.ldu))) (at 0 number (Some u) Waiting (sink_at last received n (OwesAck b u.flags)))
    (idle_at (number_after p.codes number u) (Some (unit_number p.codes number u))
    (put number.file (bytes_in p.codes u.words) (is_final p.codes u.flags) o) n))
    c.kept (record {
      run = settled.run;
      ends = settled.ends ∙ rw (eq-eqb number.file number.file refl) (rw (eq-eqb number.ldu number.ldu refl) (rw c.new refl));
    }) in
    subst (λ acts. Goes p acts (idle_at number last received count) (idle_at (number_after p.codes number u)
    (Some (unit_number p.codes number u)) (put number.file (bytes_in p.codes u.words) (is_final p.codes u.flags) received) n))
    (sym (block_split p.codes number u))
    (goes_append p _ _ _ _ _ (block_sent p good 0 number u is s last received count c) settle)

-- the next number comes after this one
pub next_comes : (p : Contents) → IsRead p → (number : UnitNumber) (bytes : List ℕ) (t : Bool) (received : Received) → number.file ≤ 255
    → number.ldu ≤ p.codes.first_ldu + 254 → (next_number p.codes number t).ldu ≤ p.codes.first_ldu + 254
    → Comes p (next_number p.codes number t) (Some (record { number = number; final = t })) (put number.file bytes t received)
next_comes p good number bytes true received byte fit room =
    let first = good.first in
    record {
      new = next_other p.codes number true (omega arith);
      follows = rw (next_begins p.codes number byte) refl;
      byte = next_byte p.codes number true byte;
      room = room;
      kept = emptied_again (eqb number.file ((number.file + 1) % 256));
    }
  where
    closed : Received
    closed = put number.file bytes true received

    emptied_again : (same : Bool) → cond same closed (emptied closed) ≡ closed
    emptied_again true = refl
    emptied_again false = refl
next_comes p good number bytes false received byte fit room =
    let first = good.first in
    let next = next_number p.codes number false in
    record {
      new = next_other p.codes number false (omega arith);
      follows = rw (number_same next) (rw (le-leb next.ldu (p.codes.first_ldu + 254) room) (or-true (begins_file p.codes number next)));
      byte = byte;
      room = room;
      kept = rw (eq-eqb number.file number.file refl) refl;
    }

abbrev pub last_after : Codes → UnitNumber → Option Number → List LduValue → Option Number
last_after c number last [] = last
last_after c number last (u ∷ us) = last_after c (number_after c number u) (Some (unit_number c number u)) us

abbrev pub count_after : ℕ → List LduValue → ℕ
count_after count [] = count
count_after count (u ∷ us) = count_after (count_of u) us

abbrev pub number_behind : Codes → UnitNumber → List LduValue → UnitNumber
number_behind c number [] = number
number_behind c number (u ∷ us) = number_behind c (number_after c number u) us

-- the number of the next one comes after the last one's, if there is a next one
abbrev pub Ready : Contents → UnitNumber → Option Number → Received → List LduValue → Type 0
Ready p number last received [] = Unit {0}
Ready p number last received (u ∷ us) = Comes p number last received

pub ready_next : (p : Contents) → IsRead p → (number : UnitNumber) (u : LduValue) (us : List LduValue) (received : Received)
    → number.file ≤ 255 → number.ldu ≤ p.codes.first_ldu + 254 → AllFit p (number_after p.codes number u) us
    → Ready p (number_after p.codes number u) (Some (unit_number p.codes number u))
    (put number.file (bytes_in p.codes u.words) (is_final p.codes u.flags) received) us
ready_next p good number u [] received byte fit h = tt
ready_next p good number u (v ∷ us) received byte fit h =
    next_comes p good number (bytes_in p.codes u.words) (is_final p.codes u.flags) received byte fit h.1

-- all cross
pub clean_goes : (p : Contents) → IsProfile p → (us : List LduValue) (number : UnitNumber) (last : Option Number) (received : Received)
    (count : ℕ) → AllFit p number us → Ready p number last received us
    → Goes p (all_steps (clean_steps p.codes number us)) (idle_at number last received count)
    (idle_at (number_behind p.codes number us) (last_after p.codes number last us) (shelved p.codes number us received)
    (count_after count us))
clean_goes p is [] number last received count h r = record { run = tt; ends = refl }
clean_goes p is (u ∷ us) number last received count h r =
    let good = is_read p is in
    let one = block_goes p good number u h.0 (sound p is u h.0) last received count r in
    let more =
    clean_goes p is us (number_after p.codes number u) (Some (unit_number p.codes number u))
    (put number.file (bytes_in p.codes u.words) (is_final p.codes u.flags) received) (count_of u) h.2
    (ready_next p good number u us received r.byte r.room h.2) in
    subst (λ acts. Goes p acts (idle_at number last received count) (idle_at (number_behind p.codes number (u ∷ us))
    (last_after p.codes number last (u ∷ us)) (shelved p.codes number (u ∷ us) received) (count_after count (u ∷ us))))
    (sym (joined_append (block_steps p.codes number u) (clean_steps p.codes (number_after p.codes number u) us)))
    (goes_append p _ _ _ _ _ one more)

-- ---- free words between

-- each group of steps records the word beside it
abbrev pub Records : List (List Step) → List Seen → Type 0
Records [] [] = Unit {0}
Records (g ∷ gs) (i ∷ items) = (trace g ≡ i ∷ []) × Records gs items
Records _ _ = ⊥

pub trace_append : (xs ys : List Step) → trace (xs ++ ys) ≡ trace xs ++ trace ys
trace_append [] ys = refl
trace_append (x ∷ xs) ys = with (label x) (trace_append xs ys)
  where
    with : (l : Option Seen)
        → trace (xs ++ ys) ≡ trace xs ++ trace ys → with_label l (trace (xs ++ ys)) ≡ with_label l (trace xs) ++ trace ys
    with None e = e
    with (Some i) e = ap (λ (t : List Seen). i ∷ t) e

records_append : (gs hs : List (List Step)) (xs ys : List Seen) → Records gs xs → Records hs ys → Records (gs ++ hs) (xs ++ ys)
records_append [] hs [] ys a b = b
records_append [] hs (x ∷ xs) ys a b = absurd a
records_append (g ∷ gs) hs [] ys a b = absurd a
records_append (g ∷ gs) hs (x ∷ xs) ys a b = (a.0, records_append gs hs xs ys a.1 b)

words_record : (ws : List ℕ) → Records (map sends_word ws) (map on_a ws)
words_record [] = tt
words_record (w ∷ ws) = (refl, words_record ws)

block_records : (c : Codes) (number : UnitNumber) (u : LduValue) → Records (block_steps c number u) (clean_block c number u)
block_records c number u = (
  refl,
  (
    refl,
    records_append (map sends_word (block_of c u number.file number.ldu)) (replies (word_number c (form.Ack number.file number.ldu)) ∷ [])
        (map on_a (block_of c u number.file number.ldu)) (on_b (word_number c (form.Ack number.file number.ldu)) ∷ [])
        (words_record (block_of c u number.file number.ldu)) (refl, tt),
  ),
)

pub clean_records : (c : Codes) (us : List LduValue) (number : UnitNumber) → Records (clean_steps c number us) (clean_blocks c number us)
clean_records c [] number = tt
clean_records c (u ∷ us) number =
    records_append (block_steps c number u) (clean_steps c (number_after c number u) us) (clean_block c number u)
    (clean_blocks c (number_after c number u) us) (block_records c number u) (clean_records c us (number_after c number u))

pub record Woven (p : Contents) (items : List Seen) (gs : List (List Step)) (s : State) : Type 0 where
  pub goes : Goes p (weave p.codes items gs) s (end_of p (all_steps gs) s)
  pub records : trace (weave p.codes items gs) ≡ items

pub none_left : (gs : List (List Step)) → Records gs [] → gs ≡ []
none_left [] h = refl
none_left (g ∷ gs) h = absurd h

pub run_split : (p : Contents) (xs ys : List Step) (s : State) → IsRun p (xs ++ ys) s → IsRun p xs s × IsRun p ys (end_of p xs s)
run_split p [] ys s h = (tt, h)
run_split p (x ∷ xs) ys s h = let more = run_split p xs ys (after p x s) h.1 in ((h.0, more.0), more.1)

woven_group : (p : Contents) (i : Seen) (items : List Seen) (gs : List (List Step)) (s : State)
    → Records gs (i ∷ without_free p.codes items) → IsRun p (all_steps gs) s
    → ((hs : List (List Step)) (t : State) → Records hs (without_free p.codes items) → IsRun p (all_steps hs) t → Woven p items hs t)
    → Goes p (first_of gs ++ weave p.codes items (rest_of gs)) s (end_of p (all_steps gs) s)
    × (trace (first_of gs ++ weave p.codes items (rest_of gs)) ≡ i ∷ items)
woven_group p i items [] s r h more = absurd r
woven_group p i items (g ∷ gs) s r h more =
    let parts = run_split p g (all_steps gs) s h in
    let next = more gs (end_of p g s) r.1 parts.1 in
    let all : Goes p (g ++ weave p.codes items gs) s (end_of p (all_steps gs) (end_of p g s)) =
    goes_append p g (weave p.codes items gs) _ _ _ (record { run = parts.0; ends = refl }) next.goes in (
      record { run = all.run; ends = all.ends ∙ sym (end_append p g (all_steps gs) s) },
      trace_append g (weave p.codes items gs) ∙ ap (λ (l : List Seen). l ++ trace (weave p.codes items gs)) r.0
          ∙ ap (λ (l : List Seen). i ∷ l) next.records,
    )

woven_item : (p : Contents) (i : Seen) (items : List Seen) (gs : List (List Step)) (s : State) (b : Bool) → is_free p.codes i.bus i.word ≡ b
    → Records gs (cond b (without_free p.codes items) (i ∷ without_free p.codes items)) → IsRun p (all_steps gs) s
    → ((hs : List (List Step)) (t : State) → Records hs (without_free p.codes items) → IsRun p (all_steps hs) t → Woven p items hs t)
    → Goes p (cond b (FreeSeen i ∷ weave p.codes items gs) (first_of gs ++ weave p.codes items (rest_of gs))) s (end_of p (all_steps gs) s)
    × (trace (cond b (FreeSeen i ∷ weave p.codes items gs) (first_of gs ++ weave p.codes items (rest_of gs))) ≡ i ∷ items)
woven_item p i items gs s true e r h more =
    let next = more gs s r h in (record { run = (e, next.goes.run); ends = next.goes.ends }, ap (λ (l : List Seen). i ∷ l) next.records)
woven_item p i items gs s false e r h more = woven_group p i items gs s r h more

pub weave_goes : (p : Contents) (items : List Seen) (gs : List (List Step)) (s : State)
    → Records gs (without_free p.codes items) → IsRun p (all_steps gs) s → Woven p items gs s
weave_goes p [] gs s r h = rw (none_left gs r) (record { goes = record { run = tt; ends = refl }; records = refl })
weave_goes p (i ∷ items) gs s r h =
    let both = woven_item p i items gs s (is_free p.codes i.bus i.word) refl r h (weave_goes p items) in
    record { goes = both.0; records = both.1 }

pub start_ready : (p : Contents) (file : ℕ) (us : List LduValue)
    → file ≤ 255 → AllFit p (first_number p.codes file) us → Ready p (first_number p.codes file) None nothing_received us
start_ready p file [] f h = tt
start_ready p file (u ∷ us) f h =
    record { new = refl; follows = eq-eqb p.codes.first_ldu p.codes.first_ldu refl; byte = f; room = h.1; kept = refl }
