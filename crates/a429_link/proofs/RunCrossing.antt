-- What has crossed: the files that the sink delivered are some of those that were offered, and those that are settled some of them.
use Rattle.std.proofs.Common.{◌≡◌, ◌⊎◌, ℕ, suc, ◌+◌, ◌%◌, ◌≤◌, Bool, true, false, cond, eqb, ◌&&◌, List, [], ◌∷◌, ◌++◌, length, Option, Some, None, refl, sym, ap, ◌∙◌, subst, inl, inr, arith, eqb-true, eq-eqb}
use Rattle.a429_ldu.specs.Carried.{bytes_in}
use Rattle.a429_word.specs.declared.bus.Bus.TheVariants as bus
use Rattle.a429_ldu.specs.Form.{form_of}
use Rattle.a429_ldu.specs.Ldu.{LduValue, count_of, is_final}
use Rattle.a429_link.proofs.Message.{Ack, AllSay, Cts, IsRead, MaySay, Nak, Message, answers_as, answers_message, with_answer_as, with_answer_message, is_own_ack_seen, none_say, own_ack_join, message_of, say_length}
use Rattle.a429_link.proofs.Subsequence.{sub_forth}
use Rattle.a429_link.specs.Run.{IsBounded, IsNear, IsRun, IsSubsequenceOf, delivered, end_of, ends_file, is_final_unit, is_own_ack_form, newest, offered, offered_from, offers, settled, settled_from, settles}
use Rattle.a429_link.specs.Sink.{nothing_received, emptied, Block, Number, Received, Sink, SinkPhase, accepts, accepts_owed, is_same, put, received_for, takes_first, takes_form, takes_word}
use Rattle.a429_link.specs.Source.{IsIdle, Source, acknowledged, with_answer_first}
use Rattle.a429_link.specs.Step.{Can, after}
use Rattle.a429_link.specs.State.{rest, IsNonEmpty, start, State}
use Rattle.a429_link.specs.declared.file.FileBytes.{FileBytes}
use Rattle.a429_link.specs.declared.state.SourceState.{SourceState}
use Rattle.a429_link.specs.declared.state.SourceState.TheVariants.{Awaiting, Idle, Sending, Waiting}
use Rattle.a429_link.specs.declared.seen.Seen.{Seen}
use Rattle.a429_link.specs.declared.step.Step.{Step}
use Rattle.a429_link.specs.declared.step.Step.TheVariants.{Answered, FreeSeen, GiveUp, Load, LoseAnswer, Sent, SentLost, Silent, SinkTakes, TakeAnswer, TimeOut}
use Rattle.a429_profile.specs.Profile.{Contents}
use Rattle.a429_link.proofs.StateConfigs.{Config, idle, asked, unasked, cleared, sending, waiting, whole, refused, acked, Whole, may_owes, owes_stale, owes_grant, may_answer, config_bounded, config_few, source_at, unit_number}
use Rattle.a429_link.proofs.StateHolds.{HoldsAt, step_holds, start_holds, owed_form, alone_on_the_way}
use Rattle.a429_link.proofs.SinkFromTrace.{takes_received}
use Rattle.a429_ldu.specs.declared.forms.Form.{Form}
use Rattle.a429_ldu.specs.declared.forms.Form.TheVariants as form
use Rattle.a429_link.specs.declared.number.UnitNumber.{UnitNumber}
use Rattle.a429_link.specs.Number.{first_number, files_past, next_number}
use Rattle.a429_link.proofs.NumberFacts.{next_ldu, number_same, other_file}
use Rattle.a429_link.proofs.SinkShelves.{put_both, put_second, put_open, put_closed, put_room, put_settled, received_for_files, received_for_nothing, Past, past_new, past_given_up, past_emptied, past_next, Fits, fits_bytes, past_near, room_for}

-- ---- what was offered, and what crossed of it

-- the sink's files against what was offered before the current link data unit
pub record Behind (number : UnitNumber) (g : ℕ) (last : Option Number) (received before : Received) (fs : List FileBytes) : Type 0 where
  pub some : IsSubsequenceOf received.files before.files
  pub opened : (received_for last number.file received).open_bytes ≡ before.open_bytes
  pub past : Past last number g
  pub settled : IsSubsequenceOf fs received.files

-- the current link data unit is still to be accepted
pub record Ahead (p : Contents) (number : UnitNumber) (g : ℕ) (u : LduValue) (last : Option Number) (received o : Received)
    (fs : List FileBytes) : Type 0 where
  pub before : Received
  pub with_it : o ≡ put number.file (bytes_in p.codes u.words) (is_final p.codes u.flags) before
  pub behind : Behind number g last received before fs

-- it is accepted
pub record Accepted (p : Contents) (number : UnitNumber) (u : LduValue) (last : Option Number) (received o : Received)
    (fs : List FileBytes) : Type 0 where
  pub some : IsSubsequenceOf received.files o.files
  pub opened : received.open_bytes ≡ o.open_bytes
  pub closed : is_final p.codes u.flags ≡ true → received.open_bytes ≡ []
  pub last_is : last ≡ Some (unit_number p.codes number u)
  pub settled : IsSubsequenceOf (cond (is_final p.codes u.flags) (fs ++ newest o.files) fs) received.files

abbrev pub Stand : Contents → UnitNumber → ℕ → Option LduValue → Option Number → Received → Received → List FileBytes → Type 0
Stand p number g None last received o fs = Behind number g last received o fs
Stand p number g (Some u) last received o fs = Ahead p number g u last received o fs ⊎ Accepted p number u last received o fs

abbrev pub HasAccepted : Contents → UnitNumber → Option LduValue → Option Number → Received → Received → List FileBytes → Type 0
HasAccepted p number None last received o fs = ⊥
HasAccepted p number (Some u) last received o fs = Accepted p number u last received o fs

abbrev pub IsAck : Option Message → Type 0
IsAck (Some (Ack f l)) = Unit {0}
IsAck _ = ⊥

abbrev pub HasAck : Contents → List ℕ → Type 0
HasAck p [] = ⊥
HasAck p (v ∷ vs) = IsAck (message_of p bus.B v)

-- the source's number is one of a file's, and a current link data unit is one of 255 of at most 632 bytes
pub record Room (p : Contents) (ldu : ℕ) (cur : Option LduValue) : Type 0 where
  pub low : p.codes.first_ldu ≤ ldu
  pub more : (u : LduValue) → cur ≡ Some u → (ldu ≤ p.codes.first_ldu + 254) × (length (bytes_in p.codes u.words) ≤ 632)

pub record Crosses (p : Contents) (source : Source) (last : Option Number) (received : Received) (vs : List ℕ) (o : Received)
    (fs : List FileBytes) : Type 0 where
  pub few : source.give_ups ≤ 127
  pub stand : Stand p source.number source.give_ups source.current last received o fs
  pub accepted : HasAck p vs → HasAccepted p source.number source.current last received o fs
  pub room : Room p source.number.ldu source.current
  pub fits : Fits p.codes.first_ldu last received.open_bytes

abbrev pub CrossesAt : Contents → State → Received → List FileBytes → Type 0
CrossesAt p s o fs = Crosses p s.source s.sink.last s.sink.received s.to_source o fs

pub no_ack : (p : Contents) (vs : List ℕ) → vs ≡ [] → HasAck p vs → ⊥
no_ack p [] e h = h
no_ack p (v ∷ vs) e h = cc e

-- where the source is idle no answer is on the way
idle_alone : (number : UnitNumber) (cur : Option LduValue) (sp : SourceState) (count : ℕ) (kp : SinkPhase) (xs ys : List Message)
    → IsIdle sp → Config number cur sp count kp xs ys → ys ≡ []
idle_alone number cur sp count kp xs ys i (idle f s) = refl
idle_alone number cur sp count kp xs ys i _ = absurd i

-- other answers are on the way
with_answers : (p : Contents) (source : Source) (last : Option Number) (received : Received) (vs ws : List ℕ) (o : Received)
    (fs : List FileBytes) → (HasAck p ws → ⊥) → Crosses p source last received vs o fs → Crosses p source last received ws o fs
with_answers p source last received vs ws o fs none c =
    record { few = c.few; stand = c.stand; accepted = λ h. absurd (none h); room = c.room; fits = c.fits }

-- the source is in another phase
in_phase : (p : Contents) (source : Source) (phase : SourceState) (last : Option Number) (received : Received) (vs : List ℕ) (o : Received)
    (fs : List FileBytes) → Crosses p source last received vs o fs → Crosses p (record source { phase = phase }) last received vs o fs
in_phase p source phase last received vs o fs c =
    record { few = c.few; stand = c.stand; accepted = c.accepted; room = c.room; fits = c.fits }

load_crosses : (p : Contents) → IsRead p → (s : State) (u : LduValue) (o : Received) (fs : List FileBytes) → Can p (Load u) s → HoldsAt p s
    → (cur : Option LduValue) → s.source.current ≡ cur → cur ≡ None → CrossesAt p s o fs
    → CrossesAt p (after p (Load u) s) (put s.source.number.file (bytes_in p.codes u.words) (is_final p.codes u.flags) o) fs
load_crosses p good s u o fs i h (Some v) e n c = absurd (cc n)
load_crosses p good s u o fs i h None e n c =
    let stand = subst (λ x. Stand p s.source.number s.source.give_ups x s.sink.last s.sink.received o fs) e c.stand in
    let alone = none_say p bus.B s.to_source h.ys h.source_words (idle_alone _ _ _ _ _ _ _ i.0 h.fits) in
    record {
      few = c.few;
      stand = inl (record { before = o; with_it = refl; behind = stand });
      accepted = λ a. absurd (no_ack p s.to_source alone a);
      room = record {
        low = c.room.low;
        more = λ v q. (
          i.2,
          let same : u ≡ v = cc in subst (λ (x : LduValue). length (bytes_in p.codes x.words) ≤ 632) same (good.fit u i.3).bytes_room,
        );
      };
      fits = c.fits;
    }

-- ---- a file is given up

settled_before : (t : Bool) (fs : List FileBytes) (o received : Received)
    → IsSubsequenceOf (cond t (fs ++ newest o.files) fs) received.files → IsSubsequenceOf fs received.files
settled_before true fs o received h = sub_forth fs (newest o.files) received.files h
settled_before false fs o received h = h

give_up_stand : (p : Contents) (number : UnitNumber) (g : ℕ) (cur : Option LduValue) (last : Option Number) (received o : Received)
    (fs : List FileBytes)
    → g ≤ 126 → Stand p number g cur last received o fs
    → Behind (first_number p.codes ((number.file + 1) % 256)) (suc g) last received (emptied o) fs
give_up_stand p number g None last received o fs l b =
    record {
      some = b.some;
      opened = past_emptied last number g received l b.past;
      past = past_given_up p.codes last number g b.past;
      settled = b.settled;
    }
give_up_stand p number g (Some u) last received o fs l (inl a) =
    let b = a.behind in
    record {
      some =
          subst (λ (x : Received). IsSubsequenceOf received.files x.files) (sym a.with_it)
          (put_second number.file (bytes_in p.codes u.words) (is_final p.codes u.flags) received.files a.before b.some);
      opened = past_emptied last number g received l b.past;
      past = past_given_up p.codes last number g b.past;
      settled = b.settled;
    }
give_up_stand p number g (Some u) last received o fs l (inr a) =
    let next = first_number p.codes ((number.file + 1) % 256) in
    let now : Past (Some (unit_number p.codes number u)) next (suc g) = inr (1, omega arith, omega arith, refl) in
    record {
      some = a.some;
      opened =
          subst (λ n. (received_for n ((number.file + 1) % 256) received).open_bytes ≡ []) (sym a.last_is)
          (by_file (eqb number.file ((number.file + 1) % 256)) refl);
      past = subst (λ n. Past n next (suc g)) (sym a.last_is) now;
      settled = settled_before (is_final p.codes u.flags) fs o received a.settled;
    }
  where
    by_file : (t : Bool) → eqb number.file ((number.file + 1) % 256) ≡ t → (cond t received (emptied received)).open_bytes ≡ []
    by_file true e = absurd (other_file number.file 1 (omega arith) (omega arith) (eqb-true number.file ((number.file + 1) % 256) e))
    by_file false e = refl

give_up_crosses : (p : Contents) (s : State) (o : Received) (fs : List FileBytes)
    → Can p GiveUp s → HoldsAt p s → CrossesAt p s o fs → CrossesAt p (after p GiveUp s) (emptied o) fs
give_up_crosses p s o fs i h c =
    let few = i.1 in
    let alone = none_say p bus.B s.to_source h.ys h.source_words (idle_alone _ _ _ _ _ _ _ i.0 h.fits) in
    record {
      few = omega arith;
      stand = give_up_stand p s.source.number s.source.give_ups s.source.current s.sink.last s.sink.received o fs i.1 c.stand;
      accepted = λ a. absurd (no_ack p s.to_source alone a);
      room = record { low = omega arith; more = λ v q. absurd (cc q) };
      fits = c.fits;
    }

-- ---- answers

hear_final : (p : Contents) → IsRead p → (number : UnitNumber) (u : LduValue) (t : Bool) (last : Option Number) (received o : Received)
    (fs : List FileBytes) → is_final p.codes u.flags ≡ t → Accepted p number u last received o fs → Room p number.ldu (Some u)
    → Fits p.codes.first_ldu last received.open_bytes
    → Crosses p (source_at 0 (next_number p.codes number t) None Idle) last received [] o (cond t (fs ++ newest o.files) fs)
hear_final p good number u t last received o fs q a r f = record {
  few = omega arith;
  stand = record {
    some = a.some;
    opened = opened t q;
    past = subst (λ n. Past n (next_number p.codes number t) 0) (sym last_is) (past_next p.codes number t low);
    settled = subst (λ b. IsSubsequenceOf (cond b (fs ++ newest o.files) fs) received.files) q a.settled;
  };
  accepted = λ h. absurd h;
  room = record { low = begins t; more = λ v k. absurd (cc k) };
  fits = f;
}
  where
    low : number.ldu ≤ 255
    low = let more = r.more u refl in let first = good.first in omega (arith, more.0)

    last_is : last ≡ Some (record { number = number; final = t })
    last_is = a.last_is ∙ ap (λ b. Some (record { number = number; final = b })) q

    begins : (t : Bool) → p.codes.first_ldu ≤ (next_number p.codes number t).ldu
    begins true = omega arith
    begins false = let first = r.low in omega (arith, next_ldu number.ldu low)

    here : (t : Bool) → t ≡ true → (cond t received (emptied received)).open_bytes ≡ o.open_bytes
    here true e = a.opened
    here false e = absurd (cc e)

    opened : (t : Bool)
        → is_final p.codes u.flags ≡ t → (received_for last (next_number p.codes number t).file received).open_bytes ≡ o.open_bytes
    opened true q = received_for_nothing last ((number.file + 1) % 256) received (a.closed q) ∙ sym (a.closed q) ∙ a.opened
    opened false q =
        subst (λ n. (received_for n number.file received).open_bytes ≡ o.open_bytes) (sym a.last_is)
        (here (eqb number.file number.file) (eq-eqb number.file number.file refl))

hear_ack : (p : Contents) → IsRead p → (g : ℕ) (number : UnitNumber) (u : LduValue) (t : Bool) (last : Option Number) (received : Received)
    (vs : List ℕ) (o : Received) (fs : List FileBytes)
    → (c : Crosses p (source_at g number (Some u) Waiting) last received vs o fs) → Accepted p number u last received o fs
    → Crosses p (cond t (acknowledged p.codes u (source_at g number (Some u) Waiting)) (source_at g number (Some u) Waiting)) last received
    [] o (cond (t && is_final p.codes u.flags) (fs ++ newest o.files) fs)
hear_ack p good g number u true last received vs o fs c a =
    hear_final p good number u (is_final p.codes u.flags) last received o fs refl a c.room c.fits
hear_ack p good g number u false last received vs o fs c a = with_answers p _ last received vs [] o fs (λ h. h) c

hear_clear : (p : Contents) (g : ℕ) (number : UnitNumber) (u : LduValue) (t : Bool) (last : Option Number) (received : Received)
    (vs : List ℕ) (o : Received) (fs : List FileBytes)
    → (c : Crosses p (source_at g number (Some u) Awaiting) last received vs o fs)
    → Crosses p (cond t (record (source_at g number (Some u) Awaiting) { phase = Sending 0 }) (source_at g number (Some u) Awaiting)) last
    received [] o fs
hear_clear p g number u true last received vs o fs c =
    with_answers p _ last received vs [] o fs (λ h. h) (in_phase p _ (Sending 0) last received vs o fs c)
hear_clear p g number u false last received vs o fs c = with_answers p _ last received vs [] o fs (λ h. h) c

-- the answer that is taken, by its form
hear_form : (p : Contents) → IsRead p → (g : ℕ) (number : UnitNumber) (cur : Option LduValue) (sp : SourceState) (count : ℕ)
    (kp : SinkPhase) (xs : List Message) (y : Message) (ys : List Message) (last : Option Number) (received : Received) (v : ℕ)
    (vs : List ℕ) (o : Received) (fs : List FileBytes) → message_of p bus.B v ≡ Some y → Config number cur sp count kp xs (y ∷ ys)
    → Crosses p (source_at g number cur sp) last received (v ∷ vs) o fs
    → Crosses p (with_answer_message p cur sp y (source_at g number cur sp)) last received [] o
    (cond (is_own_ack_seen (source_at g number cur sp) (Some y) && is_final_unit p.codes cur) (fs ++ newest o.files) fs)
hear_form p good g number cur sp count kp xs y ys last received v vs o fs e (cleared {u} {n} r q) c =
    hear_clear p g number u (eqb n (count_of u)) last received (v ∷ vs) o fs c
hear_form p good g number cur sp count kp xs y ys last received v vs o fs e (refused r) c =
    with_answers p _ last received (v ∷ vs) [] o fs (λ h. h) (in_phase p _ Idle last received (v ∷ vs) o fs c)
hear_form p good g number cur sp count kp xs y ys last received v vs o fs e (acked {u} {f} {l} r ef el) c =
    hear_ack p good g number u (eqb f number.file && eqb l number.ldu) last received (v ∷ vs) o fs c (c.accepted (subst IsAck (sym e) tt))

pub one_answer : (number : UnitNumber) (cur : Option LduValue) (sp : SourceState) (count : ℕ) (kp : SinkPhase) (xs : List Message)
    (y : Message) (ys : List Message) → Config number cur sp count kp xs (y ∷ ys) → ys ≡ []
one_answer number cur sp count kp xs y ys (cleared r q) = refl
one_answer number cur sp count kp xs y ys (refused r) = refl
one_answer number cur sp count kp xs y ys (acked r f l) = refl

hear_crosses : (p : Contents) → IsRead p → (source : Source) (k : Sink) (vs : List ℕ) (xs ys : List Message) (o : Received)
    (fs : List FileBytes) → IsNonEmpty vs → AllSay p bus.B vs ys → Config source.number source.current source.phase k.count k.phase xs ys
    → Crosses p source k.last k.received vs o fs
    → Crosses p (with_answer_first p.codes vs source) k.last k.received (rest vs) o
    (cond (ends_file p.codes source vs) (fs ++ newest o.files) fs)
hear_crosses p good source k [] xs ys o fs n d h c = absurd n
hear_crosses p good source k (v ∷ vs) xs [] o fs n d h c = absurd d
hear_crosses p good source k (v ∷ vs) xs (y ∷ ys) o fs n d h c =
    let none : vs ≡ [] = none_say p bus.B vs ys d.1 (one_answer _ _ _ _ _ _ y ys h) in
    let own : is_own_ack_form source (form_of p.codes bus.B v) ≡ is_own_ack_seen source (Some y) =
    own_ack_join v (form_of p.codes bus.B v) source ∙ ap (is_own_ack_seen source) d.0 in
    subst (λ q. Crosses p q k.last k.received vs o (cond (ends_file p.codes source (v ∷ vs)) (fs ++ newest o.files) fs))
    (sym (with_answer_as p v y source d.0))
    (subst (λ q. Crosses p (with_answer_message p source.current source.phase y source) k.last k.received vs o
    (cond (q && is_final_unit p.codes source.current) (fs ++ newest o.files) fs)) (sym own)
    (subst (λ l. Crosses p (with_answer_message p source.current source.phase y source) k.last k.received l o
    (cond (is_own_ack_seen source (Some y) && is_final_unit p.codes source.current) (fs ++ newest o.files) fs)) (sym none)
    (hear_form p good source.give_ups source.number source.current source.phase k.count k.phase xs y ys k.last k.received v vs o fs d.0 h
    c)))

lose_crosses : (p : Contents) → (source : Source) (k : Sink) (vs : List ℕ) (xs ys : List Message) (o : Received) (fs : List FileBytes)
    → IsNonEmpty vs → AllSay p bus.B vs ys → Config source.number source.current source.phase k.count k.phase xs ys
    → Crosses p source k.last k.received vs o fs → Crosses p source k.last k.received (rest vs) o fs
lose_crosses p source k [] xs ys o fs n d h c = absurd n
lose_crosses p source k (v ∷ vs) xs [] o fs n d h c = absurd d
lose_crosses p source k (v ∷ vs) xs (y ∷ ys) o fs n d h c =
    let none : vs ≡ [] = none_say p bus.B vs ys d.1 (one_answer _ _ _ _ _ _ y ys h) in
    with_answers p source k.last k.received (v ∷ vs) vs o fs (no_ack p vs none) c

-- a word that is taken leaves the files and the last numbers
pub takes_last : (p : Contents) (w : ℕ) (o : Option Form) (k : Sink) → (takes_form p w o k).last ≡ k.last
takes_last p w None k = refl
takes_last p w (Some (form.Rts n)) k = refl
takes_last p w (Some _) k = refl

takes_crosses : (p : Contents) (source : Source) (k : Sink) (ws vs : List ℕ) (o : Received) (fs : List FileBytes)
    → Crosses p source k.last k.received vs o fs → Crosses p source (takes_first p ws k).last (takes_first p ws k).received vs o fs
takes_crosses p source k [] vs o fs c = c
takes_crosses p source k (w ∷ ws) vs o fs c =
    subst (λ x. Crosses p source (takes_word p w k).last x vs o fs) (sym (takes_received p w (form_of p.codes bus.A w) k))
    (subst (λ n. Crosses p source n k.received vs o fs) (sym (takes_last p w (form_of p.codes bus.A w) k)) c)

-- ---- a block is accepted

-- the sink with a block of this number accepted
abbrev accepts_as : Contents → UnitNumber → List ℕ → ℕ → Bool → Sink → Sink
accepts_as p number parts fl t k =
    cond t k (record k {
      last = Some (record { number = number; final = is_final p.codes fl });
      received = put number.file (bytes_in p.codes parts) (is_final p.codes fl) (received_for k.last number.file k.received);
    })

-- the link data unit is accepted, and what the sink then has fits
pub record Taken (p : Contents) (number : UnitNumber) (u : LduValue) (last : Option Number) (received o : Received)
    (fs : List FileBytes) : Type 0 where
  pub accepted : Accepted p number u last received o fs
  pub fits : Fits p.codes.first_ldu last received.open_bytes

-- it is new to the sink
new_taken : (p : Contents) (g : ℕ) (number : UnitNumber) (u : LduValue) (last : Option Number) (received o : Received) (fs : List FileBytes)
    → g ≤ 127 → number.file ≤ 255 → Room p number.ldu (Some u) → Fits p.codes.first_ldu last received.open_bytes
    → Ahead p number g u last received o fs
    → Taken p number u (Some (unit_number p.codes number u))
    (put number.file (bytes_in p.codes u.words) (is_final p.codes u.flags) (received_for last number.file received)) o fs
new_taken p g number u last received o fs l byte r f a =
    let b = a.behind in
    let kept = received_for last number.file received in
    let files = sym (received_for_files last number.file received) in
    let bytes = bytes_in p.codes u.words in
    let final = is_final p.codes u.flags in
    let more = r.more u refl in
    record {
      accepted = record {
        some =
            subst (λ (x : Received). IsSubsequenceOf (put number.file bytes final kept).files x.files) (sym a.with_it)
            (put_both number.file bytes final kept a.before (subst (λ x. IsSubsequenceOf x a.before.files) files b.some) b.opened);
        opened = put_open number.file bytes final kept a.before b.opened ∙ ap (λ (x : Received). x.open_bytes) (sym a.with_it);
        closed = put_closed number.file bytes final kept;
        last_is = refl;
        settled =
            subst (λ (x : Received). IsSubsequenceOf (cond final (fs ++ newest x.files) fs) (put number.file bytes final kept).files)
            (sym a.with_it)
            (put_settled number.file bytes final kept a.before fs (subst (λ x. IsSubsequenceOf fs x) files b.settled) b.opened);
      };
      fits = record {
        byte = byte;
        room = more.0;
        most =
            omega
            (arith, more.1, put_room number.file bytes final kept, room_for p.codes.first_ldu last number g received l b.past r.low f);
      };
    }

taken_by : (p : Contents) (g : ℕ) (number : UnitNumber) (u : LduValue) (k : Sink) (o : Received) (fs : List FileBytes) (t : Bool)
    → is_same k.last number ≡ t → g ≤ 127 → number.file ≤ 255 → Room p number.ldu (Some u)
    → Fits p.codes.first_ldu k.last k.received.open_bytes
    → Ahead p number g u k.last k.received o fs ⊎ Accepted p number u k.last k.received o fs
    → Taken p number u (accepts_as p number u.words u.flags t k).last (accepts_as p number u.words u.flags t k).received o fs
taken_by p g number u k o fs true e l byte r f (inl a) = absurd (cc (e, past_new k.last number g l a.behind.past))
taken_by p g number u k o fs true e l byte r f (inr a) = record { accepted = a; fits = f }
taken_by p g number u k o fs false e l byte r f (inl a) = new_taken p g number u k.last k.received o fs l byte r f a
taken_by p g number u k o fs false e l byte r f (inr a) =
    absurd (cc (sym e ∙ ap (λ n. is_same n number) a.last_is ∙ number_same number))

ack_taken : (p : Contents) (g : ℕ) (number : UnitNumber) (u : LduValue) (b : Block) (fl : ℕ) (k : Sink) (o : Received) (fs : List FileBytes)
    → g ≤ 127 → number.file ≤ 255 → Room p number.ldu (Some u) → Fits p.codes.first_ldu k.last k.received.open_bytes → Whole u number b fl
    → Stand p number g (Some u) k.last k.received o fs
    → Taken p number u (accepts p.codes b fl k).last (accepts p.codes b fl k).received o fs
ack_taken p g number u b fl k o fs l byte r f h c =
    let P = λ (m : UnitNumber) (parts : List ℕ) (q : ℕ).
    Taken p number u (accepts_as p m parts q (is_same k.last m) k).last (accepts_as p m parts q (is_same k.last m) k).received o fs in
    let here = taken_by p g number u k o fs (is_same k.last number) refl l byte r f c in
    subst (λ x. P x b.words fl) (sym h.told) (subst (λ x. P number x fl) (sym h.words) (subst (λ x. P number u.words x) (sym h.flags) here))

-- the answer that is given, by its form
answer_form : (p : Contents) (g : ℕ) (number : UnitNumber) (cur : Option LduValue) (sp : SourceState) (count : ℕ) (kp : SinkPhase)
    (xs ys : List Message) (k : Sink) (vs : List ℕ) (w : ℕ) (o : Received) (fs : List FileBytes) (f l : ℕ)
    → MaySay count kp (Ack f l) → number.file ≤ 255 → Config number cur sp count kp xs ys
    → Crosses p (source_at g number cur sp) k.last k.received vs o fs
    → Crosses p (source_at g number cur sp) (accepts_owed p.codes kp k).last (accepts_owed p.codes kp k).received (vs ++ w ∷ []) o fs
answer_form p g number cur sp count kp xs ys k vs w o fs f l m byte (whole {u} {b} {flags} r h) c =
    let a = ack_taken p g number u b flags k o fs c.few byte c.room c.fits h c.stand in
    record { few = c.few; stand = inr a.accepted; accepted = λ i. a.accepted; room = c.room; fits = a.fits }
answer_form p g number cur sp count kp xs ys k vs w o fs f l m byte (idle r s) c = absurd (owes_stale kp (may_owes count kp (Ack f l) m) s)
answer_form p g number cur sp count kp xs ys k vs w o fs f l m byte (asked r s q) c =
    absurd (owes_stale kp (may_owes count kp (Ack f l) m) s)
answer_form p g number cur sp count kp xs ys k vs w o fs f l m byte (unasked r s) c =
    absurd (owes_stale kp (may_owes count kp (Ack f l) m) s)
answer_form p g number cur sp count kp xs ys k vs w o fs f l m byte (sending r i q le h) c =
    absurd (owes_grant kp (may_owes count kp (Ack f l) m) i)
answer_form p g number cur sp count kp xs ys k vs w o fs f l m byte (waiting r i q h) c =
    absurd (owes_grant kp (may_owes count kp (Ack f l) m) i)
answer_form p g number cur sp count kp xs ys k vs w o fs f l m byte _ c = absurd m

answer_crosses : (p : Contents) (s : State) (w : ℕ) (x : Message) (o : Received) (fs : List FileBytes)
    → message_of p bus.B w ≡ Some x → s.to_source ≡ [] → MaySay s.sink.count s.sink.phase x → HoldsAt p s → CrossesAt p s o fs
    → Crosses p s.source (answers_message p x s.sink).last (answers_message p x s.sink).received (s.to_source ++ w ∷ []) o fs
answer_crosses p s w (Ack f l) o fs e n m h c =
    answer_form p s.source.give_ups _ _ _ _ _ h.xs h.ys s.sink s.to_source w o fs f l m h.file h.fits c
answer_crosses p s w (Cts q) o fs e n m h c =
    with_answers p s.source s.sink.last s.sink.received s.to_source (s.to_source ++ w ∷ []) o fs
    (λ i. subst IsAck e (subst (λ l. HasAck p (l ++ w ∷ [])) n i)) c
answer_crosses p s w (Nak q) o fs e n m h c =
    with_answers p s.source s.sink.last s.sink.received s.to_source (s.to_source ++ w ∷ []) o fs
    (λ i. subst IsAck e (subst (λ l. HasAck p (l ++ w ∷ [])) n i)) c
answer_crosses p s w x o fs e n m h c = absurd (may_answer s.sink.count s.sink.phase x m)

answered_crosses : (p : Contents) (s : State) (i : Seen) (o : Received) (fs : List FileBytes)
    → Can p (Answered i) s → HoldsAt p s → CrossesAt p s o fs → CrossesAt p (after p (Answered i) s) o fs
answered_crosses p s i o fs m h c =
    let r = owed_form p s i m in
    let alone = alone_on_the_way p s (may_owes s.sink.count s.sink.phase r.said r.owed) h in
    subst (λ (q : Sink). Crosses p s.source q.last q.received (s.to_source ++ i.word ∷ []) o fs)
    (sym (answers_as p i.word r.said s.sink r.is)) (answer_crosses p s i.word r.said o fs r.is alone.2 r.owed h c)

pub step_crosses : (p : Contents) → IsRead p → (a : Step) (s : State) (o : Received) (fs : List FileBytes) → Can p a s → HoldsAt p s
    → CrossesAt p s o fs → CrossesAt p (after p a s) (offers p a s o) (settles p a s o fs)
step_crosses p good (Load u) s o fs i h c = load_crosses p good s u o fs i h s.source.current refl i.1 c
step_crosses p good (Sent w) s o fs i h c = in_phase p s.source _ _ _ _ o fs c
step_crosses p good SentLost s o fs i h c = in_phase p s.source _ _ _ _ o fs c
step_crosses p good TimeOut s o fs i h c = in_phase p s.source _ _ _ _ o fs c
step_crosses p good TakeAnswer s o fs i h c = hear_crosses p good s.source s.sink s.to_source h.xs h.ys o fs i h.source_words h.fits c
step_crosses p good LoseAnswer s o fs i h c = lose_crosses p s.source s.sink s.to_source h.xs h.ys o fs i h.source_words h.fits c
step_crosses p good SinkTakes s o fs i h c = takes_crosses p s.source s.sink s.to_sink s.to_source o fs c
step_crosses p good Silent s o fs i h c = record { few = c.few; stand = c.stand; accepted = c.accepted; room = c.room; fits = c.fits }
step_crosses p good (Answered w) s o fs i h c = answered_crosses p s w o fs i h c
step_crosses p good (FreeSeen w) s o fs i h c = c
step_crosses p good GiveUp s o fs i h c = give_up_crosses p s o fs i h c

-- Whole runs.
pub record Books (p : Contents) (s : State) (o : Received) (fs : List FileBytes) : Type 0 where
  pub holds : HoldsAt p s
  pub crosses : CrossesAt p s o fs

run_books : (p : Contents) → IsRead p → (acts : List Step) (s : State) (o : Received) (fs : List FileBytes) → IsRun p acts s
    → Books p s o fs → Books p (end_of p acts s) (offered_from p acts s o) (settled_from p acts s o fs)
run_books p good [] s o fs h b = b
run_books p good (a ∷ acts) s o fs h b =
    run_books p good acts (after p a s) (offers p a s o) (settles p a s o fs) h.1
    (record { holds = step_holds p good a s h.0 b.holds; crosses = step_crosses p good a s o fs h.0 b.holds b.crosses })

pub start_books : (p : Contents) (first : ℕ) → first ≤ 255 → Books p (start p first) nothing_received []
start_books p first f =
    record {
      holds = start_holds p first f;
      crosses = record {
        few = omega arith;
        stand = record { some = refl; opened = refl; past = tt; settled = refl };
        accepted = λ h. absurd h;
        room = record { low = omega arith; more = λ v k. absurd (cc k) };
        fits = refl;
      };
    }

all_books : (p : Contents) (f : ℕ) (acts : List Step) → IsRead p → f ≤ 255 → IsRun p acts (start p f)
    → Books p (end_of p acts (start p f)) (offered_from p acts (start p f) nothing_received)
    (settled_from p acts (start p f) nothing_received [])
all_books p f acts good l h = run_books p good acts (start p f) nothing_received [] h (start_books p f l)

stand_some : (p : Contents) (number : UnitNumber) (g : ℕ) (cur : Option LduValue) (last : Option Number) (received o : Received)
    (fs : List FileBytes) → Stand p number g cur last received o fs → IsSubsequenceOf received.files o.files
stand_some p number g None last received o fs b = b.some
stand_some p number g (Some u) last received o fs (inl a) =
    subst (λ (x : Received). IsSubsequenceOf received.files x.files) (sym a.with_it)
    (put_second number.file (bytes_in p.codes u.words) (is_final p.codes u.flags) received.files a.before a.behind.some)
stand_some p number g (Some u) last received o fs (inr a) = a.some

stand_settled : (p : Contents) (number : UnitNumber) (g : ℕ) (cur : Option LduValue) (last : Option Number) (received o : Received)
    (fs : List FileBytes) → Stand p number g cur last received o fs → IsSubsequenceOf fs received.files
stand_settled p number g None last received o fs b = b.settled
stand_settled p number g (Some u) last received o fs (inl a) = a.behind.settled
stand_settled p number g (Some u) last received o fs (inr a) = settled_before (is_final p.codes u.flags) fs o received a.settled

stand_near : (p : Contents) (number : UnitNumber) (g : ℕ) (cur : Option LduValue) (last : Option Number) (received o : Received)
    (fs : List FileBytes)
    → g ≤ 127 → Fits p.codes.first_ldu last received.open_bytes → number.file ≤ 255 → Stand p number g cur last received o fs
    → IsNear last number
stand_near p number g None last received o fs l f byte b = past_near p.codes.first_ldu last received.open_bytes number g l f byte b.past
stand_near p number g (Some u) last received o fs l f byte (inl a) =
    past_near p.codes.first_ldu last received.open_bytes number g l f byte a.behind.past
stand_near p number g (Some u) last received o fs l f byte (inr a) =
    let here : files_past number.file number.file ≤ 128 = omega arith in
    subst (λ n. IsNear n number) (sym a.last_is) here

pub delivered_subsequence : (p : Contents) (f : ℕ) (xs : List Step)
    → IsRead p → f ≤ 255 → IsRun p xs (start p f) → IsSubsequenceOf (delivered p f xs) (offered p f xs)
delivered_subsequence p f xs good l h = stand_some p _ _ _ _ _ _ _ (all_books p f xs good l h).crosses.stand

pub settled_subsequence : (p : Contents) (f : ℕ) (xs : List Step)
    → IsRead p → f ≤ 255 → IsRun p xs (start p f) → IsSubsequenceOf (settled p f xs) (delivered p f xs)
settled_subsequence p f xs good l h = stand_settled p _ _ _ _ _ _ _ (all_books p f xs good l h).crosses.stand

pub run_near : (p : Contents) (f : ℕ) (xs : List Step)
    → IsRead p → f ≤ 255 → IsRun p xs (start p f) → IsNear (end_of p xs (start p f)).sink.last (end_of p xs (start p f)).source.number
run_near p f xs good l h =
    let b = all_books p f xs good l h in
    let c = b.crosses in
    stand_near p _ _ _ _ _ _ _ c.few c.fits b.holds.file c.stand

pub run_bounded : (p : Contents) (f : ℕ) (xs : List Step)
    → IsRead p → f ≤ 255 → IsRun p xs (start p f) → IsBounded (end_of p xs (start p f))
run_bounded p f xs good l h =
    let b = all_books p f xs good l h in
    let few = config_bounded _ _ _ _ _ _ _ b.holds.fits in
    let left = config_few _ _ _ _ _ _ _ b.holds.fits in
    record {
      sent = left.0;
      took = left.1;
      words = omega (arith, few.0, say_length p bus.A _ _ b.holds.sink_words);
      answers = omega (arith, few.1, say_length p bus.B _ _ b.holds.source_words);
      bytes = fits_bytes _ _ _ b.crosses.fits;
    }
