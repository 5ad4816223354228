-- The numbers under which a source sends, against those that its sink accepted last.
use Rattle.std.proofs.Common.{◌≡◌, ◌⊎◌, ℕ, zero, suc, ◌+◌, ◌%◌, ◌≤◌, Bool, true, false, cond, eqb, ◌&&◌, List, [], ◌∷◌, ◌++◌, length, take, Option, Some, None, is_some, slice_get, unwrap_or, refl, sym, ap, ◌∙◌, subst, inl, inr, arith, append-nil, eq-eqb}
use Rattle.std.proofs.lemmas.Bool.{and_from, and_parts, le-leb, not_from_false, or_left, or_right}
use Rattle.a429_word.specs.declared.bus.Bus.{Bus}
use Rattle.a429_word.specs.declared.bus.Bus.TheVariants as bus
use Rattle.a429_profile.specs.declared.codes.Codes.{Codes}
use Rattle.a429_profile.specs.Profile.{Contents, IsProfile}
use Rattle.a429_ldu.specs.declared.forms.Form.{Form}
use Rattle.a429_ldu.specs.declared.forms.Form.TheVariants as form
use Rattle.a429_ldu.specs.Form.{form_of}
use Rattle.a429_ldu.specs.Ldu.{LduValue, IsLdu, count_of, is_final, ldu_of}
use Rattle.a429_ldu.proofs.LduFacts.{unit_agrees}
use Rattle.a429_ldu.specs.Carried.{bytes_carried, bytes_in}
use Rattle.a429_ldu.specs.CheckWord.{agrees}
use Rattle.a429_link.specs.declared.file.FileBytes.{FileBytes}
use Rattle.a429_link.specs.declared.number.UnitNumber.{UnitNumber}
use Rattle.a429_link.specs.declared.seen.Seen.{Seen}
use Rattle.a429_link.specs.declared.state.SourceState.{SourceState}
use Rattle.a429_link.specs.declared.state.SourceState.TheVariants.{Awaiting, Idle, Sending, Waiting}
use Rattle.a429_link.specs.declared.step.Step.{Step}
use Rattle.a429_link.specs.declared.step.Step.TheVariants.{Answered, FreeSeen, GiveUp, Load, LoseAnswer, Sent, SentLost, Silent, SinkTakes, TakeAnswer, TimeOut}
use Rattle.a429_link.specs.WholeBlock.{ComesForm, ComesNext, EndsBad, EndsBadAt, EndsBadForm, EndsForm, EndsWhole, NumberComesAt, makes_unit}
use Rattle.a429_link.specs.Number.{begins_file, files_past, first_number, is_number, next_number}
use Rattle.a429_link.specs.Observer.{Observer, at_first, observed}
use Rattle.a429_link.specs.Observer.{sees as observes}
use Rattle.a429_link.specs.Run.{BeginsARun, IsRun, IsSubsequenceOf, trace, with_label, offers, settles}
use Rattle.a429_link.specs.Sink.{Block, InBlock, Number, Received, Sink, SinkPhase, nothing_received, is_good, is_same, may_come, number_of, takes_first}
use Rattle.a429_link.specs.Source.{Source, with_answer_first}
use Rattle.a429_link.specs.State.{IsNonEmpty, State, start}
use Rattle.a429_link.specs.Step.{Can, after, label}
use Rattle.a429_link.proofs.Message.{Ack, AllSay, Cts, Eot, IsRead, MaySay, Message, Nak, Rts, Sot, answers_as, answers_message, block_messages, front, with_answer_as, with_answer_message, message_in, message_of, next_message, taken_messages}
use Rattle.a429_link.proofs.MessageSubsequence.{sub_start}
use Rattle.a429_link.proofs.NumberFacts.{number_from, number_same}
use Rattle.a429_link.proofs.SinkGoodBlock.{good_where}
use Rattle.a429_link.proofs.Subsequence.{sub_take}
use Rattle.a429_link.proofs.SinkShelves.{Fits}
use Rattle.a429_link.proofs.StateConfigs.{Config, acked, block_taken, cleared, idle, may_answer, may_owes, refused, sending, source_at, unit_number}
use Rattle.a429_link.proofs.StateHolds.{HoldsAt, alone_on_the_way, owed_form, sends, step_holds}
use Rattle.a429_link.proofs.SinkFromTrace.{Alike, IsStill, sees, step_alike, take_all}
use Rattle.a429_link.proofs.RunTraces.{only_start, see_item}
use Rattle.a429_link.proofs.RunCrossing.{Books, CrossesAt, HasAccepted, HasAck, IsAck, Crosses, start_books, step_crosses, takes_last}
use Rattle.a429_link.proofs.ObserverRefuses.{seeing, sees_same}
use Rattle.a429_link.proofs.WholeBlock.{all_taken_fit, whole_is_ldu}
use Rattle.a429_link.specs.Trace.{sink_at_first, sink_sees}

-- the next of a file that is not whole, or the first of a file that is as many past as were given up, and one
abbrev pub Follows : Codes → Option Number → UnitNumber → ℕ → Type 0
Follows c None n g = n.ldu ≡ c.first_ldu
Follows c (Some last) n g = ((last.final ≡ false) × (n ≡ next_number c last.number false))
    ⊎ ((d : ℕ) × (1 ≤ d) × (d ≤ suc g) × (n.file ≡ (last.number.file + d) % 256) × (n.ldu ≡ c.first_ldu))

-- the source's number is that of the link data unit accepted last, which is current, or follows it
abbrev pub Due : Contents → UnitNumber → ℕ → Option LduValue → Option Number → Type 0
Due p n g None last = Follows p.codes last n g
Due p n g (Some u) last = Follows p.codes last n g ⊎ (last ≡ Some (unit_number p.codes n u))

abbrev pub DueBy : Contents → Source → Option Number → Type 0
DueBy p s last = Due p s.number s.give_ups s.current last

abbrev pub DueAt : Contents → State → Type 0
DueAt p s = DueBy p s.source s.sink.last

load_due : (p : Contents) (n : UnitNumber) (g : ℕ) (cur : Option LduValue) (last : Option Number) (u : LduValue)
    → cur ≡ None → Due p n g cur last → Due p n g (Some u) last
load_due p n g None last u e h = inl h
load_due p n g (Some v) last u e h = absurd (cc e)

given_up : (c : Codes) (last : Option Number) (n : UnitNumber) (g : ℕ)
    → Follows c last n g → Follows c last (first_number c ((n.file + 1) % 256)) (suc g)
given_up c None n g h = refl
given_up c (Some last) n g (inl (f, e)) = inr (1, omega arith, omega arith, ap (λ (m : UnitNumber). (m.file + 1) % 256) e, refl)
given_up c (Some last) n g (inr (d, a, b, e, l)) = inr (suc d, omega arith, omega arith, omega arith, refl)

give_up_due : (p : Contents) (n : UnitNumber) (g : ℕ) (cur : Option LduValue) (last : Option Number)
    → Due p n g cur last → Follows p.codes last (first_number p.codes ((n.file + 1) % 256)) (suc g)
give_up_due p n g None last h = given_up p.codes last n g h
give_up_due p n g (Some u) last (inl h) = given_up p.codes last n g h
give_up_due p n g (Some u) last (inr e) =
    let now : Follows p.codes (Some (unit_number p.codes n u)) (first_number p.codes ((n.file + 1) % 256)) (suc g) =
    inr (1, omega arith, omega arith, refl, refl) in
    subst (λ x. Follows p.codes x (first_number p.codes ((n.file + 1) % 256)) (suc g)) (sym e) now

-- the number behind that of the link data unit accepted last
next_follows : (c : Codes) (n : UnitNumber) (t : Bool) → Follows c (Some (record { number = n; final = t })) (next_number c n t) 0
next_follows c n true = inr (1, omega arith, omega arith, refl, refl)
next_follows c n false = inl (refl, refl)

-- an acknowledgement that is on its way is of a link data unit that was accepted
accepted_due : (p : Contents) (n : UnitNumber) (cur : Option LduValue) (last : Option Number) (received o : Received) (fs : List FileBytes)
    (g : ℕ) → HasAccepted p n cur last received o fs → Due p n g cur last
accepted_due p n None last received o fs g h = absurd h
accepted_due p n (Some u) last received o fs g h = inr h.last_is

either : (p : Contents) (t : Bool) (a b : Source) (last : Option Number) → DueBy p a last → DueBy p b last → DueBy p (cond t a b) last
either p true a b last h k = h
either p false a b last h k = k

heard_due : (p : Contents) (g : ℕ) (number : UnitNumber) (cur : Option LduValue) (sp : SourceState) (count : ℕ) (kp : SinkPhase)
    (xs : List Message) (y : Message) (ys : List Message) (last : Option Number) (received o : Received) (fs : List FileBytes)
    → Config number cur sp count kp xs (y ∷ ys) → (IsAck (Some y) → HasAccepted p number cur last received o fs) → Due p number g cur last
    → DueBy p (with_answer_message p cur sp y (source_at g number cur sp)) last
heard_due p g number cur sp count kp xs y ys last received o fs (cleared {u} {n} r q) a h = either p (eqb n (count_of u)) _ _ last h h
heard_due p g number cur sp count kp xs y ys last received o fs (refused r) a h = h
heard_due p g number cur sp count kp xs y ys last received o fs (acked {u} {f} {l} r ef el) a h =
    either p (eqb f number.file && eqb l number.ldu) _ _ last
    (subst (λ x. Follows p.codes x (next_number p.codes number (is_final p.codes u.flags)) 0) (sym (a tt).last_is)
    (next_follows p.codes number (is_final p.codes u.flags))) h

hear_due : (p : Contents) (source : Source) (k : Sink) (vs : List ℕ) (xs ys : List Message) (o : Received) (fs : List FileBytes)
    → IsNonEmpty vs → AllSay p bus.B vs ys → Config source.number source.current source.phase k.count k.phase xs ys
    → Crosses p source k.last k.received vs o fs → DueBy p source k.last → DueBy p (with_answer_first p.codes vs source) k.last
hear_due p source k [] xs ys o fs n d h c q = absurd n
hear_due p source k (v ∷ vs) xs [] o fs n d h c q = absurd d
hear_due p source k (v ∷ vs) xs (y ∷ ys) o fs n d h c q =
    subst (λ x. DueBy p x k.last) (sym (with_answer_as p v y source d.0))
    (heard_due p source.give_ups source.number source.current source.phase k.count k.phase xs y ys k.last k.received o fs h
    (λ a. c.accepted (subst IsAck (sym d.0) a)) q)

-- what the sink has accepted once it has answered
answered_due : (p : Contents) (s : State) (w : ℕ) (x : Message) (o : Received) (fs : List FileBytes)
    → message_of p bus.B w ≡ Some x → s.to_source ≡ [] → MaySay s.sink.count s.sink.phase x
    → Crosses p s.source (answers_message p x s.sink).last (answers_message p x s.sink).received (s.to_source ++ w ∷ []) o fs → DueAt p s
    → DueBy p s.source (answers_message p x s.sink).last
answered_due p s w (Cts q) o fs e n m c h = h
answered_due p s w (Nak q) o fs e n m c h = h
answered_due p s w (Ack f l) o fs e n m c h =
    let there : HasAck p (s.to_source ++ w ∷ []) = subst (λ (vs : List ℕ). HasAck p (vs ++ w ∷ [])) (sym n) (subst IsAck (sym e) tt) in
    accepted_due p s.source.number s.source.current _ _ o fs s.source.give_ups (c.accepted there)
answered_due p s w x o fs e n m c h = absurd (may_answer s.sink.count s.sink.phase x m)

takes_due : (p : Contents) (source : Source) (k : Sink) (ws : List ℕ) → DueBy p source k.last → DueBy p source (takes_first p ws k).last
takes_due p source k [] h = h
takes_due p source k (w ∷ ws) h = subst (DueBy p source) (sym (takes_last p w (form_of p.codes bus.A w) k)) h

step_due : (p : Contents) → IsRead p → (a : Step) (s : State) (o : Received) (fs : List FileBytes) → Can p a s → HoldsAt p s
    → CrossesAt p s o fs → DueAt p s → DueAt p (after p a s)
step_due p good (Load u) s o fs i h c d = load_due p s.source.number s.source.give_ups s.source.current s.sink.last u i.1 d
step_due p good (Sent w) s o fs i h c d = d
step_due p good SentLost s o fs i h c d = d
step_due p good TimeOut s o fs i h c d = d
step_due p good TakeAnswer s o fs i h c d = hear_due p s.source s.sink s.to_source h.xs h.ys o fs i h.source_words h.fits c d
step_due p good LoseAnswer s o fs i h c d = d
step_due p good SinkTakes s o fs i h c d = takes_due p s.source s.sink s.to_sink d
step_due p good Silent s o fs i h c d = d
step_due p good (Answered w) s o fs i h c d =
    let r = owed_form p s w i in
    let alone = alone_on_the_way p s (may_owes s.sink.count s.sink.phase r.said r.owed) h in
    let now =
    subst (λ (q : Sink). Crosses p s.source q.last q.received (s.to_source ++ w.word ∷ []) o fs) (answers_as p w.word r.said s.sink r.is)
    (step_crosses p good (Answered w) s o fs i h c) in
    subst (λ (q : Sink). DueBy p s.source q.last) (sym (answers_as p w.word r.said s.sink r.is))
    (answered_due p s w.word r.said o fs r.is alone.2 r.owed now d)
step_due p good (FreeSeen w) s o fs i h c d = d
step_due p good GiveUp s o fs i h c d = give_up_due p s.source.number s.source.give_ups s.source.current s.sink.last d

-- ---- a number that is due may come

due_comes : (p : Contents) (n : UnitNumber) (g : ℕ) (u : LduValue) (last : Option Number) (bytes : List ℕ) → g ≤ 127 → n.file ≤ 255
    → n.ldu ≤ p.codes.first_ldu + 254 → Fits p.codes.first_ldu last bytes → Due p n g (Some u) last → may_come p.codes last n ≡ true
due_comes p n g u None bytes few byte room f (inl e) = eq-eqb n.ldu p.codes.first_ldu e
due_comes p n g u None bytes few byte room f (inr e) = absurd (cc e)
due_comes p n g u (Some last) bytes few byte room f (inl (inl (open_file, e))) =
    let same : is_number n (next_number p.codes last.number false) ≡ true = subst (λ m. is_number n m ≡ true) e (number_same n) in
    or_right (is_same (Some last) n) _
    (or_right (begins_file p.codes last.number n) _
    (and_from _ _ (not_from_false last.final open_file) (and_from _ _ same (le-leb n.ldu (p.codes.first_ldu + 254) room))))
due_comes p n g u (Some last) bytes few byte room f (inl (inr (d, low, high, e, l))) =
    let at = f.byte in
    let past : files_past n.file last.number.file ≡ d = omega arith in
    or_right (is_same (Some last) n) _
    (or_left (begins_file p.codes last.number n) _ (and_from _ _ (eq-eqb n.ldu p.codes.first_ldu l) (and_from _ _
    (le-leb 1 (files_past n.file last.number.file) (omega arith)) (le-leb (files_past n.file last.number.file) 128 (omega arith)))))
due_comes p n g u (Some last) bytes few byte room f (inr e) =
    let same : last.number ≡ n = cc e in
    or_left (is_same (Some last) n) _ (subst (λ m. is_number m n ≡ true) (sym same) (number_same n))

-- ---- the walk

-- what is said of a start word's numbers, and of those of the block that an end word ends
abbrev BlockComes : Codes → Option Number → SinkPhase → Type 0
BlockComes c last (InBlock b) = may_come c last (number_of b) ≡ true
BlockComes c last _ = Unit {0}

abbrev Comes : Codes → Bus → Option Message → Sink → Type 0
Comes c bus.A (Some (Sot g f l)) k = may_come c k.last (record { file = f; ldu = l }) ≡ true
Comes c bus.A (Some (Eot flags check)) k = BlockComes c k.last k.phase
Comes c _ _ k = Unit {0}

abbrev ComesItem : Contents → Sink → Seen → Type 0
ComesItem p k i = Comes p.codes i.bus (message_of p i.bus i.word) k

abbrev ComesLabel : Contents → Sink → Option Seen → Type 0
ComesLabel p k None = Unit {0}
ComesLabel p k (Some i) = ComesItem p k i

abbrev AllCome : Contents → List Seen → Sink → Type 0
AllCome p [] k = Unit {0}
AllCome p (i ∷ items) k = ComesItem p k i × AllCome p items (sees p (Some i) k)

-- what is known of a state of a run
pub record Known (p : Contents) (s : State) (o : Received) (fs : List FileBytes) : Type 0 where
  pub books : Books p s o fs
  pub due : DueAt p s

pub take_all_last : (p : Contents) (ws : List ℕ) (k : Sink) → (take_all p ws k).last ≡ k.last
take_all_last p [] k = refl
take_all_last p (w ∷ ws) k = take_all_last p ws _ ∙ takes_last p w (form_of p.codes bus.A w) k

last_alike : (p : Contents) (s : State) (k : Sink) → Alike p s k → s.sink.last ≡ k.last
last_alike p s k (inl m) = sym (take_all_last p s.to_sink s.sink) ∙ ap (λ (q : Sink). q.last) m
last_alike p s k (inr r) = ap (λ (q : Sink). q.last) r.alike

-- a start word tells the source's number
pub start_has_number : (number : UnitNumber) (u : LduValue) (k : ℕ) (g f l : ℕ)
    → slice_get (block_messages u number) k ≡ Some (Sot g f l) → record { file = f; ldu = l } ≡ number
start_has_number number u zero g f l e = number_from _ number (cc e) (cc e)
start_has_number number u (suc k) g f l e = absurd (only_start k g f l u.words u.flags u.check e)

block_number : (number : UnitNumber) (u : LduValue) (k : ℕ) (b : Block)
    → IsSubsequenceOf (taken_messages b ++ []) (take k (front u number)) → number_of b ≡ number
block_number number u k b h =
    let h' = subst (λ x. IsSubsequenceOf x (take k (front u number))) (append-nil (taken_messages b)) h in
    let all =
    sub_start b.gfi b.file b.ldu u.gfi number.file number.ldu b.words u.words (sub_take k (taken_messages b) (front u number) h') in
    number_from (number_of b) number all.0 all.1

sending_comes : (c : Codes) (number : UnitNumber) (u : LduValue) (n : ℕ) (w : Message) (k : Sink) (kp : SinkPhase)
    → k.phase ≡ kp → slice_get (block_messages u number) n ≡ Some w → IsSubsequenceOf (block_taken kp ++ []) (take n (front u number))
    → may_come c k.last number ≡ true → Comes c bus.A (Some w) k
sending_comes c number u n (Sot g f l) k kp q e h may =
    subst (λ m. may_come c k.last m ≡ true) (sym (start_has_number number u n g f l e)) may
sending_comes c number u n (Eot flags check) k kp q e h may = subst (BlockComes c k.last) (sym q) (at kp h)
  where
    at : (kp : SinkPhase) → IsSubsequenceOf (block_taken kp ++ []) (take n (front u number)) → BlockComes c k.last kp
    at (InBlock b) h = subst (λ m. may_come c k.last m ≡ true) (sym (block_number number u n b h)) may
    at _ h = tt
sending_comes c number u n _ k kp q e h may = tt

sent_comes : (p : Contents) (number : UnitNumber) (cur : Option LduValue) (sp : SourceState) (k : Sink) (xs ys : List Message) (w : Message)
    → next_message number cur sp ≡ Some w → xs ≡ [] → Config number cur sp k.count k.phase xs ys
    → ((u : LduValue) → cur ≡ Some u → may_come p.codes k.last number ≡ true) → Comes p.codes bus.A (Some w) k
sent_comes p number None sp k xs ys w e n (idle f s) may = absurd (cc e)
sent_comes p number (Some u) sp k xs ys w e n (idle f s) may =
    let same : w ≡ Rts (count_of u) = cc in subst (λ x. Comes p.codes bus.A (Some x) k) (sym same) tt
sent_comes p number cur sp k xs ys w e n (sending {u} {k = i} r g c le h) may =
    sending_comes p.codes number u i w k k.phase refl e
    (subst (λ x. IsSubsequenceOf (block_taken k.phase ++ x) (take i (front u number))) n h) (may u refl)
sent_comes p number cur sp k xs ys w e n _ may = absurd (cc e)

still_comes : (c : Codes) (number : UnitNumber) (cur : Option LduValue) (sp : SourceState) (w : Message) (k : Sink)
    → next_message number cur sp ≡ Some w → IsStill sp → Comes c bus.A (Some w) k
still_comes c number (Some u) Idle w k e i = let same : w ≡ Rts (count_of u) = cc in subst (λ x. Comes c bus.A (Some x) k) (sym same) tt
still_comes c number (Some u) (Sending n) w k e i = absurd i
still_comes c number (Some u) Awaiting w k e i = absurd (cc e)
still_comes c number (Some u) Waiting w k e i = absurd (cc e)
still_comes c number None sp w k e i = absurd (cc e)

comes_on : (p : Contents) (k : Sink) (i : Seen) (b : Bus) (x : Message)
    → i.bus ≡ b → message_of p b i.word ≡ Some x → Comes p.codes b (Some x) k → ComesItem p k i
comes_on p k i b x e h a =
    subst (λ (q : Bus). Comes p.codes q (message_of p q i.word) k) (sym e) (subst (λ o. Comes p.codes b o k) (sym h) a)

-- the current link data unit's numbers may come
may_now : (p : Contents) (s : State) (k : Sink) (o : Received) (fs : List FileBytes) → Known p s o fs → Alike p s k
    → (cur : Option LduValue) → s.source.current ≡ cur → (u : LduValue) → cur ≡ Some u → may_come p.codes k.last s.source.number ≡ true
may_now p s k o fs h m cur q u e =
    let c = h.books.crosses in
    let same : s.source.current ≡ Some u = q ∙ e in
    let due = subst (λ x. Due p s.source.number s.source.give_ups x s.sink.last) same h.due in
    subst (λ x. may_come p.codes x s.source.number ≡ true) (last_alike p s k m)
    (due_comes p s.source.number s.source.give_ups u s.sink.last s.sink.received.open_bytes c.few h.books.holds.file
    (c.room.more u same).0 c.fits due)

step_comes : (p : Contents) → IsRead p → (a : Step) (s : State) (k : Sink) (o : Received) (fs : List FileBytes) → Can p a s → Known p s o fs
    → Alike p s k → ComesLabel p k (label a)
step_comes p good (Sent i) s k o fs c h (inl m) =
    let f = h.books.holds in
    let says = sends p good s.source i.word f.file f.current c.1 in
    let fits =
    subst (λ (q : Sink). Config s.source.number s.source.current s.source.phase q.count q.phase [] f.ys) m
    (all_taken_fit p s.source.number s.source.current s.source.phase s.to_sink s.sink f.xs f.ys f.sink_words f.fits) in
    comes_on p k i bus.A says.said c.0 says.says
    (sent_comes p s.source.number s.source.current s.source.phase k [] f.ys says.said says.next refl fits
    (may_now p s k o fs h (inl m) s.source.current refl))
step_comes p good (Sent i) s k o fs c h (inr r) =
    let f = h.books.holds in
    let says = sends p good s.source i.word f.file f.current c.1 in
    comes_on p k i bus.A says.said c.0 says.says
    (still_comes p.codes s.source.number s.source.current s.source.phase says.said k says.next r.still)
step_comes p good (Answered i) s k o fs c h m =
    let r = owed_form p s i c in
    comes_on p k i bus.B r.said c.0 r.is tt
step_comes p good (FreeSeen i) s k o fs c h m =
    subst (λ x. Comes p.codes i.bus (message_in i.word x) k) (sym (good.free i.bus i.word c)) (none i.bus)
  where
    none : (b : Bus) → Comes p.codes b None k
    none bus.A = tt
    none bus.B = tt
step_comes p good GiveUp s k o fs c h m = tt
step_comes p good _ s k o fs c h m = tt

push_label : (p : Contents) (l : Option Seen) (items : List Seen) (k : Sink)
    → ComesLabel p k l → AllCome p items (sees p l k) → AllCome p (with_label l items) k
push_label p None items k a h = h
push_label p (Some i) items k a h = (a, h)

run_comes : (p : Contents) → IsRead p → (steps : List Step) (s : State) (k : Sink) (o : Received) (fs : List FileBytes) → IsRun p steps s
    → Known p s o fs → Alike p s k → AllCome p (trace steps) k
run_comes p good [] s k o fs h f m = tt
run_comes p good (a ∷ steps) s k o fs h f m =
    let c = f.books.holds in
    let next : Known p (after p a s) (offers p a s o) (settles p a s o fs) = record {
      books = record { holds = step_holds p good a s h.0 c; crosses = step_crosses p good a s o fs h.0 c f.books.crosses };
      due = step_due p good a s o fs h.0 c f.books.crosses f.due;
    } in
    push_label p (label a) (trace steps) k (step_comes p good a s k o fs h.0 f m)
    (run_comes p good steps (after p a s) (sees p (label a) k) (offers p a s o) (settles p a s o fs) h.1 next
    (step_alike p good a s k h.0 c m))

-- ---- to the observer

comes_form : (c : Codes) (b : Bus) (w : ℕ) (o : Option Form) (k : Sink) → Comes c b (message_in w o) k → ComesForm c b o k.last
comes_form c bus.A w (Some (form.Sot g f l)) k h = h
comes_form c bus.A w None k h = tt
comes_form c bus.A w (Some (form.Rts n)) k h = tt
comes_form c bus.A w (Some (form.Cts n)) k h = tt
comes_form c bus.A w (Some (form.Ack f l)) k h = tt
comes_form c bus.A w (Some (form.Nak n)) k h = tt
comes_form c bus.A w (Some (form.Part n)) k h = tt
comes_form c bus.A w (Some (form.Eot f l)) k h = tt
comes_form c bus.B w o k h = tt

comes_at : (p : Contents) (items more : List Seen) (k : Sink) (seen : List Message) (i : ℕ) (o : Observer)
    → o ≡ seeing k seen → AllCome p (take (suc i) items ++ more) k → ComesNext p (observed p (take i items) o) (slice_get items i)
comes_at p [] more k seen zero o e h = tt
comes_at p [] more k seen (suc i) o e h = tt
comes_at p (x ∷ items) more k seen zero o e h =
    subst (λ (q : Observer). ComesNext p q (Some x)) (sym e) (comes_form p.codes x.bus x.word (form_of p.codes x.bus x.word) k h.0)
comes_at p (x ∷ items) more k seen (suc i) o e h =
    comes_at p items more (sink_sees p x.bus x.word k) (see_item p x seen) i (observes p x o)
    (ap (observes p x) e ∙ sees_same p x k seen) h.1

begun_comes : (p : Contents) → IsRead p → (items : List Seen) (i : ℕ) → (r : BeginsARun p (take (suc i) items))
    → AllCome p (take (suc i) items ++ r.more) sink_at_first
begun_comes p good items i r =
    subst (λ t. AllCome p t sink_at_first) r.records
    (run_comes p good r.steps (start p r.first) sink_at_first nothing_received [] r.run
    (record { books = start_books p r.first r.byte; due = refl }) (inl refl))

-- the numbers of each recorded start word may come
pub numbers_come : (p : Contents) → IsRead p → (items : List Seen) (i : ℕ) → BeginsARun p (take (suc i) items) → NumberComesAt p items i
numbers_come p good items i r = comes_at p items r.more sink_at_first [] i at_first refl (begun_comes p good items i r)

-- ---- a whole attempt is good

-- an end word that ends a whole block ends one that the sink may acknowledge
abbrev pub GoodEnd : Contents → ℕ → ℕ → Option Number → SinkPhase → Type 0
GoodEnd p check count last (InBlock b) = length b.words + 2 ≡ count → is_good p last count b check ≡ true
GoodEnd p check count last _ = Unit {0}

-- a sink, where a word may end its block: its phase, the count of its last request, and the number of its last unit
pub record Ending : Type 0 where
  pub phase : SinkPhase
  pub count : ℕ
  pub last : Option Number

abbrev pub ending : SinkPhase → ℕ → Option Number → Ending
ending phase count last = record { phase = phase; count = count; last = last }

-- the same of a word of any form
abbrev pub GoodForm : Contents → Bus → Option Form → Ending → Type 0
GoodForm p bus.A (Some (form.Eot flags check)) e = GoodEnd p check e.count e.last e.phase
GoodForm p _ _ e = Unit {0}

abbrev pub GoodNext : Contents → Observer → Option Seen → Type 0
GoodNext p o None = Unit {0}
GoodNext p o (Some i) = GoodForm p i.bus (form_of p.codes i.bus i.word) (ending o.phase o.count o.last)

abbrev pub EndsGoodAt : Contents → List Seen → ℕ → Type 0
EndsGoodAt p items i = GoodNext p (observed p (take i items) at_first) (slice_get items i)

good_end : (p : Contents) → IsProfile p → (last : Option Number) (count : ℕ) (kp : SinkPhase) (flags check : ℕ) → BlockComes p.codes last kp
    → ((v : LduValue) → EndsForm bus.A (Some (form.Eot flags check)) kp count v → IsLdu p v)
    → GoodForm p bus.A (Some (form.Eot flags check)) (ending kp count last)
good_end p is last count (InBlock b) flags check h whole =
    λ n.
    let unit = ldu_of b.gfi flags check b.words in
    let ldu : IsLdu p unit = whole unit (n, refl) in
    let carried = ldu.carries in
    let agreed : agrees p.check ldu.bytes check ≡ true =
    subst (λ bs. agrees p.check bs check ≡ true) (ap (λ o. unwrap_or o []) carried) (unit_agrees p unit is ldu) in
    good_where p last count b check ldu.bytes n carried ∙ and_from _ _ agreed h
good_end p is last count _ flags check h whole = tt

good_form : (p : Contents) → IsProfile p → (b : Bus) (w : ℕ) (o : Option Form) (k : Sink) → Comes p.codes b (message_in w o) k
    → ((v : LduValue) → EndsForm b o k.phase k.count v → IsLdu p v) → GoodForm p b o (ending k.phase k.count k.last)
good_form p is bus.A w (Some (form.Eot flags check)) k h whole = good_end p is k.last k.count k.phase flags check h whole
good_form p is bus.A w None k h whole = tt
good_form p is bus.A w (Some (form.Rts n)) k h whole = tt
good_form p is bus.A w (Some (form.Cts n)) k h whole = tt
good_form p is bus.A w (Some (form.Ack f l)) k h whole = tt
good_form p is bus.A w (Some (form.Nak n)) k h whole = tt
good_form p is bus.A w (Some (form.Part n)) k h whole = tt
good_form p is bus.A w (Some (form.Sot g f l)) k h whole = tt
good_form p is bus.B w o k h whole = tt

good_at : (p : Contents) → IsProfile p → (items more : List Seen) (k : Sink) (seen : List Message) (i : ℕ) (o : Observer)
    → o ≡ seeing k seen → AllCome p (take (suc i) items ++ more) k
    → ((u : LduValue) → EndsWhole p (observed p (take i items) o) (slice_get items i) u → IsLdu p u)
    → GoodNext p (observed p (take i items) o) (slice_get items i)
good_at p is [] more k seen zero o e h whole = tt
good_at p is [] more k seen (suc i) o e h whole = tt
good_at p is (x ∷ items) more k seen zero o e h whole =
    subst (λ (q : Observer). GoodNext p q (Some x)) (sym e)
    (good_form p is x.bus x.word (form_of p.codes x.bus x.word) k h.0
    (λ u ends. whole u (subst (λ (q : Observer). EndsWhole p q (Some x) u) (sym e) ends)))
good_at p is (x ∷ items) more k seen (suc i) o e h whole =
    good_at p is items more (sink_sees p x.bus x.word k) (see_item p x seen) i (observes p x o)
    (ap (observes p x) e ∙ sees_same p x k seen) h.1 whole

-- the observer takes each whole block of a run for a good block
pub whole_is_good : (p : Contents)
    → IsProfile p → IsRead p → (items : List Seen) (i : ℕ) → BeginsARun p (take (suc i) items) → EndsGoodAt p items i
whole_is_good p is good items i r =
    good_at p is items r.more sink_at_first [] i at_first refl (begun_comes p good items i r) (λ u. whole_is_ldu p good items i u r)

-- so no run ends a whole block that makes no link data unit
good_or_bad : (p : Contents) (b : Bus) (x : Option Form) (kp : SinkPhase) (count : ℕ) (last : Option Number)
    → GoodForm p b x (ending kp count last) → EndsBadForm p b x kp count → ⊥
good_or_bad p bus.A (Some (form.Eot flags check)) (InBlock b) count last good (n, bad) =
    let all = and_parts (eqb (length b.words + 2) count) _ (good n) in
    let bytes = and_parts (is_some (bytes_carried p.codes b.words)) _ all.1 in
    let checked = and_parts (agrees p.check (bytes_in p.codes b.words) check) _ bytes.1 in
    let made : makes_unit p b check ≡ true = and_from _ _ bytes.0 checked.0 in
    absurd (cc (made, bad))
good_or_bad p _ _ _ count last good bad = absurd bad

good_or_bad_next : (p : Contents) (o : Observer) (i : Option Seen) → GoodNext p o i → EndsBad p o i → ⊥
good_or_bad_next p o None good bad = bad
good_or_bad_next p o (Some i) good bad = good_or_bad p i.bus (form_of p.codes i.bus i.word) o.phase o.count o.last good bad

pub no_bad_block : (p : Contents)
    → IsProfile p → IsRead p → (items : List Seen) (i : ℕ) → EndsBadAt p items i → BeginsARun p (take (suc i) items) → ⊥
no_bad_block p is good items i bad r =
    good_or_bad_next p (observed p (take i items) at_first) (slice_get items i) (whole_is_good p is good items i r) bad
