-- Where the source stands to a link data unit whose start word was recorded, and how each step goes on from there.
use Rattle.std.proofs.Common.{◌≡◌, ◌⊎◌, ℕ, suc, ◌+◌, ◌%◌, ◌≤◌, Bool, true, false, cond, eqb, ◌&&◌, List, [], ◌∷◌, ◌++◌, take, Option, Some, None, slice_get, refl, sym, ap, ◌∙◌, subst, inl, inr, arith}
use Rattle.a429_word.specs.declared.bus.Bus.{Bus}
use Rattle.a429_word.specs.declared.bus.Bus.TheVariants as bus
use Rattle.a429_word.proofs.ListFacts.{next_item}
use Rattle.a429_profile.specs.Profile.{Contents}
use Rattle.a429_ldu.specs.declared.forms.Form.{Form}
use Rattle.a429_ldu.specs.declared.forms.Form.TheVariants as form
use Rattle.a429_ldu.specs.Form.{form_of}
use Rattle.a429_ldu.specs.Ldu.{LduValue, block_of, count_of, is_final}
use Rattle.a429_link.specs.declared.number.UnitNumber.{UnitNumber}
use Rattle.a429_link.specs.declared.seen.Seen.{Seen}
use Rattle.a429_link.specs.declared.state.SourceState.{SourceState}
use Rattle.a429_link.specs.declared.state.SourceState.TheVariants.{Awaiting, Idle, Sending, Waiting}
use Rattle.a429_link.specs.declared.step.Step.{Step}
use Rattle.a429_link.specs.declared.step.Step.TheVariants.{Answered, FreeSeen, GiveUp, Load, LoseAnswer, Sent, SentLost, Silent, SinkTakes, TakeAnswer, TimeOut}
use Rattle.a429_link.specs.Attempt.{BeginsUnder, IsStartOf}
use Rattle.a429_link.specs.Group.{AcksForm}
use Rattle.a429_link.specs.Number.{first_number, next_number}
use Rattle.a429_link.specs.Run.{IsSubsequenceOf}
use Rattle.a429_link.specs.Sink.{Granted, InBlock, Listens, Number, Owes, OwesAck, OwesClear, OwesNak, Quiet, Sink, SinkPhase, answers_form, takes_form}
use Rattle.a429_link.specs.Source.{IsIdle, Source, after_word, with_answer_first, next_word}
use Rattle.a429_link.specs.State.{IsNonEmpty, State, rest}
use Rattle.a429_link.specs.Step.{Can, after, label}
use Rattle.a429_link.proofs.Message.{Ack, AllSay, Cts, Eot, IsRead, MaySay, Message, Nak, Part, Rts, Sot, answers_as, block_messages, with_answer_as, with_answer_message, message_in, message_of, next_message, none_say, takes_as, takes_message}
use Rattle.a429_link.proofs.MessageSubsequence.{IsBlockWord}
use Rattle.a429_link.proofs.NumberFacts.{number_from, number_same}
use Rattle.a429_link.proofs.Subsequence.{sub_none, sub_push, sub_take, sub_more}
use Rattle.a429_link.proofs.SinkShelves.{Past, past_given_up, past_new, past_next}
use Rattle.a429_link.proofs.StateConfigs.{Config, Stale, acked, asked, block_words_each, cleared, idle, may_answer, may_owes, owes_alone, owes_grant, owes_stale, refused, sending, source_at, spoiled, unasked, waiting, whole}
use Rattle.a429_link.proofs.StateHolds.{Current, HoldsAt, answered_count, owed_form, sends, each_get}
use Rattle.a429_link.proofs.SinkFromTrace.{sees, none_there}
use Rattle.a429_link.proofs.RunTraces.{HasCts, IsCts, no_cts}
use Rattle.a429_link.proofs.RunCrossing.{HasAck, IsAck, no_ack, one_answer}
use Rattle.a429_link.proofs.LatestAttempt.{joins}
use Rattle.a429_link.proofs.NumbersCome.{start_has_number}
use Rattle.a429_link.specs.Trace.{sink_sees}

-- ---- the words of the attempt, by messages

abbrev pub joined : Bus → ℕ → Option Message → List ℕ → List ℕ
joined bus.A word (Some (Rts n)) words = []
joined bus.A word (Some (Sot g f l)) words = words ++ word ∷ []
joined bus.A word (Some (Part s)) words = words ++ word ∷ []
joined bus.A word (Some (Eot f c)) words = words ++ word ∷ []
joined bus.B word (Some (Cts n)) words = []
joined _ word _ words = words

joins_said : (b : Bus) (w : ℕ) (o : Option Form) (words : List ℕ) → joins b w o words ≡ joined b w (message_in w o) words
joins_said bus.A w None words = refl
joins_said bus.A w (Some (form.Rts n)) words = refl
joins_said bus.A w (Some (form.Cts n)) words = refl
joins_said bus.A w (Some (form.Ack f l)) words = refl
joins_said bus.A w (Some (form.Nak n)) words = refl
joins_said bus.A w (Some (form.Sot g f l)) words = refl
joins_said bus.A w (Some (form.Part s)) words = refl
joins_said bus.A w (Some (form.Eot f c)) words = refl
joins_said bus.B w None words = refl
joins_said bus.B w (Some (form.Rts n)) words = refl
joins_said bus.B w (Some (form.Cts n)) words = refl
joins_said bus.B w (Some (form.Ack f l)) words = refl
joins_said bus.B w (Some (form.Nak n)) words = refl
joins_said bus.B w (Some (form.Sot g f l)) words = refl
joins_said bus.B w (Some (form.Part s)) words = refl
joins_said bus.B w (Some (form.Eot f c)) words = refl

abbrev pub join_item : Contents → Seen → List ℕ → List ℕ
join_item p i words = joins i.bus i.word (form_of p.codes i.bus i.word) words

abbrev pub join_label : Contents → Option Seen → List ℕ → List ℕ
join_label p None words = words
join_label p (Some i) words = join_item p i words

-- the bus and the message of a recorded word are known
pub joins_on : (p : Contents) (i : Seen) (b : Bus) (x : Message) (words : List ℕ)
    → i.bus ≡ b → message_of p b i.word ≡ Some x → join_item p i words ≡ joined b i.word (Some x) words
joins_on p i b x words e h =
    joins_said i.bus i.word (form_of p.codes i.bus i.word) words ∙ ap (λ (q : Bus). joined q i.word (message_of p q i.word) words) e
    ∙ ap (λ o. joined b i.word o words) h

pub free_joins : (p : Contents) (i : Seen) (words : List ℕ) → form_of p.codes i.bus i.word ≡ None → join_item p i words ≡ words
free_joins p i words e = ap (λ o. joins i.bus i.word o words) e ∙ none i.bus
  where
    none : (b : Bus) → joins b i.word None words ≡ words
    none bus.A = refl
    none bus.B = refl

-- ---- where the source stands to a link data unit whose start word was recorded

abbrev pub numbered : UnitNumber → Number
numbered n = record { number = n; final = false }

-- the words recorded since the last request are some of its block
abbrev pub Words : Contents → UnitNumber → LduValue → SourceState → List ℕ → List ℕ → Type 0
Words p n u (Sending k) vs att = IsSubsequenceOf att (take k (block_of p.codes u n.file n.ldu))
Words p n u Awaiting vs att = IsSubsequenceOf att (block_of p.codes u n.file n.ldu) × (HasCts p vs → att ≡ [])
Words p n u Idle vs att = IsSubsequenceOf att (block_of p.codes u n.file n.ldu)
Words p n u Waiting vs att = IsSubsequenceOf att (block_of p.codes u n.file n.ldu)

-- it is still current
abbrev KeptBy : Contents → UnitNumber → LduValue → Source → List ℕ → ℕ → List ℕ → Type 0
KeptBy p n u s vs count att = (s.number ≡ n) × (s.current ≡ Some u) × Words p n u s.phase vs att × (count ≡ count_of u)

-- the source sends nothing of a block before it has sent a request
abbrev pub Resting : SourceState → List ℕ → List ℕ → SinkPhase → Type 0
Resting Idle ws vs kp = Unit {0}
Resting Awaiting ws vs kp = (ws ≡ []) × (vs ≡ []) × Listens kp
Resting _ ws vs kp = ⊥

abbrev pub IsPast : UnitNumber → Source → Type 0
IsPast n s = Past (Some (numbered n)) s.number s.give_ups × (s.give_ups ≤ 127)

-- the source is past it, and has recorded nothing since
abbrev RestedBy : Contents → UnitNumber → LduValue → Source → List ℕ → List ℕ → SinkPhase → ℕ → List ℕ → Type 0
RestedBy p n u s ws vs kp count att =
    IsPast n s × Resting s.phase ws vs kp × IsSubsequenceOf att (block_of p.codes u n.file n.ldu) × (count ≡ count_of u)

-- the source is past it, and the last attempt is not of its number
abbrev GoneBy : Contents → UnitNumber → Source → List ℕ → List ℕ → Type 0
GoneBy p n s vs att = IsPast n s × (HasAck p vs → ⊥) × (BeginsUnder p n att → ⊥)

abbrev pub Kept : Contents → UnitNumber → LduValue → State → Sink → List ℕ → Type 0
Kept p n u s k att = KeptBy p n u s.source s.to_source k.count att

abbrev Rested : Contents → UnitNumber → LduValue → State → Sink → List ℕ → Type 0
Rested p n u s k att = RestedBy p n u s.source s.to_sink s.to_source s.sink.phase k.count att

abbrev pub Gone : Contents → UnitNumber → State → List ℕ → Type 0
Gone p n s att = GoneBy p n s.source s.to_source att

pub words_none : (p : Contents) (n : UnitNumber) (u : LduValue) (sp : SourceState) (vs : List ℕ) → Words p n u sp vs []
words_none p n u Idle vs = sub_none (block_of p.codes u n.file n.ldu)
words_none p n u Awaiting vs = (sub_none (block_of p.codes u n.file n.ldu), λ h. refl)
words_none p n u (Sending k) vs = sub_none (take k (block_of p.codes u n.file n.ldu))
words_none p n u Waiting vs = sub_none (block_of p.codes u n.file n.ldu)

pub words_all : (p : Contents) (n : UnitNumber) (u : LduValue) (sp : SourceState) (vs att : List ℕ)
    → Words p n u sp vs att → IsSubsequenceOf att (block_of p.codes u n.file n.ldu)
words_all p n u Idle vs att h = h
words_all p n u Awaiting vs att h = h.0
words_all p n u (Sending k) vs att h = sub_take k att (block_of p.codes u n.file n.ldu) h
words_all p n u Waiting vs att h = h

pub words_next : (p : Contents) (n : UnitNumber) (u : LduValue) (k : ℕ) (b : Bool) (vs att : List ℕ)
    → IsSubsequenceOf att (take (suc k) (block_of p.codes u n.file n.ldu)) → Words p n u (cond b Waiting (Sending (suc k))) vs att
words_next p n u k true vs att h = sub_take (suc k) att (block_of p.codes u n.file n.ldu) h
words_next p n u k false vs att h = h

-- ---- from where it is current

pub words_push : (p : Contents) (n : UnitNumber) (u : LduValue) (k : ℕ) (w : ℕ) (att : List ℕ)
    → slice_get (block_of p.codes u n.file n.ldu) k ≡ Some w → IsSubsequenceOf att (take k (block_of p.codes u n.file n.ldu))
    → IsSubsequenceOf (att ++ w ∷ []) (take (suc k) (block_of p.codes u n.file n.ldu))
words_push p n u k w att e h =
    let block = block_of p.codes u n.file n.ldu in
    subst (λ x. IsSubsequenceOf (att ++ w ∷ []) x) (sym (next_item k w block e)) (sub_push w att (take k block) h)

-- a word of the block is recorded
block_kept : (p : Contents) (n : UnitNumber) (u : LduValue) (i : ℕ) (vs att : List ℕ) (k : Sink) (w : ℕ) (x : Message)
    → IsBlockWord x → k.count ≡ count_of u → IsSubsequenceOf (att ++ w ∷ []) (take (suc i) (block_of p.codes u n.file n.ldu))
    → Words p n u (cond (eqb (suc i) (count_of u)) Waiting (Sending (suc i))) vs (joined bus.A w (Some x) att)
    × ((takes_message p x k).count ≡ count_of u)
block_kept p n u i vs att k w (Sot g f l) b c h = (words_next p n u i (eqb (suc i) (count_of u)) vs (att ++ w ∷ []) h, c)
block_kept p n u i vs att k w (Part s) b c h = (words_next p n u i (eqb (suc i) (count_of u)) vs (att ++ w ∷ []) h, c)
block_kept p n u i vs att k w (Eot f q) b c h = (words_next p n u i (eqb (suc i) (count_of u)) vs (att ++ w ∷ []) h, c)
block_kept p n u i vs att k w _ b c h = absurd b

sent_kept : (p : Contents) (n : UnitNumber) (u : LduValue) (sp : SourceState) (vs att : List ℕ) (k : Sink) (w : ℕ) (x : Message)
    → next_word p.codes n (Some u) sp ≡ Some w → next_message n (Some u) sp ≡ Some x → Words p n u sp vs att → k.count ≡ count_of u
    → Words p n u (after_word (Some u) sp) vs (joined bus.A w (Some x) att) × ((takes_message p x k).count ≡ count_of u)
sent_kept p n u Idle vs att k w x e h q c =
    let same : Rts (count_of u) ≡ x = cc in
    subst (λ y. Words p n u Awaiting vs (joined bus.A w (Some y) att) × ((takes_message p y k).count ≡ count_of u)) same
    (words_none p n u Awaiting vs, refl)
sent_kept p n u (Sending i) vs att k w x e h q c =
    block_kept p n u i vs att k w x (each_get IsBlockWord i (block_messages u n) x (block_words_each u n) h) c
    (words_push p n u i w att e q)
sent_kept p n u Awaiting vs att k w x e h q c = absurd (cc e)
sent_kept p n u Waiting vs att k w x e h q c = absurd (cc e)

pub lost_kept : (p : Contents) (n : UnitNumber) (u : LduValue) (sp : SourceState) (vs att : List ℕ)
    → (IsIdle sp → vs ≡ []) → Words p n u sp vs att → Words p n u (after_word (Some u) sp) vs att
lost_kept p n u Idle vs att none q = (q, λ h. absurd (no_cts p vs (none tt) h))
lost_kept p n u (Sending i) vs att none q =
    words_next p n u i (eqb (suc i) (count_of u)) vs att (sub_more i att (block_of p.codes u n.file n.ldu) q)
lost_kept p n u Awaiting vs att none q = q
lost_kept p n u Waiting vs att none q = q

-- where the source is idle, nothing is on the way, and the sink owes nothing
idle_rests : (number : UnitNumber) (cur : Option LduValue) (sp : SourceState) (count : ℕ) (kp : SinkPhase) (xs ys : List Message)
    → IsIdle sp → Config number cur sp count kp xs ys → (xs ≡ []) × (ys ≡ []) × Listens kp
idle_rests number cur sp count kp xs ys i (idle f s) = (refl, refl, listens kp s)
  where
    listens : (kp : SinkPhase) → Stale kp → Listens kp
    listens Quiet s = tt
    listens Granted s = tt
    listens (InBlock b) s = tt
    listens _ s = absurd s
idle_rests number cur sp count kp xs ys i _ = absurd i

pub idle_alone : (p : Contents) (s : State)
    → HoldsAt p s → IsIdle s.source.phase → (s.to_sink ≡ []) × (s.to_source ≡ []) × Listens s.sink.phase
idle_alone p s h i =
    let r = idle_rests _ _ _ _ _ _ _ i h.fits in
    (none_say p bus.A s.to_sink h.xs h.sink_words r.0, none_say p bus.B s.to_source h.ys h.source_words r.1, r.2)

-- what the source has become
abbrev SinceBy : Contents → UnitNumber → LduValue → Source → List ℕ → List ℕ → SinkPhase → ℕ → List ℕ → Type 0
SinceBy p n u s ws vs kp count att = KeptBy p n u s vs count att ⊎ RestedBy p n u s ws vs kp count att

abbrev pub Since : Contents → UnitNumber → LduValue → State → Sink → List ℕ → Type 0
Since p n u s k att = SinceBy p n u s.source s.to_sink s.to_source s.sink.phase k.count att

either : (p : Contents) (n : UnitNumber) (u : LduValue) (t : Bool) (a b : Source) (ws vs : List ℕ) (kp : SinkPhase) (count : ℕ)
    (att : List ℕ) → SinceBy p n u a ws vs kp count att → SinceBy p n u b ws vs kp count att → SinceBy p n u (cond t a b) ws vs kp count att
either p n u true a b ws vs kp count att h k = h
either p n u false a b ws vs kp count att h k = k

heard_kept : (p : Contents) (n : UnitNumber) (u : LduValue) (g : ℕ) (number : UnitNumber) (cur : Option LduValue) (sp : SourceState)
    (count : ℕ) (kp : SinkPhase) (xs : List Message) (y : Message) (ys : List Message) (ws : List ℕ) (v : ℕ) (vs : List ℕ) (c : ℕ)
    (att : List ℕ)
    → message_of p bus.B v ≡ Some y → AllSay p bus.B vs ys → Config number cur sp count kp xs (y ∷ ys) → number.ldu ≤ 255
    → KeptBy p n u (source_at g number cur sp) (v ∷ vs) c att
    → SinceBy p n u (with_answer_message p cur sp y (source_at g number cur sp)) ws vs kp c att
heard_kept p n u g number cur sp count kp xs y ys ws v vs c att e d (cleared {u = t} {n = m} r q) low h =
    either p n u (eqb m (count_of t)) _ _ ws vs kp c att
    (inl (h.0, h.1, h.2.1 (subst IsCts (sym e) tt), h.3))
    (inl (h.0, h.1, (h.2.0, λ i. absurd (no_cts p vs (none_say p bus.B vs ys d refl) i)), h.3))
heard_kept p n u g number cur sp count kp xs y ys ws v vs c att e d (refused r) low h = inl (h.0, h.1, h.2, h.3)
heard_kept p n u g number cur sp count kp xs y ys ws v vs c att e d (acked {u = t} {f} {l} r ef el) low h =
    let past : Past (Some (numbered number)) (next_number p.codes number (is_final p.codes t.flags)) 0 =
    past_next p.codes number (is_final p.codes t.flags) low in
    either p n u (eqb f number.file && eqb l number.ldu) _ _ ws vs kp c att
    (inr
    ((subst (λ m. Past (Some (numbered m)) (next_number p.codes number (is_final p.codes t.flags)) 0) h.0 past, omega arith), tt, h.2, h.3))
    (inl (h.0, h.1, h.2, h.3))

hear_kept : (p : Contents) (n : UnitNumber) (u : LduValue) (source : Source) (kp : SinkPhase) (count : ℕ) (ws vs : List ℕ)
    (xs ys : List Message) (c : ℕ) (att : List ℕ)
    → IsNonEmpty vs → AllSay p bus.B vs ys → Config source.number source.current source.phase count kp xs ys → source.number.ldu ≤ 255
    → KeptBy p n u source vs c att → SinceBy p n u (with_answer_first p.codes vs source) ws (rest vs) kp c att
hear_kept p n u source kp count ws [] xs ys c att e d f low h = absurd e
hear_kept p n u source kp count ws (v ∷ vs) xs [] c att e d f low h = absurd d
hear_kept p n u source kp count ws (v ∷ vs) xs (y ∷ ys) c att e d f low h =
    subst (λ q. SinceBy p n u q ws vs kp c att) (sym (with_answer_as p v y source d.0))
    (heard_kept p n u source.give_ups source.number source.current source.phase count kp xs y ys ws v vs c att d.0 d.1 f low h)

pub unheard_kept : (p : Contents) (n : UnitNumber) (u : LduValue) (number : UnitNumber) (cur : Option LduValue) (sp : SourceState)
    (count : ℕ) (kp : SinkPhase) (xs ys : List Message) (vs att : List ℕ)
    → IsNonEmpty vs → AllSay p bus.B vs ys → Config number cur sp count kp xs ys → Words p n u sp vs att → Words p n u sp (rest vs) att
unheard_kept p n u number cur sp count kp xs ys [] att e d f h = absurd e
unheard_kept p n u number cur sp count kp xs [] (v ∷ vs) att e d f h = absurd d
unheard_kept p n u number cur sp count kp xs (y ∷ ys) (v ∷ vs) att e d (cleared r q) h =
    (h.0, λ i. absurd (no_cts p vs (none_say p bus.B vs ys d.1 refl) i))
unheard_kept p n u number cur sp count kp xs (y ∷ ys) (v ∷ vs) att e d (refused r) h = h
unheard_kept p n u number cur sp count kp xs (y ∷ ys) (v ∷ vs) att e d (acked r f l) h = h

pub answered_kept : (p : Contents) (n : UnitNumber) (u : LduValue) (number : UnitNumber) (cur : Option LduValue) (sp : SourceState)
    (count : ℕ) (kp : SinkPhase) (xs ys : List Message) (vs vs' : List ℕ) (att : List ℕ) (w : ℕ) (x : Message)
    → MaySay count kp x → Config number cur sp count kp xs ys → Words p n u sp vs att → Words p n u sp vs' (joined bus.B w (Some x) att)
answered_kept p n u number cur sp count kp xs ys vs vs' att w (Cts m) may f h = words_none p n u sp vs'
answered_kept p n u number cur sp count kp xs ys vs vs' att w (Ack a b) may (whole r q) h = h
answered_kept p n u number cur sp count kp xs ys vs vs' att w (Nak a) may (whole r q) h = h
answered_kept p n u number cur sp count kp xs ys vs vs' att w (Nak a) may (spoiled r) h = h
answered_kept p n u number cur sp count kp xs ys vs vs' att w x may (idle r s) h = absurd (owes_stale kp (may_owes count kp x may) s)
answered_kept p n u number cur sp count kp xs ys vs vs' att w x may (asked r s q) h = absurd (owes_stale kp (may_owes count kp x may) s)
answered_kept p n u number cur sp count kp xs ys vs vs' att w x may (unasked r s) h = absurd (owes_stale kp (may_owes count kp x may) s)
answered_kept p n u number cur sp count kp xs ys vs vs' att w x may (sending r g c le q) h =
    absurd (owes_grant kp (may_owes count kp x may) g)
answered_kept p n u number cur sp count kp xs ys vs vs' att w x may (waiting r g c q) h = absurd (owes_grant kp (may_owes count kp x may) g)
answered_kept p n u number cur sp count kp xs ys vs vs' att w x may _ h = absurd may

pub late_kept : (p : Contents) (n : UnitNumber) (u : LduValue) (sp : SourceState) (vs att : List ℕ)
    → Words p n u sp vs att → Words p n u Idle vs att
late_kept p n u sp vs att h = words_all p n u sp vs att h

-- the count of the observer's sink after a word that says this
count_on : (p : Contents) (k : Sink) (i : Seen) (x : Message)
    → i.bus ≡ bus.A → message_of p bus.A i.word ≡ Some x → (sees p (Some i) k).count ≡ (takes_message p x k).count
count_on p k i x e h = ap (λ (q : Bus). (sink_sees p q i.word k).count) e ∙ ap (λ (q : Sink). q.count) (takes_as p i.word x k h)

count_answered : (p : Contents) (k : Sink) (i : Seen) (x : Message)
    → i.bus ≡ bus.B → message_of p bus.B i.word ≡ Some x → (sees p (Some i) k).count ≡ k.count
count_answered p k i x e h =
    ap (λ (q : Bus). (sink_sees p q i.word k).count) e ∙ ap (λ (q : Sink). q.count) (answers_as p i.word x k h) ∙ answered_count p x k

count_free : (p : Contents) (k : Sink) (i : Seen) → form_of p.codes i.bus i.word ≡ None → (sees p (Some i) k).count ≡ k.count
count_free p k i e = by i.bus e
  where
    by : (b : Bus) → form_of p.codes b i.word ≡ None → (sink_sees p b i.word k).count ≡ k.count
    by bus.A e = ap (λ o. (takes_form p i.word o k).count) e
    by bus.B e = ap (λ o. (answers_form p.codes o k).count) e

pub low_ldu : (p : Contents) (cur : Option LduValue) (ldu : ℕ) (u : LduValue) → cur ≡ Some u → Current p cur ldu → ldu ≤ 255
low_ldu p None ldu u e c = absurd (cc e)
low_ldu p (Some v) ldu u e c = c.1

pub step_kept : (p : Contents) → IsRead p → (n : UnitNumber) (u : LduValue) (a : Step) (s : State) (k : Sink) (att : List ℕ) → Can p a s
    → HoldsAt p s → Kept p n u s k att → Since p n u (after p a s) (sees p (label a) k) (join_label p (label a) att)
step_kept p good n u (Load v) s k att c f h = let none = c.1 in let some = h.1 in absurd (cc (none, some))
step_kept p good n u (Sent i) s k att c f h =
    let says = sends p good s.source i.word f.file f.current c.1 in
    let word =
    subst (λ m. next_word p.codes m (Some u) s.source.phase ≡ Some i.word) h.0
    (subst (λ x. next_word p.codes s.source.number x s.source.phase ≡ Some i.word) h.1 c.1) in
    let said =
    subst (λ m. next_message m (Some u) s.source.phase ≡ Some says.said) h.0
    (subst (λ x. next_message s.source.number x s.source.phase ≡ Some says.said) h.1 says.next) in
    let now = sent_kept p n u s.source.phase s.to_source att k i.word says.said word said h.2 h.3 in
    inl (
      h.0,
      h.1,
      subst (λ x. Words p n u (after_word x s.source.phase) s.to_source (join_item p i att)) (sym h.1)
          (subst (λ x. Words p n u (after_word (Some u) s.source.phase) s.to_source x)
          (sym (joins_on p i bus.A says.said att c.0 says.says)) now.0),
      count_on p k i says.said c.0 says.says ∙ now.1,
    )
step_kept p good n u SentLost s k att c f h =
    inl (
      h.0,
      h.1,
      subst (λ x. Words p n u (after_word x s.source.phase) s.to_source att) (sym h.1)
          (lost_kept p n u s.source.phase s.to_source att (λ i. (idle_alone p s f i).1) h.2),
      h.3,
    )
step_kept p good n u TimeOut s k att c f h = inl (h.0, h.1, late_kept p n u s.source.phase s.to_source att h.2, h.3)
step_kept p good n u TakeAnswer s k att c f h =
    hear_kept p n u s.source s.sink.phase s.sink.count s.to_sink s.to_source f.xs f.ys k.count att c f.source_words f.fits
    (low_ldu p s.source.current s.source.number.ldu u h.1 f.current) h
step_kept p good n u LoseAnswer s k att c f h =
    inl (h.0, h.1, unheard_kept p n u _ _ _ _ _ _ _ s.to_source att c f.source_words f.fits h.2, h.3)
step_kept p good n u SinkTakes s k att c f h = inl h
step_kept p good n u Silent s k att c f h = inl h
step_kept p good n u (Answered i) s k att c f h =
    let r = owed_form p s i c in
    inl (
      h.0,
      h.1,
      subst (λ x. Words p n u s.source.phase (s.to_source ++ i.word ∷ []) x) (sym (joins_on p i bus.B r.said att c.0 r.is))
          (answered_kept p n u _ _ _ _ _ _ _ s.to_source (s.to_source ++ i.word ∷ []) att i.word r.said r.owed f.fits h.2),
      count_answered p k i r.said c.0 r.is ∙ h.3,
    )
step_kept p good n u (FreeSeen i) s k att c f h =
    let none = good.free i.bus i.word c in
    inl (h.0, h.1, subst (λ x. Words p n u s.source.phase s.to_source x) (sym (free_joins p i att none)) h.2, count_free p k i none ∙ h.3)
step_kept p good n u GiveUp s k att c f h =
    let few = c.1 in
    let past : Past (Some (numbered s.source.number)) (first_number p.codes ((s.source.number.file + 1) % 256)) (suc s.source.give_ups) =
    inr (1, omega arith, omega arith, refl) in
    inr (
      (
        subst (λ m. Past (Some (numbered m)) (first_number p.codes ((s.source.number.file + 1) % 256)) (suc s.source.give_ups)) h.0 past,
        omega arith,
      ),
      idle_now s.source.phase c.0,
      words_all p n u s.source.phase s.to_source att h.2,
      h.3,
    )
  where
    idle_now : (sp : SourceState) → IsIdle sp → Resting sp s.to_sink s.to_source s.sink.phase
    idle_now Idle i = tt
    idle_now _ i = absurd i

-- ---- from where the source is past it

pub owes_listens : (kp : SinkPhase) → Owes kp → Listens kp → ⊥
owes_listens OwesClear o l = l
owes_listens (OwesAck b f) o l = l
owes_listens OwesNak o l = l
owes_listens _ o l = o

-- nothing is on the way, and the sink owes nothing
pub rests_alone : (p : Contents) (s : State) → HoldsAt p s → (sp : SourceState) → s.source.phase ≡ sp
    → Resting sp s.to_sink s.to_source s.sink.phase → (s.to_sink ≡ []) × (s.to_source ≡ []) × Listens s.sink.phase
rests_alone p s f Idle e r = idle_alone p s f (subst IsIdle (sym e) tt)
rests_alone p s f Awaiting e r = r
rests_alone p s f (Sending k) e r = absurd r
rests_alone p s f Waiting e r = absurd r

pub lost_rests : (cur : Option LduValue) (sp : SourceState) (ws vs : List ℕ) (kp : SinkPhase)
    → (ws ≡ []) × (vs ≡ []) × Listens kp → Resting sp ws vs kp → Resting (after_word cur sp) ws vs kp
lost_rests None sp ws vs kp a r = r
lost_rests (Some u) Idle ws vs kp a r = a
lost_rests (Some u) Awaiting ws vs kp a r = r
lost_rests (Some u) (Sending k) ws vs kp a r = absurd r
lost_rests (Some u) Waiting ws vs kp a r = absurd r

rested_sends : (number : UnitNumber) (cur : Option LduValue) (sp : SourceState) (ws vs : List ℕ) (kp : SinkPhase) (x : Message) (w : ℕ)
    (att : List ℕ) → next_message number cur sp ≡ Some x → Resting sp ws vs kp → joined bus.A w (Some x) att ≡ []
rested_sends number None sp ws vs kp x w att e r = absurd (cc e)
rested_sends number (Some u) Idle ws vs kp x w att e r =
    let same : Rts (count_of u) ≡ x = cc in subst (λ y. joined bus.A w (Some y) att ≡ []) same refl
rested_sends number (Some u) Awaiting ws vs kp x w att e r = absurd (cc e)
rested_sends number (Some u) (Sending k) ws vs kp x w att e r = absurd r
rested_sends number (Some u) Waiting ws vs kp x w att e r = absurd (cc e)

pub none_begins : (p : Contents) (n : UnitNumber) (att : List ℕ) → att ≡ [] → BeginsUnder p n att → ⊥
none_begins p n [] e h = h
none_begins p n (w ∷ att) e h = cc e

given_past : (p : Contents) (n : UnitNumber) (s : Source) → s.give_ups ≤ 126 → IsPast n s
    → Past (Some (numbered n)) (first_number p.codes ((s.number.file + 1) % 256)) (suc s.give_ups) × (suc s.give_ups ≤ 127)
given_past p n s few h = (past_given_up p.codes (Some (numbered n)) s.number s.give_ups h.0, omega arith)

abbrev pub AfterRest : Contents → UnitNumber → LduValue → State → Sink → List ℕ → Type 0
AfterRest p n u s k att = Rested p n u s k att ⊎ Gone p n s att

pub step_rested : (p : Contents) → IsRead p → (n : UnitNumber) (u : LduValue) (a : Step) (s : State) (k : Sink) (att : List ℕ) → Can p a s
    → HoldsAt p s → Rested p n u s k att → AfterRest p n u (after p a s) (sees p (label a) k) (join_label p (label a) att)
step_rested p good n u (Load v) s k att c f h = inl h
step_rested p good n u (Sent i) s k att c f h =
    let alone = rests_alone p s f s.source.phase refl h.1 in
    let says = sends p good s.source i.word f.file f.current c.1 in
    inr (
      h.0,
      no_ack p s.to_source alone.1,
      none_begins p n (join_item p i att) (joins_on p i bus.A says.said att c.0 says.says ∙ rested_sends s.source.number s.source.current
          s.source.phase s.to_sink s.to_source s.sink.phase says.said i.word att says.next h.1),
    )
step_rested p good n u SentLost s k att c f h = inl (
  h.0,
  lost_rests s.source.current s.source.phase s.to_sink s.to_source s.sink.phase (rests_alone p s f s.source.phase refl h.1) h.1,
  h.2,
  h.3,
)
step_rested p good n u TimeOut s k att c f h = inl (h.0, tt, h.2, h.3)
step_rested p good n u TakeAnswer s k att c f h = absurd (none_there s.to_source (rests_alone p s f s.source.phase refl h.1).1 c)
step_rested p good n u LoseAnswer s k att c f h = absurd (none_there s.to_source (rests_alone p s f s.source.phase refl h.1).1 c)
step_rested p good n u SinkTakes s k att c f h = absurd (none_there s.to_sink (rests_alone p s f s.source.phase refl h.1).0 c.0)
step_rested p good n u Silent s k att c f h = absurd (owes_listens s.sink.phase c (rests_alone p s f s.source.phase refl h.1).2)
step_rested p good n u (Answered i) s k att c f h =
    let r = owed_form p s i c in
    absurd (owes_listens s.sink.phase (may_owes s.sink.count s.sink.phase r.said r.owed) (rests_alone p s f s.source.phase refl h.1).2)
step_rested p good n u (FreeSeen i) s k att c f h =
    let none = good.free i.bus i.word c in
    inl (
      h.0,
      h.1,
      subst (λ x. IsSubsequenceOf x (block_of p.codes u n.file n.ldu)) (sym (free_joins p i att none)) h.2,
      count_free p k i none ∙ h.3,
    )
step_rested p good n u GiveUp s k att c f h = inl (given_past p n s.source c.1 h.0, h.1, h.2, h.3)

-- ---- from where the last attempt is of another number

abbrev AcksMessage : UnitNumber → Bus → Option Message → Type 0
AcksMessage n bus.B (Some (Ack f l)) = record { file = f; ldu = l } ≡ n
AcksMessage n _ _ = Unit {0}

acks_said : (n : UnitNumber) (b : Bus) (w : ℕ) (o : Option Form) → AcksForm n b o → AcksMessage n b (message_in w o)
acks_said n bus.A w o h = tt
acks_said n bus.B w None h = tt
acks_said n bus.B w (Some (form.Rts m)) h = tt
acks_said n bus.B w (Some (form.Cts m)) h = tt
acks_said n bus.B w (Some (form.Ack f l)) h = h
acks_said n bus.B w (Some (form.Nak m)) h = tt
acks_said n bus.B w (Some (form.Sot g f l)) h = tt
acks_said n bus.B w (Some (form.Part s)) h = tt
acks_said n bus.B w (Some (form.Eot f c)) h = tt

abbrev pub AcksItem : Contents → UnitNumber → Seen → Type 0
AcksItem p n i = AcksForm n i.bus (form_of p.codes i.bus i.word)

abbrev pub OnLabel : (Seen → Type 0) → Option Seen → Type 0
OnLabel P None = Unit {0}
OnLabel P (Some i) = P i

-- a number that the source is past is not its own
not_past : (n : UnitNumber) (s : Source) → IsPast n s → n ≡ s.number → ⊥
not_past n s h e =
    let other = past_new (Some (numbered n)) s.number s.give_ups h.1 h.0 in
    let same = number_same n in
    cc (other, same, e)

-- words of other numbers do not begin an attempt under this one
gone_sends : (p : Contents) (n number : UnitNumber) (cur : Option LduValue) (sp : SourceState) (w : ℕ) (x : Message) (att : List ℕ)
    → (n ≡ number → ⊥) → next_message number cur sp ≡ Some x → message_of p bus.A w ≡ Some x → (BeginsUnder p n att → ⊥)
    → BeginsUnder p n (joined bus.A w (Some x) att) → ⊥
gone_sends p n number None sp w x att other e says gone h = cc e
gone_sends p n number (Some u) Idle w x att other e says gone h =
    let same : Rts (count_of u) ≡ x = cc in subst (λ y. BeginsUnder p n (joined bus.A w (Some y) att)) (sym same) h
gone_sends p n number (Some u) Awaiting w x att other e says gone h = cc e
gone_sends p n number (Some u) Waiting w x att other e says gone h = cc e
gone_sends p n number (Some u) (Sending k) w x att other e says gone h =
    gone_block x (each_get IsBlockWord k (block_messages u number) x (block_words_each u number) e) e says h
  where
    other_start : (x : Message) (o : Option Form)
        → slice_get (block_messages u number) k ≡ Some x → message_in w o ≡ Some x → IsStartOf n o → ⊥
    other_start x (Some (form.Sot g f l)) e says h =
        let same : Sot g f l ≡ x = cc in
        other (sym h ∙ start_has_number number u k g f l (subst (λ y. slice_get (block_messages u number) k ≡ Some y) (sym same) e))
    other_start x _ e says h = h

    pushed : (x : Message) (words : List ℕ) → (BeginsUnder p n words → ⊥) → slice_get (block_messages u number) k ≡ Some x
        → message_of p bus.A w ≡ Some x → BeginsUnder p n (words ++ w ∷ []) → ⊥
    pushed x [] gone e says h = other_start x (form_of p.codes bus.A w) e says h
    pushed x (v ∷ words) gone e says h = gone h

    gone_block : (x : Message) → IsBlockWord x → slice_get (block_messages u number) k ≡ Some x → message_of p bus.A w ≡ Some x
        → BeginsUnder p n (joined bus.A w (Some x) att) → ⊥
    gone_block (Sot g f l) b e says h = pushed (Sot g f l) att gone e says h
    gone_block (Part q) b e says h = pushed (Part q) att gone e says h
    gone_block (Eot f c) b e says h = pushed (Eot f c) att gone e says h
    gone_block _ b e says h = b

gone_either : (p : Contents) (n : UnitNumber) (t : Bool) (a b : Source) → IsPast n a → IsPast n b → IsPast n (cond t a b)
gone_either p n true a b h k = h
gone_either p n false a b h k = k

heard_gone : (p : Contents) (n : UnitNumber) (g : ℕ) (number : UnitNumber) (cur : Option LduValue) (sp : SourceState) (count : ℕ)
    (kp : SinkPhase) (xs : List Message) (y : Message) (ys : List Message)
    → Config number cur sp count kp xs (y ∷ ys) → (IsAck (Some y) → ⊥) → IsPast n (source_at g number cur sp)
    → IsPast n (with_answer_message p cur sp y (source_at g number cur sp))
heard_gone p n g number cur sp count kp xs y ys (cleared {u = t} {n = m} r q) none h = gone_either p n (eqb m (count_of t)) _ _ h h
heard_gone p n g number cur sp count kp xs y ys (refused r) none h = h
heard_gone p n g number cur sp count kp xs y ys (acked r ef el) none h = absurd (none tt)

hear_gone : (p : Contents) (n : UnitNumber) (source : Source) (kp : SinkPhase) (count : ℕ) (vs : List ℕ) (xs ys : List Message)
    → IsNonEmpty vs → AllSay p bus.B vs ys → Config source.number source.current source.phase count kp xs ys → (HasAck p vs → ⊥)
    → IsPast n source → IsPast n (with_answer_first p.codes vs source) × (HasAck p (rest vs) → ⊥)
hear_gone p n source kp count [] xs ys e d f none h = absurd e
hear_gone p n source kp count (v ∷ vs) xs [] e d f none h = absurd d
hear_gone p n source kp count (v ∷ vs) xs (y ∷ ys) e d f none h = (
  subst (IsPast n) (sym (with_answer_as p v y source d.0))
      (heard_gone p n source.give_ups source.number source.current source.phase count kp xs y ys f (λ a. none (subst IsAck (sym d.0) a)) h),
  no_ack p vs (none_say p bus.B vs ys d.1 (one_answer _ _ _ _ _ _ y ys f)),
)

pub lose_gone : (p : Contents) (number : UnitNumber) (cur : Option LduValue) (sp : SourceState) (count : ℕ) (kp : SinkPhase) (vs : List ℕ)
    (xs ys : List Message) → IsNonEmpty vs → AllSay p bus.B vs ys → Config number cur sp count kp xs ys → HasAck p (rest vs) → ⊥
lose_gone p number cur sp count kp [] xs ys e d f = absurd e
lose_gone p number cur sp count kp (v ∷ vs) xs [] e d f = absurd d
lose_gone p number cur sp count kp (v ∷ vs) xs (y ∷ ys) e d f = no_ack p vs (none_say p bus.B vs ys d.1 (one_answer _ _ _ _ _ _ y ys f))

-- an acknowledgement is of the source's number
pub own_ack : (number : UnitNumber) (cur : Option LduValue) (sp : SourceState) (count : ℕ) (kp : SinkPhase) (xs ys : List Message) (f l : ℕ)
    → MaySay count kp (Ack f l) → Config number cur sp count kp xs ys → record { file = f; ldu = l } ≡ number
own_ack number cur sp count kp xs ys f l m (whole r h) =
    number_from _ number (m.0 ∙ ap (λ (x : UnitNumber). x.file) h.told) (m.1 ∙ ap (λ (x : UnitNumber). x.ldu) h.told)
own_ack number cur sp count kp xs ys f l m (idle r s) = absurd (owes_stale kp (may_owes count kp (Ack f l) m) s)
own_ack number cur sp count kp xs ys f l m (asked r s q) = absurd (owes_stale kp (may_owes count kp (Ack f l) m) s)
own_ack number cur sp count kp xs ys f l m (unasked r s) = absurd (owes_stale kp (may_owes count kp (Ack f l) m) s)
own_ack number cur sp count kp xs ys f l m (sending r g c le q) = absurd (owes_grant kp (may_owes count kp (Ack f l) m) g)
own_ack number cur sp count kp xs ys f l m (waiting r g c q) = absurd (owes_grant kp (may_owes count kp (Ack f l) m) g)
own_ack number cur sp count kp xs ys f l m _ = absurd m

answered_gone : (p : Contents) (n : UnitNumber) (s : State) (w : ℕ) (x : Message) (att : List ℕ) → message_of p bus.B w ≡ Some x
    → s.to_source ≡ [] → MaySay s.sink.count s.sink.phase x → HoldsAt p s → AcksMessage n bus.B (Some x) → IsPast n s.source
    → (BeginsUnder p n att → ⊥) → (HasAck p (s.to_source ++ w ∷ []) → ⊥) × (BeginsUnder p n (joined bus.B w (Some x) att) → ⊥)
answered_gone p n s w (Cts m) att e none may f ok past gone = (λ i. subst IsAck e (subst (λ l. HasAck p (l ++ w ∷ [])) none i), λ i. i)
answered_gone p n s w (Nak m) att e none may f ok past gone = (λ i. subst IsAck e (subst (λ l. HasAck p (l ++ w ∷ [])) none i), gone)
answered_gone p n s w (Ack a b) att e none may f ok past gone =
    absurd (not_past n s.source past (sym ok ∙ own_ack _ _ _ _ _ _ _ a b may f.fits))
answered_gone p n s w x att e none may f ok past gone = absurd (may_answer s.sink.count s.sink.phase x may)

pub step_gone : (p : Contents) → IsRead p → (n : UnitNumber) (a : Step) (s : State) (att : List ℕ) → Can p a s → HoldsAt p s
    → OnLabel (AcksItem p n) (label a) → Gone p n s att → Gone p n (after p a s) (join_label p (label a) att)
step_gone p good n (Load v) s att c f ok h = h
step_gone p good n (Sent i) s att c f ok h =
    let says = sends p good s.source i.word f.file f.current c.1 in (
      h.0,
      h.1,
      subst (λ x. BeginsUnder p n x → ⊥) (sym (joins_on p i bus.A says.said att c.0 says.says))
          (gone_sends p n s.source.number s.source.current s.source.phase i.word says.said att
          (not_past n s.source h.0) says.next says.says h.2),
    )
step_gone p good n SentLost s att c f ok h = h
step_gone p good n TimeOut s att c f ok h = h
step_gone p good n TakeAnswer s att c f ok h =
    let now = hear_gone p n s.source s.sink.phase s.sink.count s.to_source f.xs f.ys c f.source_words f.fits h.1 h.0 in
    (now.0, now.1, h.2)
step_gone p good n LoseAnswer s att c f ok h = (h.0, lose_gone p _ _ _ _ _ s.to_source f.xs f.ys c f.source_words f.fits, h.2)
step_gone p good n SinkTakes s att c f ok h = h
step_gone p good n Silent s att c f ok h = h
step_gone p good n (Answered i) s att c f ok h =
    let r = owed_form p s i c in
    let alone = owes_alone _ _ _ _ _ _ _ (may_owes s.sink.count s.sink.phase r.said r.owed) f.fits in
    let none = none_say p bus.B s.to_source f.ys f.source_words alone.2 in
    let said : AcksMessage n bus.B (Some r.said) =
    subst (AcksMessage n bus.B) r.is
    (subst (λ (q : Bus). AcksMessage n q (message_of p q i.word)) c.0 (acks_said n i.bus i.word (form_of p.codes i.bus i.word) ok)) in
    let now = answered_gone p n s i.word r.said att r.is none r.owed f said h.0 h.2 in
    (h.0, now.0, subst (λ x. BeginsUnder p n x → ⊥) (sym (joins_on p i bus.B r.said att c.0 r.is)) now.1)
step_gone p good n (FreeSeen i) s att c f ok h =
    (h.0, h.1, subst (λ x. BeginsUnder p n x → ⊥) (sym (free_joins p i att (good.free i.bus i.word c))) h.2)
step_gone p good n GiveUp s att c f ok h = (given_past p n s.source c.1 h.0, h.1, h.2)
