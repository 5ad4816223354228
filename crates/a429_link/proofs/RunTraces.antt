-- What no trace holds: each recorded word is one that the trace before it allows.
use Rattle.std.proofs.Common.{◌≡◌, ◌⊎◌, ℕ, zero, suc, ◌+◌, ◌≤◌, ◌<◌, Bool, true, false, cond, eqb, ◌&&◌, List, [], ◌∷◌, ◌++◌, map, length, take, Option, Some, None, IsSome, slice_get, refl, sym, ap, ◌∙◌, subst, inl, inr, arith, eq-eqb}
use Rattle.a429_word.specs.declared.bus.Bus.TheVariants as bus
use Rattle.a429_ldu.specs.Form.{is_free}
use Rattle.a429_ldu.specs.Ldu.{LduValue, count_of}
use Rattle.a429_link.proofs.Message.{AllSay, Cts, Eot, IsRead, MaySay, Part, Rts, Message, Sot, block_messages, front, with_answer_as, with_answer_message, end_message, next_is_some, next_message, none_say, message_in, message_of, takes_as, takes_message}
use Rattle.a429_link.specs.Run.{IsSubsequenceOf, IsRun, trace, with_label}
use Rattle.a429_link.specs.Sink.{Granted, InBlock, Owes, Sink, SinkPhase, at_part, at_start}
use Rattle.a429_link.specs.Source.{Source, acknowledged, after_word, with_answer_first}
use Rattle.a429_link.specs.Step.{Can, after, label}
use Rattle.a429_link.specs.State.{rest, IsNonEmpty, start, State}
use Rattle.a429_link.specs.declared.state.SourceState.{SourceState}
use Rattle.a429_link.specs.declared.state.SourceState.TheVariants.{Awaiting, Idle, Sending, Waiting}
use Rattle.a429_link.specs.declared.seen.Seen.{Seen}
use Rattle.a429_link.specs.declared.step.Step.{Step}
use Rattle.a429_link.specs.declared.step.Step.TheVariants.{Answered, FreeSeen, GiveUp, Load, LoseAnswer, Sent, SentLost, Silent, SinkTakes, TakeAnswer, TimeOut}
use Rattle.a429_profile.specs.Profile.{Contents}
use Rattle.a429_word.specs.declared.bus.Bus.{Bus}
use Rattle.a429_word.proofs.ListFacts.{next_item}
use Rattle.a429_link.proofs.MessageSubsequence.{Each, IsFrontWord, IsBlockWord, get_front, sub_each}
use Rattle.a429_link.proofs.Subsequence.{sub_push, sub_more}
use Rattle.a429_link.proofs.StateConfigs.{Config, idle, asked, unasked, heard, cleared, sending, waiting, whole, spoiled, refused, acked, InGrant, block_taken, front_words, block_words_each, each_take, length-front, may_owes, owes_stale, owes_grant, source_at}
use Rattle.a429_link.proofs.StateHolds.{HoldsAt, step_holds, start_holds, sends, owed_form, alone_on_the_way, each_get}
use Rattle.a429_link.proofs.SinkFromTrace.{sees, take_all, Alike, IsStill, step_alike}
use Rattle.a429_link.specs.Trace.{sink_at_first}
use Rattle.a429_link.specs.declared.number.UnitNumber.{UnitNumber}

abbrev pub parts_in : List Message → ℕ
parts_in [] = 0
parts_in (Part s ∷ ws) = suc (parts_in ws)
parts_in (_ ∷ ws) = parts_in ws

-- the start and data words recorded since the last clear answer
abbrev pub see : Bus → Option Message → List Message → List Message
see bus.B (Some (Cts n)) seen = []
see bus.A (Some (Sot g f l)) seen = seen ++ Sot g f l ∷ []
see bus.A (Some (Part s)) seen = seen ++ Part s ∷ []
see _ _ seen = seen

abbrev pub see_item : Contents → Seen → List Message → List Message
see_item p i seen = see i.bus (message_of p i.bus i.word) seen

abbrev pub see_label : Contents → Option Seen → List Message → List Message
see_label p None seen = seen
see_label p (Some i) seen = see_item p i seen

-- the trace so far, k its sink and seen its block words, allows what is said
abbrev pub AllowsMessage : Sink → List Message → Bus → Option Message → Type 0
AllowsMessage k seen b None = ⊥
AllowsMessage k seen bus.A (Some (Rts n)) = Unit {0}
AllowsMessage k seen bus.A (Some (Sot g f l)) = InGrant k.phase × (seen ≡ [])
AllowsMessage k seen bus.A (Some (Part s)) = InGrant k.phase × (parts_in seen + 2 < k.count)
AllowsMessage k seen bus.A (Some (Eot f c)) = InGrant k.phase
AllowsMessage k seen bus.A (Some w) = ⊥
AllowsMessage k seen bus.B (Some w) = MaySay k.count k.phase w

-- it allows the word
abbrev pub Allowed : Contents → Sink → List Message → Seen → Type 0
Allowed p k seen i = (is_free p.codes i.bus i.word ≡ true) ⊎ AllowsMessage k seen i.bus (message_of p i.bus i.word)

abbrev pub AllowedLabel : Contents → Sink → List Message → Option Seen → Type 0
AllowedLabel p k seen None = Unit {0}
AllowedLabel p k seen (Some i) = Allowed p k seen i

abbrev pub AllAllowed : Contents → List Seen → Sink → List Message → Type 0
AllAllowed p [] k seen = Unit {0}
AllAllowed p (i ∷ items) k seen = Allowed p k seen i × AllAllowed p items (sees p (Some i) k) (see_item p i seen)

abbrev pub IsCts : Option Message → Type 0
IsCts (Some (Cts n)) = Unit {0}
IsCts _ = ⊥

abbrev pub HasCts : Contents → List ℕ → Type 0
HasCts p [] = ⊥
HasCts p (v ∷ vs) = IsCts (message_of p bus.B v)

pub no_cts : (p : Contents) (vs : List ℕ) → vs ≡ [] → HasCts p vs → ⊥
no_cts p [] e h = h
no_cts p (v ∷ vs) e h = cc e

abbrev SeenAt : Contents → UnitNumber → Option LduValue → SourceState → List ℕ → List Message → Type 0
SeenAt p number (Some u) (Sending k) vs seen = IsSubsequenceOf seen (take k (front u number))
SeenAt p number (Some u) Awaiting vs seen = HasCts p vs → seen ≡ []
SeenAt p number _ _ vs seen = Unit {0}

abbrev SeenIn : Contents → State → List Message → Type 0
SeenIn p s seen = SeenAt p s.source.number s.source.current s.source.phase s.to_source seen

next_seen : (p : Contents) (number : UnitNumber) (u : LduValue) (k : ℕ) (vs : List ℕ) (seen : List Message) (b : Bool)
    → eqb (suc k) (count_of u) ≡ b → IsSubsequenceOf seen (take (suc k) (front u number)) ⊎ (suc k ≡ count_of u)
    → SeenAt p number (Some u) (cond b Waiting (Sending (suc k))) vs seen
next_seen p number u k vs seen true e h = tt
next_seen p number u k vs seen false e (inl h) = h
next_seen p number u k vs seen false e (inr h) = absurd (cc (sym e ∙ eq-eqb (suc k) (count_of u) h))

-- a word of the block that comes
pushed_seen : (number : UnitNumber) (u : LduValue) (k : ℕ) (seen : List Message) (w : Message)
    → slice_get (block_messages u number) k ≡ Some w → IsSubsequenceOf seen (take k (front u number))
    → IsSubsequenceOf (seen ++ w ∷ []) (take (suc k) (front u number)) ⊎ (suc k ≡ count_of u)
pushed_seen number u k seen w e h =
    elim (get_front k w (end_message u) (front u number) e) [
      | inl (l, g) ↦
          inl (subst (λ x. IsSubsequenceOf (seen ++ w ∷ []) x) (sym (next_item k w (front u number) g))
          (sub_push w seen (take k (front u number)) h))
      | inr (l, g) ↦ inr (omega (arith, length-front u number))
    ]

front_seen : (number : UnitNumber) (u : LduValue) (k : ℕ) (seen : List Message) (w : Message)
    → slice_get (block_messages u number) k ≡ Some w → IsSubsequenceOf seen (take k (front u number))
    → IsSubsequenceOf (see bus.A (Some w) seen) (take (suc k) (front u number)) ⊎ (suc k ≡ count_of u)
front_seen number u k seen (Sot g f l) e h = pushed_seen number u k seen (Sot g f l) e h
front_seen number u k seen (Part s) e h = pushed_seen number u k seen (Part s) e h
front_seen number u k seen w e h = inl (sub_more k seen (front u number) h)

sent_seen : (p : Contents) (number : UnitNumber) (cur : Option LduValue) (sp : SourceState) (count : ℕ) (kp : SinkPhase)
    (xs ys : List Message) (vs : List ℕ) (seen : List Message) (w : Message)
    → next_message number cur sp ≡ Some w → AllSay p bus.B vs ys → Config number cur sp count kp xs ys → SeenAt p number cur sp vs seen
    → SeenAt p number cur (after_word cur sp) vs (see bus.A (Some w) seen)
sent_seen p number None sp count kp xs ys vs seen w e d (idle f s) h = absurd (cc e)
sent_seen p number (Some u) sp count kp xs ys vs seen w e d (idle f s) h = λ i. absurd (no_cts p vs (none_say p bus.B vs ys d refl) i)
sent_seen p number cur sp count kp xs ys vs seen w e d (sending {u} {k} r g c le q) h =
    next_seen p number u k vs (see bus.A (Some w) seen) (eqb (suc k) (count_of u)) refl (front_seen number u k seen w e h)
sent_seen p number cur sp count kp xs ys vs seen w e d _ h = absurd (cc e)

lost_seen : (p : Contents) (number : UnitNumber) (cur : Option LduValue) (sp : SourceState) (count : ℕ) (kp : SinkPhase)
    (xs ys : List Message) (vs : List ℕ) (seen : List Message)
    → IsSome (next_message number cur sp) → AllSay p bus.B vs ys → Config number cur sp count kp xs ys → SeenAt p number cur sp vs seen
    → SeenAt p number cur (after_word cur sp) vs seen
lost_seen p number None sp count kp xs ys vs seen e d (idle f s) h = absurd (cc e)
lost_seen p number (Some u) sp count kp xs ys vs seen e d (idle f s) h = λ i. absurd (no_cts p vs (none_say p bus.B vs ys d refl) i)
lost_seen p number cur sp count kp xs ys vs seen e d (sending {u} {k} r g c le q) h =
    next_seen p number u k vs seen (eqb (suc k) (count_of u)) refl (inl (sub_more k seen (front u number) h))
lost_seen p number cur sp count kp xs ys vs seen e d _ h = absurd (cc e)

abbrev SeenBy : Contents → Source → List ℕ → List Message → Type 0
SeenBy p s vs seen = SeenAt p s.number s.current s.phase vs seen

anywhere : (p : Contents) (s t : Source) (b : Bool) (vs : List ℕ) (seen : List Message)
    → SeenBy p s vs seen → SeenBy p t vs seen → SeenBy p (cond b s t) vs seen
anywhere p s t true vs seen h k = h
anywhere p s t false vs seen h k = k

ack_seen : (p : Contents) (g : ℕ) (number : UnitNumber) (u : LduValue) (t : Bool) (vs : List ℕ) (seen : List Message)
    → SeenBy p (cond t (acknowledged p.codes u (source_at g number (Some u) Waiting)) (source_at g number (Some u) Waiting)) vs seen
ack_seen p g number u true vs seen = tt
ack_seen p g number u false vs seen = tt

heard_message_seen : (p : Contents) (g : ℕ) (number : UnitNumber) (cur : Option LduValue) (sp : SourceState) (count : ℕ) (kp : SinkPhase)
    (xs : List Message) (y : Message) (ys : List Message) (v : ℕ) (vs : List ℕ) (seen : List Message)
    → message_of p bus.B v ≡ Some y → AllSay p bus.B vs ys → Config number cur sp count kp xs (y ∷ ys)
    → SeenAt p number cur sp (v ∷ vs) seen → SeenBy p (with_answer_message p cur sp y (source_at g number cur sp)) vs seen
heard_message_seen p g number cur sp count kp xs y ys v vs seen e d (cleared {u} r q) h =
    anywhere p (source_at g number (Some u) (Sending 0)) (source_at g number (Some u) Awaiting) _ vs seen (h (subst IsCts (sym e) tt))
    (λ i. absurd (no_cts p vs (none_say p bus.B vs ys d refl) i))
heard_message_seen p g number cur sp count kp xs y ys v vs seen e d (refused r) h = tt
heard_message_seen p g number cur sp count kp xs y ys v vs seen e d (acked {u} {f} {l} r ef el) h =
    ack_seen p g number u (eqb f number.file && eqb l number.ldu) vs seen

heard_seen : (p : Contents) (source : Source) (count : ℕ) (kp : SinkPhase) (xs ys : List Message) (vs : List ℕ) (seen : List Message)
    → IsNonEmpty vs → AllSay p bus.B vs ys → Config source.number source.current source.phase count kp xs ys → SeenBy p source vs seen
    → SeenBy p (with_answer_first p.codes vs source) (rest vs) seen
heard_seen p source count kp xs ys [] seen n d c h = absurd n
heard_seen p source count kp xs [] (v ∷ vs) seen n d c h = absurd d
heard_seen p source count kp xs (y ∷ ys) (v ∷ vs) seen n d c h =
    subst (λ q. SeenBy p q vs seen) (sym (with_answer_as p v y source d.0))
    (heard_message_seen p source.give_ups source.number source.current source.phase count kp xs y ys v vs seen d.0 d.1 c h)

unheard_seen : (p : Contents) (number : UnitNumber) (cur : Option LduValue) (sp : SourceState) (count : ℕ) (kp : SinkPhase)
    (xs ys : List Message) (vs : List ℕ) (seen : List Message)
    → IsNonEmpty vs → AllSay p bus.B vs ys → Config number cur sp count kp xs ys → SeenAt p number cur sp vs seen
    → SeenAt p number cur sp (rest vs) seen
unheard_seen p number cur sp count kp xs ys [] seen n d c h = absurd n
unheard_seen p number cur sp count kp xs [] (v ∷ vs) seen n d c h = absurd d
unheard_seen p number cur sp count kp xs (y ∷ ys) (v ∷ vs) seen n d (cleared r q) h =
    λ i. absurd (no_cts p vs (none_say p bus.B vs ys d.1 refl) i)
unheard_seen p number cur sp count kp xs (y ∷ ys) (v ∷ vs) seen n d (refused r) h = tt
unheard_seen p number cur sp count kp xs (y ∷ ys) (v ∷ vs) seen n d (acked r f l) h = tt

idle_seen : (p : Contents) (number : UnitNumber) (cur : Option LduValue) (vs : List ℕ) (seen : List Message)
    → SeenAt p number cur Idle vs seen
idle_seen p number None vs seen = tt
idle_seen p number (Some u) vs seen = tt

load_seen : (p : Contents) (number : UnitNumber) (cur : Option LduValue) (sp : SourceState) (count : ℕ) (kp : SinkPhase)
    (xs ys : List Message) (vs : List ℕ) (seen : List Message) (u : LduValue)
    → cur ≡ None → Config number cur sp count kp xs ys → SeenAt p number (Some u) sp vs seen
load_seen p number cur sp count kp xs ys vs seen u e (idle f s) = tt
load_seen p number cur sp count kp xs ys vs seen u e _ = absurd (cc e)

answered_seen : (p : Contents) (number : UnitNumber) (cur : Option LduValue) (sp : SourceState) (count : ℕ) (kp : SinkPhase)
    (xs ys : List Message) (vs vs' : List ℕ) (seen : List Message) (w : Message)
    → MaySay count kp w → Config number cur sp count kp xs ys → SeenAt p number cur sp vs' (see bus.B (Some w) seen)
answered_seen p number cur sp count kp xs ys vs vs' seen (Cts n) m (heard r q) = λ i. refl
answered_seen p number cur sp count kp xs ys vs vs' seen w m (whole r h) = tt
answered_seen p number cur sp count kp xs ys vs vs' seen w m (spoiled r) = tt
answered_seen p number cur sp count kp xs ys vs vs' seen w m (idle r s) = absurd (owes_stale kp (may_owes count kp w m) s)
answered_seen p number cur sp count kp xs ys vs vs' seen w m (asked r s q) = absurd (owes_stale kp (may_owes count kp w m) s)
answered_seen p number cur sp count kp xs ys vs vs' seen w m (unasked r s) = absurd (owes_stale kp (may_owes count kp w m) s)
answered_seen p number cur sp count kp xs ys vs vs' seen w m (sending r g q le h) = absurd (owes_grant kp (may_owes count kp w m) g)
answered_seen p number cur sp count kp xs ys vs vs' seen w m (waiting r g q h) = absurd (owes_grant kp (may_owes count kp w m) g)
answered_seen p number cur sp count kp xs ys vs vs' seen w m _ = absurd m

-- a free word tells nothing
free_seen : (p : Contents)
    → IsRead p → (b : Bus) (w : ℕ) (seen : List Message) → is_free p.codes b w ≡ true → see b (message_of p b w) seen ≡ seen
free_seen p good b w seen e = ap (λ o. see b (message_in w o) seen) (good.free b w e) ∙ none b
  where
    none : (b : Bus) → see b None seen ≡ seen
    none bus.A = refl
    none bus.B = refl

-- the bus of a recorded word is known
on_bus : (p : Contents) (i : Seen) (b : Bus) (x : Message) (seen : List Message)
    → i.bus ≡ b → message_of p b i.word ≡ Some x → see_item p i seen ≡ see b (Some x) seen
on_bus p i b x seen e h = subst (λ (q : Bus). see q (message_of p q i.word) seen ≡ see b (Some x) seen) (sym e) (ap (λ o. see b o seen) h)

step_seen : (p : Contents) → IsRead p → (a : Step) (s : State) (seen : List Message) → Can p a s → HoldsAt p s → SeenIn p s seen
    → SeenIn p (after p a s) (see_label p (label a) seen)
step_seen p good (Load u) s seen c f h = load_seen p _ _ _ _ _ _ _ _ seen u c.1 f.fits
step_seen p good (Sent i) s seen c f h =
    let says = sends p good s.source i.word f.file f.current c.1 in
    subst (SeenIn p (after p (Sent i) s)) (sym (on_bus p i bus.A says.said seen c.0 says.says))
    (sent_seen p _ _ _ _ _ _ _ s.to_source seen says.said says.next f.source_words f.fits h)
step_seen p good SentLost s seen c f h =
    lost_seen p s.source.number s.source.current s.source.phase _ _ _ _ s.to_source seen
    (next_is_some p s.source.number s.source.current s.source.phase c) f.source_words f.fits h
step_seen p good TimeOut s seen c f h = idle_seen p s.source.number s.source.current s.to_source seen
step_seen p good TakeAnswer s seen c f h = heard_seen p s.source _ _ _ _ s.to_source seen c f.source_words f.fits h
step_seen p good LoseAnswer s seen c f h = unheard_seen p _ _ _ _ _ _ _ s.to_source seen c f.source_words f.fits h
step_seen p good SinkTakes s seen c f h = h
step_seen p good Silent s seen c f h = h
step_seen p good (Answered i) s seen c f h =
    let r = owed_form p s i c in
    subst (SeenIn p (after p (Answered i) s)) (sym (on_bus p i bus.B r.said seen c.0 r.is))
    (answered_seen p s.source.number s.source.current s.source.phase _ _ _ _ s.to_source
    (s.to_source ++ i.word ∷ []) seen r.said r.owed f.fits)
step_seen p good (FreeSeen i) s seen c f h = subst (SeenIn p s) (sym (free_seen p good i.bus i.word seen c)) h
step_seen p good GiveUp s seen c f h = tt

-- words of a block leave a grant
grant_kept : (p : Contents) (ws : List ℕ) (xs : List Message) (k : Sink)
    → AllSay p bus.A ws xs → Each IsFrontWord xs → InGrant k.phase → InGrant (take_all p ws k).phase × ((take_all p ws k).count ≡ k.count)
grant_kept p [] xs k d e g = (g, refl)
grant_kept p (w ∷ ws) [] k d e g = absurd d
grant_kept p (w ∷ ws) (Sot a b c ∷ xs) k d e g =
    subst (λ q. InGrant (take_all p ws q).phase × ((take_all p ws q).count ≡ k.count)) (sym (takes_as p w (Sot a b c) k d.0))
    (grant_kept p ws xs (takes_message p (Sot a b c) k) d.1 e.1 (started k.phase g))
  where
    started : (kp : SinkPhase) → InGrant kp → InGrant (at_start (record { gfi = a; file = b; ldu = c; words = [] }) kp)
    started Granted g = tt
    started (InBlock b) g = tt
    started _ g = absurd g
grant_kept p (w ∷ ws) (Part s ∷ xs) k d e g =
    subst (λ q. InGrant (take_all p ws q).phase × ((take_all p ws q).count ≡ k.count)) (sym (takes_as p w (Part s) k d.0))
    (grant_kept p ws xs (takes_message p (Part s) k) d.1 e.1 (goes_on k.phase g))
  where
    goes_on : (kp : SinkPhase) → InGrant kp → InGrant (at_part s kp)
    goes_on Granted g = tt
    goes_on (InBlock b) g = tt
    goes_on _ g = absurd g
grant_kept p (w ∷ ws) (x ∷ xs) k d e g = absurd e.0

-- how many data words there are
parts_sub : (xs ys : List Message) → IsSubsequenceOf xs ys → parts_in xs ≤ parts_in ys
parts_sub xs [] h = rw h (omega arith)
parts_sub xs (y ∷ ys) (inl h) = le y (parts_sub xs ys h)
  where
    le : (y : Message) → parts_in xs ≤ parts_in ys → parts_in xs ≤ parts_in (y ∷ ys)
    le (Part s) q = omega arith
    le y q = q
parts_sub xs (y ∷ ys) (inr (zs, e, h)) = rw e (le y (parts_sub zs ys h))
  where
    le : (y : Message) → parts_in zs ≤ parts_in ys → parts_in (y ∷ zs) ≤ parts_in (y ∷ ys)
    le (Part s) q = omega arith
    le y q = q

parts_take : (k : ℕ) (ps : List ℕ) → parts_in (take k (map Part ps)) ≤ k
parts_take zero ps = omega arith
parts_take (suc k) [] = omega arith
parts_take (suc k) (q ∷ ps) = omega (arith, parts_take k ps)

pub only_start : (k : ℕ) (g f l : ℕ) (ps : List ℕ) (fl ch : ℕ) → slice_get (map Part ps ++ Eot fl ch ∷ []) k ≡ Some (Sot g f l) → ⊥
only_start zero g f l [] fl ch e = cc e
only_start (suc k) g f l [] fl ch e = cc e
only_start zero g f l (q ∷ ps) fl ch e = cc e
only_start (suc k) g f l (q ∷ ps) fl ch e = only_start k g f l ps fl ch e

part_place : (k : ℕ) (s : ℕ) (ps : List ℕ) (fl ch : ℕ) → slice_get (map Part ps ++ Eot fl ch ∷ []) k ≡ Some (Part s) → k < length ps
part_place zero s [] fl ch e = absurd (cc e)
part_place (suc k) s [] fl ch e = absurd (cc e)
part_place zero s (q ∷ ps) fl ch e = omega arith
part_place (suc k) s (q ∷ ps) fl ch e = omega (arith, part_place k s ps fl ch e)

sending_allowed : (number : UnitNumber) (u : LduValue) (k : ℕ) (seen : List Message) (w : Message) (sink : Sink)
    → slice_get (block_messages u number) k ≡ Some w → InGrant sink.phase → sink.count ≡ count_of u
    → IsSubsequenceOf seen (take k (front u number)) → AllowsMessage sink seen bus.A (Some w)
sending_allowed number u zero seen (Sot g f l) sink e i c h = (i, h)
sending_allowed number u (suc k) seen (Sot g f l) sink e i c h = absurd (only_start k g f l u.words u.flags u.check e)
sending_allowed number u zero seen (Part s) sink e i c h = absurd (cc e)
sending_allowed number u (suc k) seen (Part s) sink e i c h =
    (i, omega (arith, part_place k s u.words u.flags u.check e, parts_sub seen (take (suc k) (front u number)) h, parts_take k u.words, c))
sending_allowed number u k seen (Eot fl ch) sink e i c h = i
sending_allowed number u k seen w sink e i c h = absurd (each_get IsBlockWord k (block_messages u number) w (block_words_each u number) e)

sent_allowed : (p : Contents) (number : UnitNumber) (cur : Option LduValue) (sp : SourceState) (sink : Sink) (xs ys : List Message)
    (ws vs : List ℕ) (seen : List Message) (k : Sink) (w : Message)
    → next_message number cur sp ≡ Some w → AllSay p bus.A ws xs → Config number cur sp sink.count sink.phase xs ys
    → SeenAt p number cur sp vs seen → (take_all p ws sink ≡ k) ⊎ IsStill sp → AllowsMessage k seen bus.A (Some w)
sent_allowed p number None sp sink xs ys ws vs seen k w e d (idle f s) h a = absurd (cc e)
sent_allowed p number (Some u) sp sink xs ys ws vs seen k w e d (idle f s) h a =
    let same : Rts (count_of u) ≡ w = cc in subst (λ x. AllowsMessage k seen bus.A (Some x)) same tt
sent_allowed p number cur sp sink xs ys ws vs seen k w e d (sending {u} {k = n} r g c le q) h (inl a) =
    let words =
    sub_each IsFrontWord (block_taken sink.phase ++ xs) (take n (front u number)) q
    (each_take IsFrontWord n (front u number) (front_words u number)) in
    let kept = grant_kept p ws xs sink d (each_back (block_taken sink.phase) xs words) g in
    subst (λ x. AllowsMessage x seen bus.A (Some w)) a (sending_allowed number u n seen w (take_all p ws sink) e kept.0 (kept.1 ∙ c) h)
  where
    each_back : (ws vs : List Message) → Each IsFrontWord (ws ++ vs) → Each IsFrontWord vs
    each_back [] vs h = h
    each_back (v ∷ ws) vs h = each_back ws vs h.1
sent_allowed p number cur sp sink xs ys ws vs seen k w e d (sending r g c le q) h (inr a) = absurd a
sent_allowed p number cur sp sink xs ys ws vs seen k w e d _ h a = absurd (cc e)

-- a word that says what is allowed on its bus
allowed_on : (p : Contents) (k : Sink) (seen : List Message) (i : Seen) (b : Bus) (x : Message)
    → i.bus ≡ b → message_of p b i.word ≡ Some x → AllowsMessage k seen b (Some x) → Allowed p k seen i
allowed_on p k seen i b x e h a =
    inr (subst (λ (q : Bus). AllowsMessage k seen q (message_of p q i.word)) (sym e) (subst (AllowsMessage k seen b) (sym h) a))

step_allowed : (p : Contents) → IsRead p → (a : Step) (s : State) (k : Sink) (seen : List Message) → Can p a s → HoldsAt p s → Alike p s k
    → SeenIn p s seen → AllowedLabel p k seen (label a)
step_allowed p good (Sent i) s k seen c f m h =
    let says = sends p good s.source i.word f.file f.current c.1 in
    allowed_on p k seen i bus.A says.said c.0 says.says
    (sent_allowed p _ _ _ s.sink _ _ s.to_sink s.to_source seen k says.said says.next f.sink_words f.fits h (still m))
  where
    still : Alike p s k → (take_all p s.to_sink s.sink ≡ k) ⊎ IsStill s.source.phase
    still (inl m) = inl m
    still (inr r) = inr r.still
step_allowed p good (Answered i) s k seen c f (inl m) h =
    let r = owed_form p s i c in
    let alone = alone_on_the_way p s (may_owes s.sink.count s.sink.phase r.said r.owed) f in
    let same : s.sink ≡ k = subst (λ ws. take_all p ws s.sink ≡ k) alone.1 m in
    allowed_on p k seen i bus.B r.said c.0 r.is (answer_allowed k r.said (subst (λ (x : Sink). MaySay x.count x.phase r.said) same r.owed))
  where
    answer_allowed : (k : Sink) (w : Message) → MaySay k.count k.phase w → AllowsMessage k seen bus.B (Some w)
    answer_allowed k w m = m
step_allowed p good (Answered i) s k seen c f (inr r) h =
    let o = owed_form p s i c in absurd (subst Owes (ap (λ (x : Sink). x.phase) r.alike) (may_owes s.sink.count s.sink.phase o.said o.owed))
step_allowed p good (FreeSeen i) s k seen c f m h = inl c
step_allowed p good GiveUp s k seen c f m h = tt
step_allowed p good _ s k seen c f m h = tt

push_label : (p : Contents) (l : Option Seen) (items : List Seen) (k : Sink) (seen : List Message)
    → AllowedLabel p k seen l → AllAllowed p items (sees p l k) (see_label p l seen) → AllAllowed p (with_label l items) k seen
push_label p None items k seen a h = h
push_label p (Some i) items k seen a h = (a, h)

run_allowed : (p : Contents) → IsRead p → (acts : List Step) (s : State) (k : Sink) (seen : List Message) → IsRun p acts s → HoldsAt p s
    → Alike p s k → SeenIn p s seen → AllAllowed p (trace acts) k seen
run_allowed p good [] s k seen h f m q = tt
run_allowed p good (a ∷ acts) s k seen h f m q =
    push_label p (label a) (trace acts) k seen (step_allowed p good a s k seen h.0 f m q)
    (run_allowed p good acts (after p a s) (sees p (label a) k) (see_label p (label a) seen) h.1 (step_holds p good a s h.0 f)
    (step_alike p good a s k h.0 f m) (step_seen p good a s seen h.0 f q))

-- each word of a trace is one that the trace before it allows
pub trace_allowed : (p : Contents)
    → IsRead p → (first : ℕ) → first ≤ 255 → (acts : List Step) → IsRun p acts (start p first) → AllAllowed p (trace acts) sink_at_first []
trace_allowed p good first l acts h = run_allowed p good acts (start p first) sink_at_first [] h (start_holds p first l) (inl refl) tt
