-- Where the source, the sink and the words between them can stand.
use Rattle.std.proofs.Common.{◌≡◌, ℕ, zero, suc, ◌+◌, ◌≤◌, ◌<◌, Bool, true, false, cond, eqb, List, [], ◌∷◌, ◌++◌, map, length, take, Option, Some, None, slice_get, IsSome, refl, sym, ap, ◌∙◌, subst, inl, inr, arith, append_assoc, append-nil, length-append, eqb-true}
use Rattle.std.proofs.lemmas.Bool.{and_parts, eqb-false}
use Rattle.std.proofs.lemmas.List.{map_push}
use Rattle.a429_word.proofs.ListFacts.{next_item}
use Rattle.a429_ldu.specs.Carried.{bytes_in}
use Rattle.a429_ldu.specs.Ldu.{LduValue, count_of, is_final}
use Rattle.a429_link.proofs.Message.{Ack, Cts, Eot, MaySay, Nak, Part, Rts, Message, Sot, block_messages, front, with_answer_message, end_message, next_message, takes_message, taken_messages}
use Rattle.a429_link.specs.Sink.{Block, Granted, InBlock, Listens, Number, Owes, OwesAck, OwesClear, OwesNak, Quiet, Received, Sink, SinkPhase, accepts_owed, held_count, is_good, is_same, put, received_for, number_of}
use Rattle.a429_link.specs.Run.{IsSubsequenceOf, SentFew, TookFew}
use Rattle.a429_link.specs.Source.{IsIdle, Source, Waits, acknowledged, after_word}
use Rattle.a429_link.specs.State.{rest, IsNonEmpty}
use Rattle.a429_link.specs.declared.state.SourceState.{SourceState}
use Rattle.a429_link.specs.declared.state.SourceState.TheVariants.{Awaiting, Idle, Sending, Waiting}
use Rattle.a429_profile.specs.Profile.{Contents}
use Rattle.a429_profile.specs.declared.codes.Codes.{Codes}
use Rattle.a429_link.proofs.MessageSubsequence.{Each, IsFrontWord, IsBlockWord, get_front, sub_each, each_at, each_push, parts_front, parts_block, sub_end, sub_no_end, length-parts, same_parts, sub_start}
use Rattle.a429_link.proofs.Subsequence.{sub_rest, sub_back, sub_forth, sub_take, sub_push, sub_lost, sub_length, sub_more}
use Rattle.a429_link.specs.declared.number.UnitNumber.{UnitNumber}
use Rattle.a429_link.proofs.NumberFacts.{number_from}

-- the sink has room left: what it holds of an old block
abbrev pub Stale : SinkPhase → Type 0
Stale Quiet = Unit {0}
Stale Granted = Unit {0}
Stale (InBlock b) = length b.words ≤ 253
Stale _ = ⊥

-- the sink listens under a grant
abbrev pub InGrant : SinkPhase → Type 0
InGrant Granted = Unit {0}
InGrant (InBlock b) = Unit {0}
InGrant _ = ⊥

-- the words of the sink's block
abbrev pub block_taken : SinkPhase → List Message
block_taken (InBlock b) = taken_messages b
block_taken _ = []

abbrev pub Fitting : Option LduValue → Type 0
Fitting None = Unit {0}
Fitting (Some u) = length u.words ≤ 253

-- the block holds the LDU's words
pub record Whole (u : LduValue) (number : UnitNumber) (b : Block) (fl : ℕ) : Type 0 where
  pub told : number_of b ≡ number
  pub words : b.words ≡ u.words
  pub flags : fl ≡ u.flags

-- the source's LDU and phase, the count of the sink's last request, its phase, and the words to the sink and to the source
pub data Config (number : UnitNumber) : Option LduValue → SourceState → ℕ → SinkPhase → List Message → List Message → Type 0 where
  idle : {current : Option LduValue} {count : ℕ} {sink : SinkPhase}
      → Fitting current → Stale sink → Config number current Idle count sink [] []
  asked : {u : LduValue} {count : ℕ} {sink : SinkPhase} {n : ℕ}
      → length u.words ≤ 253 → Stale sink → n ≡ count_of u → Config number (Some u) Awaiting count sink (Rts n ∷ []) []
  unasked : {u : LduValue} {count : ℕ} {sink : SinkPhase}
      → length u.words ≤ 253 → Stale sink → Config number (Some u) Awaiting count sink [] []
  heard : {u : LduValue} {count : ℕ} → length u.words ≤ 253 → count ≡ count_of u → Config number (Some u) Awaiting count OwesClear [] []
  cleared : {u : LduValue} {count : ℕ} {n : ℕ}
      → length u.words ≤ 253 → n ≡ count → Config number (Some u) Awaiting count Granted [] (Cts n ∷ [])
  sending : {u : LduValue} {k : ℕ} {count : ℕ} {sink : SinkPhase} {words : List Message}
      → length u.words ≤ 253 → InGrant sink → count ≡ count_of u → suc k ≤ count_of u
      → IsSubsequenceOf (block_taken sink ++ words) (take k (front u number)) → Config number (Some u) (Sending k) count sink words []
  waiting : {u : LduValue} {count : ℕ} {sink : SinkPhase} {words : List Message} → length u.words ≤ 253 → InGrant sink → count ≡ count_of u
      → IsSubsequenceOf (block_taken sink ++ words) (block_messages u number) → Config number (Some u) Waiting count sink words []
  whole : {u : LduValue} {count : ℕ} {b : Block} {flags : ℕ}
      → length u.words ≤ 253 → Whole u number b flags → Config number (Some u) Waiting count (OwesAck b flags) [] []
  spoiled : {u : LduValue} {count : ℕ} → length u.words ≤ 253 → Config number (Some u) Waiting count OwesNak [] []
  over : {u : LduValue} {count : ℕ} → length u.words ≤ 253 → Config number (Some u) Waiting count Quiet [] []
  refused : {u : LduValue} {count : ℕ} {bits : ℕ} → length u.words ≤ 253 → Config number (Some u) Waiting count Quiet [] (Nak bits ∷ [])
  acked : {u : LduValue} {count : ℕ} {f l : ℕ}
      → length u.words ≤ 253 → f ≡ number.file → l ≡ number.ldu → Config number (Some u) Waiting count Quiet [] (Ack f l ∷ [])

pub load_fits : (number : UnitNumber) (cur : Option LduValue) (sp : SourceState) (count : ℕ) (kp : SinkPhase) (xs ys : List Message)
    (u : LduValue) → IsIdle sp → length u.words ≤ 253 → Config number cur sp count kp xs ys → Config number (Some u) sp count kp xs ys
load_fits number cur sp count kp xs ys u i r (idle f s) = idle r s
load_fits number cur sp count kp xs ys u i r _ = absurd i

-- a file is given up
pub give_up_fits : (number next : UnitNumber) (cur : Option LduValue) (sp : SourceState) (count : ℕ) (kp : SinkPhase) (xs ys : List Message)
    → IsIdle sp → Config number cur sp count kp xs ys → Config next None sp count kp xs ys
give_up_fits number next cur sp count kp xs ys i (idle f s) = idle tt s
give_up_fits number next cur sp count kp xs ys i _ = absurd i

pub length-front : (u : LduValue) (number : UnitNumber) → suc (length (front u number)) ≡ count_of u
length-front u number = omega (arith, length-parts u.words)

pub front_words : (u : LduValue) (number : UnitNumber) → Each IsFrontWord (front u number)
front_words u number = (tt, parts_front u.words)

pub block_words_each : (u : LduValue) (number : UnitNumber) → Each IsBlockWord (block_messages u number)
block_words_each u number = (tt, each_push IsBlockWord (map Part u.words) (end_message u) (parts_block u.words) tt)

-- one more word is sent, and comes or is lost
next_fits : (number : UnitNumber) (u : LduValue) (k count : ℕ) (kp : SinkPhase) (xs : List Message) (b : Bool)
    → eqb (suc k) (count_of u) ≡ b → length u.words ≤ 253 → InGrant kp → count ≡ count_of u → suc k ≤ count_of u
    → (suc k < count_of u → IsSubsequenceOf (block_taken kp ++ xs) (take (suc k) (front u number)))
    → (suc k ≡ count_of u → IsSubsequenceOf (block_taken kp ++ xs) (block_messages u number))
    → Config number (Some u) (cond b Waiting (Sending (suc k))) count kp xs []
next_fits number u k count kp xs true e r g c le front_case end_case = waiting r g c (end_case (eqb-true (suc k) (count_of u) e))
next_fits number u k count kp xs false e r g c le front_case end_case =
    let lt : suc k < count_of u = omega (arith, eqb-false (suc k) (count_of u) e) in
    sending r g c lt (front_case lt)

-- the words so far and the one that is sent, in front of the last
sent_front : (number : UnitNumber) (u : LduValue) (k : ℕ) (ws xs : List Message) (w : Message)
    → slice_get (block_messages u number) k ≡ Some w → suc k < count_of u → IsSubsequenceOf (ws ++ xs) (take k (front u number))
    → IsSubsequenceOf (ws ++ (xs ++ w ∷ [])) (take (suc k) (front u number))
sent_front number u k ws xs w e lt h =
    elim (get_front k w (end_message u) (front u number) e) [
      | inl (l, g) ↦
          subst (λ x. IsSubsequenceOf (ws ++ (xs ++ w ∷ [])) x) (sym (next_item k w (front u number) g))
          (subst (λ x. IsSubsequenceOf x (take k (front u number) ++ w ∷ [])) (append_assoc ws xs (w ∷ []))
          (sub_push w (ws ++ xs) (take k (front u number)) h))
      | inr (l, g) ↦ absurd (omega (arith, length-front u number))
    ]

sent_last : (number : UnitNumber) (u : LduValue) (k : ℕ) (ws xs : List Message) (w : Message)
    → slice_get (block_messages u number) k ≡ Some w → suc k ≡ count_of u → IsSubsequenceOf (ws ++ xs) (take k (front u number))
    → IsSubsequenceOf (ws ++ (xs ++ w ∷ [])) (block_messages u number)
sent_last number u k ws xs w e q h =
    elim (get_front k w (end_message u) (front u number) e) [
      | inl (l, g) ↦ absurd (omega (arith, length-front u number))
      | inr (l, g) ↦
          rw g
          (subst (λ x. IsSubsequenceOf x (block_messages u number)) (append_assoc ws xs (end_message u ∷ []))
          (sub_push (end_message u) (ws ++ xs) (front u number) (sub_take k (ws ++ xs) (front u number) h)))
    ]

pub sent_fits : (number : UnitNumber) (cur : Option LduValue) (sp : SourceState) (count : ℕ) (kp : SinkPhase) (xs ys : List Message)
    (w : Message)
    → next_message number cur sp ≡ Some w → Config number cur sp count kp xs ys
    → Config number cur (after_word cur sp) count kp (xs ++ w ∷ []) ys
sent_fits number None sp count kp xs ys w e (idle f s) = absurd (cc e)
sent_fits number (Some u) sp count kp xs ys w e (idle f s) =
    let same : Rts (count_of u) ≡ w = cc in subst (λ x. Config number (Some u) Awaiting count kp (x ∷ []) []) same (asked f s refl)
sent_fits number cur sp count kp xs ys w e (sending {u} {k} r g c le h) =
    next_fits number u k count kp (xs ++ w ∷ []) (eqb (suc k) (count_of u)) refl r g c le
    (λ lt. sent_front number u k (block_taken kp) xs w e lt h) (λ eq. sent_last number u k (block_taken kp) xs w e eq h)
sent_fits number cur sp count kp xs ys w e _ = absurd (cc e)

pub lost_fits : (number : UnitNumber) (cur : Option LduValue) (sp : SourceState) (count : ℕ) (kp : SinkPhase) (xs ys : List Message)
    → IsSome (next_message number cur sp) → Config number cur sp count kp xs ys → Config number cur (after_word cur sp) count kp xs ys
lost_fits number None sp count kp xs ys e (idle f s) = absurd (cc e)
lost_fits number (Some u) sp count kp xs ys e (idle f s) = unasked f s
lost_fits number cur sp count kp xs ys e (sending {u} {k} r g c le h) =
    next_fits number u k count kp xs (eqb (suc k) (count_of u)) refl r g c le (λ lt. sub_more k (block_taken kp ++ xs) (front u number) h)
    (λ eq. sub_lost (end_message u) (block_taken kp ++ xs) (front u number) (sub_take k (block_taken kp ++ xs) (front u number) h))
lost_fits number cur sp count kp xs ys e _ = absurd (cc e)

-- what the sink holds after a block that is cut short
cut_short : (number : UnitNumber) (u : LduValue) (kp : SinkPhase)
    → length u.words ≤ 253 → InGrant kp → IsSubsequenceOf (block_taken kp ++ []) (block_messages u number) → Stale kp
cut_short number u Granted r g h = tt
cut_short number u (InBlock b) r g h =
    let e : block_taken (InBlock b) ++ [] ≡ taken_messages b = append-nil (taken_messages b) in
    let h' = subst (λ x. IsSubsequenceOf x (block_messages u number)) e h in
    let l =
    sub_length (taken_messages b) (front u number)
    (sub_no_end u.flags u.check (taken_messages b) (front u number) (tt, parts_front b.words) h') in
    omega (arith, l, length-parts b.words, length-parts u.words)
cut_short number u Quiet r g h = absurd g
cut_short number u OwesClear r g h = absurd g
cut_short number u (OwesAck b f) r g h = absurd g
cut_short number u OwesNak r g h = absurd g

-- a time-out
pub late_fits : (number : UnitNumber) (cur : Option LduValue) (sp : SourceState) (count : ℕ) (kp : SinkPhase) (xs ys : List Message)
    → Waits sp → Listens kp → xs ≡ [] → ys ≡ [] → Config number cur sp count kp xs ys → Config number cur Idle count kp xs ys
late_fits number cur sp count kp xs ys w l ea eb (unasked r s) = idle r s
late_fits number cur sp count kp xs ys w l ea eb (over r) = idle r tt
late_fits number cur sp count kp xs ys w l ea eb (waiting {u} r g c h) =
    let h' = subst (λ x. IsSubsequenceOf (block_taken kp ++ x) (block_messages u number)) ea h in
    subst (λ x. Config number (Some u) Idle count kp x []) (sym ea) (idle r (cut_short number u kp r g h'))
late_fits number cur sp count kp xs ys w l ea eb (idle f s) = absurd w
late_fits number cur sp count kp xs ys w l ea eb (asked r s q) = absurd (cc ea)
late_fits number cur sp count kp xs ys w l ea eb (heard r q) = absurd l
late_fits number cur sp count kp xs ys w l ea eb (cleared r n) = absurd (cc eb)
late_fits number cur sp count kp xs ys w l ea eb (sending r g c le h) = absurd w
late_fits number cur sp count kp xs ys w l ea eb (whole r h) = absurd l
late_fits number cur sp count kp xs ys w l ea eb (spoiled r) = absurd l
late_fits number cur sp count kp xs ys w l ea eb (refused r) = absurd (cc eb)
late_fits number cur sp count kp xs ys w l ea eb (acked r f q) = absurd (cc eb)

-- an answer is lost
pub unheard_fits : (number : UnitNumber) (cur : Option LduValue) (sp : SourceState) (count : ℕ) (kp : SinkPhase) (xs ys : List Message)
    → IsNonEmpty ys → Config number cur sp count kp xs ys → Config number cur sp count kp xs (rest ys)
unheard_fits number cur sp count kp xs ys e (cleared r n) = unasked r tt
unheard_fits number cur sp count kp xs ys e (refused r) = over r
unheard_fits number cur sp count kp xs ys e (acked r f l) = over r
unheard_fits number cur sp count kp xs ys e _ = absurd e

pub owes_stale : (kp : SinkPhase) → Owes kp → Stale kp → ⊥
owes_stale OwesClear o s = s
owes_stale (OwesAck b f) o s = s
owes_stale OwesNak o s = s
owes_stale _ o s = o

pub owes_grant : (kp : SinkPhase) → Owes kp → InGrant kp → ⊥
owes_grant OwesClear o s = s
owes_grant (OwesAck b f) o s = s
owes_grant OwesNak o s = s
owes_grant _ o s = o

pub may_owes : (count : ℕ) (kp : SinkPhase) (w : Message) → MaySay count kp w → Owes kp
may_owes count OwesClear w m = tt
may_owes count (OwesAck b f) w m = tt
may_owes count OwesNak w m = tt
may_owes count _ w m = m

-- where the sink owes an answer nothing is on the way, and the source waits
pub owes_alone : (number : UnitNumber) (cur : Option LduValue) (sp : SourceState) (count : ℕ) (kp : SinkPhase) (xs ys : List Message)
    → Owes kp → Config number cur sp count kp xs ys → Waits sp × (xs ≡ []) × (ys ≡ [])
owes_alone number cur sp count kp xs ys o (heard r q) = (tt, refl, refl)
owes_alone number cur sp count kp xs ys o (whole r h) = (tt, refl, refl)
owes_alone number cur sp count kp xs ys o (spoiled r) = (tt, refl, refl)
owes_alone number cur sp count kp xs ys o (idle r s) = absurd (owes_stale kp o s)
owes_alone number cur sp count kp xs ys o (asked r s q) = absurd (owes_stale kp o s)
owes_alone number cur sp count kp xs ys o (unasked r s) = absurd (owes_stale kp o s)
owes_alone number cur sp count kp xs ys o (sending r g c le h) = absurd (owes_grant kp o g)
owes_alone number cur sp count kp xs ys o (waiting r g c h) = absurd (owes_grant kp o g)
owes_alone number cur sp count kp xs ys o _ = absurd o

-- the sink keeps silent
pub silent_fits : (number : UnitNumber) (cur : Option LduValue) (sp : SourceState) (count : ℕ) (kp : SinkPhase) (xs ys : List Message)
    → Owes kp → Config number cur sp count kp xs ys → Config number cur sp count Quiet xs ys
silent_fits number cur sp count kp xs ys o (heard r q) = unasked r tt
silent_fits number cur sp count kp xs ys o (whole r h) = over r
silent_fits number cur sp count kp xs ys o (spoiled r) = over r
silent_fits number cur sp count kp xs ys o (idle r s) = absurd (owes_stale kp o s)
silent_fits number cur sp count kp xs ys o (asked r s q) = absurd (owes_stale kp o s)
silent_fits number cur sp count kp xs ys o (unasked r s) = absurd (owes_stale kp o s)
silent_fits number cur sp count kp xs ys o (sending r g c le h) = absurd (owes_grant kp o g)
silent_fits number cur sp count kp xs ys o (waiting r g c h) = absurd (owes_grant kp o g)
silent_fits number cur sp count kp xs ys o _ = absurd o

-- the sink answers
abbrev pub phase_answered : Message → SinkPhase
phase_answered (Cts n) = Granted
phase_answered _ = Quiet

pub answer_fits : (number : UnitNumber) (cur : Option LduValue) (sp : SourceState) (count : ℕ) (kp : SinkPhase) (xs ys : List Message)
    (w : Message)
    → MaySay count kp w → Config number cur sp count kp xs ys → Config number cur sp count (phase_answered w) xs (ys ++ w ∷ [])
answer_fits number cur sp count kp xs ys (Cts n) m (heard r q) = cleared r m
answer_fits number cur sp count kp xs ys (Ack f l) m (whole r h) =
    acked r (m.0 ∙ ap (λ (n : UnitNumber). n.file) h.told) (m.1 ∙ ap (λ (n : UnitNumber). n.ldu) h.told)
answer_fits number cur sp count kp xs ys (Nak b) m (whole r h) = refused r
answer_fits number cur sp count kp xs ys (Nak b) m (spoiled r) = refused r
answer_fits number cur sp count kp xs ys w m (idle r s) = absurd (owes_stale kp (may_owes count kp w m) s)
answer_fits number cur sp count kp xs ys w m (asked r s q) = absurd (owes_stale kp (may_owes count kp w m) s)
answer_fits number cur sp count kp xs ys w m (unasked r s) = absurd (owes_stale kp (may_owes count kp w m) s)
answer_fits number cur sp count kp xs ys w m (sending r g c le h) = absurd (owes_grant kp (may_owes count kp w m) g)
answer_fits number cur sp count kp xs ys w m (waiting r g c h) = absurd (owes_grant kp (may_owes count kp w m) g)
answer_fits number cur sp count kp xs ys w m _ = absurd m

pub acks_count : (c : Codes) (kp : SinkPhase) (k : Sink) → (accepts_owed c kp k).count ≡ k.count
acks_count c (OwesAck b f) k = acks_count_at (is_same k.last (number_of b))
  where
    acks_count_at : (t : Bool)
        → (cond t k (record k {
          last = Some (record { number = number_of b; final = is_final c f });
          received = put b.file (bytes_in c b.words) (is_final c f) (received_for k.last b.file k.received);
        })).count ≡ k.count
    acks_count_at true = refl
    acks_count_at false = refl
acks_count c _ k = refl

abbrev pub IsAnswer : Message → Type 0
IsAnswer (Cts n) = Unit {0}
IsAnswer (Ack f l) = Unit {0}
IsAnswer (Nak b) = Unit {0}
IsAnswer _ = ⊥

pub may_answer : (count : ℕ) (kp : SinkPhase) (w : Message) → MaySay count kp w → IsAnswer w
may_answer count OwesClear (Cts n) m = tt
may_answer count (OwesAck b f) (Ack g l) m = tt
may_answer count (OwesAck b f) (Nak n) m = tt
may_answer count OwesNak (Nak n) m = tt
may_answer count _ _ m = absurd m

-- a word of bus A is taken
pub each_take : (P : Message → Type 0) (k : ℕ) (xs : List Message) → Each P xs → Each P (take k xs)
each_take P zero xs h = tt
each_take P (suc k) [] h = tt
each_take P (suc k) (x ∷ xs) h = (h.0, each_take P k xs h.1)

abbrev pub sink_at : Option Number → Received → ℕ → SinkPhase → Sink
sink_at last received count kp = record { last = last; received = received; count = count; phase = kp }

-- a data word goes behind those of the block
part_behind : (b : Block) (s : ℕ) (xs : List Message)
    → taken_messages b ++ Part s ∷ xs ≡ taken_messages (record b { words = b.words ++ s ∷ [] }) ++ xs
part_behind b s xs =
    let e : map Part (b.words ++ s ∷ []) ++ xs ≡ (map Part b.words ++ Part s ∷ []) ++ xs = ap (λ l. l ++ xs) (map_push Part b.words s) in
    ap (λ l. Sot b.gfi b.file b.ldu ∷ l) (sym (append_assoc (map Part b.words) (Part s ∷ []) xs) ∙ sym e)

sending_takes : (p : Contents) (last : Option Number) (received : Received) (number : UnitNumber) (u : LduValue) (k count : ℕ)
    (kp : SinkPhase) (w : Message) (xs : List Message)
    → length u.words ≤ 253 → InGrant kp → count ≡ count_of u → suc k ≤ count_of u
    → IsSubsequenceOf (block_taken kp ++ w ∷ xs) (take k (front u number))
    → Config number (Some u) (Sending k) (takes_message p w (sink_at last received count kp)).count
    (takes_message p w (sink_at last received count kp)).phase xs []
sending_takes p last received number u k count Granted (Sot g f l) xs r i c le h = sending r tt c le h
sending_takes p last received number u k count Granted (Part s) xs r i c le h =
    sending r tt c le (sub_rest (Part s) xs (take k (front u number)) h)
sending_takes p last received number u k count (InBlock b) (Sot g f l) xs r i c le h =
    sending r tt c le (sub_back (taken_messages b) (Sot g f l ∷ xs) (take k (front u number)) h)
sending_takes p last received number u k count (InBlock b) (Part s) xs r i c le h =
    sending r tt c le (subst (λ x. IsSubsequenceOf x (take k (front u number))) (part_behind b s xs) h)
sending_takes p last received number u k count Granted w xs r i c le h =
    absurd (each_at IsFrontWord [] w xs
    (sub_each IsFrontWord (w ∷ xs) (take k (front u number)) h (each_take IsFrontWord k (front u number) (front_words u number))))
sending_takes p last received number u k count (InBlock b) w xs r i c le h =
    absurd (each_at IsFrontWord (taken_messages b) w xs (sub_each IsFrontWord (taken_messages b ++ w ∷ xs) (take k (front u number)) h
    (each_take IsFrontWord k (front u number) (front_words u number))))
sending_takes p last received number u k count _ w xs r i c le h = absurd i

-- the end word of a block
closes : (p : Contents) (last : Option Number) (number : UnitNumber) (u : LduValue) (count : ℕ) (b : Block) (fl ch : ℕ) (t : Bool)
    → is_good p last count b ch ≡ t → length u.words ≤ 253 → count ≡ count_of u → fl ≡ u.flags
    → IsSubsequenceOf (taken_messages b) (front u number) → Config number (Some u) Waiting count (cond t (OwesAck b fl) OwesNak) [] []
closes p last number u count b fl ch false e r c q h = spoiled r
closes p last number u count b fl ch true e r c q h =
    let n = (and_parts (eqb (length b.words + 2) count) _ e).0 in
    let len : length b.words ≡ length u.words = omega (arith, eqb-true (length b.words + 2) count n) in
    let all = sub_start b.gfi b.file b.ldu u.gfi number.file number.ldu b.words u.words h in
    whole r (record { told = number_from (number_of b) number all.0 all.1; words = same_parts b.words u.words len all.2; flags = q })

waiting_takes : (p : Contents) (last : Option Number) (received : Received) (number : UnitNumber) (u : LduValue) (count : ℕ)
    (kp : SinkPhase) (w : Message) (xs : List Message)
    → length u.words ≤ 253 → InGrant kp → count ≡ count_of u → IsSubsequenceOf (block_taken kp ++ w ∷ xs) (block_messages u number)
    → Config number (Some u) Waiting (takes_message p w (sink_at last received count kp)).count
    (takes_message p w (sink_at last received count kp)).phase xs []
waiting_takes p last received number u count Granted (Sot g f l) xs r i c h = waiting r tt c h
waiting_takes p last received number u count Granted (Part s) xs r i c h = waiting r tt c (sub_rest (Part s) xs (block_messages u number) h)
waiting_takes p last received number u count Granted (Eot fl ch) xs r i c h =
    let e = sub_end fl ch (end_message u) [] xs (front u number) (front_words u number) h in
    subst (λ x. Config number (Some u) Waiting count OwesNak x []) (sym e.1) (spoiled r)
waiting_takes p last received number u count (InBlock b) (Sot g f l) xs r i c h =
    waiting r tt c (sub_back (taken_messages b) (Sot g f l ∷ xs) (block_messages u number) h)
waiting_takes p last received number u count (InBlock b) (Part s) xs r i c h =
    waiting r tt c (subst (λ x. IsSubsequenceOf x (block_messages u number)) (part_behind b s xs) h)
waiting_takes p last received number u count (InBlock b) (Eot fl ch) xs r i c h =
    let e = sub_end fl ch (end_message u) (taken_messages b) xs (front u number) (front_words u number) h in
    let same : fl ≡ u.flags = cc (e.0) in
    subst (λ x. Config number (Some u) Waiting count (cond (is_good p last count b ch) (OwesAck b fl) OwesNak) x []) (sym e.1)
    (closes p last number u count b fl ch (is_good p last count b ch) refl r c same e.2)
waiting_takes p last received number u count Granted w xs r i c h =
    absurd (each_at IsBlockWord [] w xs (sub_each IsBlockWord (w ∷ xs) (block_messages u number) h (block_words_each u number)))
waiting_takes p last received number u count (InBlock b) w xs r i c h =
    absurd (each_at IsBlockWord (taken_messages b) w xs
    (sub_each IsBlockWord (taken_messages b ++ w ∷ xs) (block_messages u number) h (block_words_each u number)))
waiting_takes p last received number u count _ w xs r i c h = absurd i

pub taken_fits : (p : Contents) (last : Option Number) (received : Received) (number : UnitNumber) (cur : Option LduValue)
    (sp : SourceState) (count : ℕ) (kp : SinkPhase) (w : Message) (xs ys : List Message)
    → Config number cur sp count kp (w ∷ xs) ys
    → Config number cur sp (takes_message p w (sink_at last received count kp)).count
    (takes_message p w (sink_at last received count kp)).phase xs ys
taken_fits p last received number cur sp count kp w xs ys (asked {n} r s q) = heard r q
taken_fits p last received number cur sp count kp w xs ys (sending {u} {k} r g c le h) =
    sending_takes p last received number u k count kp w xs r g c le h
taken_fits p last received number cur sp count kp w xs ys (waiting {u} r g c h) =
    waiting_takes p last received number u count kp w xs r g c h

-- an answer is taken
-- the numbers of a link data unit that crosses under these
abbrev pub unit_number : Codes → UnitNumber → LduValue → Number
unit_number c number u = record { number = number; final = is_final c u.flags }

abbrev pub source_at : ℕ → UnitNumber → Option LduValue → SourceState → Source
source_at g number cur sp = record { number = number; current = cur; phase = sp; give_ups = g }

-- the invariant of a source and the rest
abbrev pub At : Source → ℕ → SinkPhase → List Message → List Message → Type 0
At s count kp xs ys = Config s.number s.current s.phase count kp xs ys

hear_clear : (g : ℕ) (number : UnitNumber) (u : LduValue) (count : ℕ) (n : ℕ) (t : Bool)
    → eqb n (count_of u) ≡ t → length u.words ≤ 253 → n ≡ count
    → At (cond t (record (source_at g number (Some u) Awaiting) { phase = Sending 0 }) (source_at g number (Some u) Awaiting)) count Granted
    [] []
hear_clear g number u count n true e r q =
    let c : count ≡ count_of u = sym q ∙ eqb-true n (count_of u) e in
    sending r tt c (omega arith) refl
hear_clear g number u count n false e r q = unasked r tt

hear_ack : (p : Contents) (g : ℕ) (number : UnitNumber) (u : LduValue) (count : ℕ) (t : Bool) → length u.words ≤ 253
    → At (cond t (acknowledged p.codes u (source_at g number (Some u) Waiting)) (source_at g number (Some u) Waiting)) count Quiet [] []
hear_ack p g number u count true r = idle tt tt
hear_ack p g number u count false r = over r

pub heard_fits : (p : Contents) (g : ℕ) (number : UnitNumber) (cur : Option LduValue) (sp : SourceState) (count : ℕ) (kp : SinkPhase)
    (w : Message) (xs ys : List Message)
    → Config number cur sp count kp xs (w ∷ ys) → At (with_answer_message p cur sp w (source_at g number cur sp)) count kp xs ys
heard_fits p g number cur sp count kp w xs ys (cleared {u} {n} r q) = hear_clear g number u count n (eqb n (count_of u)) refl r q
heard_fits p g number cur sp count kp w xs ys (refused r) = idle r tt
heard_fits p g number cur sp count kp w xs ys (acked {u} {f} {l} r ef el) = hear_ack p g number u count _ r

-- how much is on the way and in the sink's block
held_taken : (kp : SinkPhase) → InGrant kp → held_count kp ≡ length (block_taken kp)
held_taken Granted i = refl
held_taken (InBlock b) i = omega (arith, length-parts b.words)
held_taken _ i = absurd i

held_stale : (kp : SinkPhase) → Stale kp → held_count kp ≤ 254
held_stale Quiet i = omega arith
held_stale Granted i = omega arith
held_stale (InBlock b) i = omega arith
held_stale _ i = absurd i

pub config_bounded : (number : UnitNumber) (cur : Option LduValue) (sp : SourceState) (count : ℕ) (kp : SinkPhase) (xs ys : List Message)
    → Config number cur sp count kp xs ys → (length xs + held_count kp ≤ 255) × (length ys ≤ 1)
config_bounded number cur sp count kp xs ys (idle f s) = (omega (arith, held_stale kp s), omega arith)
config_bounded number cur sp count kp xs ys (asked r s q) = (omega (arith, held_stale kp s), omega arith)
config_bounded number cur sp count kp xs ys (unasked r s) = (omega (arith, held_stale kp s), omega arith)
config_bounded number cur sp count kp xs ys (heard r q) = (omega arith, omega arith)
config_bounded number cur sp count kp xs ys (cleared r q) = (omega arith, omega arith)
config_bounded number cur sp count kp xs ys (sending {u} {k} r g c le h) =
    let n = sub_length (block_taken kp ++ xs) (front u number) (sub_take k (block_taken kp ++ xs) (front u number) h) in
    (omega (arith, n, length-append (block_taken kp) xs, held_taken kp g, length-front u number), omega arith)
config_bounded number cur sp count kp xs ys (waiting {u} r g c h) =
    let n = sub_length (block_taken kp ++ xs) (block_messages u number) h in (
      omega (
        arith,
        n,
        length-append (block_taken kp) xs,
        held_taken kp g,
        length-front u number,
        length-append (front u number) (end_message u ∷ []),
      ),
      omega arith,
    )
config_bounded number cur sp count kp xs ys (whole r h) = (omega (arith, ap length h.words), omega arith)
config_bounded number cur sp count kp xs ys (spoiled r) = (omega arith, omega arith)
config_bounded number cur sp count kp xs ys (over r) = (omega arith, omega arith)
config_bounded number cur sp count kp xs ys (refused r) = (omega arith, omega arith)
config_bounded number cur sp count kp xs ys (acked r f l) = (omega arith, omega arith)

stale_few : (kp : SinkPhase) → Stale kp → TookFew kp
stale_few Quiet i = tt
stale_few Granted i = tt
stale_few (InBlock b) i = omega arith
stale_few OwesClear i = absurd i
stale_few (OwesAck b f) i = absurd i
stale_few OwesNak i = absurd i

-- a block that is still taken lacks its last word
grant_few : (number : UnitNumber) (u : LduValue) (kp : SinkPhase) (xs : List Message)
    → length u.words ≤ 253 → InGrant kp → IsSubsequenceOf (block_taken kp ++ xs) (block_messages u number) → TookFew kp
grant_few number u kp xs r g h =
    stale_few kp
    (cut_short number u kp r g (subst (λ x. IsSubsequenceOf x (block_messages u number)) (sym (append-nil (block_taken kp)))
    (sub_forth (block_taken kp) xs (block_messages u number) h)))

-- a block that is still on its way lacks its last word
pub config_few : (number : UnitNumber) (cur : Option LduValue) (sp : SourceState) (count : ℕ) (kp : SinkPhase) (xs ys : List Message)
    → Config number cur sp count kp xs ys → SentFew sp × TookFew kp
config_few number cur sp count kp xs ys (idle f s) = (tt, stale_few kp s)
config_few number cur sp count kp xs ys (asked r s q) = (tt, stale_few kp s)
config_few number cur sp count kp xs ys (unasked r s) = (tt, stale_few kp s)
config_few number cur sp count kp xs ys (heard r q) = (tt, tt)
config_few number cur sp count kp xs ys (cleared r q) = (tt, tt)
config_few number cur sp count kp xs ys (sending {u} {k} r g c le h) = (
  omega arith,
  grant_few number u kp xs r g
      (sub_lost (end_message u) (block_taken kp ++ xs) (front u number) (sub_take k (block_taken kp ++ xs) (front u number) h)),
)
config_few number cur sp count kp xs ys (waiting {u} r g c h) = (tt, grant_few number u kp xs r g h)
config_few number cur sp count kp xs ys (whole r h) = (tt, tt)
config_few number cur sp count kp xs ys (spoiled r) = (tt, tt)
config_few number cur sp count kp xs ys (over r) = (tt, tt)
config_few number cur sp count kp xs ys (refused r) = (tt, tt)
config_few number cur sp count kp xs ys (acked r f l) = (tt, tt)
