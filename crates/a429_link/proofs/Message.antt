-- What words say, with a data word known by its own number; and the machine on what is said.
use Rattle.std.proofs.Common.{◌≡◌, ℕ, zero, suc, ◌≤◌, Bool, true, false, List, [], ◌∷◌, ◌++◌, map, length, Option, Some, None, IsSome, slice_get, refl, sym, ap, ◌∙◌, subst}
use Rattle.a429_ldu.specs.Carried.{bytes_in}
use Rattle.a429_word.specs.declared.bus.Bus.{Bus}
use Rattle.a429_word.specs.declared.bus.Bus.TheVariants as bus
use Rattle.a429_profile.specs.Profile.{Contents}
use Rattle.a429_ldu.specs.declared.forms.Form.{Form}
use Rattle.a429_ldu.specs.declared.forms.Form.TheVariants as form
use Rattle.a429_ldu.specs.Form.{form_of, is_free, word_number}
use Rattle.a429_ldu.specs.Ldu.{LduValue, IsLdu, count_of, block_of}
use Rattle.a429_link.specs.declared.state.SourceState.{SourceState}
use Rattle.a429_link.specs.declared.state.SourceState.TheVariants.{Idle, Awaiting, Sending, Waiting}
use Rattle.a429_link.specs.Source.{Source, next_word, with_answer, with_answer_form, is_own_ack}
use Rattle.a429_link.specs.Sink.{Sink, SinkPhase, Quiet, OwesClear, Granted, InBlock, OwesAck, OwesNak, Block, takes, takes_form, takes_word, answers, answers_form, answers_word, MayAnswer, MayAnswerForm}
use Rattle.a429_link.specs.Run.{is_own_ack_form}
use Rattle.a429_link.specs.declared.number.UnitNumber.{UnitNumber}

pub data Message : Type 0 where
  Rts : (n : ℕ) → Message
  Cts : (n : ℕ) → Message
  Ack : (file ldu : ℕ) → Message
  Nak : (bits : ℕ) → Message
  Sot : (gfi file ldu : ℕ) → Message
  Part : (word : ℕ) → Message
  Eot : (flags check : ℕ) → Message

-- what a word says that has this form
abbrev pub message_in : ℕ → Option Form → Option Message
message_in w None = None
message_in w (Some (form.Rts n)) = Some (Rts n)
message_in w (Some (form.Cts n)) = Some (Cts n)
message_in w (Some (form.Ack file ldu)) = Some (Ack file ldu)
message_in w (Some (form.Nak bits)) = Some (Nak bits)
message_in w (Some (form.Sot gfi file ldu)) = Some (Sot gfi file ldu)
message_in w (Some (form.Part semis)) = Some (Part w)
message_in w (Some (form.Eot flags check)) = Some (Eot flags check)

abbrev pub message_of : Contents → Bus → ℕ → Option Message
message_of p b w = message_in w (form_of p.codes b w)

-- the form of what is said; of a data word any
abbrev pub form_for : Message → Form
form_for (Rts n) = form.Rts n
form_for (Cts n) = form.Cts n
form_for (Ack file ldu) = form.Ack file ldu
form_for (Nak bits) = form.Nak bits
form_for (Sot gfi file ldu) = form.Sot gfi file ldu
form_for (Part w) = form.Part []
form_for (Eot flags check) = form.Eot flags check

-- the word that says it
abbrev pub word_of : Contents → Message → ℕ
word_of p (Part w) = w
word_of p x = word_number p.codes (form_for x)

-- the numbers of what is said lie in the ranges of a bus
abbrev pub InRange : Contents → Bus → Message → Type 0
InRange p bus.A (Rts n) = (3 ≤ n) × (n ≤ 255)
InRange p bus.B (Cts n) = (3 ≤ n) × (n ≤ 255)
InRange p bus.B (Ack file ldu) = (file ≤ 255) × (ldu ≤ 255)
InRange p bus.B (Nak bits) = bits ≤ 65535
InRange p bus.A (Sot gfi file ldu) = (gfi ≤ 15) × (file ≤ 255) × (ldu ≤ 255)
InRange p bus.A (Part w) = message_of p bus.A w ≡ Some (Part w)
InRange p bus.A (Eot flags check) = (flags ≤ 15) × (check ≤ 65535)
InRange p _ _ = ⊥

abbrev pub AllParts : Contents → List ℕ → Type 0
AllParts p [] = Unit {0}
AllParts p (w ∷ ws) = InRange p bus.A (Part w) × AllParts p ws

-- what a link data unit of a profile is known to be
pub record IsFit (p : Contents) (u : LduValue) : Type 0 where
  pub gfi : u.gfi ≤ 15
  pub flags : u.flags ≤ 15
  pub check : u.check ≤ 65535
  pub parts : AllParts p u.words
  pub room : length u.words ≤ 253
  pub some : 1 ≤ length u.words
  pub bytes_room : length (bytes_in p.codes u.words) ≤ 632

-- words are read as they are written
pub record IsRead (p : Contents) : Type 0 where
  pub first : p.codes.first_ldu ≤ 1
  pub reads : (b : Bus) (x : Message) → InRange p b x → message_of p b (word_of p x) ≡ Some x
  pub free : (b : Bus) (w : ℕ) → is_free p.codes b w ≡ true → form_of p.codes b w ≡ None
  pub fit : (u : LduValue) → IsLdu p u → IsFit p u

-- ---- blocks

abbrev pub front : LduValue → UnitNumber → List Message
front u number = Sot u.gfi number.file number.ldu ∷ map Part u.words

abbrev pub end_message : LduValue → Message
end_message u = Eot u.flags u.check

abbrev pub block_messages : LduValue → UnitNumber → List Message
block_messages u number = front u number ++ end_message u ∷ []

abbrev pub taken_messages : Block → List Message
taken_messages b = Sot b.gfi b.file b.ldu ∷ map Part b.words

parts_words : (p : Contents) (ws : List ℕ) (x : Message) → map (word_of p) (map Part ws ++ x ∷ []) ≡ ws ++ word_of p x ∷ []
parts_words p [] x = refl
parts_words p (w ∷ ws) x = ap (λ (l : List ℕ). w ∷ l) (parts_words p ws x)

pub block_words : (p : Contents) (u : LduValue) (number : UnitNumber)
    → map (word_of p) (block_messages u number) ≡ block_of p.codes u number.file number.ldu
block_words p u number =
    ap (λ (l : List ℕ). word_number p.codes (form.Sot u.gfi number.file number.ldu) ∷ l) (parts_words p u.words (end_message u))

-- ---- the source

-- what the source says next
abbrev pub next_message : UnitNumber → Option LduValue → SourceState → Option Message
next_message number (Some u) Idle = Some (Rts (count_of u))
next_message number (Some u) (Sending k) = slice_get (block_messages u number) k
next_message number _ _ = None

pub record Says (p : Contents) (o : Option Message) (w : ℕ) : Type 0 where
  pub said : Message
  pub is : o ≡ Some said
  pub word : w ≡ word_of p said

get_message : (p : Contents) (xs : List Message) (k w : ℕ) → slice_get (map (word_of p) xs) k ≡ Some w → Says p (slice_get xs k) w
get_message p [] k w e = absurd (cc e)
get_message p (x ∷ xs) zero w e = record { said = x; is = refl; word = cc }
get_message p (x ∷ xs) (suc k) w e = get_message p xs k w e

-- the next word says it
pub next_says : (p : Contents) (number : UnitNumber) (cur : Option LduValue) (sp : SourceState) (w : ℕ)
    → next_word p.codes number cur sp ≡ Some w → Says p (next_message number cur sp) w
next_says p number (Some u) Idle w e = record { said = Rts (count_of u); is = refl; word = cc }
next_says p number (Some u) (Sending k) w e =
    get_message p (block_messages u number) k w (subst (λ (l : List ℕ). slice_get l k ≡ Some w) (sym (block_words p u number)) e)
next_says p number (Some u) Awaiting w e = absurd (cc e)
next_says p number (Some u) Waiting w e = absurd (cc e)
next_says p number None sp w e = absurd (cc e)

some_message : (p : Contents) (xs : List Message) (k : ℕ) → IsSome (slice_get (map (word_of p) xs) k) → IsSome (slice_get xs k)
some_message p [] k h = h
some_message p (x ∷ xs) zero h = refl
some_message p (x ∷ xs) (suc k) h = some_message p xs k h

pub next_is_some : (p : Contents) (number : UnitNumber) (cur : Option LduValue) (sp : SourceState)
    → IsSome (next_word p.codes number cur sp) → IsSome (next_message number cur sp)
next_is_some p number (Some u) Idle h = refl
next_is_some p number (Some u) (Sending k) h =
    some_message p (block_messages u number) k (subst (λ (l : List ℕ). IsSome (slice_get l k)) (sym (block_words p u number)) h)
next_is_some p number (Some u) Awaiting h = absurd (cc h)
next_is_some p number (Some u) Waiting h = absurd (cc h)
next_is_some p number None sp h = absurd (cc h)

-- the source after an answer that says this
abbrev pub with_answer_message : Contents → Option LduValue → SourceState → Message → Source → Source
with_answer_message p cur sp x s = with_answer p.codes cur sp (form_for x) s

abbrev pub with_answer_seen : Contents → Option Message → Source → Source
with_answer_seen p None s = s
with_answer_seen p (Some x) s = with_answer_message p s.current s.phase x s

with_answer_part : (p : Contents) (cur : Option LduValue) (sp : SourceState) (semis others : List ℕ) (s : Source)
    → with_answer p.codes cur sp (form.Part semis) s ≡ with_answer p.codes cur sp (form.Part others) s
with_answer_part p None sp semis others s = refl
with_answer_part p (Some u) Idle semis others s = refl
with_answer_part p (Some u) Awaiting semis others s = refl
with_answer_part p (Some u) (Sending k) semis others s = refl
with_answer_part p (Some u) Waiting semis others s = refl

pub with_answer_join : (p : Contents) (w : ℕ) (o : Option Form) (s : Source)
    → with_answer_form p.codes o s ≡ with_answer_seen p (message_in w o) s
with_answer_join p w None s = refl
with_answer_join p w (Some (form.Rts n)) s = refl
with_answer_join p w (Some (form.Cts n)) s = refl
with_answer_join p w (Some (form.Ack f l)) s = refl
with_answer_join p w (Some (form.Nak b)) s = refl
with_answer_join p w (Some (form.Sot g f l)) s = refl
with_answer_join p w (Some (form.Part semis)) s = with_answer_part p s.current s.phase semis [] s
with_answer_join p w (Some (form.Eot f c)) s = refl

abbrev pub is_own_ack_message : UnitNumber → SourceState → Message → Bool
is_own_ack_message number sp x = is_own_ack number sp (form_for x)

abbrev pub is_own_ack_seen : Source → Option Message → Bool
is_own_ack_seen s None = false
is_own_ack_seen s (Some x) = is_own_ack_message s.number s.phase x

own_part : (number : UnitNumber) (sp : SourceState) (semis others : List ℕ)
    → is_own_ack number sp (form.Part semis) ≡ is_own_ack number sp (form.Part others)
own_part number Idle semis others = refl
own_part number Awaiting semis others = refl
own_part number (Sending k) semis others = refl
own_part number Waiting semis others = refl

pub own_ack_join : (w : ℕ) (o : Option Form) (s : Source) → is_own_ack_form s o ≡ is_own_ack_seen s (message_in w o)
own_ack_join w None s = refl
own_ack_join w (Some (form.Part semis)) s = own_part s.number s.phase semis []
own_ack_join w (Some _) s = refl

-- ---- the sink

abbrev pub takes_message : Contents → Message → Sink → Sink
takes_message p x k = takes p (word_of p x) (form_for x) k

abbrev pub takes_seen : Contents → Option Message → Sink → Sink
takes_seen p None k = k
takes_seen p (Some x) k = takes_message p x k

pub takes_join : (p : Contents) (w : ℕ) (o : Option Form) (k : Sink) → takes_form p w o k ≡ takes_seen p (message_in w o) k
takes_join p w None k = refl
takes_join p w (Some (form.Rts n)) k = refl
takes_join p w (Some (form.Cts n)) k = refl
takes_join p w (Some (form.Ack f l)) k = refl
takes_join p w (Some (form.Nak b)) k = refl
takes_join p w (Some (form.Sot g f l)) k = refl
takes_join p w (Some (form.Part semis)) k = refl
takes_join p w (Some (form.Eot f c)) k = refl

abbrev pub answers_message : Contents → Message → Sink → Sink
answers_message p x k = answers p.codes (form_for x) k

abbrev pub answers_seen : Contents → Option Message → Sink → Sink
answers_seen p None k = k
answers_seen p (Some x) k = answers_message p x k

pub answers_join : (p : Contents) (w : ℕ) (o : Option Form) (k : Sink) → answers_form p.codes o k ≡ answers_seen p (message_in w o) k
answers_join p w None k = refl
answers_join p w (Some (form.Rts n)) k = refl
answers_join p w (Some (form.Cts n)) k = refl
answers_join p w (Some (form.Ack f l)) k = refl
answers_join p w (Some (form.Nak b)) k = refl
answers_join p w (Some (form.Sot g f l)) k = refl
answers_join p w (Some (form.Part semis)) k = refl
answers_join p w (Some (form.Eot f c)) k = refl

abbrev pub MaySay : ℕ → SinkPhase → Message → Type 0
MaySay count kp x = MayAnswer count kp (form_for x)

-- the answer that a word gives
pub record Replies (count : ℕ) (kp : SinkPhase) (o : Option Message) : Type 0 where
  pub said : Message
  pub is : o ≡ Some said
  pub owed : MaySay count kp said

pub no_part : (count : ℕ) (kp : SinkPhase) (semis : List ℕ) → MayAnswer count kp (form.Part semis) → ⊥
no_part count Quiet semis m = m
no_part count OwesClear semis m = m
no_part count Granted semis m = m
no_part count (InBlock b) semis m = m
no_part count (OwesAck b f) semis m = m
no_part count OwesNak semis m = m

pub replies : (count : ℕ) (kp : SinkPhase) (w : ℕ) (o : Option Form) → MayAnswerForm count kp o → Replies count kp (message_in w o)
replies count kp w None m = absurd m
replies count kp w (Some (form.Rts n)) m = record { said = Rts n; is = refl; owed = m }
replies count kp w (Some (form.Cts n)) m = record { said = Cts n; is = refl; owed = m }
replies count kp w (Some (form.Ack f l)) m = record { said = Ack f l; is = refl; owed = m }
replies count kp w (Some (form.Nak b)) m = record { said = Nak b; is = refl; owed = m }
replies count kp w (Some (form.Sot g f l)) m = record { said = Sot g f l; is = refl; owed = m }
replies count kp w (Some (form.Part semis)) m = absurd (no_part count kp semis m)
replies count kp w (Some (form.Eot f c)) m = record { said = Eot f c; is = refl; owed = m }

-- ---- words that say this

pub takes_as : (p : Contents) (w : ℕ) (x : Message) (k : Sink) → message_of p bus.A w ≡ Some x → takes_word p w k ≡ takes_message p x k
takes_as p w x k e = takes_join p w (form_of p.codes bus.A w) k ∙ ap (λ o. takes_seen p o k) e

pub answers_as : (p : Contents) (w : ℕ) (x : Message) (k : Sink)
    → message_of p bus.B w ≡ Some x → answers_word p.codes w k ≡ answers_message p x k
answers_as p w x k e = answers_join p w (form_of p.codes bus.B w) k ∙ ap (λ o. answers_seen p o k) e

pub with_answer_as : (p : Contents) (w : ℕ) (x : Message) (s : Source)
    → message_of p bus.B w ≡ Some x → with_answer_form p.codes (form_of p.codes bus.B w) s ≡ with_answer_message p s.current s.phase x s
with_answer_as p w x s e = with_answer_join p w (form_of p.codes bus.B w) s ∙ ap (λ o. with_answer_seen p o s) e

-- each word says the next of these
abbrev pub AllSay : Contents → Bus → List ℕ → List Message → Type 0
AllSay p b [] [] = Unit {0}
AllSay p b (w ∷ ws) (x ∷ xs) = (message_of p b w ≡ Some x) × AllSay p b ws xs
AllSay p b _ _ = ⊥

pub say_push : (p : Contents) (b : Bus) (ws : List ℕ) (xs : List Message) (w : ℕ) (x : Message)
    → AllSay p b ws xs → message_of p b w ≡ Some x → AllSay p b (ws ++ w ∷ []) (xs ++ x ∷ [])
say_push p b [] [] w x h e = (e, tt)
say_push p b [] (y ∷ xs) w x h e = absurd h
say_push p b (v ∷ ws) [] w x h e = absurd h
say_push p b (v ∷ ws) (y ∷ xs) w x h e = (h.0, say_push p b ws xs w x h.1 e)

pub say_none : (p : Contents) (b : Bus) (ws : List ℕ) (xs : List Message) → AllSay p b ws xs → ws ≡ [] → xs ≡ []
say_none p b [] [] h e = refl
say_none p b [] (x ∷ xs) h e = absurd h
say_none p b (w ∷ ws) xs h e = absurd (cc e)

pub none_say : (p : Contents) (b : Bus) (ws : List ℕ) (xs : List Message) → AllSay p b ws xs → xs ≡ [] → ws ≡ []
none_say p b [] xs h e = refl
none_say p b (w ∷ ws) [] h e = absurd h
none_say p b (w ∷ ws) (x ∷ xs) h e = absurd (cc e)

pub say_length : (p : Contents) (b : Bus) (ws : List ℕ) (xs : List Message) → AllSay p b ws xs → length ws ≡ length xs
say_length p b [] [] h = refl
say_length p b [] (x ∷ xs) h = absurd h
say_length p b (w ∷ ws) [] h = absurd h
say_length p b (w ∷ ws) (x ∷ xs) h = ap suc (say_length p b ws xs h.1)
