-- A data word that is sent, and taken at once: its two lines, and what they lead to.
use Rattle.std.proofs.Common.{◌≡◌, ◌∙◌, ◌≤◌, ◌<◌, ◌+◌, ℕ, suc, List, [], ◌∷◌, ◌++◌, append-nil, append_assoc, length, drop, true, Option, Some, None, option_map, slice_get, ◌⊎◌, inr, refl, sym, ap, subst, arith, IfSome, ne_of_lt}
use Rattle.std.specs.Io.KnownBytes.{prepend_known}
use Rattle.std.proofs.lemmas.Bool.{ne_eqb}
use Rattle.std.proofs.lemmas.List.{length-append}
use Rattle.a429_word.specs.declared.bus.Bus.{Bus}
use Rattle.a429_word.specs.declared.bus.Bus.TheVariants.{A}
use Rattle.a429_word.specs.declared.trouble.Trouble.{Trouble}
use Rattle.a429_word.specs.declared.trouble.Trouble.TheVariants as trouble
use Rattle.a429_profile.specs.Profile.{Contents}
use Rattle.a429_link.specs.Carry.{IsAtWord, on_a, after_sent, after_both}
use Rattle.a429_link.proofs.CarryFacts.{can_send, can_take, both_made}
use Rattle.a429_link.specs.declared.carry.NextWord.{NextWord}
use Rattle.a429_link.specs.declared.seen.Seen.{Seen}
use Rattle.a429_link.specs.declared.step.Step.{Step}
use Rattle.a429_link.specs.declared.step.Step.TheVariants as step
use Rattle.a429_link.specs.Step.{Can}
use Rattle.a429_link.specs.declared.file.FileBytes.{FileBytes}
use Rattle.a429_link.specs.Link.{handed_out}
use Rattle.a429_link.specs.State.{State, states_of}
use Rattle.a429_record.specs.declared.fault.ReadFault.{ReadFault}
use Rattle.a429_record.specs.declared.fault.ReadFault.TheVariants as read
use Rattle.a429_record.specs.Entries.{EntriesLeft}
use Rattle.a429_record.specs.Recording.{Recording}
use Rattle.a429_cert.specs.declared.fault.CertFault.TheVariants as of
use Rattle.a429_cert.specs.declared.stream_fault.StreamFault.{StreamFault}
use Rattle.a429_cert.specs.declared.stream_fault.StreamFault.TheVariants as stream
use Rattle.a429_cert.specs.declared.line.CertLine.{CertLine}
use Rattle.a429_cert.specs.declared.line.CertLine.TheVariants.{First, Load, Moved}
use Rattle.a429_cert.specs.declared.listed.Listed.{Listed}
use Rattle.a429_cert.specs.declared.line.MovedLine.{MovedLine}
use Rattle.a429_cert.specs.declared.act.Act.TheVariants.{Sent, SinkTakes}
use Rattle.a429_cert.specs.declared.listed.Listed.TheVariants as listed
use Rattle.a429_cert.specs.declared.shelf.PutFile.{PutFile}
use Rattle.a429_cert.specs.declared.replay.Replay.{Replay}
use Rattle.a429_cert.specs.declared.version.Version.{Version}
use Rattle.a429_cert.specs.Change.{change}
use Rattle.a429_cert.specs.CutLines.{cut, GivesLine}
use Rattle.a429_cert.specs.Likely.{pair_text, sent_line, sent_states, sent_text, taken_line, taken_states, taken_text}
use Rattle.a429_cert.specs.Line.{SpellsLine}
use Rattle.a429_cert.specs.Lines.{certificate_lines}
use Rattle.a429_cert.specs.Fault.{CanBe, SaysLine, at_line}
use Rattle.a429_cert.specs.Passing.{IsFaultOfRead, IsStepOfLine, Lists, PassesText}
use Rattle.a429_cert.specs.Pair.{HearsBoth, IsEntry, replay_taken}
use Rattle.a429_cert.specs.Stream.{next_of, of_read, of_trouble, GainsAll, GivesAtFault, IsFaultNext, PassesOver, RefusesOver, TakesNext, WantsEntry, sizes}
use Rattle.a429_cert.specs.StreamNext.{progress, TakesSome}
use Rattle.a429_cert.specs.Report.{Hearing, listening, position}
use Rattle.a429_cert.specs.Version.{read_as}
use Rattle.a429_cert.proofs.CutFacts.{says-uncut}
use Rattle.a429_cert.proofs.LikelyFacts.{line_first, sent_read, sent_spells, taken_read, taken_spells}
use Rattle.a429_cert.proofs.StreamFacts.{gains_none, line_given, refused_next, refused_text}

-- a replay after the first of the two lines
abbrev pub replay_sent : ℕ → Replay → Replay
replay_sent word replay = record replay {
  link = record (replay.link) { state = after_sent replay.profile.now word replay.link.state };
  lines = replay.lines + 1;
  used = replay.used + 1;
}

-- ---- the two lines are handed out, one after the other

-- the second with its line feed
abbrev pub ended : ℕ → List ℕ
ended k = taken_text k ++ 10 ∷ []

gives : (l : CertLine) (text xs rest : List ℕ)
    → SpellsLine text l → certificate_lines xs ≡ Some text ∷ certificate_lines rest → GivesLine (Some xs) (Some rest) (Some text) true
gives l text xs rest s e = (ap (λ ls. option_map cut (slice_get ls 0)) e ∙ ap Some (says-uncut (Some text) l s), sym (ap (drop 1) e))

pub gives_sent : (k : ℕ) (ahead : List ℕ) (rest : Option (List ℕ)) → 1 ≤ k → k < 254
    → GivesLine (prepend_known (pair_text k ++ ahead) rest) (prepend_known (ended k ++ ahead) rest) (Some (sent_text k)) true
gives_sent k ahead None least most = tt
gives_sent k ahead (Some more) least most =
    gives (sent_line k) (sent_text k) ((pair_text k ++ ahead) ++ more) ((ended k ++ ahead) ++ more) (sent_spells k least most)
    (ap certificate_lines (append_assoc (pair_text k) ahead more ∙ append_assoc (sent_text k) (10 ∷ ended k) (ahead ++ more))
    ∙ line_first (sent_line k) (sent_text k) (ended k ++ (ahead ++ more)) (sent_spells k least most)
    ∙ ap (λ l. Some (sent_text k) ∷ certificate_lines l) (sym (append_assoc (ended k) ahead more)))

pub gives_taken : (k : ℕ) (ahead : List ℕ) (rest : Option (List ℕ))
    → 1 ≤ k → k < 254 → GivesLine (prepend_known (ended k ++ ahead) rest) (prepend_known ahead rest) (Some (taken_text k)) true
gives_taken k ahead None least most = tt
gives_taken k ahead (Some more) least most =
    gives (taken_line k) (taken_text k) ((ended k ++ ahead) ++ more) (ahead ++ more) (taken_spells k least most)
    (ap certificate_lines (append_assoc (ended k) ahead more ∙ append_assoc (taken_text k) (10 ∷ []) (ahead ++ more))
    ∙ line_first (taken_line k) (taken_text k) (ahead ++ more) (taken_spells k least most))

-- ---- the states

pub least_place : (p : Contents) (next : NextWord) (s : State) → IsAtWord p next s → 1 ≤ next.place
least_place p next s h = omega (arith, h.taken)

pub sent_shows : (p : Contents) (next : NextWord) (s : State)
    → IsAtWord p next s → states_of (after_sent p next.word s) ≡ sent_states next.place
sent_shows p next s h = rw (h.current, h.sending, ne_eqb _ _ (ne_of_lt h.more), h.taking, h.taken, h.to_sink, h.to_source) refl

pub taken_shows : (p : Contents) (next : NextWord) (s : State)
    → IsAtWord p next s → states_of (after_both p next.word s) ≡ taken_states next.place
taken_shows p next s h =
    let size : length (h.block.words ++ next.word ∷ []) + 1 ≡ suc next.place =
    omega (arith, h.taken, length-append h.block.words (next.word ∷ [])) in
    ap states_of (both_made p next s h) ∙ rw (h.current, h.sending, ne_eqb _ _ (ne_of_lt h.more), h.taking, size, h.to_source) refl

-- ---- the lines pass

sent_passes : (p : Contents) (v : Version) (next : NextWord) (s : State) → next.place < 254 → IsAtWord p next s
    → PassesText p (read_as v (Some (sent_text next.place))) (Some (on_a next.word)) (change s (after_sent p next.word s)) 1
sent_passes p v next s most h =
    rw (sent_read next.place v)
    (sent_line next.place, sent_spells next.place (least_place p next s h) most, ((can_send p next s h, refl), sent_shows p next s h, refl))

taken_passes : (p : Contents) (v : Version) (next : NextWord) (o : Option Seen) (s : State) → next.place < 254 → IsAtWord p next s
    → PassesText p (read_as v (Some (taken_text next.place))) o (change (after_sent p next.word s) (after_both p next.word s)) 0
taken_passes p v next o s most h =
    rw (taken_read next.place v) (
      taken_line next.place,
      taken_spells next.place (least_place p next s h) most,
      ((can_take p next s h, refl), taken_shows p next s h, refl),
    )

sent_over : (p : Contents) (v : Version) (next : NextWord) (s : State) (old new : Option Recording)
    → next.place < 254 → IsAtWord p next s → IsEntry next.word old new
    → PassesOver p (read_as v (Some (sent_text next.place))) (change s (after_sent p next.word s)) (change old new) 1
sent_over p v next s None new most h e = tt
sent_over p v next s (Some r) new most h e = (rw e.0 (sent_passes p v next s most h), e.1)

taken_over : (p : Contents) (v : Version) (next : NextWord) (s : State) (rec : Option Recording) → next.place < 254 → IsAtWord p next s
    → PassesOver p (read_as v (Some (taken_text next.place))) (change (after_sent p next.word s) (after_both p next.word s))
    (change rec rec) 0
taken_over p v next s None most h = tt
taken_over p v next s (Some r) most h = (taken_passes p v next (next_of r) s most h, refl)

-- ---- where the first line is not taken

abbrev sent_listed : ℕ → Listed
sent_listed k = listed.Moved (record { act = Sent; states = sent_states k })

sent_says : (v : Version) (k : ℕ) → 1 ≤ k → k < 254 → SaysLine (read_as v (Some (sent_text k))) (sent_line k)
sent_says v k least most = rw (sent_read k v) (sent_spells k least most)

pub lists_sent : (p : Contents) (v : Version) (next : NextWord) (s : State)
    → next.place < 254 → IsAtWord p next s → Lists p (read_as v (Some (sent_text next.place))) (sent_listed next.place) s
lists_sent p v next s most h = (
  sent_line next.place,
  sent_says v next.place (least_place p next s h) most,
  refl,
  (Some (on_a next.word), (step.Sent (on_a next.word), refl, can_send p next s h)),
)

wants_sent : (p : Contents) (v : Version) (next : NextWord) (s : State)
    → next.place < 254 → IsAtWord p next s → WantsEntry p (read_as v (Some (sent_text next.place))) s
wants_sent p v next s most h = (
  sent_line next.place,
  sent_says v next.place (least_place p next s h) most,
  refl,
  (Some (on_a next.word), (step.Sent (on_a next.word), refl, can_send p next s h)),
)

-- the recording has a fault there
stops_over : (p : Contents) (text : Option (List ℕ)) (s : State) (i n : ℕ) (rec : Option Recording) (f : ReadFault)
    → WantsEntry p text s → IsFaultNext 1 rec f → RefusesOver p text (position s rec i) n (of_read f)
stops_over p text s i n None f w h = tt
stops_over p text s i n (Some r) read.Header w h = (w, h.1, λ z. cc)
stops_over p text s i n (Some r) (read.Row j) w h = (w, h.1, λ z. cc)
stops_over p text s i n (Some r) (read.TimeBack j) w h = (w, h.1, λ z. cc)
stops_over p text s i n (Some r) read.TooMany w h = (w, h.1, λ z. cc)
stops_over p text s i n (Some r) read.Device w h = (w, h.1, λ z. cc)
stops_over p text s i n (Some r) read.OutOfMemory w h = tt
stops_over p text s i n (Some r) read.Failed w h = (w, h.1, λ z. cc)

pub sent_stops : (v : Version) (next : NextWord) (p : Contents) (s : State) (i n : ℕ) (rec : Option Recording) (f : ReadFault)
    → next.place < 254 → IsAtWord p next s → IsFaultNext 1 rec f
    → RefusesOver p (read_as v (Some (sent_text next.place))) (position s rec i) n (of_read f)
sent_stops v next p s i n rec f most h = stops_over p (read_as v (Some (sent_text next.place))) s i n rec f (wants_sent p v next s most h)

-- the next entry is not the word
word_is : (item : Seen) (w : ℕ) → item.bus ≡ A → item.word ≡ w → Some item ≡ Some (on_a w)
word_is item w e g = ap (λ b. some b item.word) e ∙ ap (some A) g
  where
    some : Bus → ℕ → Option Seen
    some b x = Some (record { bus = b; word = x })

same_word : (o : Option ℕ) (a b : ℕ) → o ≡ Some a → o ≡ Some b → b ≡ a
same_word o a b e g = cc (e, g)

cannot : (p : Contents) (next : NextWord) (s : State) (o : Option Seen)
    → IsAtWord p next s → (o ≡ Some (on_a next.word) → ⊥) → CanBe p (sent_line next.place) o s → ⊥
cannot p next s None h differs c = absurd (cc c.1)
cannot p next s (Some item) h differs c =
    let same : step.Sent item ≡ c.0 = some_step _ _ c.1 in
    let can = subst (λ (a : Step). Can p a s) (sym same) c.2 in
    differs (word_is item next.word can.0 (same_word _ _ _ h.word can.1))
  where
    some_step : (a b : Step) → Some a ≡ Some b → a ≡ b
    some_step a b e = cc e

pub sent_differs : (v : Version) (next : NextWord) (p : Contents) (s : State) (i n : ℕ) (old new : Option Recording) (o : Option Seen)
    → next.place < 254 → IsAtWord p next s → TakesNext 1 old new o → (o ≡ Some (on_a next.word) → ⊥)
    → RefusesOver p (read_as v (Some (sent_text next.place))) (position s old i) n (stream.Cert (of.WordDiffers n i))
sent_differs v next p s i n old new o most h takes differs =
    refused_text p (read_as v (Some (sent_text next.place))) (sent_listed next.place) s old n i (stream.Cert (of.WordDiffers n i))
    (lists_sent p v next s most h)
    (refused_next p (sent_listed next.place) s old new o n i (of.WordDiffers n i) takes (λ l is z. by l is))
  where
    by : (l : CertLine) → IsStepOfLine (sent_listed next.place) l → IsFaultOfRead p s (at_line n i o) l (of.WordDiffers n i)
    by (First file) is = absurd is
    by (Load l) is = absurd is
    by (Moved m) is =
        subst (λ (q : MovedLine). IsFaultOfRead p s (at_line n i o) (Moved q) (of.WordDiffers n i)) is
        (tt, (refl, refl, (Some (on_a next.word), (step.Sent (on_a next.word), refl, can_send p next s h)), cannot p next s o h differs))

-- how many entries are handed out
pub sent_given : (v : Version) (next : NextWord) (p : Contents) (s : State) (f : StreamFault) (old new : ℕ)
    → next.place < 254 → IsAtWord p next s → GivesAtFault (◌≡◌ {A = ℕ} 1 1) f old new
    → GivesAtFault (WantsEntry p (read_as v (Some (sent_text next.place))) s) f old new
sent_given v next p s f old new most h =
    line_given p (read_as v (Some (sent_text next.place))) (sent_listed next.place) s f old new (lists_sent p v next s most h)

pub trouble_given : (Wants : Type 0) (t : Trouble) (old new : ℕ)
    → (new ≡ old) ⊎ (Wants × (new ≡ old + 1)) → GivesAtFault Wants (of_trouble t) old new
trouble_given Wants trouble.Device old new h = h
trouble_given Wants trouble.OutOfMemory old new h = h

-- what is ahead after the first line is no more than what was ahead before it
pub fewer : (a b ahead old : List ℕ) (most : ℕ) → old ≡ (a ++ 10 ∷ b) ++ ahead → length old ≤ most → length (b ++ ahead) ≤ most
fewer a b ahead old most e few =
    let all : length old ≡ length (a ++ 10 ∷ b) + length ahead = ap (λ (l : List ℕ). length l) e ∙ length-append (a ++ 10 ∷ b) ahead in
    omega (arith, all, few, length-append a (10 ∷ b), length-append b ahead)

-- ---- both at once

handed_same : (s : State) → s.sink.received.files ≡ [] → s ≡ handed_out s
handed_same s e = ap filed e
  where
    filed : List FileBytes → State
    filed l = record s { sink = record (s.sink) { received = record (s.sink.received) { files = l } } }

always : (rec : Option Recording) (X : Type 0) → X → IfSome rec (λ r. X)
always None X x = tt
always (Some r) X x = x

puts_none : {S : Type 0} (files : S → Option (List PutFile)) (shelf : S) (i : ℕ) (l : List FileBytes) → l ≡ []
    → GainsAll (files shelf) (files shelf) i l
puts_none files shelf i l e = rw e (gains_none (files shelf) i)

notes_none : (notes : List (ℕ × ℕ)) (l : List FileBytes) → l ≡ [] → notes ≡ notes ++ sizes l
notes_none notes l e = rw e (sym (append-nil notes))

-- a check takes both lines
pub takes_both : {S T : Type 0} (files : S → Option (List PutFile)) (hears : Hearing T) (next : NextWord) (replay : Replay) (ahead : List ℕ)
    (rest : Option (List ℕ)) (rec new_rec : EntriesLeft) (shelf : S) (old new : T)
    → replay.link.profile ≡ replay.profile.now → IsAtWord replay.profile.now next replay.link.state → next.place < 254
    → replay.link.state.sink.received.files ≡ []
    → IsEntry next.word rec.to_come new_rec.to_come → new_rec.count ≡ rec.count + 1
    → HearsBoth (listening hears old new) replay.profile.now replay.used rec.to_come
    → TakesSome files hears (progress replay (prepend_known (pair_text next.place ++ ahead) rest) rec shelf old)
    (progress (replay_taken next.word replay) (prepend_known ahead rest) new_rec shelf new)
takes_both files hears next replay ahead rest rec new_rec shelf old new profile h most none entry counts heard =
    let p = replay.profile.now in
    let k = next.place in
    let s = replay.link.state in
    let least = least_place p next s h in
    let sent = after_sent p next.word s in
    let both = after_both p next.word s in
    let still : both.sink.received.files ≡ [] = ap (λ (q : State). q.sink.received.files) (both_made p next s h) ∙ none in
    let one : replay.used + 1 + 0 ≡ replay.used + 1 = omega arith in
    let two : replay.lines + 1 + 1 ≡ replay.lines + 2 = omega arith in
    inr (
      progress (replay_sent next.word replay) (prepend_known (ended k ++ ahead) rest) new_rec shelf heard.mid,
      record {
        line = Some (sent_text k);
        used = 1;
        given = gives_sent k ahead rest least most;
        goes_on = record {
          state = sent;
          passed = sent_over p replay.version next s rec.to_come new_rec.to_come most h entry;
          put = puts_none files shelf (length replay.files.items + 1) sent.sink.received.files none;
          noted = notes_none replay.files.items sent.sink.received.files none;
          given = handed_same sent none;
        };
        heard = (
          sent_line k,
          listed.Moved (record { act = Sent; states = sent_states k }),
          sent_says replay.version k least most,
          refl,
          heard.sent,
        );
        few = omega arith;
        counts = counts;
        kept = refl;
        profile = profile;
      },
      record {
        line = Some (taken_text k);
        used = 0;
        given = gives_taken k ahead rest least most;
        goes_on = record {
          state = both;
          passed = taken_over p replay.version next s new_rec.to_come most h;
          put = puts_none files shelf (length replay.files.items + 1) both.sink.received.files still;
          noted = notes_none replay.files.items both.sink.received.files still;
          given = handed_same both still;
        };
        heard = (
          taken_line k,
          listed.Moved (record { act = SinkTakes; states = taken_states k }),
          rw (taken_read k replay.version) (taken_spells k least most),
          refl,
          always new_rec.to_come _ heard.taken,
        );
        few = omega arith;
        counts = omega arith;
        kept =
            ap (λ (n : ℕ). record (replay_taken next.word replay) { lines = n }) (sym two)
            ∙ ap (λ (n : ℕ). record (replay_taken next.word replay) { lines = replay.lines + 1 + 1; used = n }) (sym one);
        profile = profile;
      },
    )
