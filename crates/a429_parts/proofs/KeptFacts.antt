-- Free words change no state, so that a run goes on without them and with them.
use Rattle.std.proofs.Common.{◌≡◌, ◌%◌, Bool, true, false, ◌||◌, ◌&&◌, not, ◌==◌, if◌then◌else◌, List, [], ◌∷◌, Option, Some, None, refl, sym, ap, ◌∙◌, subst, inl, inr}
use Rattle.std.specs.List.{list_any}
use Rattle.a429_word.specs.Word.{count_of_ones, label_of, number_at}
use Rattle.a429_word.specs.declared.bus.Bus.{Bus}
use Rattle.a429_word.specs.declared.bus.Bus.TheVariants as bus
use Rattle.a429_profile.specs.declared.codes.Codes.{Codes}
use Rattle.a429_profile.specs.Profile.{Contents}
use Rattle.a429_ldu.specs.Form.{is_free, address_of}
use Rattle.a429_record.specs.declared.entry.Entry.{Entry}
use Rattle.a429_cert.specs.Explained.{items_of}
use Rattle.a429_link.specs.declared.seen.Seen.{Seen}
use Rattle.a429_link.specs.declared.step.Step.{Step}
use Rattle.a429_link.specs.declared.step.Step.TheVariants.{Answered, FreeSeen, GiveUp, Load, LoseAnswer, Sent, SentLost, Silent, SinkTakes, TakeAnswer, TimeOut}
use Rattle.a429_link.specs.Run.{IsRun, RunOf, delivered_by, end_of, trace, with_label}
use Rattle.a429_link.specs.State.{State, start}
use Rattle.a429_link.specs.Step.{Can, after, label}
use Rattle.a429_link.proofs.Message.{IsRead, Message, message_in, message_of}
use Rattle.a429_link.proofs.MessageRead.{is_read}
use Rattle.a429_link.proofs.StateHolds.{HoldsAt, owed_form, sends, start_holds, step_holds}
use Rattle.a429_parts.specs.Kept.{HasRun, IsWithoutFree, kept}

-- a free word has no form
says_nothing : (p : Contents)
    → IsRead p → (b : Bus) (i : Seen) (x : Message) → i.bus ≡ b → is_free p.codes i.bus i.word ≡ true → message_of p b i.word ≡ Some x → ⊥
says_nothing p good b i x e free says =
    let none : message_of p b i.word ≡ None =
    ap (message_in i.word) (good.free b i.word (subst (λ (q : Bus). is_free p.codes q i.word ≡ true) e free)) in
    cc

-- a step that records a free word changes nothing
changes_nothing : (p : Contents) → IsRead p → (a : Step) (i : Seen) (s : State) → label a ≡ Some i → is_free p.codes i.bus i.word ≡ true
    → Can p a s → HoldsAt p s → after p a s ≡ s
changes_nothing p good (FreeSeen j) i s e free c f = refl
changes_nothing p good (Sent j) i s e free c f =
    let same : j ≡ i = cc in
    let says = sends p good s.source j.word f.file f.current c.1 in
    absurd (says_nothing p good bus.A j says.said c.0 (subst (λ (q : Seen). is_free p.codes q.bus q.word ≡ true) (sym same) free) says.says)
changes_nothing p good (Answered j) i s e free c f =
    let same : j ≡ i = cc in
    let owed = owed_form p s j c in
    absurd (says_nothing p good bus.B j owed.said c.0 (subst (λ (q : Seen). is_free p.codes q.bus q.word ≡ true) (sym same) free) owed.is)
changes_nothing p good (Load u) i s e free c f = absurd (cc e)
changes_nothing p good SentLost i s e free c f = absurd (cc e)
changes_nothing p good TimeOut i s e free c f = absurd (cc e)
changes_nothing p good TakeAnswer i s e free c f = absurd (cc e)
changes_nothing p good LoseAnswer i s e free c f = absurd (cc e)
changes_nothing p good SinkTakes i s e free c f = absurd (cc e)
changes_nothing p good Silent i s e free c f = absurd (cc e)
changes_nothing p good GiveUp i s e free c f = absurd (cc e)

-- a run that records these words and ends where the steps end
record Goes (p : Contents) (steps : List Step) (s : State) (items : List Seen) : Type 0 where
  acts : List Step
  run : IsRun p acts s
  records : trace acts ≡ items
  ends : end_of p acts s ≡ end_of p steps s

-- ---- without them

abbrev Without : Contents → List Step → State → Type 0
Without p steps s = (items : List Seen) → IsWithoutFree p.codes (trace steps) items → Goes p steps s items

without_step : (p : Contents)
    → IsRead p → (a : Step) (steps : List Step) (s : State) (items : List Seen) (l : Option Seen) → label a ≡ l → Can p a s → HoldsAt p s
    → IsWithoutFree p.codes (with_label l (trace steps)) items → Without p steps (after p a s) → Goes p (a ∷ steps) s items
without_step p good a steps s items None e c f w more =
    let next = more items w in
    record {
      acts = a ∷ next.acts;
      run = (c, next.run);
      records = ap (λ o. with_label o (trace next.acts)) e ∙ next.records;
      ends = next.ends;
    }
without_step p good a steps s items (Some i) e c f (inl (free, w)) more =
    let next = more items w in
    let still = changes_nothing p good a i s e free c f in
    record {
      acts = next.acts;
      run = subst (IsRun p next.acts) still next.run;
      records = next.records;
      ends = subst (λ (t : State). end_of p next.acts t ≡ end_of p steps (after p a s)) still next.ends;
    }
without_step p good a steps s items (Some i) e c f (inr (others, q, w)) more =
    let next = more others w in
    record {
      acts = a ∷ next.acts;
      run = (c, next.run);
      records = ap (λ o. with_label o (trace next.acts)) e ∙ (ap (λ (t : List Seen). i ∷ t) next.records ∙ sym q);
      ends = next.ends;
    }

without : (p : Contents) → IsRead p → (steps : List Step) (s : State) → IsRun p steps s → HoldsAt p s → Without p steps s
without p good [] s h f items w = record { acts = []; run = tt; records = sym w; ends = refl }
without p good (a ∷ steps) s h f items w =
    without_step p good a steps s items (label a) refl h.0 f w (without p good steps (after p a s) h.1 (step_holds p good a s h.0 f))

-- ---- with them

abbrev Within : Contents → List Seen → Type 0
Within p items = (steps : List Step) (s : State) → IsRun p steps s → IsWithoutFree p.codes items (trace steps) → Goes p steps s items

within_step : (p : Contents) (i : Seen) (items others : List Seen) → Within p items → (a : Step) (steps : List Step) (s : State)
    (l : Option Seen) → label a ≡ l → IsRun p (a ∷ steps) s → with_label l (trace steps) ≡ i ∷ others → IsWithoutFree p.codes items others
    → (trace steps ≡ i ∷ others → Goes p steps (after p a s) (i ∷ items)) → Goes p (a ∷ steps) s (i ∷ items)
within_step p i items others more a steps s None e h q w later =
    let next = later q in
    record {
      acts = a ∷ next.acts;
      run = (h.0, next.run);
      records = ap (λ o. with_label o (trace next.acts)) e ∙ next.records;
      ends = next.ends;
    }
within_step p i items others more a steps s (Some j) e h q w later =
    let same : j ≡ i = cc in
    let left : trace steps ≡ others = cc in
    let next = more steps (after p a s) h.1 (subst (IsWithoutFree p.codes items) (sym left) w) in
    record {
      acts = a ∷ next.acts;
      run = (h.0, next.run);
      records = ap (λ o. with_label o (trace next.acts)) e
          ∙ (ap (λ (x : Seen). x ∷ trace next.acts) same ∙ ap (λ (t : List Seen). i ∷ t) next.records);
      ends = next.ends;
    }

within_steps : (p : Contents) (i : Seen) (items others : List Seen) → Within p items → (steps : List Step) (s : State) → IsRun p steps s
    → trace steps ≡ i ∷ others → IsWithoutFree p.codes items others → Goes p steps s (i ∷ items)
within_steps p i items others more [] s h q w = absurd (cc q)
within_steps p i items others more (a ∷ steps) s h q w =
    within_step p i items others more a steps s (label a) refl h q w (λ r. within_steps p i items others more steps (after p a s) h.1 r w)

within : (p : Contents) (items : List Seen) → Within p items
within p [] steps s h w = record { acts = steps; run = h; records = w; ends = refl }
within p (i ∷ items) steps s h (inl (free, w)) =
    let next = within p items steps s h w in
    record { acts = FreeSeen i ∷ next.acts; run = (free, next.run); records = ap (λ (t : List Seen). i ∷ t) next.records; ends = next.ends }
within p (i ∷ items) steps s h (inr (others, q, w)) = within_steps p i items others (within p items) steps s h q w

-- ---- runs from a start

has_run : (p : Contents) (r : RunOf p) (items : List Seen) → Goes p r.steps (start p r.first) items → HasRun p items (delivered_by r)
has_run p r items goes = record {
  run = record { first = r.first; steps = goes.acts; is_run = record { sound = r.is_run.sound; byte = r.is_run.byte; run = goes.run } };
  records = goes.records;
  delivers = ap (λ (t : State). t.sink.received.files) goes.ends;
}

pub left_out : (p : Contents) (r : RunOf p) (items : List Seen)
    → IsWithoutFree p.codes (trace r.steps) items → HasRun p items (delivered_by r)
left_out p r items w =
    has_run p r items
    (without p (is_read p r.is_run.sound) r.steps (start p r.first) r.is_run.run (start_holds p r.first r.is_run.byte) items w)

pub put_in : (p : Contents) (r : RunOf p) (items : List Seen)
    → IsWithoutFree p.codes items (trace r.steps) → HasRun p items (delivered_by r)
put_in p r items w = has_run p r items (within p items r.steps (start p r.first) r.is_run.run w)

-- ---- words of another label are free

any_or : (b x : Bool) → b || (true || x) ≡ true
any_or true x = refl
any_or false x = refl

abbrev has_even_parity : Entry → Bool
has_even_parity e = not (count_of_ones e.word % 2 == 1)

abbrev is_ignored : Codes → Entry → Bool
is_ignored c e =
    list_any (λ n. n == number_at e.word 29 3) c.ignored_types
    || (number_at e.word 29 3 == c.protocol && list_any (λ n. n == number_at e.word 25 4) c.ignored_codes)

other_label : (c : Codes) (e : Entry) → (label_of e.word == address_of c e.bus) ≡ false → is_free c e.bus e.word ≡ true
other_label c e h =
    subst (λ (q : Bool). (has_even_parity e || (not q || is_ignored c e)) ≡ true) (sym h) (any_or (has_even_parity e) (is_ignored c e))

kept_item : (c : Codes) (e : Entry) (es : List Entry) (b : Bool)
    → (label_of e.word == address_of c e.bus) ≡ b → IsWithoutFree c (items_of es) (items_of (kept c es))
    → IsWithoutFree c (items_of (e ∷ es)) (items_of (if b then e ∷ kept c es else kept c es))
kept_item c e es true h w = inr (items_of (kept c es), refl, w)
kept_item c e es false h w = inl (other_label c e h, w)

pub only_free : (c : Codes) (es : List Entry) → IsWithoutFree c (items_of es) (items_of (kept c es))
only_free c [] = refl
only_free c (e ∷ es) = kept_item c e es (label_of e.word == address_of c e.bus) refl (only_free c es)
