-- What the source offers and settles in a run without loss: the files that cross.
use Rattle.std.proofs.Common.{◌≡◌, ℕ, ◌≤◌, Bool, true, false, cond, ◌&&◌, if◌then◌else◌, List, [], ◌∷◌, ◌++◌, map, Option, Some, None, refl, sym, ap, ◌∙◌, subst, arith, eq-eqb}
use Rattle.a429_profile.specs.Profile.{Contents, IsProfile}
use Rattle.a429_word.specs.declared.bus.Bus.TheVariants as bus
use Rattle.a429_ldu.specs.declared.forms.Form.{Form}
use Rattle.a429_ldu.specs.declared.forms.Form.TheVariants as form
use Rattle.a429_ldu.specs.Form.{form_of, word_number, is_free}
use Rattle.a429_ldu.specs.Ldu.{LduValue, IsLdu, bytes_of, block_of, count_of, is_final}
use Rattle.a429_ldu.proofs.FormFacts.{form_of-word_number}
use Rattle.a429_link.specs.declared.file.FileBytes.{FileBytes}
use Rattle.a429_link.specs.declared.number.UnitNumber.{UnitNumber}
use Rattle.a429_link.specs.declared.seen.Seen.{Seen}
use Rattle.a429_link.specs.declared.state.SourceState.TheVariants.{Awaiting, Waiting}
use Rattle.a429_link.specs.declared.step.Step.{Step}
use Rattle.a429_link.specs.declared.step.Step.TheVariants.{FreeSeen, Sent, SinkTakes}
use Rattle.a429_link.specs.Carry.{on_a, sends_word}
use Rattle.a429_link.specs.Clean.{clean_blocks, AllFit, shelved, without_free, requests, replies, block_steps, clean_steps, all_steps, first_of, rest_of, weave, IsRunOf}
use Rattle.a429_link.specs.Number.{first_number, number_after}
use Rattle.a429_link.specs.Run.{end_of, newest, offers, offered_from, settles, settled_from, is_final_unit}
use Rattle.a429_link.specs.Sink.{Number, Received, Sink, nothing_received, put}
use Rattle.a429_link.specs.Source.{Source, is_own_ack}
use Rattle.a429_link.specs.State.{State, start}
use Rattle.a429_link.specs.Step.{after}
use Rattle.a429_link.proofs.CleanRuns.{Comes, Ready, Records, at, heard_at, idle_at, sent_steps, block_split, owing, sound, block_sent, block_goes, joined_append, ready_next, start_ready, clean_goes, clean_records, none_left, weave_goes}
use Rattle.a429_link.proofs.MessageRead.{is_read}
use Rattle.a429_link.proofs.StateConfigs.{source_at, unit_number}
use Rattle.a429_link.proofs.SinkShelves.{newest_push}

-- what was offered and settled before these steps, and what is after them
pub record Books (p : Contents) (acts : List Step) (s : State) (o r : Received) (xs ys : List FileBytes) : Type 0 where
  pub offers : offered_from p acts s o ≡ r
  pub settles : settled_from p acts s o xs ≡ ys

-- ---- steps one after another

offered_append : (p : Contents) (fs gs : List Step) (s : State) (o : Received)
    → offered_from p (fs ++ gs) s o ≡ offered_from p gs (end_of p fs s) (offered_from p fs s o)
offered_append p [] gs s o = refl
offered_append p (a ∷ fs) gs s o = offered_append p fs gs (after p a s) (offers p a s o)

settled_append : (p : Contents) (fs gs : List Step) (s : State) (o : Received) (xs : List FileBytes)
    → settled_from p (fs ++ gs) s o xs ≡ settled_from p gs (end_of p fs s) (offered_from p fs s o) (settled_from p fs s o xs)
settled_append p [] gs s o xs = refl
settled_append p (a ∷ fs) gs s o xs = settled_append p fs gs (after p a s) (offers p a s o) (settles p a s o xs)

books_append : (p : Contents) (fs gs : List Step) (s t : State) (o r q : Received) (xs ys zs : List FileBytes)
    → end_of p fs s ≡ t → Books p fs s o r xs ys → Books p gs t r q ys zs → Books p (fs ++ gs) s o q xs zs
books_append p fs gs s t o r q xs ys zs e a b = record {
  offers = offered_append p fs gs s o ∙ ap (λ (z : State). offered_from p gs z (offered_from p fs s o)) e
      ∙ ap (offered_from p gs t) a.offers ∙ b.offers;
  settles =
      settled_append p fs gs s o xs
      ∙ ap (λ (z : State). settled_from p gs z (offered_from p fs s o) (settled_from p fs s o xs)) e
      ∙ ap (λ (z : Received). settled_from p gs t z (settled_from p fs s o xs)) a.offers
      ∙ ap (settled_from p gs t r) a.settles
      ∙ b.settles;
}

-- ---- one link data unit

-- the words of its block change neither
words_books : (p : Contents) (ws : List ℕ) (s : State) (o : Received) (xs : List FileBytes)
    → Books p (all_steps (map sends_word ws)) s o o xs xs
words_books p [] s o xs = record { offers = refl; settles = refl }
words_books p (w ∷ ws) s o xs =
    let more = words_books p ws (after p SinkTakes (after p (Sent (on_a w)) s)) o xs in
    record { offers = more.offers; settles = more.settles }

-- an answer settles a file where it is the acknowledgement of a final link data unit
reply_books : (p : Contents) (w : ℕ) (x : Form) (s : Source) (k : Sink) (o : Received) (xs : List FileBytes)
    → form_of p.codes bus.B w ≡ Some x
    → Books p (replies w) (heard_at s k) o o xs
    (if is_own_ack s.number s.phase x && is_final_unit p.codes s.current then xs ++ newest o.files else xs)
reply_books p w x s k o xs e = record { offers = refl; settles = rw e refl }

-- the link data unit is offered as it is loaded, under its number
asked_books : (p : Contents) (number : UnitNumber) (u : LduValue) (last : Option Number) (received : Received) (count : ℕ)
    (xs : List FileBytes)
    → Books p (requests p.codes u) (idle_at number last received count) received
    (put number.file (bytes_of p.codes u) (is_final p.codes u.flags) received) xs xs
asked_books p number u last received count xs = record { offers = refl; settles = refl }

sent_books : (p : Contents) → IsProfile p → (number : UnitNumber) (u : LduValue) (last : Option Number) (received : Received) (count : ℕ)
    (xs : List FileBytes) → 3 ≤ count_of u → count_of u ≤ 255
    → Books p (sent_steps p.codes number u) (idle_at number last received count) received
    (put number.file (bytes_of p.codes u) (is_final p.codes u.flags) received) xs xs
sent_books p is number u last received count xs some few =
    let s = idle_at number last received count in
    let o = put number.file (bytes_of p.codes u) (is_final p.codes u.flags) received in
    let asked = end_of p (requests p.codes u) s in
    let cts = word_number p.codes (form.Cts (count_of u)) in
    let block = block_of p.codes u number.file number.ldu in
    let clear =
    reply_books p cts (form.Cts (count_of u)) (source_at 0 number (Some u) Awaiting) asked.sink o xs
    (form_of-word_number p is (form.Cts (count_of u)) (some, few)) in
    books_append p (requests p.codes u) (replies cts ++ all_steps (map sends_word block)) s asked received o o xs xs xs refl
    (asked_books p number u last received count xs)
    (books_append p (replies cts) (all_steps (map sends_word block)) asked (end_of p (replies cts) asked) o o o xs xs xs refl clear
    (words_books p block (end_of p (replies cts) asked) o xs))

ack_books : (p : Contents) → IsProfile p → (number : UnitNumber) (u : LduValue) (k : Sink) (o : Received) (xs : List FileBytes)
    → number.file ≤ 255 → number.ldu ≤ 255
    → Books p (replies (word_number p.codes (form.Ack number.file number.ldu))) (at 0 number (Some u) Waiting k) o o xs
    (if is_final p.codes u.flags then xs ++ newest o.files else xs)
ack_books p is number u k o xs byte low =
    let x = form.Ack number.file number.ldu in
    let heard =
    reply_books p (word_number p.codes x) x (source_at 0 number (Some u) Waiting) k o xs (form_of-word_number p is x (byte, low)) in
    record {
      offers = heard.offers;
      settles = heard.settles ∙ rw (eq-eqb number.file number.file refl) (rw (eq-eqb number.ldu number.ldu refl) refl);
    }

-- where all files so far are settled, they are so after one more link data unit
all_settled : (file : ℕ) (bytes : List ℕ) (t : Bool) (o : Received)
    → cond t (o.files ++ newest (put file bytes t o).files) o.files ≡ (put file bytes t o).files
all_settled file bytes true o =
    ap (λ (l : List FileBytes). o.files ++ l) (newest_push (record { number = file; bytes = o.open_bytes ++ bytes }) o.files)
all_settled file bytes false o = refl

block_books : (p : Contents) → IsProfile p → (number : UnitNumber) (u : LduValue) → IsLdu p u
    → (last : Option Number) (received : Received) (count : ℕ) → Comes p number last received
    → Books p (all_steps (block_steps p.codes number u)) (idle_at number last received count) received
    (put number.file (bytes_of p.codes u) (is_final p.codes u.flags) received) received.files
    (put number.file (bytes_of p.codes u) (is_final p.codes u.flags) received).files
block_books p is number u h last received count c =
    let good = is_read p is in
    let s = sound p is u h in
    let first = good.first in
    let room = c.room in
    let least = s.fit.some in
    let most = s.fit.room in
    let o = put number.file (bytes_of p.codes u) (is_final p.codes u.flags) received in
    let sent = block_sent p good 0 number u h s last received count c in
    let before = sent_books p is number u last received count received.files (omega arith) (omega arith) in
    let ack = ack_books p is number u (owing number u last received) o received.files c.byte (omega arith) in
    let settled = all_settled number.file (bytes_of p.codes u) (is_final p.codes u.flags) received in
    subst (λ (acts : List Step). Books p acts (idle_at number last received count) received o received.files o.files)
    (sym (block_split p.codes number u))
    (books_append p _ _ _ _ received o o received.files received.files o.files sent.ends before
    (record { offers = ack.offers; settles = ack.settles ∙ settled }))

-- ---- all of them

pub clean_books : (p : Contents) → IsProfile p → (us : List LduValue) (number : UnitNumber) (last : Option Number) (received : Received)
    (count : ℕ) → AllFit p number us → Ready p number last received us
    → Books p (all_steps (clean_steps p.codes number us)) (idle_at number last received count) received
    (shelved p.codes number us received) received.files (shelved p.codes number us received).files
clean_books p is [] number last received count h r = record { offers = refl; settles = refl }
clean_books p is (u ∷ us) number last received count h r =
    let good = is_read p is in
    let o = put number.file (bytes_of p.codes u) (is_final p.codes u.flags) received in
    let next = number_after p.codes number u in
    let all = shelved p.codes next us o in
    let one = block_goes p good number u h.0 (sound p is u h.0) last received count r in
    let books = block_books p is number u h.0 last received count r in
    let more =
    clean_books p is us next (Some (unit_number p.codes number u)) o (count_of u) h.2
    (ready_next p good number u us received r.byte r.room h.2) in
    subst (λ (acts : List Step). Books p acts (idle_at number last received count) received all received.files all.files)
    (sym (joined_append (block_steps p.codes number u) (clean_steps p.codes next us)))
    (books_append p _ _ _ _ received o all received.files o.files all.files one.ends books more)

-- ---- free words between

woven_item : (p : Contents) (i : Seen) (items : List Seen) (gs : List (List Step)) (s : State) (o : Received) (xs : List FileBytes)
    (b : Bool)
    → Records gs (cond b (without_free p.codes items) (i ∷ without_free p.codes items))
    → ((hs : List (List Step)) (t : State) (r : Received) (ys : List FileBytes) → Records hs (without_free p.codes items)
    → Books p (weave p.codes items hs) t r (offered_from p (all_steps hs) t r) ys (settled_from p (all_steps hs) t r ys))
    → Books p (cond b (FreeSeen i ∷ weave p.codes items gs) (first_of gs ++ weave p.codes items (rest_of gs))) s o
    (offered_from p (all_steps gs) s o) xs (settled_from p (all_steps gs) s o xs)
woven_item p i items gs s o xs true r more = let next = more gs s o xs r in record { offers = next.offers; settles = next.settles }
woven_item p i items [] s o xs false r more = absurd r
woven_item p i items (g ∷ gs) s o xs false r more =
    let t = end_of p g s in
    let q = offered_from p g s o in
    let ys = settled_from p g s o xs in
    let all =
    books_append p g (weave p.codes items gs) s t o q (offered_from p (all_steps gs) t q) xs ys (settled_from p (all_steps gs) t q ys) refl
    (record { offers = refl; settles = refl }) (more gs t q ys r.1) in
    record {
      offers = all.offers ∙ sym (offered_append p g (all_steps gs) s o);
      settles = all.settles ∙ sym (settled_append p g (all_steps gs) s o xs);
    }

-- they change neither
weave_books : (p : Contents) (items : List Seen) (gs : List (List Step)) (s : State) (o : Received) (xs : List FileBytes)
    → Records gs (without_free p.codes items)
    → Books p (weave p.codes items gs) s o (offered_from p (all_steps gs) s o) xs (settled_from p (all_steps gs) s o xs)
weave_books p [] gs s o xs r = rw (none_left gs r) (record { offers = refl; settles = refl })
weave_books p (i ∷ items) gs s o xs r = woven_item p i items gs s o xs (is_free p.codes i.bus i.word) r (weave_books p items)

-- a recording of a run without loss is the trace of the woven steps, and the files of these cross
pub clean_is_run : (p : Contents) (file : ℕ) (us : List LduValue) (items : List Seen) → IsProfile p → file ≤ 255
    → AllFit p (first_number p.codes file) us → without_free p.codes items ≡ clean_blocks p.codes (first_number p.codes file) us
    → IsRunOf p file (weave p.codes items (clean_steps p.codes (first_number p.codes file) us)) items
    (shelved p.codes (first_number p.codes file) us nothing_received)
clean_is_run p file us items is f h e =
    let number = first_number p.codes file in
    let steps = clean_steps p.codes number us in
    let ready = start_ready p file us f h in
    let goes = clean_goes p is us number None nothing_received 0 h ready in
    let books = clean_books p is us number None nothing_received 0 h ready in
    let records = subst (Records steps) (sym e) (clean_records p.codes us number) in
    let woven = weave_goes p items steps (start p file) records goes.run in
    let both = weave_books p items steps (start p file) nothing_received [] records in
    record {
      run = woven.goes.run;
      records = woven.records;
      gives = ap (λ (s : State). s.sink.received.files) (woven.goes.ends ∙ goes.ends);
      offers = ap (λ (o : Received). o.files) (both.offers ∙ books.offers);
      settles = both.settles ∙ books.settles;
    }
