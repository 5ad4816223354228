-- What a listener has heard where a replay along a certificate's lines stands.
use Rattle.std.proofs.Common.{◌≡◌, ◌≢◌, ◌≤◌, ◌+◌, ◌∙◌, ◌++◌, ◌∷◌, ℕ, suc, List, [], length, take, drop, true, false, Option, Some, None, slice_get, Result, Ok, Err, IfErr, IsErrOf, refl, sym, ap, subst, arith}
use Rattle.std.specs.List.{FoldsTo}
use Rattle.std.proofs.lemmas.List.{length-take-le}
use Rattle.std.proofs.lemmas.Option.{same_Some}
use Rattle.a429_word.proofs.ListFacts.{none_past}
use Rattle.a429_profile.specs.Profile.{Contents}
use Rattle.a429_link.specs.declared.file.FileBytes.{FileBytes}
use Rattle.a429_ldu.specs.Ldu.{LduValue}
use Rattle.a429_link.specs.declared.seen.Seen.{Seen}
use Rattle.a429_link.specs.declared.step.Step.{Step}
use Rattle.a429_link.specs.declared.step.Step.TheVariants as step
use Rattle.a429_link.specs.Step.{Can, after}
use Rattle.a429_link.specs.State.{State, start}
use Rattle.a429_link.specs.Run.{end_of, trace}
use Rattle.a429_link.specs.Link.{with_earlier, handed_out}
use Rattle.a429_link.proofs.LinkCalls.{handed_earlier}
use Rattle.a429_record.specs.declared.entry.Entry.{Entry}
use Rattle.a429_record.specs.declared.fault.ReadFault.{ReadFault}
use Rattle.a429_record.specs.Recording.{Recording, whole}
use Rattle.a429_record.specs.Rows.{GivesNext}
use Rattle.a429_cert.specs.declared.act.Act.{Act}
use Rattle.a429_cert.specs.declared.act.Act.TheVariants as act
use Rattle.a429_cert.specs.declared.line.CertLine.{CertLine}
use Rattle.a429_cert.specs.declared.line.CertLine.TheVariants.{First, Load, Moved}
use Rattle.a429_cert.specs.declared.line.MovedLine.{MovedLine}
use Rattle.a429_cert.specs.declared.listed.Listed.{Listed}
use Rattle.a429_cert.specs.declared.listed.Listed.TheVariants as listed
use Rattle.a429_cert.specs.declared.explained.Head.{Head}
use Rattle.a429_cert.specs.Lines.{certificate_lines}
use Rattle.a429_cert.specs.Version.{read_as, step_lines}
use Rattle.a429_cert.specs.CutLines.{GivesLine}
use Rattle.a429_cert.specs.Act.{step_with, uses_of}
use Rattle.a429_cert.specs.Explained.{items_of, listed_ldu, step_of, Reaches}
use Rattle.a429_cert.specs.Fault.{at_line, SaysLine, IsOfAStep, IsFaultOfStep}
use Rattle.a429_cert.specs.Passing.{uses_listed, IsStepOfLine, PassesText, Lists}
use Rattle.a429_cert.specs.declared.fault.CertFault.{CertFault}
use Rattle.a429_cert.specs.declared.fault.CertFault.TheVariants as of
use Rattle.a429_cert.specs.declared.stream_fault.StreamFault.{StreamFault}
use Rattle.a429_cert.specs.declared.stream_fault.StreamFault.TheVariants as stream
use Rattle.a429_cert.specs.declared.replay.Replay.{Replay}
use Rattle.a429_cert.specs.Stream.{left_after, next_of, PassesOver, TakesNext, RefusesNext, EndsNext, IsNotTaken, of_cert}
use Rattle.a429_cert.specs.StreamExplained.{WhereBothKnown}
use Rattle.a429_cert.specs.Report.{listening, position, Report, Loads, Makes, with_number, report_of, reports_of_steps, reports_of_run, Hearing, IsHeard, report_of_listed, entry_used, HearsListed, HearsText}
use Rattle.a429_cert.proofs.ReadingFacts.{one-line}
use Rattle.a429_cert.proofs.StreamFacts.{refused_next}
use Rattle.a429_cert.proofs.ExplainedFacts.{drop_get, none_read, passes_on, explains_all}
use Rattle.a429_cert.proofs.StreamStands.{Stands, says_back, next_at, line_cut, text_back}
use Rattle.a429_cert.proofs.EarlierFiles.{text_earlier}
use Rattle.a429_cert.proofs.StreamReplay.{none_next}
use Rattle.a429_cert.specs.Change.{change}

-- ---- what is told of steps

folds_on : {T : Type 0} (R : T → Report → T → Type 0) (a : T) (xs : List Report) (b : T) (x : Report) (c : T) → FoldsTo R a xs b → R b x c
    → FoldsTo R a (xs ++ x ∷ []) c
folds_on R a [] b x c h g = (c, subst (λ q. R q x c) (sym h) g, refl)
folds_on R a (y ∷ xs) b x c h g = (h.0, h.1, folds_on R h.0 xs b x c h.2 g)

-- of one more
reports_push : (p : Contents) (es : List Entry) (steps : List Step) (a : Step) (s : State) (i : ℕ)
    → reports_of_steps p es (steps ++ a ∷ []) s i ≡ reports_of_steps p es steps s i
    ++ report_of es (end_of p steps s) (i + length (trace steps)) a ∷ []
reports_push p es [] a s i = let n : i + 0 ≡ i = omega arith in rw n refl
reports_push p es (b ∷ steps) a s i =
    let one = length (trace (b ∷ [])) in
    let more = length (trace steps) in
    let n : i + one + more ≡ i + length (trace (b ∷ steps)) = count_on b steps i in
    ap (λ (l : List Report). report_of es s i b ∷ l) (reports_push p es steps a (after p b s) (i + one)
    ∙ ap (λ (k : ℕ). reports_of_steps p es steps (after p b s) (i + one) ++ report_of es (end_of p steps (after p b s)) k a ∷ []) n)
  where
    count_on : (b : Step) (steps : List Step) (i : ℕ) → i + length (trace (b ∷ [])) + length (trace steps) ≡ i + length (trace (b ∷ steps))
    count_on (step.Load u) steps i = omega arith
    count_on (step.Sent item) steps i = omega arith
    count_on step.SentLost steps i = omega arith
    count_on step.TimeOut steps i = omega arith
    count_on step.TakeAnswer steps i = omega arith
    count_on step.LoseAnswer steps i = omega arith
    count_on step.SinkTakes steps i = omega arith
    count_on step.Silent steps i = omega arith
    count_on (step.Answered item) steps i = omega arith
    count_on (step.FreeSeen item) steps i = omega arith
    count_on step.GiveUp steps i = omega arith

-- ---- what is told of a line is what is told of its step

some_step : (o : Step) (a : Step) → Some o ≡ Some a → o ≡ a
some_step o a e = same_Some o a e

report_of_act : (es : List Entry) (s : State) (i : ℕ) (x : Act) (next : Option Seen) (a : Step)
    → slice_get (items_of es) i ≡ next → step_with x next ≡ Some a
    → Makes x (with_number i (entry_used (uses_of x) (drop i es))) ≡ report_of es s i a
report_of_act es s i act.Sent None a g e = absurd (cc e)
report_of_act es s i act.Sent (Some item) a g e =
    ap (λ o. Makes act.Sent (with_number i o)) (drop_get es i) ∙ ap (report_of es s i) (some_step (step.Sent item) a e)
report_of_act es s i act.Answered None a g e = absurd (cc e)
report_of_act es s i act.Answered (Some item) a g e =
    ap (λ o. Makes act.Answered (with_number i o)) (drop_get es i) ∙ ap (report_of es s i) (some_step (step.Answered item) a e)
report_of_act es s i act.FreeSeen None a g e = absurd (cc e)
report_of_act es s i act.FreeSeen (Some item) a g e =
    ap (λ o. Makes act.FreeSeen (with_number i o)) (drop_get es i) ∙ ap (report_of es s i) (some_step (step.FreeSeen item) a e)
report_of_act es s i act.SentLost next a g e = ap (report_of es s i) (some_step step.SentLost a e)
report_of_act es s i act.TimeOut next a g e = ap (report_of es s i) (some_step step.TimeOut a e)
report_of_act es s i act.TakeAnswer next a g e = ap (report_of es s i) (some_step step.TakeAnswer a e)
report_of_act es s i act.LoseAnswer next a g e = ap (report_of es s i) (some_step step.LoseAnswer a e)
report_of_act es s i act.SinkTakes next a g e = ap (report_of es s i) (some_step step.SinkTakes a e)
report_of_act es s i act.Silent next a g e = ap (report_of es s i) (some_step step.Silent a e)
report_of_act es s i act.GiveUp next a g e = ap (report_of es s i) (some_step step.GiveUp a e)

report_of_line : (es : List Entry) (s : State) (i : ℕ) (x : Listed) (l : CertLine) (a : Step)
    → IsStepOfLine x l → step_of l (slice_get (items_of es) i) ≡ Some a
    → report_of_listed s.source.number x (with_number i (entry_used (uses_listed x) (drop i es))) ≡ report_of es s i a
report_of_line es s i (listed.Load u) (Load l) a is e = ap (λ v. Loads s.source.number v) is ∙ ap (report_of es s i) (some_step _ a e)
report_of_line es s i (listed.Moved m) (Moved l) a is e =
    report_of_act es s i m.act (slice_get (items_of es) i) a refl
    (ap (λ (q : MovedLine). step_with q.act (slice_get (items_of es) i)) is ∙ e)
report_of_line es s i (listed.Load u) (First file) a is e = absurd is
report_of_line es s i (listed.Load u) (Moved l) a is e = absurd is
report_of_line es s i (listed.Moved m) (First file) a is e = absurd is
report_of_line es s i (listed.Moved m) (Load l) a is e = absurd is

-- ---- where a listener stands

-- it has heard the steps of k lines over the first i entries
pub record Hears {T : Type 0} (hears : Hearing T) (p : Contents) (first : ℕ) (lines : List (Option (List ℕ))) (r : Recording) (k i : ℕ)
    (s : State) (old now : T) : Type 0 where
  pub reached : Reaches p first (take k lines) (take i (items_of r.entries)) s
  pub heard : FoldsTo (hears p) old (reports_of_run p r.entries first reached.steps) now

says_one : (text : Option (List ℕ)) (l m : CertLine) → SaysLine text l → SaysLine text m → l ≡ m
says_one None l m a b = absurd a
says_one (Some text) l m a b = one-line text l m a b

-- one more line
hears_line : {T : Type 0} (hears : Hearing T) (p : Contents) (first : ℕ) (lines : List (Option (List ℕ))) (r : Recording) (k i used : ℕ)
    (line : Option (List ℕ)) (s t : State) (old now new : T)
    → slice_get lines k ≡ Some line → i ≤ length (items_of r.entries) → Hears hears p first lines r k i s old now
    → PassesText p line (slice_get (items_of r.entries) i) (change s t) used
    → HearsText (listening hears now new) p line (position s (Some (left_after i r)) i)
    → Hears hears p first lines r (suc k) (i + used) t old new
hears_line hears p first lines r k i used line s t old now new g inside h m q =
    let on = passes_on p first lines (items_of r.entries) k i used line s t g inside h.reached m in
    let steps = h.reached.steps in
    let same : m.0 ≡ q.0 = says_one line m.0 q.0 m.1 q.2 in
    let is : step_of q.0 (slice_get (items_of r.entries) i) ≡ Some on.step =
    ap (λ (l : CertLine). step_of l (slice_get (items_of r.entries) i)) (sym same) ∙ on.is in
    let what : report_of_listed s.source.number q.1 (with_number i (entry_used (uses_listed q.1) (drop i r.entries)))
    ≡ report_of r.entries s i on.step =
    report_of_line r.entries s i q.1 q.0 on.step q.3 is in
    let count : length (trace steps) ≡ i = ap (λ (l : List Seen). length l) h.reached.used ∙ length-take-le i (items_of r.entries) inside in
    let place : 0 + length (trace steps) ≡ i = omega (arith, count) in
    let last : report_of r.entries s i on.step ≡ report_of r.entries (end_of p steps (start p first)) (0 + length (trace steps)) on.step =
    rw (sym h.reached.ends, place) refl in
    let all : reports_of_run p r.entries first steps ++ report_of r.entries s i on.step ∷ []
    ≡ reports_of_run p r.entries first on.reached.steps =
    ap (λ (x : Report). reports_of_run p r.entries first steps ++ x ∷ []) last
    ∙ sym (reports_push p r.entries steps on.step (start p first) 0) ∙ ap (reports_of_run p r.entries first) (sym on.left_after) in
    record {
      reached = on.reached;
      heard = subst (λ (l : List Report). FoldsTo (hears p) old l new) all
          (folds_on (hears p) old (reports_of_run p r.entries first steps) now (report_of r.entries s i on.step) new h.heard
          (subst (λ (x : Report). hears p now x new) what q.4));
    }

-- ---- along a replay, where both are known

pub both_known_with : (known : Option (List ℕ)) (rec : Option Recording) (A B C : List ℕ → Recording → Type 0)
    → ((text : List ℕ) (r : Recording) → A text r → B text r → C text r) → WhereBothKnown known rec A → WhereBothKnown known rec B
    → WhereBothKnown known rec C
both_known_with None rec A B C f a b = tt
both_known_with (Some text) None A B C f a b = tt
both_known_with (Some text) (Some r) A B C f a b = f text r a b

both_known_all : (known : Option (List ℕ)) (rec : Option Recording) (A : List ℕ → Recording → Type 0)
    → ((text : List ℕ) (r : Recording) → A text r) → WhereBothKnown known rec A
both_known_all None rec A f = tt
both_known_all (Some text) None A f = tt
both_known_all (Some text) (Some r) A f = f text r

-- nothing at first
pub hears_init : {T : Type 0} (hears : Hearing T) (p : Contents) (d : Head) (s : State) (old : T) (known : Option (List ℕ))
    (rec : Option Recording)
    → s ≡ start p d.first
    → WhereBothKnown known rec (λ text r. Hears hears p d.first (step_lines d.version text) r 0 0 (with_earlier [] s) old old)
hears_init hears p d s old known rec z =
    both_known_all known rec (λ text r. Hears hears p d.first (step_lines d.version text) r 0 0 (with_earlier [] s) old old)
    (λ text r. record { reached = record { steps = []; lists = tt; used = refl; ends = z }; heard = refl })

hears_more : {T : Type 0} (hears : Hearing T) (p : Contents) (d : Head) (k i used : ℕ) (taken : List FileBytes) (s t : State)
    (held left more : Option (List ℕ)) (rec new_rec : Option Recording) (old now new : T) (text : List ℕ) (r : Recording)
    → GivesLine left more held true → PassesOver p (read_as d.version held) (change s t) (change rec new_rec) used
    → HearsText (listening hears now new) p (read_as d.version held) (position s rec i)
    → Stands p text r d k i taken s left rec → Hears hears p d.first (step_lines d.version text) r k i (with_earlier taken s) old now
    → Hears hears p d.first (step_lines d.version text) r (suc k) (i + used)
    (with_earlier (taken ++ t.sink.received.files) (handed_out t)) old new
hears_more hears p d k i used taken s t held left more rec new_rec old now new text r g m q h b =
    let lines = drop 2 (certificate_lines text) in
    let items = items_of r.entries in
    let read = read_as d.version held in
    let raw = line_cut d.version lines k left more held h.lines g in
    let here = subst (λ o. PassesOver p read (change s t) (change o new_rec) used) h.rest m in
    let passes = subst (λ o. PassesText p read o (change s t) used) (next_at r.entries i) here.0 in
    let passed =
    text_back p raw.0 read (slice_get items i) (with_earlier taken s) (with_earlier taken t) used raw.2
    (text_earlier p read (slice_get items i) taken s t used passes) in
    let reports = subst (λ o. HearsText (listening hears now new) p read (position s o i)) h.rest q in
    let says : SaysLine raw.0 reports.0 = says_back raw.0 reports.0 (subst (λ o. SaysLine o reports.0) (sym raw.2) reports.2) in
    subst (λ (z : State). Hears hears p d.first (step_lines d.version text) r (suc k) (i + used) z old new) (sym (handed_earlier taken t))
    (hears_line hears p d.first (step_lines d.version text) r k i used raw.0 (with_earlier taken s)
    (with_earlier taken t) old now new raw.1 h.inside b passed (reports.0, reports.1, says, reports.3, reports.4))

pub hears_on : {T : Type 0} (hears : Hearing T) (p : Contents) (d : Head) (k i used : ℕ) (taken : List FileBytes) (s t : State)
    (held known left more : Option (List ℕ)) (start_rec rec new_rec : Option Recording) (old now new : T)
    → GivesLine left more held true → PassesOver p (read_as d.version held) (change s t) (change rec new_rec) used
    → HearsText (listening hears now new) p (read_as d.version held) (position s rec i)
    → WhereBothKnown known start_rec (λ text r. Stands p text r d k i taken s left rec)
    → WhereBothKnown known start_rec (λ text r. Hears hears p d.first (step_lines d.version text) r k i (with_earlier taken s) old now)
    → WhereBothKnown known start_rec (λ text r. Hears hears p d.first (step_lines d.version text) r (suc k) (i + used)
    (with_earlier (taken ++ t.sink.received.files) (handed_out t)) old new)
hears_on hears p d k i used taken s t held known left more start_rec rec new_rec old now new g m q =
    both_known_with known start_rec (λ text r. Stands p text r d k i taken s left rec)
    (λ text r. Hears hears p d.first (step_lines d.version text) r k i (with_earlier taken s) old now)
    (λ text r. Hears hears p d.first (step_lines d.version text) r (suc k) (i + used)
    (with_earlier (taken ++ t.sink.received.files) (handed_out t)) old new)
    (λ text r h b. hears_more hears p d k i used taken s t held left more rec new_rec old now new text r g m q h b)

-- ---- the end

hears_end : {T : Type 0} (hears : Hearing T) (p : Contents) (d : Head) (k i : ℕ) (taken : List FileBytes) (s : State)
    (held left more : Option (List ℕ)) (rec new_rec : Option Recording) (old now : T) (text : List ℕ) (r : Recording)
    → GivesLine left more held false → GivesNext rec new_rec (Ok None) → Stands p text r d k i taken s left rec
    → Hears hears p d.first (step_lines d.version text) r k i (with_earlier taken s) old now → IsHeard (listening hears old now) p text r
hears_end hears p d k i taken s held left more rec new_rec old now text r g e h b =
    let end : left_after i r ≡ whole [] = subst (λ o. GivesNext o new_rec (Ok None)) h.rest e in
    let items = items_of r.entries in
    let all : length items ≤ i = none_past items i (sym (next_at r.entries i) ∙ ap next_of end) in
    let none =
    none_read d.version (drop 2 (certificate_lines text)) k (none_next (drop 2 (certificate_lines text)) k left more held h.lines g) in
    record {
      first = d.first;
      steps = b.reached.steps;
      explains = explains_all p text items d k i (with_earlier taken s) h.says none all b.reached;
      heard = b.heard;
    }

pub hears_all : {T : Type 0} (hears : Hearing T) (p : Contents) (d : Head) (k i : ℕ) (taken : List FileBytes) (s : State)
    (held known left more : Option (List ℕ)) (start_rec rec new_rec : Option Recording) (old now : T)
    → GivesLine left more held false → GivesNext rec new_rec (Ok None)
    → WhereBothKnown known start_rec (λ text r. Stands p text r d k i taken s left rec)
    → WhereBothKnown known start_rec (λ text r. Hears hears p d.first (step_lines d.version text) r k i (with_earlier taken s) old now)
    → WhereBothKnown known start_rec (IsHeard (listening hears old now) p)
hears_all hears p d k i taken s held known left more start_rec rec new_rec old now g e =
    both_known_with known start_rec (λ text r. Stands p text r d k i taken s left rec)
    (λ text r. Hears hears p d.first (step_lines d.version text) r k i (with_earlier taken s) old now)
    (IsHeard (listening hears old now) p) (λ text r h b. hears_end hears p d k i taken s held left more rec new_rec old now text r g e h b)

-- ---- a line that was read

-- what is told of what a line of the text lists
pub hears_text : {T : Type 0} (hears : Hearing T) (p : Contents) (text : Option (List ℕ)) (x : Listed) (s : State) (rec : Option Recording)
    (i : ℕ) (old new : T)
    → Lists p text x s → HearsListed (listening hears old new) p x (position s rec i)
    → HearsText (listening hears old new) p text (position s rec i)
hears_text hears p text x s rec i old new h g = (h.0, x, h.1, h.2, g)

-- ---- a line that is not taken

-- where no link data unit may be loaded
pub not_loaded : (replay : Replay) (u : LduValue) (next : Option Seen) → (Can replay.link.profile (step.Load u) replay.link.state → ⊥)
    → IsNotTaken replay (listed.Load u) next (stream.Cert (of.NotAllowed replay.lines))
not_loaded replay u next cannot = (λ l is z. by l is, λ e. cc)
  where
    by : (l : CertLine) → IsStepOfLine (listed.Load u) l → IsOfAStep l
        × IsFaultOfStep replay.link.profile replay.link.state (at_line replay.lines replay.used next) l (of.NotAllowed replay.lines)
    by (First file) is = absurd is
    by (Load l) is = (
      tt,
      (
        refl,
        λ n.
            cannot (subst (λ (v : LduValue). Can replay.link.profile (step.Load v) replay.link.state) (sym is)
            (subst (λ (a : Step). Can replay.link.profile a replay.link.state)
            (sym (some_step (step.Load (listed_ldu l)) n.1.0 n.1.1)) n.1.2)),
      ),
    )
    by (Moved l) is = absurd is

-- in the order of recording and certificate
pub ends_next : (replay : Replay) (x : Listed) (old new : Option Recording) (next : Option Seen) (f : StreamFault)
    → TakesNext (uses_listed x) old new next → IsNotTaken replay x next f → EndsNext replay x old f
ends_next replay x old new next (stream.Cert f) g h =
    subst (RefusesNext replay.link.profile x (position replay.link.state old replay.used) replay.lines) (same f h.1)
    (refused_next replay.link.profile x replay.link.state old new next replay.lines replay.used f g h.0)
  where
    same : (f : CertFault) → f ≢ of.OutOfMemory → of_cert f ≡ stream.Cert f
    same of.OutOfMemory n = absurd (n refl)
    same of.Version n = refl
    same (of.Line m) n = refl
    same (of.NotAllowed m) n = refl
    same (of.StateDiffers m) n = refl
    same (of.WordDiffers m j) n = refl
    same (of.Unfinished j) n = refl
ends_next replay x None new next (stream.Read f) g h = tt
ends_next replay x (Some r) new next (stream.Read f) g h = absurd h
ends_next replay x None new next stream.Device g h = tt
ends_next replay x (Some r) new next stream.Device g h = tt
ends_next replay x None new next stream.OutOfMemory g h = tt
ends_next replay x (Some r) new next stream.OutOfMemory g h = tt

-- no fault of the recording is among them
pub not_read : (replay : Replay) (x : Listed) (r : Result ℕ StreamFault) (f : ReadFault)
    → IfErr r (λ e. (next : Option Seen) → IsNotTaken replay x next e) → IsErrOf r (stream.Read f) → ⊥
not_read replay x (Ok used) f h e = absurd (cc e)
not_read replay x (Err fault) f h e = let same : fault ≡ stream.Read f = cc e in subst (IsNotTaken replay x None) same (h None)
