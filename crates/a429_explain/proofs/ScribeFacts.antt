-- What the scribe has written: its text is one of lines, and each line lists a step of a run.
use Rattle.std.proofs.Common.{◌≡◌, ◌≢◌, ℕ, zero, suc, ◌≤◌, ◌<◌, length, Bool, false, ◌||◌, List, [], ◌∷◌, ◌++◌, map, take, slice_get, Option, Some, None, Result, Ok, Err, OnOk, IfErr, refl, sym, ap, ◌∙◌, subst, arith, append_assoc, append-nil}
use Rattle.std.specs.List.{AllByRecursion}
use Rattle.std.proofs.Math.Bool.{or-false, or_assoc}
use Rattle.a429_profile.specs.Profile.{Contents}
use Rattle.a429_ldu.specs.Ldu.{LduValue, IsLdu}
use Rattle.a429_link.specs.declared.seen.Seen.{Seen}
use Rattle.a429_link.specs.declared.step.Step.{Step}
use Rattle.a429_link.specs.declared.step.Step.TheVariants as step
use Rattle.a429_link.specs.declared.state.SourceState.{SourceState}
use Rattle.a429_link.specs.declared.state.SourceState.TheVariants as source
use Rattle.a429_link.specs.Link.{LinkValue}
use Rattle.a429_link.specs.declared.fault.StepFault.{StepFault}
use Rattle.a429_link.specs.declared.fault.StepFault.TheVariants as fault
use Rattle.a429_link.specs.Run.{IsRun, BeginsARun, end_of, IsBounded, SentFew, TookFew, trace, with_label}
use Rattle.a429_link.specs.Source.{IsIdle}
use Rattle.a429_link.specs.Sink.{Sink, Listens, SinkPhase, Quiet, OwesClear, Granted, InBlock, OwesAck, OwesNak}
use Rattle.a429_link.specs.Step.{Can, after, label}
use Rattle.a429_link.specs.State.{start, State, sink_state_of, states_of}
use Rattle.a429_explain.specs.declared.attempts.StartNumbers.{StartNumbers}
use Rattle.a429_link.specs.declared.carry.NextWord.{NextWord}
use Rattle.a429_link.specs.Carry.{on_a}
use Rattle.a429_link.proofs.CarryFacts.{can_send, can_take}
use Rattle.a429_link.proofs.LinkKept.{end_push}
use Rattle.a429_link.proofs.CleanRuns.{run_split, end_append}
use Rattle.a429_cert.specs.declared.act.Act.{Act}
use Rattle.a429_cert.specs.declared.act.Act.TheVariants as act
use Rattle.a429_cert.specs.declared.line.CertLine.{CertLine}
use Rattle.a429_cert.specs.declared.line.CertLine.TheVariants.{First, Load, Moved}
use Rattle.a429_cert.specs.Line.{spelling, IsLine, IsHeld}
use Rattle.a429_cert.specs.States.{IsSink, IsSource}
use Rattle.a429_cert.specs.declared.version.Version.{Version}
use Rattle.a429_cert.specs.declared.version.Version.TheVariants.{One, Two}
use Rattle.a429_cert.specs.Version.{version_line, is_give_up, gives_up, least_version}
use Rattle.a429_cert.specs.Lines.{certificate_lines}
use Rattle.a429_cert.specs.Likely.{sent_line, taken_line}
use Rattle.a429_cert.specs.BlockText.{word_lines}
use Rattle.a429_cert.proofs.LikelyFacts.{sent_spells, taken_spells, ends_there}
use Rattle.a429_cert.proofs.PairFacts.{least_place, sent_shows, taken_shows}
use Rattle.a429_cert.proofs.VersionFacts.{least_lists}
use Rattle.a429_explain.specs.Explanation.{HasLeastVersion, IsRefusedAt, IsWhyNotWritten}
use Rattle.a429_explain.specs.declared.guess.Guess.{Guess}
use Rattle.a429_explain.specs.Plan.{plan_for, plans_after}
use Rattle.a429_explain.specs.declared.explanation.Refusal.{Refusal}
use Rattle.a429_explain.specs.declared.explanation.Refusal.TheVariants.{NotReplayed, OutOfMemory}
use Rattle.a429_cert.specs.Explained.{step_of, ShowsStates, ListsSteps, IsExplained, Explains}
use Rattle.a429_cert.specs.Act.{step_with, letter_of}
use Rattle.a429_cert.proofs.LineShape.{IsVisible, line-visible}
use Rattle.a429_cert.proofs.ExplainedFacts.{trace_push, lists_push, lists_run, in_some_run}
use Rattle.a429_explain.specs.declared.attempts.Role.{Role}
use Rattle.a429_explain.specs.declared.attempts.Role.TheVariants.{Request}
use Rattle.a429_explain.specs.declared.plan.Plan.{Plan}
use Rattle.a429_explain.specs.declared.scribe.Scribe.{Scribe}
use Rattle.a429_explain.specs.Note.{in_version, line_after, line_of}
use Rattle.a429_explain.specs.Scribe.{OnlyLacksMemory, CannotWrite, IsLossless, lossless_steps, lines_text, HasWritten, with_next, WritesNext, link_after, CanMake, giving_up, begin_steps, sent, IsAtRest, IsClosing, Closes, ClosesOn, HasAsked, IsReadyWord}

-- ---- the lines of a text

abbrev AreVisible : List (List ℕ) → Type 0
AreVisible [] = Unit {0}
AreVisible (line ∷ lines) = AllByRecursion IsVisible line × AreVisible lines

abbrev ended : List (List ℕ) → List (Option (List ℕ))
ended lines = map (λ line. Some line) lines

-- ---- lines, each with a line feed after it

abbrev ended_text : List (List ℕ) → List ℕ
ended_text [] = []
ended_text (line ∷ lines) = line ++ 10 ∷ ended_text lines

lines_of_text : (lines : List (List ℕ)) → AreVisible lines → certificate_lines (ended_text lines) ≡ ended lines
lines_of_text [] h = refl
lines_of_text (line ∷ lines) h =
    ends_there line (ended_text lines) h.0 ∙ ap (λ (l : List (Option (List ℕ))). Some line ∷ l) (lines_of_text lines h.1)

-- the same text, where each has one before it but the first
all_ended : (line : List ℕ) (lines : List (List ℕ)) → line ++ (lines_text lines ++ 10 ∷ []) ≡ ended_text (line ∷ lines)
all_ended line [] = refl
all_ended line (l ∷ lines) = ap (λ (t : List ℕ). line ++ 10 ∷ t) (append_assoc l (lines_text lines) (10 ∷ []) ∙ all_ended l lines)

text_push : (lines : List (List ℕ)) (line : List ℕ) → lines_text (lines ++ line ∷ []) ≡ lines_text lines ++ 10 ∷ line
text_push [] line = ap (λ (t : List ℕ). 10 ∷ t) (append-nil line)
text_push (l ∷ lines) line = ap (λ (t : List ℕ). 10 ∷ (l ++ t)) (text_push lines line)
    ∙ ap (λ (t : List ℕ). 10 ∷ t) (sym (append_assoc l (lines_text lines) (10 ∷ line)))

ended_push : (lines : List (List ℕ)) (line : List ℕ) → ended (lines ++ line ∷ []) ≡ ended lines ++ Some line ∷ []
ended_push [] line = refl
ended_push (l ∷ lines) line = ap (λ (t : List (Option (List ℕ))). Some l ∷ t) (ended_push lines line)

-- lines that list steps have no line feeds
listed_visible : (p : Contents) (lines : List (List ℕ)) (steps : List Step) (s : State)
    → ListsSteps p (ended lines) steps s → AreVisible lines
listed_visible p [] steps s h = tt
listed_visible p (l ∷ lines) [] s h = absurd h
listed_visible p (l ∷ lines) (a ∷ steps) s h = (
  subst (AllByRecursion IsVisible) (sym h.0.spelled.spelled) (line-visible h.0.line h.0.spelled.line h.0.spelled.held),
  listed_visible p lines steps (after p a s) h.1,
)

version_visible : (v : Version) → AllByRecursion IsVisible (version_line v)
version_visible One = omega arith
version_visible Two = omega arith

-- ---- what is written

-- the first two lines
pub written_first : (first : ℕ) (p : Contents) (text : List ℕ) (l : LinkValue)
    → first ≤ 255 → text ≡ line_after (First first) → l ≡ record { profile = p; state = start p first } → HasWritten first [] text false l
written_first first p text l byte e same =
    rw same (record {
      byte = byte;
      lines = [];
      steps = [];
      text_is = e ∙ ap (λ (t : List ℕ). 10 ∷ t) (sym (append-nil (spelling (First first))));
      lists = tt;
      used = refl;
      ends = refl;
      gave_up_is = refl;
    })

with_trace : (a : Step) (items : List Seen) → items ++ trace (a ∷ []) ≡ with_next (label a) items
with_trace a items = by (label a)
  where
    by : (o : Option Seen) → items ++ with_label o [] ≡ with_next o items
    by None = append-nil items
    by (Some i) = refl

gives_up-push : (steps : List Step) (a : Step) → gives_up (steps ++ a ∷ []) ≡ (gives_up steps || is_give_up a)
gives_up-push [] a = or-false (is_give_up a)
gives_up-push (b ∷ steps) a =
    ap (λ (t : Bool). is_give_up b || t) (gives_up-push steps a) ∙ sym (or_assoc (is_give_up b) (gives_up steps) (is_give_up a))

-- one more line
pub written_on : (items : List Seen) (first : ℕ) (text more : List ℕ) (gave gives : Bool) (l m : LinkValue) (a : Step) (line : CertLine)
    (next : Option Seen)
    → HasWritten first items text gave l → gives ≡ (gave || is_give_up a) → m ≡ link_after (a ∷ []) l → more ≡ text ++ line_after line
    → IsLine line → IsHeld line → step_of line next ≡ Some a → Can l.profile a l.state → ShowsStates line (after l.profile a l.state)
    → HasWritten first (with_next (label a) items) more gives m
written_on items first text more gave gives l m a line next h given same e is held of can shows =
    let p = l.profile in
    let s = start p first in
    subst (HasWritten first (with_next (label a) items) more gives) (sym same) (record {
      byte = h.byte;
      lines = h.lines ++ spelling line ∷ [];
      steps = h.steps ++ a ∷ [];
      text_is =
          e ∙ ap (λ (t : List ℕ). t ++ line_after line) h.text_is ∙ sym (text_push (spelling (First first) ∷ h.lines) (spelling line));
      lists =
          subst (λ t. ListsSteps p t (h.steps ++ a ∷ []) s) (sym (ended_push h.lines (spelling line)))
          (lists_push p (ended h.lines) h.steps s (spelling line) a h.lists (record {
            line = line;
            spelled = record { line = is; held = held; spelled = refl };
            next = next;
            step = of;
            can = subst (Can p a) h.ends can;
            shows = subst (λ t. ShowsStates line (after p a t)) h.ends shows;
          }));
      used = trace_push h.steps a ∙ ap (λ (t : List Seen). t ++ trace (a ∷ [])) h.used ∙ with_trace a items;
      ends = ap (after p a) h.ends ∙ sym (end_push p h.steps a s);
      gave_up_is = given ∙ ap (λ (t : Bool). t || is_give_up a) h.gave_up_is ∙ sym (gives_up-push h.steps a);
    })

explains : (items : List Seen) (first : ℕ) (text : List ℕ) (gave : Bool) (l : LinkValue)
    → (h : HasWritten first items text gave l) → Explains l.profile (in_version gave text) items first h.steps
explains items first text gave l h =
    let p = l.profile in
    let v = least_version h.steps in
    let visible = listed_visible p h.lines h.steps (start p first) h.lists in
    let text_is : in_version gave text ≡ ended_text (version_line v ∷ spelling (First first) ∷ h.lines) =
    ap (λ (b : Bool). in_version b text) h.gave_up_is ∙ ap (in_version (gives_up h.steps)) h.text_is
    ∙ all_ended (version_line v) (spelling (First first) ∷ h.lines) in
    record {
      version = v;
      lines = ended h.lines;
      byte = h.byte;
      header = ap certificate_lines text_is ∙ lines_of_text (version_line v ∷ spelling (First first) ∷ h.lines) (
        version_visible v,
        (line-visible (First first) tt (omega (arith, h.byte)), visible),
      );
      lists = least_lists p (ended h.lines) h.steps (start p first) h.lists;
      used = h.used;
    }

-- the text explains the words written, by a run that delivers what the link has delivered
pub certificate_written : (items : List Seen) (first : ℕ) (text : List ℕ) (gave : Bool) (l : LinkValue)
    → HasWritten first items text gave l → IsExplained l.profile (in_version gave text) items l.state.sink.received.files
certificate_written items first text gave l h =
    record {
      first = first;
      steps = h.steps;
      explains = explains items first text gave l h;
      delivers = ap (λ (s : State). s.sink.received.files) h.ends;
    }

-- and is of the least version
pub version_written : (items : List Seen) (first : ℕ) (text : List ℕ) (gave : Bool) (l : LinkValue)
    → HasWritten first items text gave l → HasLeastVersion l.profile (in_version gave text) items
unfolding explains
version_written items first text gave l h =
    record { first = first; steps = h.steps; explains = explains items first text gave l h; least = refl }

-- the words written begin a run
pub run_begun : (items : List Seen) (first : ℕ) (text : List ℕ) (gave : Bool) (l : LinkValue)
    → HasWritten first items text gave l → BeginsARun l.profile items
run_begun items first text gave l h =
    let r =
    in_some_run l.profile (in_version gave text) items l.state.sink.received.files (certificate_written items first text gave l h) in
    record { first = r.first; byte = r.byte; steps = r.steps; run = r.run; more = []; records = r.recorded ∙ sym (append-nil items) }

-- so the words before an entry whose steps are refused do
pub why_refused : (p : Contents) (items : List Seen) (g : Guess) (n : ℕ) (f : StepFault) (r : Refusal)
    → (f ≡ fault.OutOfMemory → r ≡ OutOfMemory) → (f ≢ fault.OutOfMemory → r ≡ NotReplayed n) → n < length items
    → BeginsARun p (take n items) → (f ≢ fault.OutOfMemory → IsRefusedAt p items g n) → IsWhyNotWritten p items g r
why_refused p items g n fault.OutOfMemory r memory other l h k = rw (memory refl) tt
why_refused p items g n fault.NotAllowed r memory other l h k = rw (other (λ e. cc e)) (l, h, k (λ e. cc e))
why_refused p items g n fault.WordDiffers r memory other l h k = rw (other (λ e. cc e)) (l, h, k (λ e. cc e))

-- the entry after those that were written
pub refused_next : (items : List Seen) (g : Guess) (n : ℕ) (i : Seen) (r : Role) (plan : Option Plan) (text : List ℕ) (gave : Bool)
    (l : LinkValue)
    → slice_get items n ≡ Some i → slice_get g.roles.items n ≡ Some r
    → plan ≡ plan_for r n (plans_after (take n g.roles.items) 0 g.plans.items) → HasWritten g.first_file (take n items) text gave l
    → CannotWrite r i plan l → IsRefusedAt l.profile items g n
refused_next items g n i r plan text gave l is role planned h cannot = record {
  item = i;
  is = is;
  steps = h.steps;
  run = lists_run l.profile (map (λ line. Some line) h.lines) h.steps (start l.profile g.first_file) h.lists;
  records = h.used;
  role = r;
  role_is = role;
  cannot =
      subst (λ (s : State).
      CannotWrite r i (plan_for r n (plans_after (take n g.roles.items) 0 g.plans.items)) (record { profile = l.profile; state = s }))
      h.ends (subst (λ (o : Option Plan). CannotWrite r i o l) planned cannot);
}

-- what is refused for another reason than memory cannot be made
pub not_made : {X : Type 0} (r : Result X StepFault) (Ready Made : Type 0)
    → (Ready → Made → OnlyLacksMemory r) → IfErr r (λ e. e ≢ fault.OutOfMemory → Ready → ¬ Made)
not_made (Ok x) Ready Made h = tt
not_made (Err e) Ready Made h = λ other ready made. other (h ready made)

-- the steps of a request can be made only if those before it can
pub asking_parts : (plan : Option Plan) (i : Seen) (l : LinkValue)
    → CanMake (begin_steps plan ++ sent i) l → CanMake (begin_steps plan) l × CanMake (sent i) (link_after (begin_steps plan) l)
asking_parts plan i l can = run_split l.profile (begin_steps plan) (sent i) l.state can

-- ---- the line of a step

-- the letter of a step stands for it
lettered : (a : Step) (x : Act) → letter_of a ≡ Some x → (next : Option Seen) × (step_with x next ≡ Some a)
lettered (step.Load u) x e = absurd (cc e)
lettered (step.Sent i) x e =
    let same : act.Sent ≡ x = cc in subst (λ y. (next : Option Seen) × (step_with y next ≡ Some (step.Sent i))) same (Some i, refl)
lettered step.SentLost x e =
    let same : act.SentLost ≡ x = cc in subst (λ y. (next : Option Seen) × (step_with y next ≡ Some step.SentLost)) same (None, refl)
lettered step.TimeOut x e =
    let same : act.TimeOut ≡ x = cc in subst (λ y. (next : Option Seen) × (step_with y next ≡ Some step.TimeOut)) same (None, refl)
lettered step.TakeAnswer x e =
    let same : act.TakeAnswer ≡ x = cc in subst (λ y. (next : Option Seen) × (step_with y next ≡ Some step.TakeAnswer)) same (None, refl)
lettered step.LoseAnswer x e =
    let same : act.LoseAnswer ≡ x = cc in subst (λ y. (next : Option Seen) × (step_with y next ≡ Some step.LoseAnswer)) same (None, refl)
lettered step.SinkTakes x e =
    let same : act.SinkTakes ≡ x = cc in subst (λ y. (next : Option Seen) × (step_with y next ≡ Some step.SinkTakes)) same (None, refl)
lettered step.Silent x e =
    let same : act.Silent ≡ x = cc in subst (λ y. (next : Option Seen) × (step_with y next ≡ Some step.Silent)) same (None, refl)
lettered (step.Answered i) x e =
    let same : act.Answered ≡ x = cc in subst (λ y. (next : Option Seen) × (step_with y next ≡ Some (step.Answered i))) same (Some i, refl)
lettered step.GiveUp x e =
    let same : act.GiveUp ≡ x = cc in subst (λ y. (next : Option Seen) × (step_with y next ≡ Some step.GiveUp)) same (None, refl)
lettered (step.FreeSeen i) x e =
    let same : act.FreeSeen ≡ x = cc in subst (λ y. (next : Option Seen) × (step_with y next ≡ Some (step.FreeSeen i))) same (Some i, refl)

-- the line of a state can be written
abbrev pub line_at : Act → State → CertLine
line_at x s = Moved (record { act = x; states = states_of s })

pub line_is : (x : Act) (s : State) → IsBounded s → IsLine (line_at x s)
line_is x s b = (source_is s.source.phase b.sent, sink_is s.sink.phase b.took)
  where
    source_is : (q : SourceState) → SentFew q → IsSource q
    source_is source.Idle h = tt
    source_is source.Awaiting h = tt
    source_is (source.Sending k) h = h
    source_is source.Waiting h = tt

    sink_is : (q : SinkPhase) → TookFew q → IsSink (sink_state_of q)
    sink_is Quiet h = tt
    sink_is OwesClear h = tt
    sink_is Granted h = tt
    sink_is (InBlock k) h = (omega arith, h)
    sink_is (OwesAck k f) h = tt
    sink_is OwesNak h = tt

-- a step is made, and its line is written
pub make_written : {X E : Type 0} (r : Result X E) (s t : Scribe) (m : LinkValue) (a : Step) (x : Act) (line : CertLine)
    → letter_of a ≡ Some x → Can s.link.profile a s.link.state → m ≡ link_after (a ∷ []) s.link → t.link ≡ m
    → t.gave_up ≡ (s.gave_up || is_give_up a) → line ≡ line_at x m.state → IsBounded m.state → OnOk r (t.lines ≡ s.lines ++ line_after line)
    → IsHeld line → OnOk r (WritesNext (label a) s t)
make_written (Err e) s t m a x line letter can made same gives is bounds w h = tt
make_written (Ok z) s t m a x line letter can made same gives is bounds w h =
    let named = lettered a x letter in
    λ first items k. written_on items first s.lines t.lines s.gave_up t.gave_up s.link t.link a line named.0 k gives (same ∙ made) w
    (subst IsLine (sym is) (line_is x m.state bounds)) h
    (ap (λ (y : CertLine). step_of y named.0) is ∙ named.1)
    can
    (subst (λ y. ShowsStates y (after s.link.profile a s.link.state)) (sym is) (ap {A = LinkValue} (λ q. states_of q.state) (sym made)))

-- a data word is sent and taken, and both lines are written
pub carry_written : (s t : Scribe) (next : NextWord) → IsReadyWord s.link next → t.link ≡ link_after (sent (on_a next.word)) s.link
    → t.gave_up ≡ s.gave_up → t.lines ≡ s.lines ++ word_lines next.place → WritesNext (Some (on_a next.word)) s t
carry_written s t next h made gives w first items k =
    let p = s.link.profile in
    let i = on_a next.word in
    let place = next.place in
    let least = least_place p next s.link.state h.0 in
    let mid = link_after (step.Sent i ∷ []) s.link in
    let sends = sent_spells place least h.1 in
    let takes = taken_spells place least h.1 in
    let one =
    written_on items first s.lines (s.lines ++ line_after (sent_line place)) s.gave_up s.gave_up s.link mid (step.Sent i) (sent_line place)
    (Some i) k (sym (or-false s.gave_up)) refl refl sends.line sends.held refl (can_send p next s.link.state h.0)
    (sent_shows p next s.link.state h.0) in
    let text = w ∙ sym (append_assoc s.lines (line_after (sent_line place)) (line_after (taken_line place))) in
    written_on (items ++ i ∷ []) first (s.lines ++ line_after (sent_line place)) t.lines s.gave_up t.gave_up mid t.link step.SinkTakes
    (taken_line place) None one (gives ∙ sym (or-false s.gave_up)) made text takes.line takes.held refl (can_take p next s.link.state h.0)
    (taken_shows p next s.link.state h.0)

-- a link data unit is loaded, and its line is written
pub load_written : {X E : Type 0} (r : Result X E) (s t : Scribe) (u : LduValue) → IsLdu s.link.profile u
    → OnOk r (Can s.link.profile (step.Load u) s.link.state) → OnOk r (t.link ≡ link_after (step.Load u ∷ []) s.link)
    → t.gave_up ≡ s.gave_up → t.lines ≡ s.lines ++ line_after (Load (line_of u)) → IsHeld (Load (line_of u)) → OnOk r (WritesNext None s t)
load_written (Err e) s t u is can made gives w h = tt
load_written (Ok z) s t u is can made gives w h =
    λ first items k. written_on items first s.lines t.lines s.gave_up t.gave_up s.link t.link (step.Load u) (Load (line_of u)) None k
    (gives ∙ sym (or-false s.gave_up)) made w (is.gfi, is.flags, is.length.0, is.length.1) h refl can tt

-- ---- files given up

idle_first : (p : Contents) (n : ℕ) (u : LduValue) (s : State) → IsRun p (giving_up n ++ step.Load u ∷ []) s → IsIdle s.source.phase
idle_first p zero u s h = h.0.0
idle_first p (suc n) u s h = h.0.0

-- the sink knows nothing of them
sink_stays : (p : Contents) (n : ℕ) (u : LduValue) (s : State) → (end_of p (giving_up n ++ step.Load u ∷ []) s).sink ≡ s.sink
sink_stays p zero u s = refl
sink_stays p (suc n) u s = sink_stays p n u (after p step.GiveUp s)

-- a plan can be carried out where its steps can be made
pub plan_can : (plan : Plan) (l : LinkValue) → CanMake (begin_steps (Some plan)) l
    → CanMake (giving_up plan.give_ups) l × Can l.profile (step.Load plan.unit) (link_after (giving_up plan.give_ups) l).state
plan_can plan l can =
    let parts = run_split l.profile (giving_up plan.give_ups) (step.Load plan.unit ∷ []) l.state can in (parts.0, parts.1.0)

-- they are its steps
pub plan_made : (plan : Plan) (l : LinkValue)
    → link_after (step.Load plan.unit ∷ []) (link_after (giving_up plan.give_ups) l) ≡ link_after (begin_steps (Some plan)) l
plan_made plan l =
    ap (λ (s : State). record l { state = s }) (sym (end_append l.profile (giving_up plan.give_ups) (step.Load plan.unit ∷ []) l.state))

-- ---- a request that nothing is lost before

pub record Asks (r : Role) (i : Seen) (plan : Option Plan) (l : LinkValue) : Type 0 where
  pub rests : IsAtRest l
  pub can : CanMake (begin_steps plan) l
  pub sends : CanMake (sent i) (link_after (begin_steps plan) l)
  pub leads : link_after (lossless_steps r i plan) l ≡ link_after (sent i) (link_after (begin_steps plan) l)

pub asks_parts : (r : Role) (n : ℕ) (start : Option StartNumbers) (i : Seen) (plan : Option Plan) (l : LinkValue)
    → r ≡ Request n start → IsLossless r plan → CanMake (lossless_steps r i plan) l → Asks r i plan l
asks_parts r n start i plan l e h run =
    subst (λ q. Asks q i plan l) (sym e)
    (by plan (subst (λ q. IsLossless q plan) e h) (subst (λ q. CanMake (lossless_steps q i plan) l) e run))
  where
    by : (o : Option Plan)
        → IsLossless (Request n start) o → CanMake (lossless_steps (Request n start) i o) l → Asks (Request n start) i o l
    by None f q = absurd (cc f)
    by (Some x) f q =
        let begin = begin_steps (Some x) in
        let parts = run_split l.profile begin (sent i) l.state q in
        record {
          rests = (
            idle_first l.profile x.give_ups x.unit l.state parts.0,
            subst (λ (k : Sink). Listens k.phase) (sink_stays l.profile x.give_ups x.unit l.state) parts.1.1.0.1,
          );
          can = parts.0;
          sends = parts.1;
          leads = ap (λ (s : State). record l { state = s }) (end_append l.profile begin (sent i) l.state);
        }

-- ---- a request, whatever was lost before it

all_push : (steps : List Step) (a : Step) → AllByRecursion IsClosing steps → IsClosing a → AllByRecursion IsClosing (steps ++ a ∷ [])
all_push [] a h k = (k, tt)
all_push (b ∷ steps) a h k = (h.0, all_push steps a h.1 k)

pub closes_none : (l : LinkValue) → Closes l l
closes_none l = record { steps = []; closing = tt; leads = refl }

pub closes_on : {X E : Type 0} (r : Result X E) (l m : LinkValue) (a : Step)
    → m ≡ link_after (a ∷ []) l → IsClosing a → OnOk r (ClosesOn l m)
closes_on (Err e) l m a made h = tt
closes_on (Ok x) l m a made h = λ k c. record {
  steps = c.steps ++ a ∷ [];
  closing = all_push c.steps a c.closing h;
  leads = made ∙ ap (link_after (a ∷ [])) c.leads
      ∙ ap (λ (s : State). record k { state = s }) (sym (end_append k.profile c.steps (a ∷ []) k.state));
}

pub has_asked : {X E : Type 0} (r : Result X E) (role : Role) (n : ℕ) (start : Option StartNumbers) (i : Seen) (plan : Option Plan)
    (l closed begun m : LinkValue)
    → role ≡ Request n start → Closes l closed → begun ≡ link_after (begin_steps plan) closed → OnOk r (m ≡ link_after (sent i) begun)
    → OnOk r (HasAsked role i plan l m)
has_asked (Err e) role n start i plan l closed begun m is closes b h = tt
has_asked (Ok x) role n start i plan l closed begun m is closes b h =
    let begin = begin_steps plan in
    subst (λ (q : Role). HasAsked q i plan l m) (sym is) (
      closed,
      closes,
      h ∙ ap (link_after (sent i)) b
          ∙ ap (λ (s : State). record closed { state = s }) (sym (end_append closed.profile begin (sent i) closed.state)),
    )

pub on_ok : {X E : Type 0} {A B : Type 0} (r : Result X E) → OnOk r A → (A → B) → OnOk r B
on_ok (Ok x) a f = f a
on_ok (Err e) a f = tt
