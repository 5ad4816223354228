-- Lines that are passed one after the other: the run that they list, and what it says of a certificate.
use Rattle.std.proofs.Common.{◌≡◌, ℕ, zero, suc, ◌+◌, ◌≤◌, List, [], ◌∷◌, ◌++◌, map, take, drop, length, Option, Some, None, option_map, slice_get, refl, sym, ap, ◌∙◌, subst, arith, append-nil}
use Rattle.std.proofs.lemmas.Option.{slice_get_within, same_Some, slice_get-map}
use Rattle.std.proofs.lemmas.List.{take_all, drop-drop}
use Rattle.a429_word.proofs.ListFacts.{next_item, none_past}
use Rattle.a429_profile.specs.Profile.{Contents, IsProfile}
use Rattle.a429_link.specs.declared.file.FileBytes.{FileBytes}
use Rattle.a429_link.specs.declared.seen.Seen.{Seen}
use Rattle.a429_link.specs.declared.step.Step.{Step}
use Rattle.a429_link.specs.Step.{Can, after, label}
use Rattle.a429_link.specs.State.{start, State}
use Rattle.a429_link.specs.Run.{IsRun, end_of, with_label, trace, delivered, offered, settled, IsSubsequenceOf}
use Rattle.a429_link.proofs.MessageRead.{is_read}
use Rattle.a429_link.proofs.SinkFromTrace.{same_delivered}
use Rattle.a429_link.proofs.RunCrossing.{delivered_subsequence, settled_subsequence}
use Rattle.a429_link.proofs.LinkKept.{end_push}
use Rattle.a429_cert.specs.declared.act.Act.{Act}
use Rattle.a429_cert.specs.declared.act.Act.TheVariants as act
use Rattle.a429_cert.specs.declared.line.CertLine.{CertLine}
use Rattle.a429_cert.specs.declared.line.CertLine.TheVariants.{First, Load, Moved}
use Rattle.a429_cert.specs.Line.{spelling, SpellsLine}
use Rattle.a429_cert.specs.declared.version.Version.{Version}
use Rattle.a429_cert.specs.declared.explained.Head.{Head}
use Rattle.a429_cert.specs.Lines.{certificate_lines}
use Rattle.a429_cert.specs.Version.{version_line, read_as, step_lines}
use Rattle.a429_cert.specs.Explained.{step_of, ShowsStates, ListsStep, ListsSteps, Leads, Reaches, Explains, IsExplained, AreInSomeRun, AreInEveryRun}
use Rattle.a429_cert.specs.Act.{step_with, uses_of}
use Rattle.a429_cert.specs.Fault.{HasHead}
use Rattle.a429_cert.specs.Passing.{uses, MakesStep, PassesText}
use Rattle.a429_cert.specs.Change.{change}

-- ---- lists

-- the first of what is left
pub drop_get : {X : Type 0} (xs : List X) (k : ℕ) → slice_get (drop k xs) 0 ≡ slice_get xs k
drop_get [] zero = refl
drop_get [] (suc k) = refl
drop_get (x ∷ xs) zero = refl
drop_get (x ∷ xs) (suc k) = drop_get xs k

-- ---- runs

pub trace_push : (steps : List Step) (a : Step) → trace (steps ++ a ∷ []) ≡ trace steps ++ trace (a ∷ [])
trace_push [] a = refl
trace_push (b ∷ steps) a = labelled (label b) (trace steps) (trace (a ∷ [])) (trace (steps ++ a ∷ [])) (trace_push steps a)
  where
    labelled : (l : Option Seen) (xs ys zs : List Seen) → zs ≡ xs ++ ys → with_label l zs ≡ with_label l xs ++ ys
    labelled None xs ys zs e = e
    labelled (Some i) xs ys zs e = ap (λ (l : List Seen). i ∷ l) e

pub lists_push : (p : Contents) (lines : List (Option (List ℕ))) (steps : List Step) (s : State) (text : List ℕ) (a : Step)
    → ListsSteps p lines steps s → ListsStep p text a (end_of p steps s) → ListsSteps p (lines ++ Some text ∷ []) (steps ++ a ∷ []) s
lists_push p [] [] s text a h t = (t, tt)
lists_push p [] (b ∷ steps) s text a h t = absurd h
lists_push p (None ∷ lines) steps s text a h t = absurd h
lists_push p (Some l ∷ lines) [] s text a h t = absurd h
lists_push p (Some l ∷ lines) (b ∷ steps) s text a h t = (h.0, lists_push p lines steps (after p b s) text a h.1 t)

-- lines that are steps are a run
pub lists_run : (p : Contents) (lines : List (Option (List ℕ))) (steps : List Step) (s : State)
    → ListsSteps p lines steps s → IsRun p steps s
lists_run p [] [] s h = tt
lists_run p [] (b ∷ steps) s h = absurd h
lists_run p (None ∷ lines) steps s h = absurd h
lists_run p (Some l ∷ lines) [] s h = absurd h
lists_run p (Some l ∷ lines) (b ∷ steps) s h = (h.0.can, lists_run p lines steps (after p b s) h.1)

-- ---- what a line uses

-- the entries that a step records are those that its letter uses
act_used : (x : Act) (a : Step) (items : List Seen) (i : ℕ) (next : Option Seen)
    → slice_get items i ≡ next → step_with x next ≡ Some a → take (i + uses_of x) items ≡ take i items ++ trace (a ∷ [])
act_used act.Sent a items i None g e = absurd (cc e)
act_used act.Sent a items i (Some w) g e = subst (λ b. take (i + 1) items ≡ take i items ++ trace (b ∷ [])) (same_Some _ a e)
    (let n : i + 1 ≡ suc i = omega arith in rw n (next_item i w items g))
act_used act.Answered a items i None g e = absurd (cc e)
act_used act.Answered a items i (Some w) g e = subst (λ b. take (i + 1) items ≡ take i items ++ trace (b ∷ [])) (same_Some _ a e)
    (let n : i + 1 ≡ suc i = omega arith in rw n (next_item i w items g))
act_used act.FreeSeen a items i None g e = absurd (cc e)
act_used act.FreeSeen a items i (Some w) g e = subst (λ b. take (i + 1) items ≡ take i items ++ trace (b ∷ [])) (same_Some _ a e)
    (let n : i + 1 ≡ suc i = omega arith in rw n (next_item i w items g))
act_used act.SentLost a items i next g e = subst (λ b. take (i + 0) items ≡ take i items ++ trace (b ∷ [])) (same_Some _ a e)
    (let n : i + 0 ≡ i = omega arith in rw n (sym (append-nil (take i items))))
act_used act.TimeOut a items i next g e = subst (λ b. take (i + 0) items ≡ take i items ++ trace (b ∷ [])) (same_Some _ a e)
    (let n : i + 0 ≡ i = omega arith in rw n (sym (append-nil (take i items))))
act_used act.TakeAnswer a items i next g e = subst (λ b. take (i + 0) items ≡ take i items ++ trace (b ∷ [])) (same_Some _ a e)
    (let n : i + 0 ≡ i = omega arith in rw n (sym (append-nil (take i items))))
act_used act.LoseAnswer a items i next g e = subst (λ b. take (i + 0) items ≡ take i items ++ trace (b ∷ [])) (same_Some _ a e)
    (let n : i + 0 ≡ i = omega arith in rw n (sym (append-nil (take i items))))
act_used act.SinkTakes a items i next g e = subst (λ b. take (i + 0) items ≡ take i items ++ trace (b ∷ [])) (same_Some _ a e)
    (let n : i + 0 ≡ i = omega arith in rw n (sym (append-nil (take i items))))
act_used act.Silent a items i next g e = subst (λ b. take (i + 0) items ≡ take i items ++ trace (b ∷ [])) (same_Some _ a e)
    (let n : i + 0 ≡ i = omega arith in rw n (sym (append-nil (take i items))))
act_used act.GiveUp a items i next g e = subst (λ b. take (i + 0) items ≡ take i items ++ trace (b ∷ [])) (same_Some _ a e)
    (let n : i + 0 ≡ i = omega arith in rw n (sym (append-nil (take i items))))

line_used : (l : CertLine) (a : Step) (items : List Seen) (i : ℕ)
    → step_of l (slice_get items i) ≡ Some a → take (i + uses l) items ≡ take i items ++ trace (a ∷ [])
line_used (First file) a items i e = absurd (cc e)
line_used (Load u) a items i e = subst (λ b. take (i + 0) items ≡ take i items ++ trace (b ∷ [])) (same_Some _ a e)
    (let n : i + 0 ≡ i = omega arith in rw n (sym (append-nil (take i items))))
line_used (Moved m) a items i e = act_used m.act a items i (slice_get items i) refl e

act_inside : (x : Act) (a : Step) (items : List Seen) (i : ℕ) (next : Option Seen)
    → slice_get items i ≡ next → step_with x next ≡ Some a → i ≤ length items → i + uses_of x ≤ length items
act_inside act.Sent a items i None g e l = absurd (cc e)
act_inside act.Sent a items i (Some w) g e l = let in' = slice_get_within items i w g in omega arith
act_inside act.Answered a items i None g e l = absurd (cc e)
act_inside act.Answered a items i (Some w) g e l = let in' = slice_get_within items i w g in omega arith
act_inside act.FreeSeen a items i None g e l = absurd (cc e)
act_inside act.FreeSeen a items i (Some w) g e l = let in' = slice_get_within items i w g in omega arith
act_inside act.SentLost a items i next g e l = omega arith
act_inside act.TimeOut a items i next g e l = omega arith
act_inside act.TakeAnswer a items i next g e l = omega arith
act_inside act.LoseAnswer a items i next g e l = omega arith
act_inside act.SinkTakes a items i next g e l = omega arith
act_inside act.Silent a items i next g e l = omega arith
act_inside act.GiveUp a items i next g e l = omega arith

line_inside : (l : CertLine) (a : Step) (items : List Seen) (i : ℕ)
    → step_of l (slice_get items i) ≡ Some a → i ≤ length items → i + uses l ≤ length items
line_inside (First file) a items i e l = absurd (cc e)
line_inside (Load u) a items i e l = omega arith
line_inside (Moved m) a items i e l = act_inside m.act a items i (slice_get items i) refl e l

-- ---- one more line

pub begins_at : (p : Contents) (from s : State) → s ≡ from → Leads p from [] [] s
begins_at p from s e = record { steps = []; lists = tt; used = refl; ends = e }

pub begins : (p : Contents) (first : ℕ) (s : State) → s ≡ start p first → Reaches p first [] [] s
begins p first s e = begins_at p (start p first) s e

-- what passes is a step, which comes behind the others
pub record Passed (p : Contents) (from : State) (lines : List (Option (List ℕ))) (items : List Seen) (k i : ℕ) (t : State)
    (before : List Step) (o : Option Step) : Type 0 where
  pub reached : Leads p from (take (suc k) lines) (take i items) t
  pub inside : i ≤ length items
  pub step : Step
  pub is : o ≡ Some step
  pub left_after : reached.steps ≡ before ++ step ∷ []

passed : (p : Contents) (from : State) (lines : List (Option (List ℕ))) (items : List Seen) (k i : ℕ) (text : List ℕ) (l : CertLine)
    (s t : State)
    → slice_get lines k ≡ Some (Some text) → SpellsLine text l → i ≤ length items → (h : Leads p from (take k lines) (take i items) s)
    → (o : Option Step) → step_of l (slice_get items i) ≡ o → MakesStep p o s t → ShowsStates l t
    → Passed p from lines items k (i + uses l) t h.steps (step_of l (slice_get items i))
passed p from lines items k i text l s t g is inside h None e m q = absurd m
passed p from lines items k i text l s t g is inside h (Some a) e m q =
    let can : Can p a (end_of p h.steps from) = subst (Can p a) h.ends m.0 in
    let same : t ≡ after p a (end_of p h.steps from) = m.1 ∙ ap (after p a) h.ends in
    let here : ListsStep p text a (end_of p h.steps from) =
    record { line = l; spelled = is; next = slice_get items i; step = e; can = can; shows = subst (ShowsStates l) same q } in
    record {
      reached = record {
        steps = h.steps ++ a ∷ [];
        lists = rw (next_item k (Some text) lines g) (lists_push p (take k lines) h.steps from text a h.lists here);
        used = trace_push h.steps a ∙ ap (λ (l : List Seen). l ++ trace (a ∷ [])) h.used ∙ sym (line_used l a items i e);
        ends = same ∙ sym (end_push p h.steps a from);
      };
      inside = line_inside l a items i e inside;
      step = a;
      is = e;
      left_after = refl;
    }

pub passes_from : (p : Contents) (from : State) (lines : List (Option (List ℕ))) (items : List Seen) (k i used : ℕ) (line : Option (List ℕ))
    (s t : State)
    → slice_get lines k ≡ Some line → i ≤ length items → (h : Leads p from (take k lines) (take i items) s)
    → (m : PassesText p line (slice_get items i) (change s t) used)
    → Passed p from lines items k (i + used) t h.steps (step_of m.0 (slice_get items i))
passes_from p from lines items k i used None s t g inside h m = absurd m.1
passes_from p from lines items k i used (Some text) s t g inside h m =
    subst (λ n. Passed p from lines items k (i + n) t h.steps (step_of m.0 (slice_get items i))) (sym m.2.2)
    (passed p from lines items k i text m.0 s t g m.1 inside h (step_of m.0 (slice_get items i)) refl m.2.0 m.2.1)

pub passes_on : (p : Contents) (first : ℕ) (lines : List (Option (List ℕ))) (items : List Seen) (k i used : ℕ) (line : Option (List ℕ))
    (s t : State)
    → slice_get lines k ≡ Some line → i ≤ length items → (h : Reaches p first (take k lines) (take i items) s)
    → (m : PassesText p line (slice_get items i) (change s t) used)
    → Passed p (start p first) lines items k (i + used) t h.steps (step_of m.0 (slice_get items i))
passes_on p first = passes_from p (start p first)

-- ---- the end

header_is : {X : Type 0} (xs : List X) (a b : X) → slice_get xs 0 ≡ Some a → slice_get xs 1 ≡ Some b → xs ≡ a ∷ (b ∷ drop 2 xs)
header_is [] a b e h = absurd (cc e)
header_is (x ∷ []) a b e h = absurd (cc h)
header_is (x ∷ (y ∷ xs)) a b e h = rw (same_Some x a e, same_Some y b h) refl

-- lines that are all passed, with all entries used
pub explains_all : (p : Contents) (certificate : List ℕ) (items : List Seen) (d : Head) (k i : ℕ) (s : State)
    → HasHead certificate d → slice_get (step_lines d.version certificate) k ≡ None → length items ≤ i
    → (h : Reaches p d.first (take k (step_lines d.version certificate)) (take i items) s) → Explains p certificate items d.first h.steps
explains_all p certificate items d k i s w g all h =
    record {
      version = d.version;
      lines = drop 2 (certificate_lines certificate);
      byte = w.1.0;
      header = header_is (certificate_lines certificate) (Some (version_line d.version)) (Some (spelling (First d.first))) w.0 w.1.1;
      lists =
          subst (λ (l : List (Option (List ℕ))). ListsSteps p l h.steps (start p d.first))
          (take_all k (step_lines d.version certificate) (none_past (step_lines d.version certificate) k g)) h.lists;
      used = h.used ∙ take_all i items all;
    }

pub explained : (p : Contents) (certificate : List ℕ) (items : List Seen) (d : Head) (k i : ℕ) (s : State)
    → HasHead certificate d → slice_get (step_lines d.version certificate) k ≡ None → length items ≤ i
    → Reaches p d.first (take k (step_lines d.version certificate)) (take i items) s → IsExplained p certificate items s.sink.received.files
explained p certificate items d k i s w g all h =
    record {
      first = d.first;
      steps = h.steps;
      explains = explains_all p certificate items d k i s w g all h;
      delivers = ap (λ (t : State). t.sink.received.files) h.ends;
    }

-- what explains is a run
pub in_some_run : (p : Contents) (certificate : List ℕ) (items : List Seen) (files : List FileBytes)
    → IsExplained p certificate items files → AreInSomeRun p items files
in_some_run p certificate items files h =
    record {
      first = h.first;
      byte = h.explains.byte;
      steps = h.steps;
      run = lists_run p (map (read_as h.explains.version) h.explains.lines) h.steps (start p h.first) h.explains.lists;
      recorded = h.explains.used;
      gives = h.delivers;
    }

-- what one run delivers, each run with its trace delivers
pub some_in_every : (p : Contents)
    → IsProfile p → (items : List Seen) (files : List FileBytes) → AreInSomeRun p items files → AreInEveryRun p items files
some_in_every p is items files own = record {
  delivered = λ f steps byte run same.
      let these = delivers f steps byte run same in (
        these,
        subst (λ (l : List FileBytes). IsSubsequenceOf l (offered p f steps)) (sym these)
            (delivered_subsequence p f steps (is_read p is) byte run),
      );
  settled = λ f steps byte run same.
      subst (λ (l : List FileBytes). IsSubsequenceOf (settled p f steps) l) (sym (delivers f steps byte run same))
      (settled_subsequence p f steps (is_read p is) byte run);
}
  where
    delivers : (f : ℕ) (steps : List Step) → f ≤ 255 → IsRun p steps (start p f) → trace steps ≡ items → files ≡ delivered p f steps
    delivers f steps byte run same =
        own.gives ∙ same_delivered p own.first f own.steps steps (is_read p is) own.byte byte own.run run (own.recorded ∙ sym same)

pub in_every_run : (p : Contents) → IsProfile p → (certificate : List ℕ) (items : List Seen) (files : List FileBytes)
    → IsExplained p certificate items files → AreInEveryRun p items files
in_every_run p is certificate items files h = some_in_every p is items files (in_some_run p certificate items files h)

-- ---- where a loop stands

pub line_here : {V : Type 0} (f : V → Option (List ℕ)) (lines : List (Option (List ℕ))) (left : List ℕ) (k : ℕ) (r : Option V) (x : V)
    → certificate_lines left ≡ drop k lines → option_map f r ≡ slice_get (certificate_lines left) 0 → r ≡ Some x
    → slice_get lines k ≡ Some (f x)
line_here f lines left k r x e g h =
    sym (drop_get lines k) ∙ ap (λ (l : List (Option (List ℕ))). slice_get l 0) (sym e) ∙ sym g ∙ ap (option_map f) h

pub none_here : {V : Type 0} (f : V → Option (List ℕ)) (lines : List (Option (List ℕ))) (left : List ℕ) (k : ℕ) (r : Option V)
    → certificate_lines left ≡ drop k lines → option_map f r ≡ slice_get (certificate_lines left) 0 → r ≡ None → slice_get lines k ≡ None
none_here f lines left k r e g h =
    sym (drop_get lines k) ∙ ap (λ (l : List (Option (List ℕ))). slice_get l 0) (sym e) ∙ sym g ∙ ap (option_map f) h

pub none_of : {V : Type 0} (r : Option V) → ((x : V) → r ≡ Some x → ⊥) → r ≡ None
none_of None h = refl
none_of (Some x) h = absurd (h x refl)

pub line_read : (v : Version) (lines : List (Option (List ℕ))) (k : ℕ) (line : Option (List ℕ))
    → slice_get lines k ≡ Some line → slice_get (map (read_as v) lines) k ≡ Some (read_as v line)
line_read v lines k line e = slice_get-map (read_as v) lines k ∙ ap (option_map (read_as v)) e

pub none_read : (v : Version) (lines : List (Option (List ℕ))) (k : ℕ)
    → slice_get lines k ≡ None → slice_get (map (read_as v) lines) k ≡ None
none_read v lines k e = slice_get-map (read_as v) lines k ∙ ap (option_map (read_as v)) e

pub left_on : (lines : List (Option (List ℕ))) (left more : List ℕ) (k : ℕ) → certificate_lines left ≡ drop k lines
    → certificate_lines more ≡ drop 1 (certificate_lines left) → certificate_lines more ≡ drop (suc k) lines
left_on lines left more k e g = let n : k + 1 ≡ suc k = omega arith in g ∙ ap (drop 1) e ∙ drop-drop 1 k lines ∙ ap (λ m. drop m lines) n

pub passed_on : (p : Contents) (first : ℕ) (lines : List (Option (List ℕ))) (items : List Seen) (k i used : ℕ) (line : Option (List ℕ))
    (next : Option Seen) (s t : State)
    → slice_get lines k ≡ Some line → next ≡ slice_get items i → i ≤ length items → (h : Reaches p first (take k lines) (take i items) s)
    → (m : PassesText p line next (change s t) used)
    → Passed p (start p first) lines items k (i + used) t h.steps (step_of m.0 (slice_get items i))
passed_on p first lines items k i used line next s t g o inside h m =
    passes_on p first lines items k i used line s t g inside h (subst (λ x. PassesText p line x (change s t) used) o m)
