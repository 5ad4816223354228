-- A certificate that explains a recording has no first fault.
use Rattle.std.proofs.Common.{◌≡◌, ◌⊎◌, inl, inr, ℕ, zero, suc, ◌+◌, ◌≤◌, List, [], ◌∷◌, map, take, drop, Option, Some, None, slice_get, refl, sym, ap, ◌∙◌, subst, arith}
use Rattle.std.proofs.lemmas.Option.{same_Some}
use Rattle.a429_profile.specs.Profile.{Contents}
use Rattle.a429_link.specs.declared.seen.Seen.{Seen}
use Rattle.a429_link.specs.declared.step.Step.{Step}
use Rattle.a429_link.specs.declared.step.Step.TheVariants as step
use Rattle.a429_link.specs.Step.{after, label}
use Rattle.a429_link.specs.State.{start, State}
use Rattle.a429_link.specs.Run.{end_of, with_label, trace}
use Rattle.a429_cert.specs.declared.act.Act.{Act}
use Rattle.a429_cert.specs.declared.act.Act.TheVariants as act
use Rattle.a429_cert.specs.declared.line.CertLine.{CertLine}
use Rattle.a429_cert.specs.declared.line.CertLine.TheVariants.{First, Load, Moved}
use Rattle.a429_cert.specs.declared.fault.CertFault.{CertFault}
use Rattle.a429_cert.specs.declared.fault.CertFault.TheVariants as of
use Rattle.a429_cert.specs.Line.{spelling, SpellsLine}
use Rattle.a429_cert.specs.declared.version.Version.{Version}
use Rattle.a429_cert.specs.declared.version.Version.TheVariants.{One, Two}
use Rattle.a429_cert.specs.Lines.{certificate_lines}
use Rattle.a429_cert.specs.Version.{version_line, read_as, step_lines}
use Rattle.a429_cert.specs.Explained.{listed_ldu, step_of, ShowsStates, ListsStep, ListsSteps, Explains}
use Rattle.a429_cert.specs.Act.{step_with}
use Rattle.a429_cert.specs.Fault.{at_line, IsVersioned, IsFaultOfHead, IsOfAStep, IsFaultOfStep, IsFaultOfLine, IsFaultAt, IsLaterFault, IsFirstCertFault}
use Rattle.a429_cert.proofs.ReadingFacts.{one-line}

-- ---- two steps of one line

-- they are one step that records nothing, or record a word each and are else the same
abbrev Alike : Step → Step → Type 0
Alike a b = ((a ≡ b) × (label a ≡ None))
    ⊎ ((f : Seen → Step) × (x : Seen) × (y : Seen) × (f x ≡ a) × (f y ≡ b) × ((z : Seen) → label (f z) ≡ Some z))

recorded : (f : Seen → Step) (next other : Seen) (a b : Step) → ((z : Seen) → label (f z) ≡ Some z) → Some (f next) ≡ Some a
    → Some (f other) ≡ Some b → Alike a b
recorded f x y a b l e h = inr (f, x, y, same_Some (f x) a e, same_Some (f y) b h, l)

silent : (c a b : Step) → label c ≡ None → Some c ≡ Some a → Some c ≡ Some b → Alike a b
silent c a b l e h = inl (sym (same_Some c a e) ∙ same_Some c b h, ap label (sym (same_Some c a e)) ∙ l)

alike : (x : Act) (next other : Option Seen) (a b : Step) → step_with x next ≡ Some a → step_with x other ≡ Some b → Alike a b
alike act.Sent None other a b e h = absurd (cc e)
alike act.Sent (Some i) None a b e h = absurd (cc h)
alike act.Sent (Some i) (Some j) a b e h = recorded (λ z. step.Sent z) i j a b (λ z. refl) e h
alike act.Answered None other a b e h = absurd (cc e)
alike act.Answered (Some i) None a b e h = absurd (cc h)
alike act.Answered (Some i) (Some j) a b e h = recorded (λ z. step.Answered z) i j a b (λ z. refl) e h
alike act.FreeSeen None other a b e h = absurd (cc e)
alike act.FreeSeen (Some i) None a b e h = absurd (cc h)
alike act.FreeSeen (Some i) (Some j) a b e h = recorded (λ z. step.FreeSeen z) i j a b (λ z. refl) e h
alike act.SentLost next other a b e h = silent step.SentLost a b refl e h
alike act.TimeOut next other a b e h = silent step.TimeOut a b refl e h
alike act.TakeAnswer next other a b e h = silent step.TakeAnswer a b refl e h
alike act.LoseAnswer next other a b e h = silent step.LoseAnswer a b refl e h
alike act.SinkTakes next other a b e h = silent step.SinkTakes a b refl e h
alike act.Silent next other a b e h = silent step.Silent a b refl e h
alike act.GiveUp next other a b e h = silent step.GiveUp a b refl e h

line_alike : (l : CertLine) (next other : Option Seen) (a b : Step) → step_of l next ≡ Some a → step_of l other ≡ Some b → Alike a b
line_alike (First file) next other a b e h = absurd (cc e)
line_alike (Load u) next other a b e h = silent (step.Load (listed_ldu u)) a b refl e h
line_alike (Moved m) next other a b e h = alike m.act next other a b e h

-- the first of two runs that begin with them: they are one, and the rest is alike
record Same (a b : Step) (xs ys : List Step) (i : ℕ) : Type 0 where
  same : b ≡ a
  k : ℕ
  rest : trace ys ≡ take k (trace xs)
  next : slice_get (trace (a ∷ xs)) i ≡ slice_get (trace xs) k

one_word : (a b : Step) (f : Seen → Step) (x y : Seen) (xs ys : List Step) (i : ℕ) → f x ≡ a → f y ≡ b → label a ≡ Some x
    → y ∷ trace ys ≡ take i (x ∷ trace xs) → Same a b xs ys i
one_word a b f x y xs ys zero ea eb l q = absurd (cc q)
one_word a b f x y xs ys (suc i) ea eb l q =
    let head : y ≡ x = cc in
    let tail : trace ys ≡ take i (trace xs) = cc in
    record { same = sym eb ∙ ap f head ∙ ea; k = i; rest = tail; next = rw l refl }

heads : (a b : Step) (xs ys : List Step) (i : ℕ) → Alike a b → trace (b ∷ ys) ≡ take i (trace (a ∷ xs)) → Same a b xs ys i
heads a b xs ys i (inl s) q =
    let one : trace (a ∷ xs) ≡ trace xs = ap (λ o. with_label o (trace xs)) s.1 in
    let two : trace (b ∷ ys) ≡ trace ys = ap (λ o. with_label o (trace ys)) (ap label (sym s.0) ∙ s.1) in
    record { same = sym s.0; k = i; rest = sym two ∙ q ∙ ap (take i) one; next = ap (λ (l : List Seen). slice_get l i) one }
heads a b xs ys i (inr s) q =
    let la : label a ≡ Some s.1 = ap label (sym s.3) ∙ s.5 s.1 in
    let lb : label b ≡ Some s.2 = ap label (sym s.4) ∙ s.5 s.2 in
    let one : trace (a ∷ xs) ≡ s.1 ∷ trace xs = ap (λ o. with_label o (trace xs)) la in
    let two : trace (b ∷ ys) ≡ s.2 ∷ trace ys = ap (λ o. with_label o (trace ys)) lb in
    one_word a b s.0 s.1 s.2 xs ys i s.3 s.4 la (sym two ∙ q ∙ ap (take i) one)

-- ---- a line that is a step has no fault

first_word : (w : Seen) (items : List Seen) (i : ℕ) → [] ≡ take i (w ∷ items) → slice_get (w ∷ items) i ≡ Some w
first_word w items zero e = refl
first_word w items (suc i) e = absurd (cc e)

-- the entry that a step of this letter uses is the next one
own_act : (x : Act) (next : Option Seen) (a : Step) (xs : List Step) (i : ℕ)
    → step_with x next ≡ Some a → [] ≡ take i (trace (a ∷ xs)) → step_with x (slice_get (trace (a ∷ xs)) i) ≡ Some a
own_act act.Sent None a xs i e q = absurd (cc e)
own_act act.Sent (Some w) a xs i e q =
    subst (λ c. [] ≡ take i (trace (c ∷ xs)) → step_with act.Sent (slice_get (trace (c ∷ xs)) i) ≡ Some c) (same_Some (step.Sent w) a e)
    (λ r. ap (step_with act.Sent) (first_word w (trace xs) i r)) q
own_act act.Answered None a xs i e q = absurd (cc e)
own_act act.Answered (Some w) a xs i e q =
    subst (λ c. [] ≡ take i (trace (c ∷ xs)) → step_with act.Answered (slice_get (trace (c ∷ xs)) i) ≡ Some c)
    (same_Some (step.Answered w) a e) (λ r. ap (step_with act.Answered) (first_word w (trace xs) i r)) q
own_act act.FreeSeen None a xs i e q = absurd (cc e)
own_act act.FreeSeen (Some w) a xs i e q =
    subst (λ c. [] ≡ take i (trace (c ∷ xs)) → step_with act.FreeSeen (slice_get (trace (c ∷ xs)) i) ≡ Some c)
    (same_Some (step.FreeSeen w) a e) (λ r. ap (step_with act.FreeSeen) (first_word w (trace xs) i r)) q
own_act act.SentLost next a xs i e q = e
own_act act.TimeOut next a xs i e q = e
own_act act.TakeAnswer next a xs i e q = e
own_act act.LoseAnswer next a xs i e q = e
own_act act.SinkTakes next a xs i e q = e
own_act act.Silent next a xs i e q = e
own_act act.GiveUp next a xs i e q = e

own_step : (l : CertLine) (next : Option Seen) (a : Step) (xs : List Step) (i : ℕ)
    → step_of l next ≡ Some a → [] ≡ take i (trace (a ∷ xs)) → step_of l (slice_get (trace (a ∷ xs)) i) ≡ Some a
own_step (First file) next a xs i e q = absurd (cc e)
own_step (Load u) next a xs i e q = e
own_step (Moved m) next a xs i e q = own_act m.act next a xs i e q

is_of_a_step : (l : CertLine) (next : Option Seen) (a : Step) → step_of l next ≡ Some a → IsOfAStep l
is_of_a_step (First file) next a e = absurd (cc e)
is_of_a_step (Load u) next a e = tt
is_of_a_step (Moved m) next a e = tt

sound_step : (p : Contents) (s : State) (text : List ℕ) (a : Step) (next : Option Seen) (n i : ℕ) (f : CertFault)
    → (t : ListsStep p text a s) → step_of t.line next ≡ Some a → IsFaultOfStep p s (at_line n i next) t.line f → ⊥
sound_step p s text a next n i (of.NotAllowed m) t own d = d.1 (t.next, (a, t.step, t.can))
sound_step p s text a next n i (of.WordDiffers m j) t own d = d.3 (a, own, t.can)
sound_step p s text a next n i (of.StateDiffers m) t own d =
    let same : a ≡ d.1 = same_Some a d.1 (sym own ∙ d.2) in
    d.4 (subst (λ b. ShowsStates t.line (after p b s)) same t.shows)
sound_step p s text a next n i (of.Line m) t own d = d
sound_step p s text a next n i of.Version t own d = d
sound_step p s text a next n i (of.Unfinished m) t own d = d
sound_step p s text a next n i of.OutOfMemory t own d = d

of_line : (p : Contents) (s : State) (text : List ℕ) (a : Step) (next : Option Seen) (n i : ℕ) (f : CertFault)
    → (t : ListsStep p text a s) → step_of t.line next ≡ Some a
    → (l : CertLine) × SpellsLine text l × IsOfAStep l × IsFaultOfStep p s (at_line n i next) l f → ⊥
of_line p s text a next n i f t own d =
    sound_step p s text a next n i f t own
    (subst (λ l. IsFaultOfStep p s (at_line n i next) l f) (one-line text d.0 t.line d.1 t.spelled) d.3)

sound_line : (p : Contents) (s : State) (text : List ℕ) (a : Step) (next : Option Seen) (n i : ℕ) (f : CertFault)
    → (t : ListsStep p text a s) → step_of t.line next ≡ Some a → IsFaultOfLine p s (at_line n i next) (Some text) f → ⊥
sound_line p s text a next n i (of.Line m) t own d = d.1 t.line (is_of_a_step t.line t.next a t.step) t.spelled
sound_line p s text a next n i (of.NotAllowed m) t own d = of_line p s text a next n i (of.NotAllowed m) t own d
sound_line p s text a next n i (of.WordDiffers m j) t own d = of_line p s text a next n i (of.WordDiffers m j) t own d
sound_line p s text a next n i (of.StateDiffers m) t own d = of_line p s text a next n i (of.StateDiffers m) t own d
sound_line p s text a next n i of.Version t own d = d.3
sound_line p s text a next n i (of.Unfinished m) t own d = d.3
sound_line p s text a next n i of.OutOfMemory t own d = d.3

-- ---- lines that are all steps

clash : (p : Contents) (lines : List (Option (List ℕ))) (xs ys : List Step) (s : State) (n i m j : ℕ) (f : CertFault)
    → ListsSteps p lines xs s → ListsSteps p (take n lines) ys s → trace ys ≡ take i (trace xs)
    → IsFaultAt p (end_of p ys s) (at_line m j (slice_get (trace xs) i)) (slice_get lines n) f → ⊥
clash p [] [] ys s n i m j f h k e d = none ys (slice_get (trace []) i) refl d
  where
    none : (ys : List Step) (o : Option Seen) → o ≡ None → IsFaultAt p (end_of p ys s) (at_line m j o) None f → ⊥
    none ys None q d = d
    none ys (Some w) q d = absurd (cc q)
clash p [] (a ∷ xs) ys s n i m j f h k e d = absurd h
clash p (None ∷ lines) xs ys s n i m j f h k e d = absurd h
clash p (Some text ∷ lines) [] ys s n i m j f h k e d = absurd h
clash p (Some text ∷ lines) (a ∷ xs) [] s zero i m j f h k e d =
    sound_line p s text a (slice_get (trace (a ∷ xs)) i) m j f h.0 (own_step h.0.line h.0.next a xs i h.0.step e) d
clash p (Some text ∷ lines) (a ∷ xs) (b ∷ ys) s zero i m j f h k e d = absurd k
clash p (Some text ∷ lines) (a ∷ xs) [] s (suc n) i m j f h k e d = absurd k
clash p (Some text ∷ lines) (a ∷ xs) (b ∷ ys) s (suc n) i m j f h k e d =
    let other : step_of h.0.line k.0.next ≡ Some b =
    subst (λ l. step_of l k.0.next ≡ Some b) (one-line text k.0.line h.0.line k.0.spelled h.0.spelled) k.0.step in
    let r = heads a b xs ys i (line_alike h.0.line h.0.next k.0.next a b h.0.step other) e in
    let lists = subst (λ c. ListsSteps p (take n lines) ys (after p c s)) r.same k.1 in
    clash p lines xs ys (after p a s) n r.k m j f h.1 lists r.rest
    (subst (λ o. IsFaultAt p (end_of p ys (after p a s)) (at_line m j o) (slice_get lines n) f) r.next
    (subst (λ c. IsFaultAt p (end_of p ys (after p c s)) (at_line m j (slice_get (trace (a ∷ xs)) i)) (slice_get lines n) f) r.same d))

-- ---- the whole

same_first : (first other : ℕ) → first ≤ 255 → other ≤ 255 → spelling (First first) ≡ spelling (First other) → first ≡ other
same_first first other l m e =
    let line : First first ≡ First other =
    one-line (spelling (First first)) (First first) (First other) (record { line = tt; held = omega arith; spelled = refl })
    (record { line = tt; held = omega arith; spelled = e }) in
    cc

pub other_digit : ◌≡◌ {A = ℕ} 49 50 → ⊥
other_digit e = omega (arith, e)

same_version : (v w : Version) → version_line v ≡ version_line w → v ≡ w
same_version One One e = refl
same_version One Two e = absurd (other_digit (same_Some 49 50 (ap (λ (l : List ℕ). slice_get l 14) e)))
same_version Two One e = absurd (other_digit (sym (same_Some 50 49 (ap (λ (l : List ℕ). slice_get l 14) e))))
same_version Two Two e = refl

later_fault : (p : Contents) (certificate : List ℕ) (items : List Seen) (first : ℕ) (steps : List Step) (f : CertFault)
    → Explains p certificate items first steps → IsLaterFault p certificate items f → ⊥
later_fault p certificate items first steps f h k =
    let own : slice_get (certificate_lines certificate) 1 ≡ Some (Some (spelling (First first))) =
    ap (λ (l : List (Option (List ℕ))). slice_get l 1) h.header in
    let same : k.head.first ≡ first =
    same_first k.head.first first k.says.1.0 h.byte (same_Some _ _ (same_Some _ _ (sym k.says.1.1 ∙ own))) in
    let named : slice_get (certificate_lines certificate) 0 ≡ Some (Some (version_line h.version)) =
    ap (λ (l : List (Option (List ℕ))). slice_get l 0) h.header in
    let version : k.head.version ≡ h.version =
    same_version k.head.version h.version (same_Some _ _ (same_Some _ _ (sym k.says.0 ∙ named))) in
    let read = map (read_as h.version) h.lines in
    let lines : step_lines k.head.version certificate ≡ read =
    ap (λ v. step_lines v certificate) version ∙ ap (λ (l : List (Option (List ℕ))). map (read_as h.version) (drop 2 l)) h.header in
    let before = k.before in
    let lists : ListsSteps p (take k.k read) before.steps (start p first) =
    subst (λ n. ListsSteps p (take k.k read) before.steps (start p n)) same
    (subst (λ (l : List (Option (List ℕ))). ListsSteps p (take k.k l) before.steps (start p k.head.first)) lines before.lists) in
    let ends : k.state ≡ end_of p before.steps (start p first) = before.ends ∙ ap (λ n. end_of p before.steps (start p n)) same in
    let fault : IsFaultAt p (end_of p before.steps (start p first)) (at_line (k.k + 3) k.i (slice_get (trace steps) k.i))
    (slice_get read k.k) f =
    subst (λ (l : List Seen).
    IsFaultAt p (end_of p before.steps (start p first)) (at_line (k.k + 3) k.i (slice_get l k.i)) (slice_get read k.k) f) (sym h.used)
    (subst (λ (l : List (Option (List ℕ))).
    IsFaultAt p (end_of p before.steps (start p first)) (at_line (k.k + 3) k.i (slice_get items k.i)) (slice_get l k.k) f) lines
    (subst (λ t. IsFaultAt p t (at_line (k.k + 3) k.i (slice_get items k.i)) (slice_get (step_lines k.head.version certificate) k.k) f) ends
    k.fault)) in
    clash p read steps before.steps (start p first) k.k k.i (k.k + 3) k.i f h.lists lists (before.used ∙ ap (take k.i) (sym h.used)) fault

no_head : (p : Contents) (certificate : List ℕ) (items : List Seen) (first : ℕ) (steps : List Step) (f : CertFault)
    → Explains p certificate items first steps → IsFaultOfHead certificate f → ⊥
no_head p certificate items first steps of.Version h d = d (h.version, ap (λ (l : List (Option (List ℕ))). slice_get l 0) h.header)
no_head p certificate items first steps (of.Line n) h d = d.2 first (h.byte, ap (λ (l : List (Option (List ℕ))). slice_get l 1) h.header)
no_head p certificate items first steps _ h d = d

no_other : (p : Contents) (certificate : List ℕ) (items : List Seen) (first : ℕ) (steps : List Step) (f : CertFault)
    → Explains p certificate items first steps
    → IsFaultOfHead certificate f ⊎ (IsVersioned certificate × IsLaterFault p certificate items f) → ⊥
no_other p certificate items first steps f h (inl d) = no_head p certificate items first steps f h d
no_other p certificate items first steps f h (inr d) = later_fault p certificate items first steps f h d.1

pub no_fault : (p : Contents) (certificate : List ℕ) (items : List Seen) (first : ℕ) (steps : List Step) (f : CertFault)
    → Explains p certificate items first steps → IsFirstCertFault p certificate items f → ⊥
no_fault p certificate items first steps of.Version h d = no_head p certificate items first steps of.Version h d
no_fault p certificate items first steps of.OutOfMemory h d = d
no_fault p certificate items first steps (of.Line n) h d = no_other p certificate items first steps (of.Line n) h d
no_fault p certificate items first steps (of.NotAllowed n) h d = no_other p certificate items first steps (of.NotAllowed n) h d
no_fault p certificate items first steps (of.StateDiffers n) h d = no_other p certificate items first steps (of.StateDiffers n) h d
no_fault p certificate items first steps (of.WordDiffers n i) h d = no_other p certificate items first steps (of.WordDiffers n i) h d
no_fault p certificate items first steps (of.Unfinished i) h d = no_other p certificate items first steps (of.Unfinished i) h d
