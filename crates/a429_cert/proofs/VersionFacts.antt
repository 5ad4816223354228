-- The lines of steps, as a version reads them.
use Rattle.std.proofs.Common.{◌≡◌, ◌++◌, ℕ, List, [], ◌∷◌, map, drop, slice_get, Bool, true, false, ◌==◌, if◌then◌else◌, Option, Some, None, refl, sym, ap, ◌∙◌, subst}
use Rattle.a429_profile.specs.Profile.{Contents}
use Rattle.a429_link.specs.declared.seen.Seen.{Seen}
use Rattle.a429_link.specs.declared.step.Step.{Step}
use Rattle.a429_link.specs.declared.step.Step.TheVariants as step
use Rattle.a429_link.specs.Step.{after}
use Rattle.a429_link.specs.State.{State, start}
use Rattle.a429_cert.specs.declared.act.Act.{Act}
use Rattle.a429_cert.specs.declared.act.Act.TheVariants as act
use Rattle.a429_cert.specs.declared.line.CertLine.{CertLine}
use Rattle.a429_cert.specs.declared.line.CertLine.TheVariants.{First, Load, Moved}
use Rattle.a429_cert.specs.declared.version.Version.{Version}
use Rattle.a429_cert.specs.declared.version.Version.TheVariants.{One, Two}
use Rattle.std.specs.Fmt.{decimal}
use Rattle.std.proofs.lemmas.Option.{same_Some}
use Rattle.std.proofs.lemmas.Bool.{or_parts}
use Rattle.a429_cert.specs.Field.{field}
use Rattle.a429_cert.specs.States.{source_text, sink_text}
use Rattle.a429_cert.specs.Act.{act_text, step_with}
use Rattle.a429_cert.specs.Line.{spelling}
use Rattle.a429_cert.specs.Explained.{step_of, ListsStep, ListsSteps, Explains}
use Rattle.a429_cert.specs.Lines.{certificate_lines}
use Rattle.a429_cert.proofs.NoFault.{other_digit}
use Rattle.a429_cert.specs.Version.{version_line, without_x, read_as, is_give_up, gives_up, least_version}

-- ---- a line of another step is read by both versions

act_kept : (x : Act) (next : Option Seen) (a : Step) (f g h k : List ℕ)
    → step_with x next ≡ Some a → is_give_up a ≡ false → without_x (act_text x ++ f ++ g ++ h ++ k) ≡ Some (act_text x ++ f ++ g ++ h ++ k)
act_kept act.Sent next a f g h k e n = refl
act_kept act.SentLost next a f g h k e n = refl
act_kept act.TimeOut next a f g h k e n = refl
act_kept act.TakeAnswer next a f g h k e n = refl
act_kept act.LoseAnswer next a f g h k e n = refl
act_kept act.SinkTakes next a f g h k e n = refl
act_kept act.Silent next a f g h k e n = refl
act_kept act.Answered next a f g h k e n = refl
act_kept act.FreeSeen next a f g h k e n = refl
act_kept act.GiveUp next a f g h k e n = absurd (cc (same_Some step.GiveUp a e, n))

step_kept : (p : Contents) (text : List ℕ) (a : Step) (s : State) → ListsStep p text a s → is_give_up a ≡ false → without_x text ≡ Some text
step_kept p text a s t n = by t.line t.spelled.spelled t.step
  where
    by : (l : CertLine) → text ≡ spelling l → step_of l t.next ≡ Some a → without_x text ≡ Some text
    by (First f) e g = absurd (cc g)
    by (Load u) e g = rw e refl
    by (Moved m) e g =
        rw e
        (act_kept m.act t.next a (field (source_text m.states.source)) (field (sink_text m.states.sink)) (field (decimal m.states.to_sink))
        (field (decimal m.states.to_source)) g n)

-- steps of which none gives a file up are listed under version 1 too
pub lists_read : (p : Contents) (lines : List (Option (List ℕ))) (steps : List Step) (s : State)
    → ListsSteps p lines steps s → gives_up steps ≡ false → ListsSteps p (map (read_as One) lines) steps s
lists_read p [] [] s h n = tt
lists_read p [] (b ∷ steps) s h n = absurd h
lists_read p (None ∷ lines) steps s h n = absurd h
lists_read p (Some text ∷ lines) [] s h n = absurd h
lists_read p (Some text ∷ lines) (b ∷ steps) s h n =
    let both = or_parts (is_give_up b) (gives_up steps) n in
    rw (step_kept p text b s h.0 both.0) (h.0, lists_read p lines steps (after p b s) h.1 both.1)

-- ---- and the other way round

kept_same : (text kept : List ℕ) → without_x text ≡ Some kept → kept ≡ text
kept_same [] kept e = sym (same_Some [] kept e)
kept_same (b ∷ text) kept e = by (b == 120) e
  where
    by : (is_x : Bool) → (if is_x then None else Some (b ∷ text)) ≡ Some kept → kept ≡ b ∷ text
    by true e = absurd (cc e)
    by false e = sym (same_Some (b ∷ text) kept e)

act_no_give_up : (x : Act) (next : Option Seen) (a : Step) (f g h k kept : List ℕ)
    → step_with x next ≡ Some a → without_x (act_text x ++ f ++ g ++ h ++ k) ≡ Some kept → is_give_up a ≡ false
act_no_give_up act.Sent None a f g h k kept e w = absurd (cc e)
act_no_give_up act.Sent (Some i) a f g h k kept e w = subst (λ b. is_give_up b ≡ false) (same_Some (step.Sent i) a e) refl
act_no_give_up act.SentLost next a f g h k kept e w = subst (λ b. is_give_up b ≡ false) (same_Some step.SentLost a e) refl
act_no_give_up act.TimeOut next a f g h k kept e w = subst (λ b. is_give_up b ≡ false) (same_Some step.TimeOut a e) refl
act_no_give_up act.TakeAnswer next a f g h k kept e w = subst (λ b. is_give_up b ≡ false) (same_Some step.TakeAnswer a e) refl
act_no_give_up act.LoseAnswer next a f g h k kept e w = subst (λ b. is_give_up b ≡ false) (same_Some step.LoseAnswer a e) refl
act_no_give_up act.SinkTakes next a f g h k kept e w = subst (λ b. is_give_up b ≡ false) (same_Some step.SinkTakes a e) refl
act_no_give_up act.Silent next a f g h k kept e w = subst (λ b. is_give_up b ≡ false) (same_Some step.Silent a e) refl
act_no_give_up act.Answered None a f g h k kept e w = absurd (cc e)
act_no_give_up act.Answered (Some i) a f g h k kept e w = subst (λ b. is_give_up b ≡ false) (same_Some (step.Answered i) a e) refl
act_no_give_up act.FreeSeen None a f g h k kept e w = absurd (cc e)
act_no_give_up act.FreeSeen (Some i) a f g h k kept e w = subst (λ b. is_give_up b ≡ false) (same_Some (step.FreeSeen i) a e) refl
act_no_give_up act.GiveUp next a f g h k kept e w = absurd (cc w)

step_no_give_up : (p : Contents) (text kept : List ℕ) (a : Step) (s : State)
    → ListsStep p text a s → without_x text ≡ Some kept → is_give_up a ≡ false
step_no_give_up p text kept a s t k = by t.line t.spelled.spelled t.step
  where
    by : (l : CertLine) → text ≡ spelling l → step_of l t.next ≡ Some a → is_give_up a ≡ false
    by (First f) e g = absurd (cc g)
    by (Load u) e g = subst (λ b. is_give_up b ≡ false) (same_Some _ a g) refl
    by (Moved m) e g =
        act_no_give_up m.act t.next a (field (source_text m.states.source)) (field (sink_text m.states.sink))
        (field (decimal m.states.to_sink)) (field (decimal m.states.to_source)) kept g (ap without_x (sym e) ∙ k)

-- what version 1 lists is listed under version 2, and gives no file up
pub lists_kept : (p : Contents) (lines : List (Option (List ℕ))) (steps : List Step) (s : State)
    → ListsSteps p (map (read_as One) lines) steps s → ListsSteps p lines steps s × (gives_up steps ≡ false)
lists_kept p [] [] s h = (tt, refl)
lists_kept p [] (b ∷ steps) s h = absurd h
lists_kept p (None ∷ lines) steps s h = absurd h
lists_kept p (Some text ∷ lines) steps s h = by (without_x text) refl steps h (λ more t. lists_kept p lines more t)
  where
    by : (o : Option (List ℕ)) → without_x text ≡ o → (steps : List Step) → ListsSteps p (o ∷ map (read_as One) lines) steps s
        → ((more : List Step) (t : State) → ListsSteps p (map (read_as One) lines) more t
        → ListsSteps p lines more t × (gives_up more ≡ false))
        → ListsSteps p (Some text ∷ lines) steps s × (gives_up steps ≡ false)
    by None e steps h on = absurd h
    by (Some kept) e [] h on = absurd h
    by (Some kept) e (b ∷ steps) h on =
        let here : ListsStep p text b s = subst (λ (t : List ℕ). ListsStep p t b s) (kept_same text kept e) h.0 in
        let more = on steps (after p b s) h.1 in
        ((here, more.0), rw (step_no_give_up p text kept b s here e) more.1)

all_read : (lines : List (Option (List ℕ))) → map (read_as Two) lines ≡ lines
all_read [] = refl
all_read (line ∷ lines) = ap (λ (l : List (Option (List ℕ))). line ∷ l) (all_read lines)

-- lines of steps are listed under the least version that can say these
pub least_lists : (p : Contents) (lines : List (Option (List ℕ))) (steps : List Step) (s : State)
    → ListsSteps p lines steps s → ListsSteps p (map (read_as (least_version steps)) lines) steps s
least_lists p lines steps s h = by (gives_up steps) refl
  where
    by : (b : Bool) → gives_up steps ≡ b → ListsSteps p (map (read_as (if b then Two else One)) lines) steps s
    by true e = subst (λ (l : List (Option (List ℕ))). ListsSteps p l steps s) (sym (all_read lines)) h
    by false e = lists_read p lines steps s h e

-- ---- certificates that differ in their first line alone

-- a version 1 certificate explains as one of version 2 does, and gives no file up
pub upgraded : (p : Contents) (rest : List ℕ) (items : List Seen) (first : ℕ) (steps : List Step)
    → Explains p (version_line One ++ 10 ∷ rest) items first steps
    → Explains p (version_line Two ++ 10 ∷ rest) items first steps × (gives_up steps ≡ false)
upgraded p rest items first steps h = by h.version h.header h.lists
  where
    by : (v : Version)
        → Some (version_line One) ∷ certificate_lines rest ≡ Some (version_line v) ∷ (Some (spelling (First first)) ∷ h.lines)
        → ListsSteps p (map (read_as v) h.lines) steps (start p first)
        → Explains p (version_line Two ++ 10 ∷ rest) items first steps × (gives_up steps ≡ false)
    by One e lists =
        let left_after : certificate_lines rest ≡ Some (spelling (First first)) ∷ h.lines = ap (drop 1) e in
        let kept = lists_kept p h.lines steps (start p first) lists in (
          record {
            version = Two;
            lines = h.lines;
            byte = h.byte;
            header = ap (λ (l : List (Option (List ℕ))). Some (version_line Two) ∷ l) left_after;
            lists = subst (λ (l : List (Option (List ℕ))). ListsSteps p l steps (start p first)) (sym (all_read h.lines)) kept.0;
            used = h.used;
          },
          kept.1,
        )
    by Two e lists =
        absurd (other_digit (same_Some 49 50 (ap (λ (l : List ℕ). slice_get l 14)
        (same_Some (version_line One) (version_line Two) (same_Some _ _ (ap (λ (l : List (Option (List ℕ))). slice_get l 0) e))))))
