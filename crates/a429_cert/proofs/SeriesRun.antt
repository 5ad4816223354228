-- Parts that were added one after the other are one run.
use Rattle.std.proofs.Common.{◌≡◌, ◌≤◌, ◌⊎◌, ◌+◌, ◌∙◌, ◌++◌, ◌∷◌, inl, inr, ℕ, zero, suc, List, [], length, Bool, true, false, nat_le, if◌then◌else◌, Option, Some, None, refl, sym, ap, subst, arith, append-nil, append_assoc}
use Rattle.std.proofs.lemmas.Bool.{leb-true}
use Rattle.std.proofs.lemmas.List.{map-append}
use Rattle.a429_profile.specs.Profile.{Contents, IsProfile}
use Rattle.a429_link.specs.declared.file.FileBytes.{FileBytes}
use Rattle.a429_link.specs.declared.seen.Seen.{Seen}
use Rattle.a429_link.specs.declared.state.SourceState.{SourceState}
use Rattle.a429_link.specs.declared.state.SourceState.TheVariants.{Idle, Awaiting, Sending, Waiting}
use Rattle.a429_link.specs.declared.step.Step.{Step}
use Rattle.a429_link.specs.declared.step.Step.TheVariants.{GiveUp}
use Rattle.a429_link.specs.Link.{with_earlier, handed_out}
use Rattle.a429_link.specs.Number.{files_past}
use Rattle.a429_link.specs.Run.{IsRun, end_of, trace}
use Rattle.a429_link.specs.Source.{IsIdle}
use Rattle.a429_link.specs.State.{State, start}
use Rattle.a429_link.specs.Step.{after}
use Rattle.a429_link.proofs.CleanRuns.{run_append, end_append, trace_append}
use Rattle.a429_link.proofs.LinkCalls.{handed_earlier}
use Rattle.a429_link.proofs.LinkKept.{after_earlier, can_earlier}
use Rattle.a429_record.specs.Recording.{Recording}
use Rattle.a429_cert.specs.Explained.{items_of, Leads, AreInSomeRun}
use Rattle.a429_cert.specs.Stream.{sizes}
use Rattle.a429_cert.specs.Version.{step_lines}
use Rattle.a429_cert.specs.Series.{SeriesValue, no_parts, IsOneRun, give_ups, allowed, gap, begun, Fits, Joins, Part, joined, AreAdded, IsRunTo, IsPast, HasJoined}
use Rattle.a429_cert.proofs.ExplainedFacts.{lists_run, some_in_every}

-- ---- the files between are given up

-- how many may be
few_allowed : (x : SourceState) (given n : ℕ) → (allowed x given n ≡ 0) ⊎ (IsIdle x × (given + allowed x given n ≤ 127))
few_allowed Idle given n = by (nat_le (given + n) 127) refl
  where
    by : (b : Bool) → nat_le (given + n) 127 ≡ b → ((if b then n else 0) ≡ 0) ⊎ (IsIdle Idle × (given + (if b then n else 0) ≤ 127))
    by true e = inr (tt, leb-true (given + n) 127 e)
    by false e = inl refl
few_allowed Awaiting given n = inl refl
few_allowed (Sending k) given n = inl refl
few_allowed Waiting given n = inl refl

given_up : (p : Contents) (n : ℕ) (s : State) → IsIdle s.source.phase → s.source.give_ups + n ≤ 127 → IsRun p (give_ups n) s
given_up p zero s idle few = tt
given_up p (suc n) s idle few = ((idle, omega (arith, few)), given_up p n (after p GiveUp s) idle (omega (arith, few)))

gap_run : (p : Contents) (s : State) (first : ℕ) → IsRun p (give_ups (gap s first)) s
gap_run p s first = by (few_allowed s.source.phase s.source.give_ups (files_past first s.source.number.file))
  where
    by : (gap s first ≡ 0) ⊎ (IsIdle s.source.phase × (s.source.give_ups + gap s first ≤ 127)) → IsRun p (give_ups (gap s first)) s
    by (inl e) = rw e tt
    by (inr h) = given_up p (gap s first) s h.0 h.1

nothing_recorded : (n : ℕ) → trace (give_ups n) ≡ []
nothing_recorded zero = refl
nothing_recorded (suc n) = nothing_recorded n

-- ---- files that were handed out before

run_earlier : (p : Contents) (steps : List Step) (files : List FileBytes) (s : State)
    → IsRun p steps s → IsRun p steps (with_earlier files s)
run_earlier p [] files s h = tt
run_earlier p (a ∷ steps) files s h =
    (can_earlier p a files s h.0, subst (IsRun p steps) (sym (after_earlier p a files s)) (run_earlier p steps files (after p a s) h.1))

end_earlier : (p : Contents) (steps : List Step) (files : List FileBytes) (s : State)
    → end_of p steps (with_earlier files s) ≡ with_earlier files (end_of p steps s)
end_earlier p [] files s = refl
end_earlier p (a ∷ steps) files s = ap (end_of p steps) (after_earlier p a files s) ∙ end_earlier p steps files (after p a s)

-- ---- one part more

-- a run that goes on
run_on : (p : Contents) (s last : State) (items more : List Seen) (files : List FileBytes) (steps : List Step)
    → IsRunTo p s items files → IsRun p steps s → trace steps ≡ more → end_of p steps s ≡ last
    → IsRunTo p (handed_out last) (items ++ more) (files ++ last.sink.received.files)
run_on p s last items more files steps h run records ends =
    let there : end_of p steps (end_of p h.steps (start p h.first)) ≡ with_earlier files last =
    ap (end_of p steps) h.ends ∙ end_earlier p steps files s ∙ ap (with_earlier files) ends in
    record {
      first = h.first;
      byte = h.byte;
      steps = h.steps ++ steps;
      run = run_append p h.steps steps (start p h.first) h.run (subst (IsRun p steps) (sym h.ends) (run_earlier p steps files s run));
      recorded =
          trace_append h.steps steps ∙ ap (λ (l : List Seen). l ++ trace steps) h.recorded ∙ ap (λ (l : List Seen). items ++ l) records;
      ends = end_append p h.steps steps (start p h.first) ∙ there ∙ sym (handed_earlier files last);
      none = refl;
    }

-- a run that begins
run_first : (p : Contents) (first : ℕ) (last : State) (more : List Seen) (steps : List Step)
    → first ≤ 255 → IsRun p steps (start p first) → trace steps ≡ more → end_of p steps (start p first) ≡ last
    → IsRunTo p (handed_out last) more (last.sink.received.files)
run_first p first last more steps byte run records ends =
    record {
      first = first;
      byte = byte;
      steps = steps;
      run = run;
      recorded = records;
      ends = ends ∙ sym (handed_earlier [] last);
      none = refl;
    }

part_past : (old new : SeriesValue) (more : List FileBytes) (text : List ℕ) (r : Recording) (items : List Seen) (files : List FileBytes)
    (state : Option State)
    → old.state ≡ state → (f : Fits old new more text r) → IsPast old.profile state items files
    → IsPast old.profile (Some (handed_out f.last)) (items ++ items_of r.entries) (files ++ more)
part_past old new more text r items files None e f h =
    let p = old.profile in
    let first = f.head.first in
    let lines = step_lines f.head.version text in
    let leads = subst (λ o. Leads p (begun p o first) lines (items_of r.entries) f.last) e f.leads in
    let run =
    run_first p first f.last (items_of r.entries) leads.steps f.says.1.0
    (lists_run p lines leads.steps (start p first) leads.lists) leads.used (sym leads.ends) in
    rw (h.0, h.1, f.delivers) run
part_past old new more text r items files (Some s) e f h =
    let p = old.profile in
    let first = f.head.first in
    let lines = step_lines f.head.version text in
    let between = give_ups (gap s first) in
    let from = end_of p between s in
    let leads = subst (λ o. Leads p (begun p o first) lines (items_of r.entries) f.last) e f.leads in
    let run : IsRun p (between ++ leads.steps) s =
    run_append p between leads.steps s (gap_run p s first) (lists_run p lines leads.steps from leads.lists) in
    let records : trace (between ++ leads.steps) ≡ items_of r.entries =
    trace_append between leads.steps ∙ ap (λ (l : List Seen). l ++ trace leads.steps) (nothing_recorded (gap s first)) ∙ leads.used in
    let ends : end_of p (between ++ leads.steps) s ≡ f.last = end_append p between leads.steps s ∙ sym leads.ends in
    rw f.delivers (run_on p s f.last items (items_of r.entries) files (between ++ leads.steps) h run records ends)

-- ---- all parts

pub one_part : (old new : SeriesValue) (text : List ℕ) (r : Recording) (items : List Seen) (files : List FileBytes)
    → HasJoined old items files → (j : Joins old (Some text) (Some r) new) → HasJoined new (items ++ items_of r.entries) (files ++ j.files)
one_part old new text r items files h j =
    let past = part_past old new j.files text r items files old.state refl j.fits h.0 in
    let there = subst (λ o. IsPast old.profile o (items ++ items_of r.entries) (files ++ j.files)) (sym j.fits.state) past in (
      subst (λ q. IsPast q new.state (items ++ items_of r.entries) (files ++ j.files)) (sym j.profile) there,
      j.more ∙ ap (λ (l : List (ℕ × ℕ)). l ++ sizes j.files) h.1 ∙ sym (map-append (λ f. (f.number, length f.bytes)) files j.files),
    )

all_parts : (old new : SeriesValue) (parts : List Part) (items : List Seen) (files : List FileBytes)
    → HasJoined old items files → AreAdded old parts new → (all : List FileBytes) × HasJoined new (items ++ joined parts) all
all_parts old new [] items files h a =
    (files, subst (λ (l : List Seen). HasJoined new l files) (sym (append-nil items)) (subst (λ q. HasJoined q items files) (sym a) h))
all_parts old new (part ∷ parts) items files h a =
    let here = one_part old a.0 part.certificate part.recording items files h a.1 in
    let all = all_parts a.0 new parts (items ++ items_of part.recording.entries) (files ++ a.1.files) here a.2 in
    (all.0, subst (λ (l : List Seen). HasJoined new l all.0) (append_assoc items (items_of part.recording.entries) (joined parts)) all.1)

some_run : (p : Contents) (state : Option State) (items : List Seen) (files : List FileBytes)
    → IsPast p state items files → AreInSomeRun p items files
some_run p None items files h = record { first = 0; byte = omega arith; steps = []; run = tt; recorded = sym h.0; gives = h.1 }
some_run p (Some s) items files h =
    record {
      first = h.first;
      byte = h.byte;
      steps = h.steps;
      run = h.run;
      recorded = h.recorded;
      gives = sym (ap (λ (q : State). q.sink.received.files) h.ends ∙ ap (λ (l : List FileBytes). files ++ l) h.none ∙ append-nil files);
    }

pub one_run : (s : SeriesValue) (items : List Seen) (files : List FileBytes)
    → IsProfile s.profile → HasJoined s items files → IsOneRun s.profile items s.files
one_run s items files is h =
    let some = some_run s.profile s.state items files h.0 in
    record { files = files; some = some; every = some_in_every s.profile is items files some; answered = h.1 }

pub begun_none : (p : Contents) → HasJoined (no_parts p) [] []
begun_none p = ((refl, refl), refl)

-- the same profile in all
same_profile : (old new : SeriesValue) (parts : List Part) → AreAdded old parts new → new.profile ≡ old.profile
same_profile old new [] a = ap (λ (q : SeriesValue). q.profile) a
same_profile old new (part ∷ parts) a = same_profile a.0 new parts a.2 ∙ a.1.profile

pub parts_one_run : (p : Contents)
    → IsProfile p → (parts : List Part) (s : SeriesValue) → AreAdded (no_parts p) parts s → IsOneRun p (joined parts) s.files
parts_one_run p is parts s a =
    let all = all_parts (no_parts p) s parts [] [] (begun_none p) a in
    let same = same_profile (no_parts p) s parts a in
    subst (λ q. IsOneRun q (joined parts) s.files) same (one_run s (joined parts) all.0 (subst IsProfile (sym same) is) all.1)
