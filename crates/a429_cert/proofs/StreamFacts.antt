-- A line that is held against a recording that is read as it comes.
use Rattle.std.proofs.Common.{◌≡◌, ◌⊎◌, inl, inr, ◌<◌, ◌≤◌, ◌+◌, ◌∙◌, ℕ, zero, suc, List, [], ◌∷◌, Option, Some, None, option_map, refl, sym, ap, subst, arith, append-nil, append_assoc, length-append, length, take, ◌++◌}
use Rattle.std.proofs.lemmas.List.{length-map, map-append}
use Rattle.a429_profile.specs.Profile.{Contents}
use Rattle.a429_link.specs.declared.seen.Seen.{Seen}
use Rattle.a429_link.specs.declared.step.Step.{Step}
use Rattle.a429_link.specs.State.{State}
use Rattle.a429_record.specs.Recording.{Recording}
use Rattle.a429_cert.specs.declared.act.Act.{Act}
use Rattle.a429_cert.specs.declared.act.Act.TheVariants as act
use Rattle.a429_cert.specs.declared.line.CertLine.{CertLine}
use Rattle.a429_cert.specs.declared.line.CertLine.TheVariants.{First, Load, Moved}
use Rattle.a429_cert.specs.declared.listed.Listed.{Listed}
use Rattle.a429_cert.specs.declared.listed.Listed.TheVariants as listed
use Rattle.a429_cert.specs.declared.fault.CertFault.{CertFault}
use Rattle.a429_cert.specs.declared.fault.CertFault.TheVariants as of
use Rattle.a429_cert.specs.Act.{step_with, uses_of}
use Rattle.a429_cert.specs.Explained.{seen_of, step_of}
use Rattle.a429_record.specs.declared.entry.Entry.{Entry}
use Rattle.a429_record.specs.declared.fault.ReadFault.{ReadFault}
use Rattle.a429_record.specs.declared.fault.ReadFault.TheVariants as read
use Rattle.a429_cert.specs.declared.replay.Replay.{Replay}
use Rattle.a429_cert.specs.Fault.{at_line, CanBe, IsNamed}
use Rattle.a429_cert.specs.Passing.{uses, uses_listed, IsStepOfLine, MakesStep, PassesListed, IsFaultOfRead, RefusesListed, RefusesFirst, Lists, IsReady, IsReadyOf, IsNamedOf}
use Rattle.a429_cert.specs.declared.stream_fault.StreamFault.{StreamFault}
use Rattle.a429_cert.specs.declared.stream_fault.StreamFault.TheVariants as stream
use Rattle.a429_cert.specs.declared.line.MovedLine.{MovedLine}
use Rattle.a429_cert.specs.declared.shelf.PutFile.{PutFile}
use Rattle.a429_link.specs.declared.file.FileBytes.{FileBytes}
use Rattle.a429_cert.specs.Shelf.{Gains, IsUnchanged}
use Rattle.a429_cert.specs.Stream.{next_of, TakesNext, PassesNext, RefusesNext, HasEnd, of_cert, of_read, RefusesOver, WantsEntry, GivesFor, GivesAtFault, IsNotTaken, placed, GainsAll, GainsFront, sizes}
use Rattle.a429_cert.proofs.PassingText.{fault-listed}
use Rattle.a429_cert.specs.Change.{change}
use Rattle.a429_cert.specs.Report.{position}

-- ---- the line of a step, and the entries that it uses

line_of : (x : Listed) → (l : CertLine) × IsStepOfLine x l
line_of (listed.Load u) = (Load (record { gfi = u.gfi; flags = u.flags; check = u.check; words = u.words }), refl)
line_of (listed.Moved l) = (Moved l, refl)

same_uses : (x : Listed) (l : CertLine) → IsStepOfLine x l → uses l ≡ uses_listed x
same_uses (listed.Load u) (Load l) is = refl
same_uses (listed.Moved m) (Moved l) is = rw is refl
same_uses (listed.Load u) (First file) is = absurd is
same_uses (listed.Load u) (Moved l) is = absurd is
same_uses (listed.Moved m) (First file) is = absurd is
same_uses (listed.Moved m) (Load l) is = absurd is

act_few : (x : Act) → uses_of x ≤ 1
act_few act.Sent = omega arith
act_few act.Answered = omega arith
act_few act.FreeSeen = omega arith
act_few act.SentLost = omega arith
act_few act.TimeOut = omega arith
act_few act.TakeAnswer = omega arith
act_few act.LoseAnswer = omega arith
act_few act.SinkTakes = omega arith
act_few act.Silent = omega arith
act_few act.GiveUp = omega arith

listed_few : (x : Listed) → uses_listed x ≤ 1
listed_few (listed.Load u) = omega arith
listed_few (listed.Moved l) = act_few l.act

-- a step that uses none is the same whatever the next one is, and one that uses one is none where there is none
act_alone : (x : Act) (a b : Option Seen) → uses_of x ≡ 0 → step_with x a ≡ step_with x b
act_alone act.Sent a b e = absurd (cc e)
act_alone act.Answered a b e = absurd (cc e)
act_alone act.FreeSeen a b e = absurd (cc e)
act_alone act.SentLost a b e = refl
act_alone act.TimeOut a b e = refl
act_alone act.TakeAnswer a b e = refl
act_alone act.LoseAnswer a b e = refl
act_alone act.SinkTakes a b e = refl
act_alone act.Silent a b e = refl
act_alone act.GiveUp a b e = refl

alone : (l : CertLine) (a b : Option Seen) → uses l ≡ 0 → step_of l a ≡ step_of l b
alone (First file) a b e = refl
alone (Load u) a b e = refl
alone (Moved m) a b e = act_alone m.act a b e

act_wants : (x : Act) → uses_of x ≡ 1 → step_with x None ≡ None
act_wants act.Sent e = refl
act_wants act.Answered e = refl
act_wants act.FreeSeen e = refl
act_wants act.SentLost e = absurd (cc e)
act_wants act.TimeOut e = absurd (cc e)
act_wants act.TakeAnswer e = absurd (cc e)
act_wants act.LoseAnswer e = absurd (cc e)
act_wants act.SinkTakes e = absurd (cc e)
act_wants act.Silent e = absurd (cc e)
act_wants act.GiveUp e = absurd (cc e)

wants : (l : CertLine) → uses l ≡ 1 → step_of l None ≡ None
wants (First file) e = refl
wants (Load u) e = absurd (cc e)
wants (Moved m) e = act_wants m.act e

-- ---- a line that passes

pub few_used : (p : Contents) (x : Listed) (next : Option Seen) (s t : State) (used : ℕ)
    → PassesListed p x next (change s t) used → used ≤ 1
few_used p x next s t used h =
    let l = line_of x in
    let n : used ≡ uses_listed x = (h l.0 l.1).2 ∙ same_uses x l.0 l.1 in
    omega (arith, listed_few x, n)

used_is : (p : Contents) (x : Listed) (next : Option Seen) (s t : State) (used : ℕ)
    → PassesListed p x next (change s t) used → used ≡ uses_listed x
used_is p x next s t used h = let l = line_of x in (h l.0 l.1).2 ∙ same_uses x l.0 l.1

no_step : (p : Contents) (o : Option Step) (s t : State) → o ≡ None → MakesStep p o s t → ⊥
no_step p None s t e m = m
no_step p (Some a) s t e m = absurd (cc e)

passes_over : (p : Contents) (x : Listed) (s t : State) (r : Recording) (new : Option Recording) (next : Option Seen) (used n : ℕ)
    → uses_listed x ≡ n → TakesNext n (Some r) new next → PassesListed p x next (change s t) used
    → PassesNext p x (change s t) (change (Some r) new) used
passes_over p x s t r new next used zero e g h =
    let none : used ≡ 0 = used_is p x next s t used h ∙ e in (
      λ l is.
          let same : step_of l next ≡ step_of l (next_of r) = alone l next (next_of r) (same_uses x l is ∙ e) in
          let old = h l is in
          (subst (λ o. MakesStep p o s t) same old.0, old.1, old.2),
      rw none g,
    )
passes_over p x s t r new (Some item) used (suc n) e g h =
    let one : used ≡ 1 = let u = used_is p x (Some item) s t used h in let few = listed_few x in omega (arith, u, few, e) in
    (subst (λ o. PassesListed p x o (change s t) used) (sym g.0) h, rw one g.1)
passes_over p x s t r new None used (suc n) e g h =
    let l = line_of x in
    let one : uses l.0 ≡ 1 = let u = same_uses x l.0 l.1 in let few = listed_few x in omega (arith, u, few, e) in
    absurd (no_step p (step_of l.0 None) s t (wants l.0 one) (h l.0 l.1).0)

pub passes_next : (p : Contents) (x : Listed) (s t : State) (old new : Option Recording) (next : Option Seen) (used : ℕ)
    → TakesNext (uses_listed x) old new next → PassesListed p x next (change s t) used → PassesNext p x (change s t) (change old new) used
passes_next p x s t None new next used g h = tt
passes_next p x s t (Some r) new next used g h = passes_over p x s t r new next used (uses_listed x) refl g h

-- ---- a line that is refused

-- its step may be made with one next entry where it may be made with another, if it uses none
can_alone : (p : Contents) (l : CertLine) (a b : Option Seen) (s : State) → uses l ≡ 0 → CanBe p l a s → CanBe p l b s
can_alone p l a b s e h = (h.0, sym (alone l a b e) ∙ h.1, h.2)

fault_alone : (p : Contents) (s : State) (a b : Option Seen) (n i : ℕ) (l : CertLine) (f : CertFault)
    → uses l ≡ 0 → IsFaultOfRead p s (at_line n i a) l f → IsFaultOfRead p s (at_line n i b) l f
fault_alone p s a b n i l of.Version e h = h
fault_alone p s a b n i l (of.Line m) e h = h
fault_alone p s a b n i l (of.NotAllowed m) e h = h
fault_alone p s a b n i l (of.StateDiffers m) e h = (h.0, (h.1.0, h.1.1, sym (alone l a b e) ∙ h.1.2, h.1.3, h.1.4))
fault_alone p s a b n i l (of.WordDiffers m j) e h = (h.0, (h.1.0, h.1.1, h.1.2, λ c. h.1.3 (can_alone p l b a s e c)))
fault_alone p s a b n i l (of.Unfinished j) e h = h
fault_alone p s a b n i l of.OutOfMemory e h = h

-- no word differs where none is used
none_differs : (p : Contents) (s : State) (next : Option Seen) (n i m j : ℕ) (l : CertLine)
    → uses l ≡ 0 → IsFaultOfRead p s (at_line n i next) l (of.WordDiffers m j) → ⊥
none_differs p s next n i m j l e h = h.1.3 (can_alone p l h.1.2.0 next s e h.1.2.1)

has_end : (p : Contents) (x : Listed) (s : State) (r : Recording) (new : Option Recording) (next : Option Seen) (n i k : ℕ) (f : CertFault)
    → uses_listed x ≡ k → TakesNext k (Some r) new next → RefusesListed p x (record { line = n; entry = i; next = next }) s f → HasEnd r f
has_end p x s r new next n i zero (of.WordDiffers m j) e g h =
    let l = line_of x in
    absurd (none_differs p s next n i m j l.0 (same_uses x l.0 l.1 ∙ e) (h l.0 l.1 (λ z. cc)))
has_end p x s r new (Some item) n i (suc k) (of.WordDiffers m j) e g h = λ none. absurd (cc (g.0, none))
has_end p x s r new None n i (suc k) (of.WordDiffers m j) e g h = λ none. ap (λ (q : Recording). q.fault) g
has_end p x s r new next n i k of.Version e g h = tt
has_end p x s r new next n i k (of.Line m) e g h = tt
has_end p x s r new next n i k (of.NotAllowed m) e g h = tt
has_end p x s r new next n i k (of.StateDiffers m) e g h = tt
has_end p x s r new next n i k (of.Unfinished j) e g h = tt
has_end p x s r new next n i k of.OutOfMemory e g h = tt

refuses_over : (p : Contents) (x : Listed) (s : State) (r : Recording) (new : Option Recording) (next : Option Seen) (n i k : ℕ)
    (f : CertFault)
    → uses_listed x ≡ k → TakesNext k (Some r) new next → RefusesListed p x (record { line = n; entry = i; next = next }) s f
    → RefusesListed p x (record { line = n; entry = i; next = next_of r }) s f
refuses_over p x s r new next n i zero f e g h = λ l is z. fault_alone p s next (next_of r) n i l f (same_uses x l is ∙ e) (h l is z)
refuses_over p x s r new (Some item) n i (suc k) f e g h =
    subst (λ o. RefusesListed p x (record { line = n; entry = i; next = o }) s f) (sym g.0) h
refuses_over p x s r new None n i (suc k) f e g h =
    let none : next_of r ≡ None = ap next_of g in
    subst (λ o. RefusesListed p x (record { line = n; entry = i; next = o }) s f) (sym none) h

known_refused : (p : Contents) (x : Listed) (s : State) (r : Recording) (n i : ℕ) (f : CertFault)
    → RefusesListed p x (record { line = n; entry = i; next = next_of r }) s f → HasEnd r f
    → RefusesNext p x (position s (Some r) i) n (of_cert f)
known_refused p x s r n i of.Version h e = (h, e, λ z. cc)
known_refused p x s r n i (of.Line m) h e = (h, e, λ z. cc)
known_refused p x s r n i (of.NotAllowed m) h e = (h, e, λ z. cc)
known_refused p x s r n i (of.StateDiffers m) h e = (h, e, λ z. cc)
known_refused p x s r n i (of.WordDiffers m j) h e = (h, e, λ z. cc)
known_refused p x s r n i (of.Unfinished j) h e = (h, e, λ z. cc)
known_refused p x s r n i of.OutOfMemory h e = tt

pub refused_next : (p : Contents) (x : Listed) (s : State) (old new : Option Recording) (next : Option Seen) (n i : ℕ) (f : CertFault)
    → TakesNext (uses_listed x) old new next → RefusesListed p x (record { line = n; entry = i; next = next }) s f
    → RefusesNext p x (position s old i) n (of_cert f)
refused_next p x s None new next n i f g h = tt
refused_next p x s (Some r) new next n i f g h =
    known_refused p x s r n i f (refuses_over p x s r new next n i (uses_listed x) f refl g h)
    (has_end p x s r new next n i (uses_listed x) f refl g h)

-- ---- a line of the text

-- a letter that uses an entry may be made with some
act_named : (p : Contents) (x : Act) (s : State) → uses_of x ≡ 1 → IsReadyOf p x s → IsNamedOf p x s
act_named p act.Sent s e h = h
act_named p act.Answered s e h = h
act_named p act.FreeSeen s e h = h
act_named p act.SentLost s e h = absurd (cc e)
act_named p act.TimeOut s e h = absurd (cc e)
act_named p act.TakeAnswer s e h = absurd (cc e)
act_named p act.LoseAnswer s e h = absurd (cc e)
act_named p act.SinkTakes s e h = absurd (cc e)
act_named p act.Silent s e h = absurd (cc e)
act_named p act.GiveUp s e h = absurd (cc e)

named : (p : Contents) (x : Listed) (l : CertLine) (s : State) → IsStepOfLine x l → uses_listed x ≡ 1 → IsReady p x s → IsNamed p l s
named p (listed.Load u) l s is e h = absurd (cc e)
named p (listed.Moved m) (Moved l) s is e h = subst (λ (q : MovedLine). IsNamed p (Moved q) s) is (act_named p m.act s e h)
named p (listed.Moved m) (First file) s is e h = absurd is
named p (listed.Moved m) (Load l) s is e h = absurd is

pub refused_text : (p : Contents) (text : Option (List ℕ)) (x : Listed) (s : State) (old : Option Recording) (n i : ℕ) (f : StreamFault)
    → Lists p text x s → RefusesNext p x (position s old i) n f → RefusesOver p text (position s old i) n f
refused_text p text x s None n i f h m = tt
refused_text p text x s (Some r) n i (stream.Cert f) h m =
    (fault-listed p text x (record { line = n; entry = i; next = next_of r }) s f h m.0 m.2, m.1)
refused_text p text x s (Some r) n i (stream.Read f) h m = ((h.0, h.1, same_uses x h.0 h.2 ∙ m.0, named p x h.0 s h.2 m.0 h.3), m.1, m.2)
refused_text p text x s (Some r) n i stream.Device h m = tt
refused_text p text x s (Some r) n i stream.OutOfMemory h m = tt

-- before its entry is known it is refused whatever the next entry is
first_refused : (p : Contents) (text : Option (List ℕ)) (s : State) (r : Recording) (n i : ℕ) (f : CertFault)
    → RefusesFirst p text n s f → RefusesOver p text (position s (Some r) i) n (of_cert f)
first_refused p text s r n i of.OutOfMemory h = tt
first_refused p text s r n i of.Version h = (h (record { line = n; entry = i; next = next_of r }) refl (λ z. cc), tt)
first_refused p text s r n i (of.Line m) h = (h (record { line = n; entry = i; next = next_of r }) refl (λ z. cc), tt)
first_refused p text s r n i (of.NotAllowed m) h = (h (record { line = n; entry = i; next = next_of r }) refl (λ z. cc), tt)
first_refused p text s r n i (of.StateDiffers m) h = (h (record { line = n; entry = i; next = next_of r }) refl (λ z. cc), tt)
first_refused p text s r n i (of.Unfinished j) h = (h (record { line = n; entry = i; next = next_of r }) refl (λ z. cc), tt)
first_refused p text s r n i (of.WordDiffers m j) h =
    let here = h (record { line = n; entry = i; next = next_of r }) refl (λ z. cc) in
    let there = h (record { line = n; entry = suc i; next = next_of r }) refl (λ z. cc) in
    absurd (apart j i here.3.1 there.3.1)
  where
    apart : (j i : ℕ) → j ≡ i → j ≡ suc i → ⊥
    apart j i e g = omega (arith, e, g)

pub refused_first : (p : Contents) (text : Option (List ℕ)) (s : State) (old : Option Recording) (n i : ℕ) (f : CertFault)
    → RefusesFirst p text n s f → RefusesOver p text (position s old i) n (of_cert f)
refused_first p text s None n i f h = tt
refused_first p text s (Some r) n i f h = first_refused p text s r n i f h

-- ---- how many entries a reader has given

-- a line that passes uses those that were given for it
pub used_given : (p : Contents) (x : Listed) (next : Option Entry) (s t : State) (used old new : ℕ)
    → GivesFor (uses_listed x) next old new → PassesListed p x (option_map seen_of next) (change s t) used → new ≡ old + used
used_given p x (Some e) s t used old new g h =
    let u = used_is p x (Some (seen_of e)) s t used h in omega (arith, g.0, g.1, u)
used_given p x None s t used old new g h = by (uses_listed x) refl
  where
    by : (n : ℕ) → uses_listed x ≡ n → new ≡ old + used
    by zero e = let u = used_is p x None s t used h in omega (arith, g, u, e)
    by (suc n) e =
        let l = line_of x in
        let one : uses l.0 ≡ 1 = let u = same_uses x l.0 l.1 in let few = listed_few x in omega (arith, u, few, e) in
        absurd (no_step p (step_of l.0 None) s t (wants l.0 one) (h l.0 l.1).0)

-- one at most, to a step that uses one
pub most_given : (uses : ℕ) (next : Option Entry) (old new : ℕ) → GivesFor uses next old new → (new ≡ old) ⊎ ((uses ≡ 1) × (new ≡ old + 1))
most_given uses None old new g = inl g
most_given uses (Some e) old new g = inr g

-- none at a fault of the recording
pub none_given : (Wants : Type 0) (f : ReadFault) (old new : ℕ) → new ≡ old → GivesAtFault Wants (of_read f) old new
none_given Wants read.Header old new e = e
none_given Wants (read.Row i) old new e = e
none_given Wants (read.TimeBack i) old new e = e
none_given Wants read.TooMany old new e = e
none_given Wants read.Device old new e = e
none_given Wants read.OutOfMemory old new e = inl e
none_given Wants read.Failed old new e = e

pub cert_given : (Wants : Type 0) (f : CertFault) (old new : ℕ)
    → (new ≡ old) ⊎ (Wants × (new ≡ old + 1)) → GivesAtFault Wants (of_cert f) old new
cert_given Wants of.Version old new h = h
cert_given Wants (of.Line m) old new h = h
cert_given Wants (of.NotAllowed m) old new h = h
cert_given Wants (of.StateDiffers m) old new h = h
cert_given Wants (of.WordDiffers m j) old new h = h
cert_given Wants (of.Unfinished j) old new h = h
cert_given Wants of.OutOfMemory old new h = h

pub not_taken_given : (replay : Replay) (x : Listed) (next : Option Seen) (Wants : Type 0) (f : StreamFault) (old new : ℕ)
    → IsNotTaken replay x next f → (new ≡ old) ⊎ (Wants × (new ≡ old + 1)) → GivesAtFault Wants f old new
not_taken_given replay x next Wants (stream.Cert f) old new m h = h
not_taken_given replay x next Wants (stream.Read f) old new m h = absurd m
not_taken_given replay x next Wants stream.Device old new m h = h
not_taken_given replay x next Wants stream.OutOfMemory old new m h = h

most_more : (A B : Type 0) (old new : ℕ) → (A → B) → (new ≡ old) ⊎ (A × (new ≡ old + 1)) → (new ≡ old) ⊎ (B × (new ≡ old + 1))
most_more A B old new f (inl e) = inl e
most_more A B old new f (inr h) = inr (f h.0, h.1)

-- the line wants the entry that its step uses
pub line_given : (p : Contents) (text : Option (List ℕ)) (x : Listed) (s : State) (f : StreamFault) (old new : ℕ)
    → Lists p text x s → GivesAtFault (uses_listed x ≡ 1) f old new → GivesAtFault (WantsEntry p text s) f old new
line_given p text x s f old new h g = by f g
  where
    wanted : uses_listed x ≡ 1 → WantsEntry p text s
    wanted e = (h.0, h.1, same_uses x h.0 h.2 ∙ e, named p x h.0 s h.2 e h.3)

    by : (f : StreamFault) → GivesAtFault (uses_listed x ≡ 1) f old new → GivesAtFault (WantsEntry p text s) f old new
    by (stream.Cert f) g = most_more (uses_listed x ≡ 1) (WantsEntry p text s) old new wanted g
    by (stream.Read f) g = g
    by stream.Device g = most_more (uses_listed x ≡ 1) (WantsEntry p text s) old new wanted g
    by stream.OutOfMemory g = most_more (uses_listed x ≡ 1) (WantsEntry p text s) old new wanted g

-- ---- files that are put

placed_append : (i : ℕ) (xs ys : List FileBytes) → placed i (xs ++ ys) ≡ placed i xs ++ placed (i + length xs) ys
placed_append i [] ys = let n : i ≡ i + 0 = omega arith in ap (λ (k : ℕ). placed k ys) n
placed_append i (x ∷ xs) ys =
    let n : suc i + length xs ≡ i + suc (length xs) = omega arith in
    ap (λ (l : List PutFile). record { index = i; file = x } ∷ l)
    (placed_append (suc i) xs ys ∙ ap (λ (k : ℕ). placed (suc i) xs ++ placed k ys) n)

gains_both : (a b c : Option (List PutFile)) (i : ℕ) (xs ys : List FileBytes)
    → GainsAll a b i xs → GainsAll b c (i + length xs) ys → GainsAll a c i (xs ++ ys)
gains_both None b c i xs ys h g = tt
gains_both (Some x) None c i xs ys h g = absurd h
gains_both (Some x) (Some y) None i xs ys h g = absurd g
gains_both (Some x) (Some y) (Some z) i xs ys h g =
    g ∙ ap (λ (l : List PutFile). l ++ placed (i + length xs) ys) h ∙ append_assoc x (placed i xs) (placed (i + length xs) ys)
    ∙ ap (λ (l : List PutFile). x ++ l) (sym (placed_append i xs ys))

pub gains_none : (a : Option (List PutFile)) (i : ℕ) → GainsAll a a i []
gains_none None i = tt
gains_none (Some x) i = sym (append-nil x)

pub gains_same : (a b c : Option (List PutFile)) (i : ℕ) (files : List FileBytes)
    → GainsAll a b i files → IsUnchanged b c → GainsAll a c i files
gains_same None b c i files h g = tt
gains_same (Some x) None c i files h g = absurd h
gains_same (Some x) (Some y) None i files h g = absurd g
gains_same (Some x) (Some y) (Some z) i files h g = g ∙ h

pub gains_one : (a b : Option (List PutFile)) (i : ℕ) (f : FileBytes) → Gains a b i f.number f.bytes → GainsAll a b i (f ∷ [])
gains_one None b i f g = tt
gains_one (Some x) None i f g = absurd g
gains_one (Some x) (Some y) i f g = g

-- the place of the next files is behind those that were noted
pub put_on : (a b c : Option (List PutFile)) (init now : List (ℕ × ℕ)) (xs ys : List FileBytes)
    → GainsAll a b (length init + 1) xs → now ≡ init ++ sizes xs → GainsAll b c (length now + 1) ys
    → GainsAll a c (length init + 1) (xs ++ ys)
put_on a b c init now xs ys h e g =
    let all : length now ≡ length init + length xs = ap (λ (l : List (ℕ × ℕ)). length l) e ∙ length-append init (sizes xs)
    ∙ ap (λ n. length init + n) (length-map xs (λ f. (f.number, length f.bytes))) in
    let place : length now + 1 ≡ length init + 1 + length xs = omega (arith, all) in
    gains_both a b c (length init + 1) xs ys h (subst (λ n. GainsAll b c n ys) place g)

pub noted_on : (init now new : List (ℕ × ℕ)) (xs ys : List FileBytes)
    → now ≡ init ++ sizes xs → new ≡ now ++ sizes ys → new ≡ init ++ sizes (xs ++ ys)
noted_on init now new xs ys e g =
    g ∙ ap (λ (l : List (ℕ × ℕ)). l ++ sizes ys) e ∙ append_assoc init (sizes xs) (sizes ys)
    ∙ ap (λ (l : List (ℕ × ℕ)). init ++ l) (sym (map-append (λ f. (f.number, length f.bytes)) xs ys))

past_front : (k : ℕ) (files : List FileBytes)
    → k < length files → (f : FileBytes) × (more : List FileBytes) × (files ≡ take k files ++ f ∷ more)
past_front k [] h = absurd (omega arith)
past_front zero (f ∷ files) h = (f, files, refl)
past_front (suc k) (f ∷ files) h =
    let next = past_front k files (omega arith) in (next.0, next.1, ap (λ (l : List FileBytes). f ∷ l) next.2)

pub front_put : (a b c : Option (List PutFile)) (i k : ℕ) (files : List FileBytes)
    → k < length files → GainsAll a b i (take k files) → IsUnchanged b c → GainsFront a c i files
front_put a b c i k files inside h g =
    let past = past_front k files inside in
    record { front = take k files; next = past.0; more = past.1; first = past.2; gained = gains_same a b c i (take k files) h g }
