-- A part that is held against the run that goes through the parts before it.
use Rattle.std.proofs.Common.{◌≡◌, ◌≢◌, ◌⊎◌, ◌≤◌, ◌+◌, ◌-◌, ◌%◌, ◌∙◌, ◌++◌, ◌∷◌, inl, inr, ℕ, zero, suc, List, [], length, take, drop, Bool, true, false, nat_le, if◌then◌else◌, Option, Some, None, option_map, slice_get, Ok, Err, refl, sym, ap, subst, arith}
use Rattle.std.proofs.lemmas.Bool.{le-leb, leb-true}
use Rattle.std.proofs.lemmas.List.{length-map, take_all}
use Rattle.a429_word.proofs.ListFacts.{none_past}
use Rattle.a429_profile.specs.Profile.{Contents}
use Rattle.a429_link.specs.declared.file.FileBytes.{FileBytes}
use Rattle.a429_link.specs.declared.state.SourceState.{SourceState}
use Rattle.a429_link.specs.declared.state.SourceState.TheVariants.{Idle, Awaiting, Sending, Waiting}
use Rattle.a429_link.specs.Link.{LinkValue, with_earlier, handed_out}
use Rattle.a429_link.specs.declared.step.Step.TheVariants.{GiveUp}
use Rattle.a429_link.specs.GiveUps.{MayGiveUp}
use Rattle.a429_link.specs.Number.{files_past}
use Rattle.a429_link.specs.Run.{end_of}
use Rattle.a429_link.specs.Source.{IsIdle}
use Rattle.a429_link.specs.State.{State}
use Rattle.a429_record.specs.declared.fault.ReadFault.{ReadFault}
use Rattle.a429_record.specs.declared.fault.ReadFault.TheVariants as read
use Rattle.a429_record.specs.Entries.{EntriesLeft}
use Rattle.a429_record.specs.Recording.{Recording, whole}
use Rattle.a429_record.specs.Rows.{GivesNext, Stops}
use Rattle.a429_cert.specs.declared.explained.Head.{Head}
use Rattle.a429_cert.specs.declared.fault.CertFault.{CertFault}
use Rattle.a429_cert.specs.declared.fault.CertFault.TheVariants as of
use Rattle.a429_cert.specs.declared.shelf.PutFile.{PutFile}
use Rattle.a429_cert.specs.declared.replay.Replay.{Replay}
use Rattle.a429_cert.specs.declared.stream_fault.StreamFault.{StreamFault}
use Rattle.a429_cert.specs.declared.stream_fault.StreamFault.TheVariants as stream
use Rattle.a429_cert.specs.Change.{change}
use Rattle.a429_cert.specs.Report.{position}
use Rattle.a429_cert.specs.Lines.{certificate_lines}
use Rattle.a429_cert.specs.Version.{read_as, step_lines}
use Rattle.a429_cert.specs.CutLines.{GivesLine}
use Rattle.a429_cert.specs.Explained.{items_of, seen_of, Leads}
use Rattle.a429_cert.specs.Fault.{at_line, IsFaultAt, IsFaultOfHead}
use Rattle.a429_cert.specs.Stream.{taking, left_after, next_of, PassesOver, RefusesOver, StopsAt, of_read}
use Rattle.a429_cert.specs.StreamEnd.{EndsLate}
use Rattle.a429_cert.specs.StreamHead.{RefusesHead, TakesHead}
use Rattle.a429_cert.specs.StreamExplained.{WhereBothKnown, WantsNext, EndsAt}
use Rattle.a429_cert.specs.Series.{SeriesValue, IsBetweenParts, begun, allowed, gap, give_ups, Fits, IsPartFault, RefusesPart}
use Rattle.a429_cert.proofs.ExplainedFacts.{begins_at, none_read}
use Rattle.a429_cert.proofs.EarlierFiles.{given_out}
use Rattle.a429_cert.proofs.StreamStands.{StandsFrom, goes_from, hands_from, next_at}
use Rattle.a429_cert.proofs.StreamRefused.{fault_from, left_from, ends_at, wants_line, wants_end}
use Rattle.a429_cert.proofs.StreamLine.{refused_here}
use Rattle.a429_cert.proofs.StreamReplay.{both_known_map, none_next}

-- ---- files that are given up

-- how many files come before this one
pub past_is : (first file : ℕ) → file ≤ 255 → (first + (256 - file)) % 256 ≡ files_past first file
past_is first file h = let n : first + (256 - file) ≡ first + 256 - file = omega (arith, h) in ap (λ m. m % 256) n

allowed_all : (x : SourceState) (given n : ℕ) → IsIdle x → given + n ≤ 127 → allowed x given n ≡ n
allowed_all Idle given n i few = rw (le-leb (given + n) 127 few) refl
allowed_all Awaiting given n i few = absurd i
allowed_all (Sending k) given n i few = absurd i
allowed_all Waiting given n i few = absurd i

-- all of them, where they may be
pub gap_all : (s : State) (first n : ℕ) → n ≡ files_past first s.source.number.file → MayGiveUp s n → gap s first ≡ n
gap_all s first n e h = ap (allowed s.source.phase s.source.give_ups) (sym e) ∙ allowed_all s.source.phase s.source.give_ups n h.0 h.1

allowed_none : (x : SourceState) (given n : ℕ) → (IsIdle x × (given + n ≤ 127) → ⊥) → allowed x given n ≡ 0
allowed_none Idle given n h = by (nat_le (given + n) 127) refl
  where
    by : (b : Bool) → nat_le (given + n) 127 ≡ b → (if b then n else 0) ≡ 0
    by true e = absurd (h (tt, leb-true (given + n) 127 e))
    by false e = refl
allowed_none Awaiting given n h = refl
allowed_none (Sending k) given n h = refl
allowed_none Waiting given n h = refl

-- and none, where they may not
pub gap_none : (s : State) (first n : ℕ) → n ≡ files_past first s.source.number.file → (MayGiveUp s n → ⊥) → gap s first ≡ 0
gap_none s first n e h = ap (allowed s.source.phase s.source.give_ups) (sym e) ∙ allowed_none s.source.phase s.source.give_ups n h

pub one_first : (n : ℕ) → 1 ≤ n → give_ups n ≡ GiveUp ∷ give_ups (n - 1)
one_first zero h = absurd (omega (arith, h))
one_first (suc n) h = let same : suc n - 1 ≡ n = omega arith in rw same refl

-- the sink has its files, and they are none where it had none
pub no_files : (p : Contents) (n : ℕ) (s : State) → s.sink.received.files ≡ [] → (end_of p (give_ups n) s).sink.received.files ≡ []
no_files p zero s e = e
no_files p (suc n) s e = no_files p n _ e

-- none are there where a part begins
pub begun_no_files : (p : Contents) (o : Option LinkValue) (first : ℕ)
    → IsBetweenParts p o → (begun p (option_map (λ (l : LinkValue). l.state) o) first).sink.received.files ≡ []
begun_no_files p None first h = refl
begun_no_files p (Some l) first h = no_files p (gap l.state first) l.state h.1

-- ---- where a part is

module _ (old : SeriesValue) (d : Head) where
  abbrev from : State
  from = begun old.profile old.state d.first

  abbrev pub IsIn : ℕ → ℕ → List FileBytes → State → Option (List ℕ) → Option Recording → List ℕ → Recording → Type 0
  IsIn k i taken s left rec text r = StandsFrom old.profile from text r d k i taken s left rec

  pub part_init : (s : State) (known before left : Option (List ℕ)) (rec : Option Recording)
      → before ≡ known → TakesHead before left d → s ≡ from → WhereBothKnown known rec (IsIn 0 0 [] s left rec)
  part_init s None before left rec e h z = tt
  part_init s (Some text) before left None e h z = tt
  part_init s (Some text) before left (Some r) e h z = by left (subst (λ o. TakesHead o left d) e h)
    where
      by : (left : Option (List ℕ)) → TakesHead (Some text) left d → IsIn 0 0 [] s left (Some r) text r
      by None h = absurd h
      by (Some ys) h = record {
        says = h.0;
        lines = (ys, refl, h.1);
        inside = omega arith;
        reached = begins_at old.profile from (with_earlier [] s) z;
        rest = refl;
      }

  module _ (k i : ℕ) (taken : List FileBytes) (s : State) (known left more held : Option (List ℕ)) (first rec : Option Recording) where
    pub part_on : (used : ℕ) (t : State) (new : Option Recording)
        → GivesLine left more held true → PassesOver old.profile (read_as d.version held) (change s t) (change rec new) used
        → WhereBothKnown known first (IsIn k i taken s left rec)
        → WhereBothKnown known first (IsIn (suc k) (i + used) (taken ++ t.sink.received.files) (handed_out t) more new)
    part_on used t new g m =
        both_known_map known first (IsIn k i taken s left rec)
        (IsIn (suc k) (i + used) (taken ++ t.sink.received.files) (handed_out t) more new)
        (λ text r h. hands_from old.profile from text r d (suc k) (i + used) taken t more new
        (goes_from old.profile from text r d k i used taken s t held left more rec new h g m))

    -- ---- a line that is refused

    cert_part : (f : CertFault) (text : List ℕ) (r : Recording) → EndsAt r f
        → IsFaultAt old.profile (with_earlier taken s) (at_line (k + 3) i (slice_get (items_of r.entries) i))
        (slice_get (step_lines d.version text) k) f
        → IsIn k i taken s left rec text r → IsPartFault old (stream.Cert f) text r
    cert_part f text r ends g h =
        inr (record {
          k = k;
          i = i;
          state = with_earlier taken s;
          before = record { head = d; says = h.says; inside = h.inside; before = h.reached };
          fault = g;
          ends = ends;
        })

    read_part : (f : ReadFault) (text : List ℕ) (r : Recording)
        → WantsNext old.profile (slice_get (step_lines d.version text) k) (with_earlier taken s) → Stops f (left_after i r)
        → f ≢ read.OutOfMemory
        → IsIn k i taken s left rec text r → IsPartFault old (stream.Read f) text r
    read_part f text r wants stops reports h =
        record {
          k = k;
          i = i;
          state = with_earlier taken s;
          before = record { head = d; says = h.says; inside = h.inside; before = h.reached };
          wants = wants;
          fault = stops;
          reports = reports;
        }

    line_part : (f : StreamFault) (text : List ℕ) (r : Recording)
        → GivesLine left more held true → RefusesOver old.profile (read_as d.version held) (position s (Some (left_after i r)) i) (k + 3) f
        → IsIn k i taken s left rec text r → IsPartFault old f text r
    line_part (stream.Cert f) text r g m h =
        cert_part f text r (ends_at old.profile s r (k + 3) i (read_as d.version held) f m.0 m.1)
        (fault_from old.profile from d k i taken s held left more rec f text r g m.0 h) h
    line_part (stream.Read f) text r g m h =
        read_part f text r
        (wants_line old.profile d.version k taken s held left more (drop 2 (certificate_lines text)) g h.lines m.0) m.1 m.2 h
    line_part stream.Device text r g m h = tt
    line_part stream.OutOfMemory text r g m h = tt

    pub part_refused : (n : ℕ) (f : StreamFault)
        → n ≡ k + 3 → GivesLine left more held true → RefusesOver old.profile (read_as d.version held) (position s rec i) n f
        → WhereBothKnown known first (IsIn k i taken s left rec) → RefusesPart old known first f
    part_refused n f e g m =
        both_known_map known first (IsIn k i taken s left rec) (IsPartFault old f)
        (λ text r h. line_part f text r g
        (subst (λ (j : ℕ). RefusesOver old.profile (read_as d.version held) (position s (Some (left_after i r)) i) j f) e
        (subst (λ o. RefusesOver old.profile (read_as d.version held) (position s o i) n f) h.rest m)) h)

    -- ---- after the last line

    late_read : (f : ReadFault) (text : List ℕ) (r : Recording) (new : Option Recording)
        → GivesLine left more held false → Stops f (left_after i r) → IsIn k i taken s left rec text r → IsPartFault old (of_read f) text r
    late_read f text r new g stops h = by f stops
      where
        wants : WantsNext old.profile (slice_get (step_lines d.version text) k) (with_earlier taken s)
        wants = wants_end old.profile d.version k taken s held left more (drop 2 (certificate_lines text)) g h.lines

        by : (f : ReadFault) → Stops f (left_after i r) → IsPartFault old (of_read f) text r
        by read.Header stops = read_part read.Header text r wants stops (λ z. cc) h
        by (read.Row n) stops = read_part (read.Row n) text r wants stops (λ z. cc) h
        by (read.TimeBack n) stops = read_part (read.TimeBack n) text r wants stops (λ z. cc) h
        by read.TooMany stops = read_part read.TooMany text r wants stops (λ z. cc) h
        by read.Device stops = read_part read.Device text r wants stops (λ z. cc) h
        by read.OutOfMemory stops = tt
        by read.Failed stops = read_part read.Failed text r wants stops (λ z. cc) h

    pub part_late : (new : Option Recording) (f : StreamFault) → GivesLine left more held false → EndsLate i rec new f
        → WhereBothKnown known first (IsIn k i taken s left rec) → RefusesPart old known first f
    part_late new f g (inl e) =
        both_known_map known first (IsIn k i taken s left rec) (IsPartFault old f)
        (λ text r h.
        let next = subst (λ o. GivesNext o new (Ok (Some e.0))) h.rest e.1 in
        subst (λ (o : StreamFault). IsPartFault old o text r) (sym e.2)
        (cert_part (of.Unfinished i) text r tt (left_from old.profile from d k i taken s held left more rec e.0 new text r g next h) h))
    part_late new f g (inr e) =
        both_known_map known first (IsIn k i taken s left rec) (IsPartFault old f)
        (λ text r h.
        subst (λ (o : StreamFault). IsPartFault old o text r) (sym e.2)
        (late_read e.0 text r new g (subst (λ o. GivesNext o new (Err e.0)) h.rest e.1) h))

    -- all lines are passed, and all entries used
    fits : (new : Option Recording) (joined : SeriesValue) (text : List ℕ) (r : Recording) → s.sink.received.files ≡ []
        → GivesLine left more held false → GivesNext rec new (Ok None) → joined.state ≡ Some s → joined.entries ≡ i
        → IsIn k i taken s left rec text r → Fits old joined taken text r
    fits new joined text r none g e is used h =
        let end : left_after i r ≡ whole [] = subst (λ o. GivesNext o new (Ok None)) h.rest e in
        let items = items_of r.entries in
        let lines = step_lines d.version text in
        let all : length items ≤ i = none_past items i (sym (next_at r.entries i) ∙ ap next_of end) in
        let past : length lines ≤ k =
        none_past lines k
        (none_read d.version (drop 2 (certificate_lines text)) k
        (none_next (drop 2 (certificate_lines text)) k left more held h.lines g)) in
        record {
          head = d;
          says = h.says;
          whole = ap (λ (q : Recording). q.fault) end;
          last = with_earlier taken s;
          leads = subst (λ (l : List _). Leads old.profile from lines l (with_earlier taken s)) (take_all i items all)
              (subst (λ (l : List _). Leads old.profile from l (take i items) (with_earlier taken s)) (take_all k lines past) h.reached);
          delivers = given_out taken s none;
          state = is ∙ ap (λ (q : State). Some q) (handed taken s none);
          entries = omega (arith, used, all, h.inside, length-map r.entries seen_of);
        }
      where
        handed : (taken : List FileBytes) (s : State) → s.sink.received.files ≡ [] → s ≡ handed_out (with_earlier taken s)
        handed taken s none = ap (with_files s) none
          where
            with_files : State → List FileBytes → State
            with_files s l = record s { sink = record (s.sink) { received = record (s.sink.received) { files = l } } }

    pub part_fits : (new : Option Recording) (joined : SeriesValue) → s.sink.received.files ≡ [] → GivesLine left more held false
        → GivesNext rec new (Ok None) → joined.state ≡ Some s → joined.entries ≡ i
        → WhereBothKnown known first (IsIn k i taken s left rec) → WhereBothKnown known first (Fits old joined taken)
    part_fits new joined none g e is used =
        both_known_map known first (IsIn k i taken s left rec) (Fits old joined taken)
        (λ text r h. fits new joined text r none g e is used h)

-- ---- the first two lines are refused

pub part_head : (old : SeriesValue) (known before : Option (List ℕ)) (rec : Option Recording) (f : StreamFault)
    → before ≡ known → RefusesHead IsFaultOfHead before f → RefusesPart old known rec f
part_head old None before rec f e h = tt
part_head old (Some text) before None f e h = tt
part_head old (Some text) before (Some r) f e h = by f (subst (λ o. RefusesHead IsFaultOfHead o f) e h)
  where
    by : (f : StreamFault) → RefusesHead IsFaultOfHead (Some text) f → IsPartFault old f text r
    by (stream.Cert f) h = inl h
    by (stream.Read f) h = absurd h
    by stream.Device h = tt
    by stream.OutOfMemory h = tt

-- a device has failed, or memory was refused
pub part_stopped : (old : SeriesValue) (known : Option (List ℕ)) (rec : Option Recording) (f : StreamFault)
    → (f ≡ stream.Device) ⊎ (f ≡ stream.OutOfMemory) → RefusesPart old known rec f
part_stopped old None rec f e = tt
part_stopped old (Some text) None f e = tt
part_stopped old (Some text) (Some r) stream.Device e = tt
part_stopped old (Some text) (Some r) stream.OutOfMemory e = tt
part_stopped old (Some text) (Some r) (stream.Cert f) (inl e) = absurd (cc e)
part_stopped old (Some text) (Some r) (stream.Cert f) (inr e) = absurd (cc e)
part_stopped old (Some text) (Some r) (stream.Read f) (inl e) = absurd (cc e)
part_stopped old (Some text) (Some r) (stream.Read f) (inr e) = absurd (cc e)

-- a line is not gone on from
pub part_stops : {S : Type 0} {shelved : S → Option (List PutFile)} {failed : S → Bool} {listener : Bool} {before after : S}
    (old : SeriesValue) (replay : Replay) (d : Head) (k : ℕ) (taken : List FileBytes) (known left more held text : Option (List ℕ))
    (first : Option Recording) (rec new : EntriesLeft) (f : StreamFault)
    → replay.profile.now ≡ old.profile → replay.version ≡ d.version → replay.lines ≡ k + 3 → text ≡ held → GivesLine left more held true
    → WhereBothKnown known first (IsIn old d k replay.used taken replay.link.state left rec.to_come)
    → StopsAt shelved failed listener (taking replay text (change rec new) (change before after)) f → RefusesPart old known first f
part_stops old replay d k taken known left more held text first rec new f profile version n same given reports (inl h) =
    part_refused old d k replay.used taken replay.link.state known left more held first rec.to_come replay.lines f n given
    (refused_here old.profile replay d held text rec.to_come f profile version same h.ends) reports
part_stops old replay d k taken known left more held text first rec new f profile version n same given reports (inr h) =
    part_stopped old known first f h.fault
