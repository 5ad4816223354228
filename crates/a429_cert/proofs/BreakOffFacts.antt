-- The place at which a replay along a certificate's lines breaks off, where both are told.
use Rattle.std.proofs.Common.{◌≡◌, ◌≢◌, ◌⊎◌, inl, inr, ◌≤◌, ◌+◌, ◌-◌, ◌∙◌, ◌++◌, ◌∷◌, arith, ℕ, suc, List, [], length, length-append, drop, Bool, true, false, Option, Some, None, slice_get, Err, refl, sym, ap, subst, append-nil}
use Rattle.std.proofs.lemmas.List.{drop-drop}
use Rattle.std.specs.Io.KnownBytes.{Keeps, prepend_known}
use Rattle.std.proofs.lemmas.Option.{same_Some}
use Rattle.a429_profile.specs.Profile.{Contents}
use Rattle.a429_link.specs.declared.file.FileBytes.{FileBytes}
use Rattle.a429_link.specs.State.{State}
use Rattle.a429_link.specs.Link.{with_earlier}
use Rattle.a429_record.specs.declared.fault.ReadFault.{ReadFault}
use Rattle.a429_record.specs.declared.fault.ReadFault.TheVariants as fault
use Rattle.a429_record.specs.Entries.{EntriesLeft}
use Rattle.a429_record.specs.Recording.{Recording}
use Rattle.a429_record.specs.Rows.{Stops, GivesNext}
use Rattle.a429_cert.specs.declared.explained.Head.{Head}
use Rattle.a429_cert.specs.declared.shelf.PutFile.{PutFile}
use Rattle.a429_cert.specs.declared.replay.Replay.{Replay}
use Rattle.a429_cert.specs.declared.stream_fault.StreamFault.{StreamFault}
use Rattle.a429_cert.specs.declared.stream_fault.StreamFault.TheVariants as stream
use Rattle.a429_cert.specs.Lines.{certificate_lines}
use Rattle.a429_cert.specs.CutLines.{GivesLine, HasRead, HasReadTo}
use Rattle.a429_record.specs.Ends.{HasNoEnd}
use Rattle.a429_cert.specs.Explained.{step_of}
use Rattle.a429_cert.specs.Fault.{IsFaultOfHead}
use Rattle.a429_cert.specs.Version.{read_as, step_lines}
use Rattle.a429_cert.specs.Stream.{taking, left_after, next_of, of_read, sizes, GainsAll, GivesAtFault, PassesOver, RefusesOver, StopsAt, WantsEntry}
use Rattle.a429_cert.specs.StreamEnd.{EndsLate, GivesNone}
use Rattle.a429_cert.specs.StreamHead.{ReadsAtMost, RefusesHead}
use Rattle.a429_cert.specs.StreamExplained.{reached, WhereBothKnown, WantsNext, Delivers}
use Rattle.a429_cert.specs.BreakOff.{halted, Readers, shelved, IsBetweenLines, IsAtLine, IsAtFile, IsAtEntry, IsPlace, BreaksOff}
use Rattle.a429_cert.proofs.EarlierFiles.{given_out}
use Rattle.a429_cert.proofs.StreamFacts.{put_on}
use Rattle.a429_cert.proofs.StreamStands.{AreLeftAfter, Stands, lines_behind, goes_on}
use Rattle.a429_cert.proofs.StreamRefused.{delivers, wants_line, wants_end, one_of}
use Rattle.a429_cert.proofs.StreamReplay.{both_known_map}
use Rattle.a429_cert.proofs.StreamLine.{refused_here}
use Rattle.a429_cert.specs.Change.{change}
use Rattle.a429_cert.specs.Report.{position}

-- ---- how far the text was read

has_read : (text : List ℕ) (k : ℕ) (ahead : List ℕ) (left : Option (List ℕ))
    → AreLeftAfter (drop 2 (certificate_lines text)) k (prepend_known ahead left) → HasRead text left (k + 2) ahead
has_read text k ahead None h = absurd (cc h.1)
has_read text k ahead (Some left) h =
    let n : 2 + k ≡ k + 2 = omega arith in
    ap certificate_lines (same_Some (ahead ++ left) h.0 h.1) ∙ h.2 ∙ drop-drop k 2 (certificate_lines text)
    ∙ ap (λ m. drop m (certificate_lines text)) n

-- no line was handed out
keeps_behind : (lines : List (Option (List ℕ))) (k : ℕ) (old new : Option (List ℕ))
    → Keeps old new → AreLeftAfter lines k old → AreLeftAfter lines k new
keeps_behind lines k None new keeps h = absurd (cc h.1)
keeps_behind lines k (Some xs) None keeps h = absurd keeps
keeps_behind lines k (Some xs) (Some ys) keeps h = (ys, refl, ap certificate_lines (keeps ∙ same_Some xs h.0 h.1) ∙ h.2)

-- one was, which stays where it is if it has no end
unended_kept : (old new : Option (List ℕ)) → GivesLine old new None true → Keeps old new
unended_kept None new g = tt
unended_kept (Some xs) None g = absurd g
unended_kept (Some xs) (Some ys) g = g.1

pub reads_line : (text : List ℕ) (k : ℕ) (ahead : List ℕ) (old left held : Option (List ℕ))
    → length ahead ≤ 2288 → GivesLine old (prepend_known ahead left) held true
    → AreLeftAfter (drop 2 (certificate_lines text)) k old → HasReadTo text left (k + 2) (k + 3)
reads_line text k ahead old left None few g h = record {
  lines = k + 2;
  ahead = ahead;
  from = omega arith;
  to = omega arith;
  few = few;
  read =
      has_read text k ahead left
      (keeps_behind (drop 2 (certificate_lines text)) k old (prepend_known ahead left) (unended_kept old (prepend_known ahead left) g) h);
}
reads_line text k ahead old left (Some held) few g h = record {
  lines = suc k + 2;
  ahead = ahead;
  from = omega arith;
  to = omega arith;
  few = few;
  read = has_read text (suc k) ahead left (lines_behind (drop 2 (certificate_lines text)) k old (prepend_known ahead left) held h g);
}

pub reads_none : (text : List ℕ) (k : ℕ) (ahead : List ℕ) (old left : Option (List ℕ))
    → length ahead ≤ 2288 → Keeps old (prepend_known ahead left)
    → AreLeftAfter (drop 2 (certificate_lines text)) k old → HasReadTo text left (k + 2) (k + 3)
reads_none text k ahead old left few keeps h = record {
  lines = k + 2;
  ahead = ahead;
  from = omega arith;
  to = omega arith;
  few = few;
  read = has_read text k ahead left (keeps_behind (drop 2 (certificate_lines text)) k old (prepend_known ahead left) keeps h);
}

-- ---- where a replay is

module _ (p : Contents) (d : Head) (k i : ℕ) (taken : List FileBytes) (s : State) (old : Option (List ℕ)) (rec : Option Recording)
    (read : Readers) (text : List ℕ) (r : Recording) where
  between : (ahead : List ℕ) → s.sink.received.files ≡ [] → HasNoEnd ahead → Keeps old (prepend_known ahead read.left) → read.given ≡ i
      → Stands p text r d k i taken s old rec → IsBetweenLines p text r read taken
  between ahead none cut keeps given h = record {
    k = k;
    state = with_earlier taken s;
    before =
        subst (λ n. Delivers p text r (reached k n (with_earlier taken s)) taken) (sym given)
        (delivers p d k i taken s old rec text r none h);
    part = ahead;
    cut = cut;
    lines =
        has_read text k ahead read.left
        (keeps_behind (drop 2 (certificate_lines text)) k old (prepend_known ahead read.left) keeps h.lines);
  }

  at_this_line : s.sink.received.files ≡ [] → HasReadTo text read.left (k + 2) (k + 3)
      → (read.given ≡ i) ⊎ ((read.given ≡ i + 1) × WantsNext p (slice_get (step_lines d.version text) k) (with_earlier taken s))
      → Stands p text r d k i taken s old rec → IsAtLine p text r read taken
  at_this_line none lines given h = record {
    k = k;
    i = i;
    state = with_earlier taken s;
    before = record { head = d; says = h.says; inside = h.inside; before = h.reached; gives = given_out taken s none };
    lines = lines;
    given = given;
  }

  at_entry : (shelf listener : Bool) (f : ReadFault) → s.sink.received.files ≡ [] → HasReadTo text read.left (k + 2) (k + 3)
      → read.given ≡ i → WantsNext p (slice_get (step_lines d.version text) k) (with_earlier taken s)
      → Stops f (left_after i r) → f ≢ fault.OutOfMemory → Stands p text r d k i taken s old rec
      → IsAtEntry (halted p read shelf listener taken) f text r
  at_entry shelf listener f none lines given wants stops reports h = record {
    wanted = record {
      k = k;
      i = i;
      state = with_earlier taken s;
      before = record { head = d; says = h.says; inside = h.inside; before = h.reached; gives = given_out taken s none };
      wants = wants;
      fault = stops;
      reports = reports;
    };
    lines = lines;
    given = given;
  }

-- ---- what was read until then

abbrev reads : Option (List ℕ) → Option (List ℕ) → Bool → EntriesLeft → EntriesLeft → Readers
reads known left failed first new =
    record { certificate = known; left = left; failed = failed; recording = first.to_come; given = new.count - first.count }

-- so many entries were given since the start
since : (first now new i : ℕ) → now ≡ first + i → new ≡ now → new - first ≡ i
since first now new i e g = omega (arith, e, g)

one_more : (first now new i : ℕ) → now ≡ first + i → new ≡ now + 1 → new - first ≡ i + 1
one_more first now new i e g = omega (arith, e, g)

used_more : (first now new i used : ℕ) → now ≡ first + i → new ≡ now + used → new - first ≡ i + used
used_more first now new i used e g = omega (arith, e, g)

-- ---- a line delivers one file at most

few_files : (p : Contents) (text : Option (List ℕ)) (s t : State) (rec : Option Recording) (r : Recording) (new : Option Recording)
    (used : ℕ)
    → rec ≡ Some r → s.sink.received.files ≡ [] → PassesOver p text (change s t) (change rec new) used → length t.sink.received.files ≤ 1
few_files p text s t rec r new used e none m =
    let passes = subst (λ o. PassesOver p text (change s t) (change o new) used) e m in
    one_of p (step_of passes.0.0 (next_of r)) s t none passes.0.2.0

only_file : (front more files : List FileBytes) (f : FileBytes)
    → length files ≤ 1 → files ≡ front ++ f ∷ more → (front ≡ []) × (files ≡ f ∷ [])
only_file [] [] files f few e = (refl, e)
only_file [] (y ∷ more) files f few e =
    let all : length files ≡ suc (suc (length more)) = ap (λ (l : List FileBytes). length l) e in
    absurd (omega (arith, all, few))
only_file (x ∷ front) more files f few e =
    let all : length files ≡ suc (length (front ++ f ∷ more)) = ap (λ (l : List FileBytes). length l) e in
    let left_after = length-append front (f ∷ more) in
    absurd (omega (arith, all, left_after, few))

-- ---- a replay breaks off in the first two lines

pub head_breaks : (p : Contents) (known old left : Option (List ℕ)) (failed shelf listener : Bool) (first new : EntriesLeft)
    (f : StreamFault)
    → old ≡ known → ReadsAtMost 2 old left f → RefusesHead IsFaultOfHead old f → new.count ≡ first.count
    → (f ≡ stream.Device → failed ≡ true)
    → WhereBothKnown known first.to_come (IsPlace (halted p (reads known left failed first new) shelf listener []) f)
head_breaks p known old left failed shelf listener first new f e h other given device =
    by known first.to_come f (subst (λ o. ReadsAtMost 2 o left f) e h) other device
  where
    none : new.count - first.count ≡ 0
    none = omega (arith, given)

    by : (known : Option (List ℕ)) (rec : Option Recording) (f : StreamFault)
        → ReadsAtMost 2 known left f → RefusesHead IsFaultOfHead old f → (f ≡ stream.Device → failed ≡ true)
        → WhereBothKnown known rec
        (IsPlace (halted p (record { certificate = known; left = left; failed = failed; recording = rec; given = new.count - first.count })
        shelf listener []) f)
    by None rec f h other device = tt
    by (Some text) None f h other device = tt
    by (Some text) (Some r) (stream.Cert f) h other device = tt
    by (Some text) (Some r) (stream.Read f) h other device = absurd other
    by (Some text) (Some r) stream.Device h other device = inl (device refl, inl (record { lines = h; given = none; none = refl }))
    by (Some text) (Some r) stream.OutOfMemory h other device = inl (record { lines = h; given = none; none = refl })

-- ---- a replay breaks off later

module _ (p : Contents) (d : Head) (k i : ℕ) (taken : List FileBytes) (s : State) (known old left : Option (List ℕ))
    (failed shelf listener : Bool) (ahead : List ℕ) (first rec new : EntriesLeft) where
  abbrev IsThere : List ℕ → Recording → Type 0
  IsThere text r = Stands p text r d k i taken s old rec.to_come

  abbrev pub IsPlaceOf : List FileBytes → StreamFault → List ℕ → Recording → Type 0
  IsPlaceOf files f = IsPlace (halted p (reads known left failed first new) shelf listener files) f

  -- the certificate's reader has failed between lines
  pub between_breaks : s.sink.received.files ≡ [] → HasNoEnd ahead → Keeps old (prepend_known ahead left) → rec.count ≡ first.count + i
      → new.count ≡ rec.count → failed ≡ true
      → WhereBothKnown known first.to_come IsThere → WhereBothKnown known first.to_come (IsPlaceOf taken stream.Device)
  between_breaks none cut keeps counted same device =
      both_known_map known first.to_come IsThere (IsPlaceOf taken stream.Device)
      (λ text r h. inl (
        device,
        inr (between p d k i taken s old rec.to_come (reads known left failed first new) text r ahead none cut keeps
            (since first.count rec.count new.count i counted same) h),
      ))

  -- behind the last line
  pub late_breaks : (held : Option (List ℕ)) (rest : Option Recording) (f : StreamFault) → s.sink.received.files ≡ [] → length ahead ≤ 2288
      → GivesLine old (prepend_known ahead left) held false → Keeps old (prepend_known ahead left)
      → rec.count ≡ first.count + i → EndsLate i rec.to_come rest f → GivesNone f rec.count new.count
      → WhereBothKnown known first.to_come IsThere → WhereBothKnown known first.to_come (IsPlaceOf taken f)
  late_breaks held rest f none few g keeps counted (inl e) same =
      both_known_map known first.to_come IsThere (IsPlaceOf taken f)
      (λ text r h. subst (λ (o : StreamFault). IsPlaceOf taken o text r) (sym e.2) tt)
  late_breaks held rest f none few g keeps counted (inr e) same =
      both_known_map known first.to_come IsThere (IsPlaceOf taken f)
      (λ text r h. subst (λ (o : StreamFault). IsPlaceOf taken o text r) (sym e.2)
      (by text r h e.0 (subst (λ o. GivesNext o rest (Err e.0)) h.rest e.1)
      (subst (λ (o : StreamFault). GivesNone o rec.count new.count) e.2 same)))
    where
      by : (text : List ℕ) (r : Recording) → IsThere text r → (f : ReadFault) → GivesNext (Some (left_after i r)) rest (Err f)
          → GivesNone (of_read f) rec.count new.count → IsPlaceOf taken (of_read f) text r
      by text r h f stops same = cases f stops same
        where
          entry : (f : ReadFault) → f ≢ fault.OutOfMemory → Stops f (left_after i r) → new.count ≡ rec.count
              → IsAtEntry (halted p (reads known left failed first new) shelf listener taken) f text r
          entry f reports stops same =
              at_entry p d k i taken s old rec.to_come (reads known left failed first new) text r shelf listener f none
              (reads_none text k ahead old left few keeps h.lines) (since first.count rec.count new.count i counted same)
              (wants_end p d.version k taken s held old (prepend_known ahead left) (drop 2 (certificate_lines text)) g h.lines) stops
              reports h

          cases : (f : ReadFault)
              → Stops f (left_after i r) → GivesNone (of_read f) rec.count new.count → IsPlaceOf taken (of_read f) text r
          cases fault.Header stops same = entry fault.Header (λ z. cc) stops same
          cases (fault.Row n) stops same = entry (fault.Row n) (λ z. cc) stops same
          cases (fault.TimeBack n) stops same = entry (fault.TimeBack n) (λ z. cc) stops same
          cases fault.TooMany stops same = entry fault.TooMany (λ z. cc) stops same
          cases fault.Device stops same = entry fault.Device (λ z. cc) stops same
          cases fault.Failed stops same = entry fault.Failed (λ z. cc) stops same
          cases fault.OutOfMemory stops same =
              inr (inr (at_this_line p d k i taken s old rec.to_come (reads known left failed first new) text r none
              (reads_none text k ahead old left few keeps h.lines) (inl (since first.count rec.count new.count i counted same)) h))

  module _ (held : Option (List ℕ)) (none : s.sink.received.files ≡ []) (few : length ahead ≤ 2288)
      (g : GivesLine old (prepend_known ahead left) held true) (counted : rec.count ≡ first.count + i) where
    given_here : (text : List ℕ) (r : Recording)
        → IsThere text r → (new.count ≡ rec.count) ⊎ (WantsEntry p (read_as d.version held) s × (new.count ≡ rec.count + 1))
        → (new.count - first.count ≡ i)
        ⊎ ((new.count - first.count ≡ i + 1) × WantsNext p (slice_get (step_lines d.version text) k) (with_earlier taken s))
    given_here text r h (inl e) = inl (since first.count rec.count new.count i counted e)
    given_here text r h (inr e) =
        inr (
          one_more first.count rec.count new.count i counted e.1,
          wants_line p d.version k taken s held old (prepend_known ahead left) (drop 2 (certificate_lines text)) g h.lines e.0,
        )

    here : (text : List ℕ) (r : Recording)
        → IsThere text r → (new.count ≡ rec.count) ⊎ (WantsEntry p (read_as d.version held) s × (new.count ≡ rec.count + 1))
        → IsAtLine p text r (reads known left failed first new) taken
    here text r h m =
        at_this_line p d k i taken s old rec.to_come (reads known left failed first new) text r none
        (reads_line text k ahead old left held few g h.lines) (given_here text r h m) h

    -- at a line, of which nothing is put
    pub line_breaks : (n : ℕ) (f : StreamFault) → RefusesOver p (read_as d.version held) (position s rec.to_come i) n f
        → GivesAtFault (WantsEntry p (read_as d.version held) s) f rec.count new.count → (f ≡ stream.Device → listener ≡ true)
        → WhereBothKnown known first.to_come IsThere → WhereBothKnown known first.to_come (IsPlaceOf taken f)
    line_breaks n (stream.Cert f) m given device =
        both_known_map known first.to_come IsThere (IsPlaceOf taken (stream.Cert f)) (λ text r h. tt)
    line_breaks n (stream.Read f) m given device =
        both_known_map known first.to_come IsThere (IsPlaceOf taken (stream.Read f))
        (λ text r h.
        let wanted = subst (λ o. RefusesOver p (read_as d.version held) (position s o i) n (stream.Read f)) h.rest m in
        at_entry p d k i taken s old rec.to_come (reads known left failed first new) text r shelf listener f none
        (reads_line text k ahead old left held few g h.lines) (since first.count rec.count new.count i counted given)
        (wants_line p d.version k taken s held old (prepend_known ahead left) (drop 2 (certificate_lines text)) g h.lines wanted.0) wanted.1
        wanted.2 h)
    line_breaks n stream.Device m given device =
        both_known_map known first.to_come IsThere (IsPlaceOf taken stream.Device)
        (λ text r h. inr (inr (device refl, here text r h given)))
    line_breaks n stream.OutOfMemory m given device =
        both_known_map known first.to_come IsThere (IsPlaceOf taken stream.OutOfMemory) (λ text r h. inr (inr (here text r h given)))

    module _ (used : ℕ) (t : State) (front rest : List FileBytes) (next : FileBytes) (all : t.sink.received.files ≡ front ++ next ∷ rest)
        (passed : PassesOver p (read_as d.version held) (change s t) (change rec.to_come new.to_come) used)
        (count : new.count ≡ rec.count + used) where
      file_here : (text : List ℕ) (r : Recording) → IsThere text r → IsAtFile p text r (reads known left failed first new) (taken ++ front)
      file_here text r h =
          let after = goes_on p text r d k i used taken s t held old (prepend_known ahead left) rec.to_come new.to_come h g passed in
          let one =
          only_file front rest t.sink.received.files next
          (few_files p (read_as d.version held) s t rec.to_come (left_after i r) new.to_come used h.rest none passed) all in
          let put : taken ++ front ≡ taken = ap (λ (l : List FileBytes). taken ++ l) one.0 ∙ append-nil taken in
          let gives : (taken ++ front) ++ next ∷ [] ≡ taken ++ t.sink.received.files =
          ap (λ (l : List FileBytes). l ++ next ∷ []) put ∙ sym (ap (λ (l : List FileBytes). taken ++ l) one.1) in
          let more : suc k ≡ k + 1 = omega arith in
          let there : Delivers p text r (reached (suc k) (i + used) (with_earlier taken t)) ((taken ++ front) ++ next ∷ []) =
          record { head = d; says = after.says; inside = after.inside; before = after.reached; gives = gives } in
          record {
            k = k;
            i = i;
            state = with_earlier taken s;
            before =
                subst (λ (l : List FileBytes). Delivers p text r (reached k i (with_earlier taken s)) l) (sym put)
                (delivers p d k i taken s old rec.to_come text r none h);
            file = next;
            after = with_earlier taken t;
            here =
                subst (λ n. Delivers p text r (reached n (new.count - first.count) (with_earlier taken t)) ((taken ++ front) ++ next ∷ []))
                more
                (subst (λ n. Delivers p text r (reached (suc k) n (with_earlier taken t)) ((taken ++ front) ++ next ∷ []))
                (sym (used_more first.count rec.count new.count i used counted count)) there);
            lines = reads_line text k ahead old left held few g h.lines;
          }

      -- at the line's file, which is not put
      pub file_breaks : (f : StreamFault) → (f ≡ stream.Device) ⊎ (f ≡ stream.OutOfMemory) → (f ≡ stream.Device → shelf ≡ true)
          → WhereBothKnown known first.to_come IsThere → WhereBothKnown known first.to_come (IsPlaceOf (taken ++ front) f)
      file_breaks stream.Device e device =
          both_known_map known first.to_come IsThere (IsPlaceOf (taken ++ front) stream.Device)
          (λ text r h. inr (inl (device refl, file_here text r h)))
      file_breaks stream.OutOfMemory e device =
          both_known_map known first.to_come IsThere (IsPlaceOf (taken ++ front) stream.OutOfMemory)
          (λ text r h. inr (inl (file_here text r h)))
      file_breaks (stream.Cert f) e device =
          both_known_map known first.to_come IsThere (IsPlaceOf (taken ++ front) (stream.Cert f)) (λ text r h. tt)
      file_breaks (stream.Read f) (inl e) device = absurd (cc e)
      file_breaks (stream.Read f) (inr e) device = absurd (cc e)

-- why a walk stops at a line, and where it breaks off
pub stop_breaks : {S : Type 0} (files : S → Option (List PutFile)) (broken : S → Bool) (listener failed : Bool) (p : Contents)
    (replay : Replay) (d : Head) (k : ℕ) (taken : List FileBytes) (held known old left text : Option (List ℕ)) (ahead : List ℕ)
    (first rec new : EntriesLeft) (start before after : S) (f : StreamFault)
    → replay.profile.now ≡ p → replay.version ≡ d.version → replay.files.items ≡ sizes taken → replay.link.state.sink.received.files ≡ []
    → text ≡ held → length ahead ≤ 2288 → GivesLine old (prepend_known ahead left) held true
    → rec.count ≡ first.count + replay.used → GainsAll (files start) (files before) 1 taken
    → WhereBothKnown known first.to_come (λ text r. Stands p text r d k replay.used taken replay.link.state old rec.to_come)
    → StopsAt files broken listener (taking replay text (change rec new) (change before after)) f
    → BreaksOff p (reads known left failed first new) (shelved files broken start after) listener f
stop_breaks files broken listener failed p replay d k taken held known old left text ahead first rec new start before after f profile
    version noted none same few g counted put reports (inl h) =
    record {
      files = taken;
      place =
          line_breaks p d k replay.used taken replay.link.state known old left failed
          (broken after) listener ahead first rec new held none few g counted replay.lines f
          (refused_here p replay d held text rec.to_come f profile version same h.ends)
          (rw (← profile, ← version, ← same) h.given) h.device reports;
      put = rw h.put put;
    }
stop_breaks files broken listener failed p replay d k taken held known old left text ahead first rec new start before after f profile
    version noted none same few g counted put reports (inr h) =
    record {
      files = taken ++ h.put.front;
      place =
          file_breaks p d k replay.used taken replay.link.state known old left failed
          (broken after) listener ahead first rec new held none few g counted h.used h.state h.put.front h.put.more h.put.next h.put.first
          (rw (← profile, ← version, ← same) h.passed) h.given f h.fault h.device reports;
      put = put_on (files start) (files before) (files after) [] replay.files.items taken h.put.front put noted h.put.gained;
    }
