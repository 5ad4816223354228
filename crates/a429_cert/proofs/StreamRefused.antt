-- Why a replay along a certificate's lines ends before the last of them, where both are told.
use Rattle.std.proofs.Common.{◌≡◌, ◌≢◌, ◌⊎◌, ◌≤◌, ◌+◌, ◌∙◌, ◌++◌, ◌∷◌, arith, length, length-append, inl, inr, ℕ, suc, List, [], map, drop, true, false, Option, Some, None, slice_get, Ok, Err, refl, sym, ap, subst, append-nil}
use Rattle.a429_profile.specs.Profile.{Contents}
use Rattle.a429_link.specs.declared.file.FileBytes.{FileBytes}
use Rattle.a429_link.specs.declared.seen.Seen.{Seen}
use Rattle.a429_link.specs.State.{State, start}
use Rattle.a429_link.specs.Step.{after}
use Rattle.a429_link.specs.Link.{with_earlier}
use Rattle.a429_link.specs.declared.step.Step.{Step}
use Rattle.a429_link.proofs.DeliveredFiles.{delivers_one}
use Rattle.a429_cert.proofs.EarlierFiles.{fault_earlier, named_earlier, given_out}
use Rattle.a429_record.specs.declared.entry.Entry.{Entry}
use Rattle.a429_record.specs.declared.fault.ReadFault.{ReadFault}
use Rattle.a429_record.specs.declared.fault.ReadFault.TheVariants as read
use Rattle.a429_record.specs.Recording.{Recording}
use Rattle.a429_record.specs.Rows.{Stops, GivesNext}
use Rattle.a429_cert.specs.declared.line.CertLine.{CertLine}
use Rattle.a429_cert.specs.declared.fault.CertFault.{CertFault}
use Rattle.a429_cert.specs.declared.fault.CertFault.TheVariants as of
use Rattle.a429_cert.specs.declared.stream_fault.StreamFault.{StreamFault}
use Rattle.a429_cert.specs.declared.stream_fault.StreamFault.TheVariants as stream
use Rattle.a429_cert.specs.declared.version.Version.{Version}
use Rattle.a429_cert.specs.declared.explained.Head.{Head}
use Rattle.a429_cert.specs.Lines.{certificate_lines}
use Rattle.a429_cert.specs.Version.{read_as, step_lines}
use Rattle.a429_cert.specs.CutLines.{cut, GivesLine}
use Rattle.a429_cert.specs.Explained.{items_of, seen_of, step_of}
use Rattle.a429_cert.specs.Passing.{MakesStep}
use Rattle.a429_cert.specs.Fault.{at_line, IsVersioned, IsFaultOfHead, SaysLine, IsFaultOfLine, IsFaultAt, IsLaterFault, IsFirstCertFault}
use Rattle.a429_cert.specs.Stream.{left_after, next_of, HasEnd, WantsEntry, RefusesOver, PassesOver, of_read}
use Rattle.a429_cert.specs.StreamHead.{RefusesHead}
use Rattle.a429_cert.specs.StreamExplained.{reached, WhereBothKnown, Delivers, EndsAt, WantsNext, IsWantedReadFault, AreOfLines, IsStreamFault}
use Rattle.a429_cert.proofs.CutFacts.{says-uncut}
use Rattle.a429_cert.proofs.ExplainedFacts.{none_read}
use Rattle.a429_cert.proofs.StreamStands.{Stands, StandsFrom, AreLeftAfter, says_back, line_cut, next_at}
use Rattle.a429_cert.proofs.StreamReplay.{both_known_map, none_next}
use Rattle.a429_cert.specs.Change.{change}
use Rattle.a429_cert.specs.Report.{position}

-- ---- a fault of a line that may be cut

says_same : (line : Option (List ℕ)) (l : CertLine) → SaysLine line l → SaysLine (cut line) l
says_same line l s = subst (λ o. SaysLine o l) (sym (says-uncut line l s)) s

line_fault : (p : Contents) (s : State) (next : Option Seen) (n i : ℕ) (line : Option (List ℕ)) (f : CertFault)
    → IsFaultOfLine p s (at_line n i next) (cut line) f → IsFaultOfLine p s (at_line n i next) line f
line_fault p s next n i line of.Version h = (h.0, says_back line h.0 h.1, h.2, h.3)
line_fault p s next n i line (of.Line m) h = (h.0, λ l is says. h.1 l is (says_same line l says))
line_fault p s next n i line (of.NotAllowed m) h = (h.0, says_back line h.0 h.1, h.2, h.3)
line_fault p s next n i line (of.StateDiffers m) h = (h.0, says_back line h.0 h.1, h.2, h.3)
line_fault p s next n i line (of.WordDiffers m j) h = (h.0, says_back line h.0 h.1, h.2, h.3)
line_fault p s next n i line (of.Unfinished j) h = (h.0, says_back line h.0 h.1, h.2, h.3)
line_fault p s next n i line of.OutOfMemory h = (h.0, says_back line h.0 h.1, h.2, h.3)

-- ---- a fault where a replay is

pub delivers : (p : Contents) (d : Head) (k i : ℕ) (taken : List FileBytes) (s : State) (left : Option (List ℕ)) (rec : Option Recording)
    (text : List ℕ) (r : Recording)
    → s.sink.received.files ≡ [] → Stands p text r d k i taken s left rec → Delivers p text r (reached k i (with_earlier taken s)) taken
delivers p d k i taken s left rec text r none h =
    record { head = d; says = h.says; inside = h.inside; before = h.reached; gives = given_out taken s none }

later : (p : Contents) (d : Head) (k i : ℕ) (taken : List FileBytes) (s : State) (left : Option (List ℕ)) (rec : Option Recording)
    (text : List ℕ) (r : Recording) (f : CertFault)
    → Stands p text r d k i taken s left rec
    → IsFaultAt p (with_earlier taken s) (at_line (k + 3) i (slice_get (items_of r.entries) i)) (slice_get (step_lines d.version text) k) f
    → IsLaterFault p text (items_of r.entries) f
later p d k i taken s left rec text r f h g =
    record { head = d; says = h.says; k = k; i = i; inside = h.inside; state = with_earlier taken s; before = h.reached; fault = g }

-- it is the certificate's first
is_first : (p : Contents) (text : List ℕ) (items : List Seen) (f : CertFault)
    → f ≢ of.Version → f ≢ of.OutOfMemory → IsVersioned text → IsLaterFault p text items f → IsFirstCertFault p text items f
is_first p text items of.Version a b v h = absurd (a refl)
is_first p text items (of.Line m) a b v h = inr (v, h)
is_first p text items (of.NotAllowed m) a b v h = inr (v, h)
is_first p text items (of.StateDiffers m) a b v h = inr (v, h)
is_first p text items (of.WordDiffers m j) a b v h = inr (v, h)
is_first p text items (of.Unfinished j) a b v h = inr (v, h)
is_first p text items of.OutOfMemory a b v h = absurd (b refl)

cert_fault : (p : Contents) (d : Head) (k i : ℕ) (taken : List FileBytes) (s : State) (left : Option (List ℕ)) (rec : Option Recording)
    (text : List ℕ) (r : Recording) (f : CertFault)
    → f ≢ of.Version → f ≢ of.OutOfMemory → s.sink.received.files ≡ [] → EndsAt r f → Stands p text r d k i taken s left rec
    → IsFaultAt p (with_earlier taken s) (at_line (k + 3) i (slice_get (items_of r.entries) i)) (slice_get (step_lines d.version text) k) f
    → IsStreamFault p (stream.Cert f) taken text r
unfolding later
cert_fault p d k i taken s left rec text r f a b none e h g =
    let here = later p d k i taken s left rec text r f h g in
    (is_first p text (items_of r.entries) f a b (d.version, h.says.0) here, e, inr (here, given_out taken s none))

-- no fault of a line is one of the version, or for want of memory
no_version : (p : Contents) (s : State) (next : Option Seen) (n i : ℕ) (line : Option (List ℕ)) (f : CertFault)
    → IsFaultOfLine p s (at_line n i next) line f → f ≢ of.Version
no_version p s next n i line of.Version h = λ e. h.3
no_version p s next n i line (of.Line m) h = λ e. cc
no_version p s next n i line (of.NotAllowed m) h = λ e. cc
no_version p s next n i line (of.StateDiffers m) h = λ e. cc
no_version p s next n i line (of.WordDiffers m j) h = λ e. cc
no_version p s next n i line (of.Unfinished j) h = λ e. cc
no_version p s next n i line of.OutOfMemory h = λ e. h.3

no_memory : (p : Contents) (s : State) (next : Option Seen) (n i : ℕ) (line : Option (List ℕ)) (f : CertFault)
    → IsFaultOfLine p s (at_line n i next) line f → f ≢ of.OutOfMemory
no_memory p s next n i line of.Version h = λ e. h.3
no_memory p s next n i line (of.Line m) h = λ e. cc
no_memory p s next n i line (of.NotAllowed m) h = λ e. cc
no_memory p s next n i line (of.StateDiffers m) h = λ e. cc
no_memory p s next n i line (of.WordDiffers m j) h = λ e. cc
no_memory p s next n i line (of.Unfinished j) h = λ e. cc
no_memory p s next n i line of.OutOfMemory h = λ e. h.3

-- where no entry is left, the recording has no fault there
pub ends_at : (p : Contents) (s : State) (r : Recording) (n i : ℕ) (line : Option (List ℕ)) (f : CertFault)
    → IsFaultOfLine p s (at_line n i (next_of (left_after i r))) line f → HasEnd (left_after i r) f → EndsAt r f
ends_at p s r n i line of.Version h e = tt
ends_at p s r n i line (of.Line m) h e = tt
ends_at p s r n i line (of.NotAllowed m) h e = tt
ends_at p s r n i line (of.StateDiffers m) h e = tt
ends_at p s r n i line (of.WordDiffers m j) h e = λ none. e (next_at r.entries i ∙ ap (slice_get (items_of r.entries)) (sym h.3.1) ∙ none)
ends_at p s r n i line (of.Unfinished j) h e = tt
ends_at p s r n i line of.OutOfMemory h e = tt

-- the fault of the line that comes, where it stands
pub fault_from : (p : Contents) (from : State) (d : Head) (k i : ℕ) (taken : List FileBytes) (s : State) (held left more : Option (List ℕ))
    (rec : Option Recording) (f : CertFault) (text : List ℕ) (r : Recording)
    → GivesLine left more held true → IsFaultOfLine p s (at_line (k + 3) i (next_of (left_after i r))) (read_as d.version held) f
    → StandsFrom p from text r d k i taken s left rec
    → IsFaultAt p (with_earlier taken s) (at_line (k + 3) i (slice_get (items_of r.entries) i)) (slice_get (step_lines d.version text) k) f
fault_from p from d k i taken s held left more rec f text r g m h =
    let raw = line_cut d.version (drop 2 (certificate_lines text)) k left more held h.lines g in
    let uncut =
    fault_earlier p taken s (next_of (left_after i r)) (k + 3) i raw.0 f
    (line_fault p s (next_of (left_after i r)) (k + 3) i raw.0 f
    (subst (λ o. IsFaultOfLine p s (at_line (k + 3) i (next_of (left_after i r))) o f) (sym raw.2) m)) in
    let here = subst (λ o. IsFaultOfLine p (with_earlier taken s) (at_line (k + 3) i o) raw.0 f) (next_at r.entries i) uncut in
    subst (λ o. IsFaultAt p (with_earlier taken s) (at_line (k + 3) i (slice_get (items_of r.entries) i)) o f) (sym raw.1) here

pub fault_here : (p : Contents) (d : Head) (k i : ℕ) (taken : List FileBytes) (s : State) (held left more : Option (List ℕ))
    (rec : Option Recording) (f : CertFault) (text : List ℕ) (r : Recording)
    → GivesLine left more held true → IsFaultOfLine p s (at_line (k + 3) i (next_of (left_after i r))) (read_as d.version held) f
    → Stands p text r d k i taken s left rec
    → IsFaultAt p (with_earlier taken s) (at_line (k + 3) i (slice_get (items_of r.entries) i)) (slice_get (step_lines d.version text) k) f
fault_here p d = fault_from p (start p d.first) d

line_refused : (p : Contents) (d : Head) (k i : ℕ) (taken : List FileBytes) (s : State) (held left more : Option (List ℕ))
    (rec : Option Recording) (f : CertFault) (text : List ℕ) (r : Recording)
    → s.sink.received.files ≡ [] → GivesLine left more held true
    → IsFaultOfLine p s (at_line (k + 3) i (next_of (left_after i r))) (read_as d.version held) f → HasEnd (left_after i r) f
    → Stands p text r d k i taken s left rec
    → IsStreamFault p (stream.Cert f) taken text r
line_refused p d k i taken s held left more rec f text r none g m e h =
    let read = read_as d.version held in
    cert_fault p d k i taken s left rec text r f (no_version p s (next_of (left_after i r)) (k + 3) i read f m)
    (no_memory p s (next_of (left_after i r)) (k + 3) i read f m) none (ends_at p s r (k + 3) i read f m e) h
    (fault_here p d k i taken s held left more rec f text r g m h)

-- ---- a fault of the recording where a replay is

wants_uncut : (p : Contents) (files : List FileBytes) (s : State) (line : Option (List ℕ))
    → WantsEntry p (cut line) s → WantsEntry p line (with_earlier files s)
wants_uncut p files s line h = (h.0, says_back line h.0 h.1, h.2, named_earlier p h.0 files s h.3)

pub wants_line : (p : Contents) (v : Version) (k : ℕ) (taken : List FileBytes) (s : State) (held left more : Option (List ℕ))
    (lines : List (Option (List ℕ)))
    → GivesLine left more held true → AreLeftAfter lines k left → WantsEntry p (read_as v held) s
    → WantsNext p (slice_get (map (read_as v) lines) k) (with_earlier taken s)
wants_line p v k taken s held left more lines g h m =
    let raw = line_cut v lines k left more held h g in
    subst (λ o. WantsNext p o (with_earlier taken s)) (sym raw.1)
    (wants_uncut p taken s raw.0 (subst (λ o. WantsEntry p o s) (sym raw.2) m))

-- behind the last line an entry is asked for
pub wants_end : (p : Contents) (v : Version) (k : ℕ) (taken : List FileBytes) (s : State) (held left more : Option (List ℕ))
    (lines : List (Option (List ℕ)))
    → GivesLine left more held false → AreLeftAfter lines k left → WantsNext p (slice_get (map (read_as v) lines) k) (with_earlier taken s)
wants_end p v k taken s held left more lines g h =
    subst (λ o. WantsNext p o (with_earlier taken s)) (sym (none_read v lines k (none_next lines k left more held h g))) tt

read_fault : (p : Contents) (d : Head) (k i : ℕ) (taken : List FileBytes) (s : State) (left : Option (List ℕ)) (rec : Option Recording)
    (f : ReadFault) (text : List ℕ) (r : Recording)
    → s.sink.received.files ≡ [] → WantsNext p (slice_get (step_lines d.version text) k) (with_earlier taken s) → Stops f (left_after i r)
    → f ≢ read.OutOfMemory
    → Stands p text r d k i taken s left rec → IsWantedReadFault p text r f taken
unfolding delivers
read_fault p d k i taken s left rec f text r none wants stops reports h =
    record {
      k = k;
      i = i;
      state = with_earlier taken s;
      before = delivers p d k i taken s left rec text r none h;
      wants = wants;
      fault = stops;
      reports = reports;
    }

-- ---- files of some lines

of_lines : (p : Contents) (d : Head) (k i : ℕ) (taken : List FileBytes) (s : State) (left : Option (List ℕ)) (rec : Option Recording)
    (text : List ℕ) (r : Recording)
    → s.sink.received.files ≡ [] → Stands p text r d k i taken s left rec → AreOfLines p text r taken
of_lines p d k i taken s left rec text r none h =
    record { k = k; i = i; state = with_earlier taken s; before = delivers p d k i taken s left rec text r none h }

-- a line delivers at most one file: where one is not put, none is
pub one_of : (p : Contents) (o : Option Step) (s t : State)
    → s.sink.received.files ≡ [] → MakesStep p o s t → length t.sink.received.files ≤ 1
one_of p None s t none m = absurd m
one_of p (Some a) s t none m =
    let old : length s.sink.received.files ≡ 0 = ap (λ (l : List FileBytes). length l) none in
    let new : length t.sink.received.files ≡ length (after p a s).sink.received.files =
    ap (λ (q : State). length q.sink.received.files) m.1 in
    let one = delivers_one p a s in
    omega (arith, old, new, one)

no_front : (front more : List FileBytes) (f : FileBytes) (files : List FileBytes)
    → length files ≤ 1 → files ≡ front ++ f ∷ more → front ≡ []
no_front [] more f files few e = refl
no_front (x ∷ front) more f files few e =
    let all : length files ≡ suc (length (front ++ f ∷ more)) = ap (λ (l : List FileBytes). length l) e in
    let left_after = length-append front (f ∷ more) in
    absurd (omega (arith, all, left_after))

none_of_line : (p : Contents) (text : Option (List ℕ)) (s t : State) (rec : Option Recording) (r : Recording) (new : Option Recording)
    (used : ℕ) (front more : List FileBytes) (f : FileBytes)
    → rec ≡ Some r → s.sink.received.files ≡ [] → PassesOver p text (change s t) (change rec new) used
    → t.sink.received.files ≡ front ++ f ∷ more → front ≡ []
none_of_line p text s t rec r new used front more f e none m first =
    let passes = subst (λ o. PassesOver p text (change s t) (change o new) used) e m in
    no_front front more f t.sink.received.files (one_of p (step_of passes.0.0 (next_of r)) s t none passes.0.2.0) first

-- a fault of a device or for want of memory, where these files are put
no_more : (p : Contents) (files : List FileBytes) (text : List ℕ) (r : Recording) (f : StreamFault)
    → (f ≡ stream.Device) ⊎ (f ≡ stream.OutOfMemory) → AreOfLines p text r files → IsStreamFault p f files text r
no_more p files text r stream.Device e h = inr h
no_more p files text r stream.OutOfMemory e h = inr h
no_more p files text r (stream.Cert f) (inl e) h = absurd (cc e)
no_more p files text r (stream.Cert f) (inr e) h = absurd (cc e)
no_more p files text r (stream.Read f) (inl e) h = absurd (cc e)
no_more p files text r (stream.Read f) (inr e) h = absurd (cc e)

-- ---- the first two lines are refused

of_head : (p : Contents) (text : List ℕ) (r : Recording) (f : CertFault) → IsFaultOfHead text f → IsStreamFault p (stream.Cert f) [] text r
of_head p text r of.Version h = (h, tt, inl (h, refl))
of_head p text r (of.Line n) h = (inl h, tt, inl (h, refl))
of_head p text r (of.NotAllowed n) h = absurd h
of_head p text r (of.StateDiffers n) h = absurd h
of_head p text r (of.WordDiffers n i) h = absurd h
of_head p text r (of.Unfinished i) h = absurd h
of_head p text r of.OutOfMemory h = absurd h

-- no file is put
pub head_both_known : (p : Contents) (known old : Option (List ℕ)) (rec : Option Recording) (f : StreamFault)
    → old ≡ known → RefusesHead IsFaultOfHead old f → WhereBothKnown known rec (IsStreamFault p f [])
head_both_known p None old rec f e h = tt
head_both_known p (Some text) old None f e h = tt
head_both_known p (Some text) old (Some r) f e h = by f (subst (λ o. RefusesHead IsFaultOfHead o f) e h)
  where
    by : (f : StreamFault) → RefusesHead IsFaultOfHead (Some text) f → IsStreamFault p f [] text r
    by (stream.Cert f) h = of_head p text r f h
    by (stream.Read f) h = absurd h
    by stream.Device h = inl refl
    by stream.OutOfMemory h = inl refl

-- ---- what a replay answers, where both are known

refused : (p : Contents) (d : Head) (k i : ℕ) (taken : List FileBytes) (s : State) (held left more : Option (List ℕ)) (f : StreamFault)
    (text : List ℕ) (r : Recording)
    → s.sink.received.files ≡ [] → GivesLine left more held true
    → RefusesOver p (read_as d.version held) (position s (Some (left_after i r)) i) (k + 3) f
    → Stands p text r d k i taken s left (Some (left_after i r))
    → IsStreamFault p f taken text r
refused p d k i taken s held left more (stream.Cert f) text r none g m h =
    line_refused p d k i taken s held left more (Some (left_after i r)) f text r none g m.0 m.1 h
refused p d k i taken s held left more (stream.Read f) text r none g m h =
    read_fault p d k i taken s left (Some (left_after i r)) f text r none
    (wants_line p d.version k taken s held left more (drop 2 (certificate_lines text)) g h.lines m.0) m.1 m.2 h
refused p d k i taken s held left more stream.Device text r none g m h =
    inr (of_lines p d k i taken s left (Some (left_after i r)) text r none h)
refused p d k i taken s held left more stream.OutOfMemory text r none g m h =
    inr (of_lines p d k i taken s left (Some (left_after i r)) text r none h)

pub refused_both_known : (p : Contents) (d : Head) (k i n : ℕ) (taken : List FileBytes) (s : State) (held known left more : Option (List ℕ))
    (start_rec rec : Option Recording) (f : StreamFault)
    → n ≡ k + 3 → s.sink.received.files ≡ [] → GivesLine left more held true → RefusesOver p (read_as d.version held) (position s rec i) n f
    → WhereBothKnown known start_rec (λ text r. Stands p text r d k i taken s left rec)
    → WhereBothKnown known start_rec (IsStreamFault p f taken)
refused_both_known p d k i n taken s held known left more start_rec rec f e none g m =
    both_known_map known start_rec (λ text r. Stands p text r d k i taken s left rec) (IsStreamFault p f taken)
    (λ text r h. refused p d k i taken s held left more f text r none g
    (subst (λ (j : ℕ). RefusesOver p (read_as d.version held) (position s (Some (left_after i r)) i) j f) e
    (subst (λ o. RefusesOver p (read_as d.version held) (position s o i) n f) h.rest m))
    (subst (λ o. Stands p text r d k i taken s left o) h.rest h))

-- the file of the line that was passed is not put
pub not_put_both_known : (p : Contents) (d : Head) (k i used : ℕ) (taken front rest : List FileBytes) (next : FileBytes) (s t : State)
    (line known left : Option (List ℕ)) (start_rec rec new : Option Recording) (f : StreamFault)
    → (f ≡ stream.Device) ⊎ (f ≡ stream.OutOfMemory) → s.sink.received.files ≡ [] → t.sink.received.files ≡ front ++ next ∷ rest
    → PassesOver p line (change s t) (change rec new) used
    → WhereBothKnown known start_rec (λ text r. Stands p text r d k i taken s left rec)
    → WhereBothKnown known start_rec (IsStreamFault p f (taken ++ front))
not_put_both_known p d k i used taken front rest next s t line known left start_rec rec new f e none first m =
    both_known_map known start_rec (λ text r. Stands p text r d k i taken s left rec) (IsStreamFault p f (taken ++ front))
    (λ text r h.
    let same : taken ++ front ≡ taken =
    ap (λ (l : List FileBytes). taken ++ l) (none_of_line p line s t rec (left_after i r) new used front rest next h.rest none m first)
    ∙ append-nil taken in
    no_more p (taken ++ front) text r f e (subst (AreOfLines p text r) (sym same) (of_lines p d k i taken s left rec text r none h)))

-- an entry is left
pub left_from : (p : Contents) (from : State) (d : Head) (k i : ℕ) (taken : List FileBytes) (s : State) (held left more : Option (List ℕ))
    (rec : Option Recording) (item : Entry) (new : Option Recording) (text : List ℕ) (r : Recording)
    → GivesLine left more held false → GivesNext (Some (left_after i r)) new (Ok (Some item))
    → StandsFrom p from text r d k i taken s left rec
    → IsFaultAt p (with_earlier taken s) (at_line (k + 3) i (slice_get (items_of r.entries) i)) (slice_get (step_lines d.version text) k)
    (of.Unfinished i)
left_from p from d k i taken s held left more rec item new text r g e h =
    let next : slice_get (items_of r.entries) i ≡ Some (seen_of item) = sym (next_at r.entries i) ∙ ap next_of e.2 in
    rw (
      next,
      none_read d.version (drop 2 (certificate_lines text)) k (none_next (drop 2 (certificate_lines text)) k left more held h.lines g),
    ) refl

pub left_here : (p : Contents) (d : Head) (k i : ℕ) (taken : List FileBytes) (s : State) (held left more : Option (List ℕ))
    (rec : Option Recording) (item : Entry) (new : Option Recording) (text : List ℕ) (r : Recording)
    → GivesLine left more held false → GivesNext (Some (left_after i r)) new (Ok (Some item)) → Stands p text r d k i taken s left rec
    → IsFaultAt p (with_earlier taken s) (at_line (k + 3) i (slice_get (items_of r.entries) i)) (slice_get (step_lines d.version text) k)
    (of.Unfinished i)
left_here p d = left_from p (start p d.first) d

unfinished : (p : Contents) (d : Head) (k i : ℕ) (taken : List FileBytes) (s : State) (held left more : Option (List ℕ)) (item : Entry)
    (new : Option Recording) (text : List ℕ) (r : Recording)
    → s.sink.received.files ≡ [] → GivesLine left more held false → GivesNext (Some (left_after i r)) new (Ok (Some item))
    → Stands p text r d k i taken s left (Some (left_after i r))
    → IsStreamFault p (stream.Cert (of.Unfinished i)) taken text r
unfinished p d k i taken s held left more item new text r none g e h =
    cert_fault p d k i taken s left (Some (left_after i r)) text r (of.Unfinished i) (λ z. cc) (λ z. cc) none tt h
    (left_here p d k i taken s held left more (Some (left_after i r)) item new text r g e h)

pub unfinished_both_known : (p : Contents) (d : Head) (k i : ℕ) (taken : List FileBytes) (s : State)
    (held known left more : Option (List ℕ)) (item : Entry) (start_rec rec new : Option Recording)
    → s.sink.received.files ≡ [] → GivesLine left more held false → GivesNext rec new (Ok (Some item))
    → WhereBothKnown known start_rec (λ text r. Stands p text r d k i taken s left rec)
    → WhereBothKnown known start_rec (IsStreamFault p (stream.Cert (of.Unfinished i)) taken)
unfinished_both_known p d k i taken s held known left more item start_rec rec new none g e =
    both_known_map known start_rec (λ text r. Stands p text r d k i taken s left rec)
    (IsStreamFault p (stream.Cert (of.Unfinished i)) taken)
    (λ text r h. unfinished p d k i taken s held left more item new text r none g (subst (λ o. GivesNext o new (Ok (Some item))) h.rest e)
    (subst (λ o. Stands p text r d k i taken s left o) h.rest h))

-- the recording has a fault behind the last line
known_stop : (p : Contents) (files : List FileBytes) (text : List ℕ) (r : Recording) (f : ReadFault)
    → AreOfLines p text r files → (f ≢ read.OutOfMemory → IsWantedReadFault p text r f files) → IsStreamFault p (of_read f) files text r
known_stop p files text r read.Header h g = g (λ z. cc)
known_stop p files text r (read.Row i) h g = g (λ z. cc)
known_stop p files text r (read.TimeBack i) h g = g (λ z. cc)
known_stop p files text r read.TooMany h g = g (λ z. cc)
known_stop p files text r read.Device h g = g (λ z. cc)
known_stop p files text r read.OutOfMemory h g = inr h
known_stop p files text r read.Failed h g = g (λ z. cc)

pub stopped_both_known : (p : Contents) (d : Head) (k i : ℕ) (taken : List FileBytes) (s : State) (held known left more : Option (List ℕ))
    (start_rec rec new : Option Recording) (f : ReadFault)
    → s.sink.received.files ≡ [] → GivesLine left more held false → GivesNext rec new (Err f)
    → WhereBothKnown known start_rec (λ text r. Stands p text r d k i taken s left rec)
    → WhereBothKnown known start_rec (IsStreamFault p (of_read f) taken)
stopped_both_known p d k i taken s held known left more start_rec rec new f none g e =
    both_known_map known start_rec (λ text r. Stands p text r d k i taken s left rec) (IsStreamFault p (of_read f) taken)
    (λ text r h. known_stop p taken text r f (of_lines p d k i taken s left rec text r none h)
    (λ reports. read_fault p d k i taken s left rec f text r none
    (wants_end p d.version k taken s held left more (drop 2 (certificate_lines text)) g h.lines)
    (subst (λ o. GivesNext o new (Err f)) h.rest e) reports h))

-- a device has failed before the next line
pub device_both_known : (p : Contents) (d : Head) (k i : ℕ) (taken : List FileBytes) (s : State) (known left : Option (List ℕ))
    (start_rec rec : Option Recording)
    → s.sink.received.files ≡ [] → WhereBothKnown known start_rec (λ text r. Stands p text r d k i taken s left rec)
    → WhereBothKnown known start_rec (IsStreamFault p stream.Device taken)
device_both_known p d k i taken s known left start_rec rec none =
    both_known_map known start_rec (λ text r. Stands p text r d k i taken s left rec) (IsStreamFault p stream.Device taken)
    (λ text r h. inr (of_lines p d k i taken s left rec text r none h))
