-- A replay along a certificate's lines over a recording, where both are told.
use Rattle.std.proofs.Common.{◌≡◌, ◌≤◌, ◌+◌, ◌∙◌, ◌++◌, ℕ, suc, List, [], length, drop, true, Option, Some, None, slice_get, refl, sym, ap, subst, arith, append-nil, false, Ok, Err, Result, IfOk, Vec}
use Rattle.a429_profile.specs.Profile.{IsProfile}
use Rattle.a429_record.specs.Recording.{whole}
use Rattle.a429_record.specs.Rows.{GivesNext}
use Rattle.a429_cert.specs.Explained.{items_of, IsExplained}
use Rattle.a429_cert.specs.StreamExplained.{IsYes, IsSomeRun, Compared, Extracts, ExtractsOfRun, SaysYes, SaysFilesOfRun}
use Rattle.a429_cert.specs.Stream.{next_of}
use Rattle.a429_cert.proofs.ExplainedFacts.{drop_get, none_read, explained, in_some_run, in_every_run}
use Rattle.a429_cert.proofs.StreamStands.{AreLeftAfter, next_at}
use Rattle.std.specs.Io.KnownBytes.{prepend_known}
use Rattle.std.proofs.lemmas.Option.{same_Some}
use Rattle.a429_word.proofs.ListFacts.{none_past}
use Rattle.a429_profile.specs.Profile.{Contents}
use Rattle.a429_link.specs.declared.file.FileBytes.{FileBytes}
use Rattle.a429_link.specs.State.{State, start}
use Rattle.a429_link.specs.Link.{with_earlier, handed_out}
use Rattle.a429_record.specs.Recording.{Recording}
use Rattle.a429_record.specs.declared.fault.ReadFault.{ReadFault}
use Rattle.a429_record.specs.declared.fault.ReadFault.TheVariants as read
use Rattle.a429_cert.specs.declared.stream_fault.StreamFault.TheVariants as stream
use Rattle.a429_cert.specs.declared.explained.Head.{Head}
use Rattle.a429_cert.specs.Lines.{certificate_lines}
use Rattle.a429_cert.specs.Version.{read_as}
use Rattle.a429_cert.specs.CutLines.{GivesLine}
use Rattle.a429_cert.specs.Stream.{left_after, PassesOver, of_read}
use Rattle.a429_cert.specs.StreamHead.{TakesHead}
use Rattle.a429_cert.specs.StreamExplained.{WhereBothKnown}
use Rattle.a429_cert.proofs.ExplainedFacts.{begins}
use Rattle.a429_cert.proofs.StreamStands.{Stands, goes_on, hands_out}
use Rattle.a429_cert.specs.declared.shelf.PutFile.{PutFile}
use Rattle.a429_cert.specs.Change.{Change, change}

-- ---- where both are told

pub both_known_map : (known : Option (List ℕ)) (rec : Option Recording) (A B : List ℕ → Recording → Type 0)
    → ((text : List ℕ) (r : Recording) → A text r → B text r) → WhereBothKnown known rec A → WhereBothKnown known rec B
both_known_map None rec A B f h = tt
both_known_map (Some text) None A B f h = tt
both_known_map (Some text) (Some r) A B f h = f text r h

pub init_both_known : (p : Contents) (d : Head) (s : State) (known old left : Option (List ℕ)) (rec : Option Recording)
    → old ≡ known → TakesHead old left d → s ≡ start p d.first → WhereBothKnown known rec (λ text r. Stands p text r d 0 0 [] s left rec)
init_both_known p d s None old left rec e h z = tt
init_both_known p d s (Some text) old left None e h z = tt
init_both_known p d s (Some text) old left (Some r) e h z = by left (subst (λ o. TakesHead o left d) e h)
  where
    by : (left : Option (List ℕ)) → TakesHead (Some text) left d → Stands p text r d 0 0 [] s left (Some r)
    by None h = absurd h
    by (Some ys) h =
        record { says = h.0; lines = (ys, refl, h.1); inside = omega arith; reached = begins p d.first (with_earlier [] s) z; rest = refl }

pub on_both_known : (p : Contents) (d : Head) (k i used : ℕ) (taken : List FileBytes) (s t : State) (line known left more : Option (List ℕ))
    (start_rec rec new : Option Recording)
    → GivesLine left more line true → PassesOver p (read_as d.version line) (change s t) (change rec new) used
    → WhereBothKnown known start_rec (λ text r. Stands p text r d k i taken s left rec)
    → WhereBothKnown known start_rec
    (λ text r. Stands p text r d (suc k) (i + used) (taken ++ t.sink.received.files) (handed_out t) more new)
on_both_known p d k i used taken s t line known left more start_rec rec new g m =
    both_known_map known start_rec (λ text r. Stands p text r d k i taken s left rec)
    (λ text r. Stands p text r d (suc k) (i + used) (taken ++ t.sink.received.files) (handed_out t) more new)
    (λ text r h.
    hands_out p text r d (suc k) (i + used) taken t more new (goes_on p text r d k i used taken s t line left more rec new h g m))

-- ---- faults of a recording

pub read_no_device : (f : ReadFault) → of_read f ≡ stream.Device → ⊥
read_no_device read.Header e = cc
read_no_device (read.Row i) e = cc
read_no_device (read.TimeBack i) e = cc
read_no_device read.TooMany e = cc
read_no_device read.Device e = cc
read_no_device read.OutOfMemory e = cc
read_no_device read.Failed e = cc

pub read_device : (f : ReadFault) → of_read f ≡ stream.Read read.Device → f ≡ read.Device
read_device read.Header e = absurd (cc e)
read_device (read.Row i) e = absurd (cc e)
read_device (read.TimeBack i) e = absurd (cc e)
read_device read.TooMany e = absurd (cc e)
read_device read.Device e = refl
read_device read.OutOfMemory e = absurd (cc e)
read_device read.Failed e = absurd (cc e)

-- ---- the start

-- a reader of lines that has read nothing
pub fresh : (ahead : List ℕ) (known : Option (List ℕ)) → ahead ≡ [] → prepend_known ahead known ≡ known
fresh ahead None e = refl
fresh ahead (Some xs) e = rw e refl

-- ---- the end

pub none_next : (lines : List (Option (List ℕ))) (k : ℕ) (old new line : Option (List ℕ))
    → AreLeftAfter lines k old → GivesLine old new line false → slice_get lines k ≡ None
none_next lines k None new line h g = absurd (cc h.1)
none_next lines k (Some xs) None line h g = absurd g
none_next lines k (Some xs) (Some ys) line h g =
    let same : certificate_lines xs ≡ drop k lines = ap certificate_lines (same_Some xs h.0 h.1) ∙ h.2 in
    sym (drop_get lines k) ∙ ap (λ (l : List (Option (List ℕ))). slice_get l 0) (sym same ∙ g)

yes : (p : Contents) (d : Head) (k i : ℕ) (taken : List FileBytes) (s : State) (held left more : Option (List ℕ))
    (rec new : Option Recording) (text : List ℕ) (r : Recording)
    → IsProfile p → s.sink.received.files ≡ [] → GivesLine left more held false → GivesNext rec new (Ok None)
    → Stands p text r d k i taken s left rec → IsYes p taken text r
yes p d k i taken s held left more rec new text r is none g e h =
    let end : left_after i r ≡ whole [] = subst (λ o. GivesNext o new (Ok None)) h.rest e in
    let items = items_of r.entries in
    let all : length items ≤ i = none_past items i (sym (next_at r.entries i) ∙ ap next_of end) in
    let files : (with_earlier taken s).sink.received.files ≡ taken = ap (λ (l : List FileBytes). taken ++ l) none ∙ append-nil taken in
    let here : IsExplained p text items taken = subst (λ (l : List FileBytes). IsExplained p text items l) files
    (explained p text items d k i (with_earlier taken s) h.says
    (none_read d.version (drop 2 (certificate_lines text)) k (none_next (drop 2 (certificate_lines text)) k left more held h.lines g)) all
    h.reached) in
    (ap (λ (q : Recording). q.fault) end, here, in_every_run p is text items taken here)

pub yes_both_known : (p : Contents) (d : Head) (k i : ℕ) (taken : List FileBytes) (s : State) (held left more known : Option (List ℕ))
    (start_rec rec new : Option Recording)
    → IsProfile p → s.sink.received.files ≡ [] → GivesLine left more held false → GivesNext rec new (Ok None)
    → WhereBothKnown known start_rec (λ text r. Stands p text r d k i taken s left rec) → WhereBothKnown known start_rec (IsYes p taken)
yes_both_known p d k i taken s held left more known start_rec rec new is none g e =
    both_known_map known start_rec (λ text r. Stands p text r d k i taken s left rec) (IsYes p taken)
    (λ text r h. yes p d k i taken s held left more rec new text r is none g e h)

-- what is extracted some run delivers
of_some_run : (c : Compared) (shelf : Change (Option (List PutFile))) (answer : List (ℕ × ℕ))
    → Extracts c shelf answer → ExtractsOfRun c shelf answer
of_some_run c shelf answer h = record {
  files = h.files;
  some =
      both_known_map c.certificate c.recording (IsYes c.profile h.files) (IsSomeRun c.profile h.files)
      (λ text r yes. in_some_run c.profile text (items_of r.entries) h.files yes.1) h.yes;
  put = h.put;
  answered = h.answered;
}

pub run_of_answer : {Z E : Type 0} (c : Compared) (shelf : Change (Option (List PutFile))) (r : Result (Vec (ℕ × ℕ) Z) E)
    → IfOk r (SaysYes c shelf) → IfOk r (SaysFilesOfRun c shelf)
run_of_answer c shelf (Ok a) h = of_some_run c shelf a.items h
run_of_answer c shelf (Err e) h = tt
