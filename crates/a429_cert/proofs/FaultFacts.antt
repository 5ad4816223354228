-- The first fault of a certificate, where its lines are taken one after the other.
use Rattle.std.proofs.Common.{◌≡◌, ◌≢◌, inr, ℕ, ◌+◌, ◌≤◌, ◌<◌, List, take, drop, length, Option, Some, None, IsSome, option_map, option_and_then, ok_or, Result, IfErr, slice_get, refl, sym, ap, ◌∙◌, subst, arith}
use Rattle.std.proofs.lemmas.List.{drop-drop}
use Rattle.std.proofs.lemmas.Option.{same_Some}
use Rattle.a429_word.proofs.ListFacts.{some_within}
use Rattle.a429_profile.specs.Profile.{Contents}
use Rattle.a429_link.specs.declared.seen.Seen.{Seen}
use Rattle.a429_link.specs.State.{State}
use Rattle.a429_cert.specs.declared.line.CertLine.{CertLine}
use Rattle.a429_cert.specs.declared.line.CertLine.TheVariants.{First, Load, Moved}
use Rattle.a429_cert.specs.declared.fault.CertFault.{CertFault}
use Rattle.a429_cert.specs.declared.fault.CertFault.TheVariants as of
use Rattle.a429_cert.specs.Line.{spelling, Reads}
use Rattle.a429_cert.specs.declared.version.Version.{Version}
use Rattle.a429_cert.specs.declared.explained.Head.{Head}
use Rattle.a429_cert.specs.Lines.{certificate_lines}
use Rattle.a429_cert.specs.Version.{version_line, step_lines}
use Rattle.a429_cert.specs.Explained.{Reaches}
use Rattle.a429_cert.specs.Fault.{at_line, IsVersioned, HasHead, IsFaultOfLine, IsFaultAt, IsLaterFault, IsFirstCertFault, Begins, file_in}
use Rattle.a429_cert.proofs.ReadingFacts.{one-line}
use Rattle.a429_cert.proofs.ExplainedFacts.{drop_get}

-- ---- the line of the first file

-- the text of another line is not that of the first file
pub no_first : (text : List ℕ) (l : Option CertLine) (file : Option ℕ)
    → Reads text l → file ≡ option_and_then file_in l → file ≡ None → (first : ℕ) → first ≤ 255 → text ≡ spelling (First first) → ⊥
no_first text None file reads is none first byte e = reads (First first) (record { line = tt; held = omega arith; spelled = e })
no_first text (Some (First f)) file reads is none first byte e = cc
no_first text (Some (Load u)) file reads is none first byte e =
    let same = one-line text (Load u) (First first) reads (record { line = tt; held = omega arith; spelled = e }) in cc
no_first text (Some (Moved m)) file reads is none first byte e =
    let same = one-line text (Moved m) (First first) reads (record { line = tt; held = omega arith; spelled = e }) in cc

pub first_err : {V : Type 0} (f : V → Option (List ℕ)) (q : Option V) (x : V) (text : List ℕ) (l : Option CertLine) (file : Option ℕ)
    (r : Result ℕ CertFault) → q ≡ Some x → f x ≡ Some text → Reads text l → file ≡ option_and_then file_in l → r ≡ ok_or file (of.Line 2)
    → IfErr r (λ e. e ≢ of.OutOfMemory
    → (e ≡ of.Line 2) × ((first : ℕ) → first ≤ 255 → option_map f q ≢ Some (Some (spelling (First first)))))
first_err f q x text l (Some n) r e g reads is same = rw same tt
first_err f q x text l None r e g reads is same =
    rw same (λ h. (
      refl,
      λ first byte k. no_first text l None reads is refl first byte
          (same_Some text (spelling (First first))
          (sym g ∙ same_Some (f x) (Some (spelling (First first))) (sym (ap (option_map f) e) ∙ k))),
    ))

-- ---- the first two lines

pub begun : (text certificate : List ℕ) (h : Head) (left_after : List ℕ)
    → text ≡ certificate → Begins text h left_after → Begins certificate h left_after
begun text certificate h left_after e b = subst (λ (l : List ℕ). Begins l h left_after) e b

is_some_of : {V W : Type 0} (f : V → W) (r : Option V) (x : W) → option_map f r ≡ Some x → IsSome r
is_some_of f None x e = absurd (cc e)
is_some_of f (Some v) x e = refl

pub second_is : {V : Type 0} (f : V → Option (List ℕ)) (text mid : List ℕ) (r : Option V)
    → option_map f r ≡ slice_get (certificate_lines mid) 0 → certificate_lines mid ≡ drop 1 (certificate_lines text)
    → option_map f r ≡ slice_get (certificate_lines text) 1
second_is f text mid r g e = g ∙ ap (λ (l : List (Option (List ℕ))). slice_get l 0) e ∙ drop_get (certificate_lines text) 1

pub head : {V : Type 0} (f : V → Option (List ℕ)) (text mid left_after : List ℕ) (r q : Option V) (v : Version) (first : ℕ) → first ≤ 255
    → option_map f r ≡ slice_get (certificate_lines text) 0 → certificate_lines mid ≡ drop 1 (certificate_lines text)
    → (IsSome r → length mid < length text) → option_map f r ≡ Some (Some (version_line v))
    → option_map f q ≡ slice_get (certificate_lines mid) 0 → certificate_lines left_after ≡ drop 1 (certificate_lines mid)
    → (IsSome q → length left_after < length mid) → option_map f q ≡ Some (Some (spelling (First first)))
    → Begins text (record { version = v; first = first }) left_after
head f text mid left_after r q v first byte g e l named g' e' l' w =
    let one = l (is_some_of f r (Some (version_line v)) named) in
    let two = l' (is_some_of f q (Some (spelling (First first))) w) in
    record {
      says = (sym g ∙ named, (byte, sym (second_is f text mid q g' e) ∙ w));
      lines = e' ∙ ap (drop 1) e ∙ drop-drop 1 1 (certificate_lines text);
      shorter = omega arith;
    }

-- ---- faults

no_version : (p : Contents) (s : State) (next : Option Seen) (n i : ℕ) (o : Option (Option (List ℕ)))
    → IsFaultAt p s (at_line n i next) o of.Version → ⊥
no_version p s next n i (Some line) d = d.3
no_version p s (Some item) n i None d = d
no_version p s None n i None d = d

no_memory : (p : Contents) (s : State) (next : Option Seen) (n i : ℕ) (o : Option (Option (List ℕ)))
    → IsFaultAt p s (at_line n i next) o of.OutOfMemory → ⊥
no_memory p s next n i (Some line) d = d.3
no_memory p s (Some item) n i None d = d
no_memory p s None n i None d = d

later : (p : Contents) (certificate : List ℕ) (items : List Seen) (f : CertFault)
    → IsVersioned certificate → IsLaterFault p certificate items f → IsFirstCertFault p certificate items f
later p certificate items of.Version v h =
    absurd (no_version p h.state (slice_get items h.i) (h.k + 3) h.i (slice_get (step_lines h.head.version certificate) h.k) h.fault)
later p certificate items of.OutOfMemory v h =
    no_memory p h.state (slice_get items h.i) (h.k + 3) h.i (slice_get (step_lines h.head.version certificate) h.k) h.fault
later p certificate items (of.Line n) v h = inr (v, h)
later p certificate items (of.NotAllowed n) v h = inr (v, h)
later p certificate items (of.StateDiffers n) v h = inr (v, h)
later p certificate items (of.WordDiffers n i) v h = inr (v, h)
later p certificate items (of.Unfinished i) v h = inr (v, h)

-- the fault of the next line
pub faulty : (p : Contents) (certificate : List ℕ) (items : List Seen) (d : Head) (k i : ℕ) (line : Option (List ℕ)) (s : State)
    (f : CertFault)
    → HasHead certificate d → slice_get (step_lines d.version certificate) k ≡ Some line → i ≤ length items
    → Reaches p d.first (take k (step_lines d.version certificate)) (take i items) s
    → IsFaultOfLine p s (at_line (k + 3) i (slice_get items i)) line f → IsFirstCertFault p certificate items f
faulty p certificate items d k i line s f w g inside h m =
    later p certificate items f (d.version, w.0) (record {
      head = d;
      says = w;
      k = k;
      i = i;
      inside = inside;
      state = s;
      before = h;
      fault = subst (λ o. IsFaultAt p s (at_line (k + 3) i (slice_get items i)) o f) (sym g) m;
    })

-- an entry that is left
pub left_over : (p : Contents) (certificate : List ℕ) (items : List Seen) (d : Head) (k i : ℕ) (s : State)
    → HasHead certificate d → slice_get (step_lines d.version certificate) k ≡ None → i < length items
    → Reaches p d.first (take k (step_lines d.version certificate)) (take i items) s
    → IsFirstCertFault p certificate items (of.Unfinished i)
left_over p certificate items d k i s w g more h =
    let next = some_within items i more in
    let here : IsFaultAt p s (at_line (k + 3) i (slice_get items i)) None (of.Unfinished i) =
    subst (λ o. IsFaultAt p s (at_line (k + 3) i o) None (of.Unfinished i)) (sym next.1) refl in
    later p certificate items (of.Unfinished i) (d.version, w.0) (record {
      head = d;
      says = w;
      k = k;
      i = i;
      inside = omega arith;
      state = s;
      before = h;
      fault = subst (λ o. IsFaultAt p s (at_line (k + 3) i (slice_get items i)) o (of.Unfinished i)) (sym g) here;
    })

pub faulty_now : (p : Contents) (certificate : List ℕ) (items : List Seen) (d : Head) (k i n : ℕ) (line : Option (List ℕ))
    (next : Option Seen) (s : State) (f : CertFault)
    → HasHead certificate d → slice_get (step_lines d.version certificate) k ≡ Some line → n ≡ k + 3 → next ≡ slice_get items i
    → i ≤ length items
    → Reaches p d.first (take k (step_lines d.version certificate)) (take i items) s → IsFaultOfLine p s (at_line n i next) line f
    → IsFirstCertFault p certificate items f
faulty_now p certificate items d k i n line next s f w g e o inside h m =
    faulty p certificate items d k i line s f w g inside h
    (subst (λ x. IsFaultOfLine p s (at_line x i (slice_get items i)) line f) e (subst (λ x. IsFaultOfLine p s (at_line n i x) line f) o m))
