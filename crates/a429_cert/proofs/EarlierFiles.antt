-- Files that were handed out change no line of a certificate, and no fault of one.
use Rattle.std.proofs.Common.{◌≡◌, ◌∙◌, ◌++◌, ℕ, List, [], Option, Some, None, sym, ap, subst, append-nil}
use Rattle.a429_profile.specs.Profile.{Contents}
use Rattle.a429_link.specs.declared.file.FileBytes.{FileBytes}
use Rattle.a429_link.specs.declared.seen.Seen.{Seen}
use Rattle.a429_link.specs.declared.step.Step.{Step}
use Rattle.a429_link.specs.Step.{after}
use Rattle.a429_link.specs.State.{State}
use Rattle.a429_link.specs.Link.{with_earlier}
use Rattle.a429_link.proofs.LinkKept.{after_earlier, can_earlier, can_later}
use Rattle.a429_cert.specs.declared.line.CertLine.{CertLine}
use Rattle.a429_cert.specs.declared.line.CertLine.TheVariants.{First, Load, Moved}
use Rattle.a429_cert.specs.declared.fault.CertFault.{CertFault}
use Rattle.a429_cert.specs.declared.fault.CertFault.TheVariants as of
use Rattle.a429_cert.specs.Explained.{ShowsStates}
use Rattle.a429_cert.specs.Fault.{at_line, CanBe, IsNamed, IsFaultOfStep, IsFaultOfLine}
use Rattle.a429_cert.specs.Passing.{MakesStep, PassesText}
use Rattle.a429_cert.specs.Change.{change}

-- ---- a line that passes

step_earlier : (p : Contents) (o : Option Step) (files : List FileBytes) (s t : State)
    → MakesStep p o s t → MakesStep p o (with_earlier files s) (with_earlier files t)
step_earlier p None files s t m = m
step_earlier p (Some a) files s t m = (can_earlier p a files s m.0, ap (with_earlier files) m.1 ∙ sym (after_earlier p a files s))

shows_earlier : (l : CertLine) (files : List FileBytes) (t : State) → ShowsStates l t → ShowsStates l (with_earlier files t)
shows_earlier (First file) files t h = tt
shows_earlier (Load u) files t h = tt
shows_earlier (Moved m) files t h = h

pub text_earlier : (p : Contents) (text : Option (List ℕ)) (next : Option Seen) (files : List FileBytes) (s t : State) (used : ℕ)
    → PassesText p text next (change s t) used → PassesText p text next (change (with_earlier files s) (with_earlier files t)) used
text_earlier p text next files s t used h = (h.0, h.1, (step_earlier p _ files s t h.2.0, shows_earlier h.0 files t h.2.1, h.2.2))

-- ---- a fault

can_be_earlier : (p : Contents) (l : CertLine) (next : Option Seen) (files : List FileBytes) (s : State)
    → CanBe p l next s → CanBe p l next (with_earlier files s)
can_be_earlier p l next files s h = (h.0, h.1, can_earlier p h.0 files s h.2)

can_be_later : (p : Contents) (l : CertLine) (next : Option Seen) (files : List FileBytes) (s : State)
    → CanBe p l next (with_earlier files s) → CanBe p l next s
can_be_later p l next files s h = (h.0, h.1, can_later p h.0 files s h.2)

pub named_earlier : (p : Contents) (l : CertLine) (files : List FileBytes) (s : State) → IsNamed p l s → IsNamed p l (with_earlier files s)
named_earlier p l files s h = (h.0, can_be_earlier p l h.0 files s h.1)

named_later : (p : Contents) (l : CertLine) (files : List FileBytes) (s : State) → IsNamed p l (with_earlier files s) → IsNamed p l s
named_later p l files s h = (h.0, can_be_later p l h.0 files s h.1)

shows_later : (l : CertLine) (files : List FileBytes) (t : State) → ShowsStates l (with_earlier files t) → ShowsStates l t
shows_later (First file) files t h = tt
shows_later (Load u) files t h = tt
shows_later (Moved m) files t h = h

step_fault_earlier : (p : Contents) (files : List FileBytes) (s : State) (next : Option Seen) (n i : ℕ) (l : CertLine) (f : CertFault)
    → IsFaultOfStep p s (at_line n i next) l f → IsFaultOfStep p (with_earlier files s) (at_line n i next) l f
step_fault_earlier p files s next n i l of.Version h = h
step_fault_earlier p files s next n i l (of.Line m) h = h
step_fault_earlier p files s next n i l (of.NotAllowed m) h = (h.0, λ c. h.1 (named_later p l files s c))
step_fault_earlier p files s next n i l (of.StateDiffers m) h = (
  h.0,
  h.1,
  h.2,
  can_earlier p h.1 files s h.3,
  λ c. h.4 (shows_later l files (after p h.1 s) (subst (ShowsStates l) (after_earlier p h.1 files s) c)),
)
step_fault_earlier p files s next n i l (of.WordDiffers m j) h =
    (h.0, h.1, named_earlier p l files s h.2, λ c. h.3 (can_be_later p l next files s c))
step_fault_earlier p files s next n i l (of.Unfinished j) h = h
step_fault_earlier p files s next n i l of.OutOfMemory h = h

pub fault_earlier : (p : Contents) (files : List FileBytes) (s : State) (next : Option Seen) (n i : ℕ) (line : Option (List ℕ))
    (f : CertFault) → IsFaultOfLine p s (at_line n i next) line f → IsFaultOfLine p (with_earlier files s) (at_line n i next) line f
fault_earlier p files s next n i line (of.Line m) h = h
fault_earlier p files s next n i line of.Version h = (h.0, h.1, h.2, step_fault_earlier p files s next n i h.0 of.Version h.3)
fault_earlier p files s next n i line (of.NotAllowed m) h = (h.0, h.1, h.2, step_fault_earlier p files s next n i h.0 (of.NotAllowed m) h.3)
fault_earlier p files s next n i line (of.StateDiffers m) h =
    (h.0, h.1, h.2, step_fault_earlier p files s next n i h.0 (of.StateDiffers m) h.3)
fault_earlier p files s next n i line (of.WordDiffers m j) h =
    (h.0, h.1, h.2, step_fault_earlier p files s next n i h.0 (of.WordDiffers m j) h.3)
fault_earlier p files s next n i line (of.Unfinished j) h = (h.0, h.1, h.2, step_fault_earlier p files s next n i h.0 (of.Unfinished j) h.3)
fault_earlier p files s next n i line of.OutOfMemory h = (h.0, h.1, h.2, step_fault_earlier p files s next n i h.0 of.OutOfMemory h.3)

-- ---- files

-- the files that were handed out are those of the lines before
pub given_out : (files : List FileBytes) (s : State) → s.sink.received.files ≡ [] → files ≡ (with_earlier files s).sink.received.files
given_out files s none = sym (ap (λ (l : List FileBytes). files ++ l) none ∙ append-nil files)
