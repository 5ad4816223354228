-- What `a429 picture` writes (profile).
use Rattle.std.specs.Prelude.{◌≡◌, ◌⊎◌, ◌≤◌, ◌<◌, ℕ, List, None, Result, Ok, Err, Vec}
use Rattle.a429_profile.specs.Profile.{Contents}
use Rattle.a429_link.specs.declared.step.Step.{Step}
use Rattle.a429_record.specs.Recording.{Recording}
use Rattle.a429_cert.specs.Explained.{items_of, Explains}
use Rattle.a429_cert.specs.StreamExplained.{compared, Extracts, WhereBothKnown}
use Rattle.a429_cert.specs.Report.{reports_of_run}
use Rattle.a429_view.specs.declared.mark.Span.{Span}
use Rattle.a429_view.specs.Mark.{before_all, steps_within}
use Rattle.a429_view.specs.Picture.{picture_text, svg_text}
use Rattle.a429_view.specs.declared.sketch.Sketch.{Sketch}
use Rattle.a429_profile.specs.declared.codes.Codes.{Codes}
use Rattle.a429_view.specs.Sketch.{most_steps}
use Rattle.a429_cert.specs.declared.fault.CertFault.{CertFault}
use Rattle.a429_commands.specs.declared.fault.RunFault.{RunFault}
use Rattle.a429_commands.specs.Ends.{Promise}
use Rattle.a429_commands.specs.Fault.{Causes, ComesBy}
use Rattle.a429_commands.specs.Profile.{IsProfileOf}
use Rattle.a429_commands.specs.Verdict.{Input, Rejects, no_shelf, verify_causes}
use Rattle.a429_view.specs.Verdict.{no_text}
use Rattle.a429_cert.specs.Change.{change}

-- a run by which the certificate explains the recording
pub record ARun (p : Contents) (certificate : List ℕ) (r : Recording) : Type 0 where
  pub first : ℕ
  pub steps : List Step
  pub explains : Explains p certificate (items_of r.entries) first steps

-- how many of its steps lie in a span
abbrev pub steps_of_run : {p : Contents} {certificate : List ℕ} {r : Recording} → Span → ARun p certificate r → ℕ
steps_of_run {p} {certificate} {r} span run = steps_within p.codes span before_all (reports_of_run p r.entries run.first run.steps)

-- the text is the picture of a span of such a run, which has at most 2,000 steps there
pub record DrawsRun (p : Contents) (span : Span) (text : List ℕ) (certificate : List ℕ) (r : Recording) : Type 0 where
  pub run : ARun p certificate r
  pub few : steps_of_run span run ≤ most_steps
  pub drawn : text ≡ picture_text p.codes span (reports_of_run p r.entries run.first run.steps)

-- it has more of them
pub record IsTooLongRun (p : Contents) (span : Span) (certificate : List ℕ) (r : Recording) : Type 0 where
  pub run : ARun p certificate r
  pub many : most_steps < steps_of_run span run

-- the certificate is accepted, under the profile whose text the bytes are, and its run is so
pub record IsAcceptedSo (i : Input) (IsSo : Contents → List ℕ → Recording → Type 0) : Type 0 where
  pub contents : Contents
  pub is_profile : IsProfileOf i.profile contents
  pub files : List (ℕ × ℕ)
  pub yes : Extracts (compared contents i.certificate i.recording) (change None None) files
  pub so : WhereBothKnown i.certificate i.recording (IsSo contents)

-- what is answered: 0 and a picture, or the no of `a429 verify`
abbrev pub IsPicture : Input → Span → ℕ → List ℕ → Type 0
IsPicture i span status text = ((status ≡ 0) × IsAcceptedSo i (λ p. DrawsRun p span text)) ⊎ Rejects i no_shelf status text

-- with one of the two statuses
abbrev pub IsSomePicture : Input → Span → List ℕ → Type 0
IsSomePicture i span text = (status : ℕ) × IsPicture i span status text

-- a fault of `a429 verify`, or a span with more than 2,000 steps
abbrev pub picture_causes : Input → Span → Type 0 → Causes
picture_causes i span Failed = record (verify_causes i no_shelf Failed) { too_long = IsAcceptedSo i (λ p. IsTooLongRun p span) }

abbrev pub IsPictureFault : Input → Span → Type 0 → RunFault → Type 0
IsPictureFault i span Failed = ComesBy (picture_causes i span Failed)

-- `picture` writes it, where no reader has failed; else it writes nothing
abbrev pub of_picture : Input → Span → Type 0 → Promise
of_picture i span Failed = record {
  says = λ status text. IsPicture i span status text × (Failed → ⊥);
  stops = λ e text. ⊥;
  begins = λ text. IsSomePicture i span text × (Failed → ⊥);
  refuses = IsPictureFault i span Failed;
}

-- ---- of a certificate that was judged

-- its text, by its answer: the picture of what was sketched, or a no
abbrev pub drawing_text : {Z : Type 0} → Codes → Sketch → Result (Vec (ℕ × ℕ) Z) CertFault → List ℕ
drawing_text c sketch (Ok files) = svg_text c sketch.rows.items
drawing_text c sketch (Err f) = no_text f
