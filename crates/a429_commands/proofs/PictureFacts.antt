-- What a sketch that listened to a certificate holds, and why there is no picture.
use Rattle.std.proofs.Common.{◌≡◌, ◌≤◌, ◌<◌, inl, inr, ℕ, List, Bool, true, false, nat_lt, None, Result, Ok, Err, Vec, Global, refl, ap}
use Rattle.std.specs.Prelude.{IsOkAnd, IsTrue, ◌↔◌, ⊤}
use Rattle.std.specs.Result.{ForOk}
use Rattle.std.specs.Str.{IsUtf8}
use Rattle.std.proofs.lemmas.Bool.{ltb-true, ltb-false}
use Rattle.a429_profile.specs.Profile.{Contents}
use Rattle.a429_record.specs.Recording.{Recording}
use Rattle.a429_cert.specs.StreamExplained.{compared, Extracts, HearsRun}
use Rattle.a429_cert.specs.Report.{listening, IsHeard, reports_of_run}
use Rattle.a429_view.specs.declared.mark.Span.{Span}
use Rattle.a429_view.specs.declared.sketch.Sketch.{Sketch}
use Rattle.a429_view.specs.Sketch.{most_steps, Hears, IsBlank}
use Rattle.a429_view.specs.Picture.{svg_text}
use Rattle.a429_view.proofs.SketchFacts.{IsOf, is_of}
use Rattle.a429_commands.specs.declared.fault.RunFault.{RunFault}
use Rattle.a429_commands.specs.declared.fault.RunFault.TheVariants as run
use Rattle.a429_commands.specs.Profile.{IsProfileOf}
use Rattle.a429_commands.specs.declared.engines.verdict.Judged.{Judged}
use Rattle.a429_cert.specs.declared.fault.CertFault.{CertFault}
use Rattle.a429_commands.specs.Verdict.{HearsAnswer, HearsJudged, Input, IsAnswered, IsJudged, IsVerifyFault, no_shelf, status_of_answer, verify_causes}
use Rattle.a429_commands.proofs.EndsFacts.{Bears}
use Rattle.a429_commands.proofs.FaultFacts.{comes_by}
use Rattle.a429_commands.proofs.VerdictFacts.{rejects}
use Rattle.a429_commands.specs.Picture.{ARun, DrawsRun, IsPicture, IsPictureFault, IsTooLongRun, drawing_text, of_picture, picture_causes}
use Rattle.a429_cert.specs.Change.{change}
use Rattle.a429_cert.proofs.StreamReplay.{both_known_map}

-- the run that was heard
abbrev heard_run : {p : Contents} {old new : Sketch} {text : List ℕ} {r : Recording}
    → IsHeard (listening Hears old new) p text r → ARun p text r
heard_run h = record { first = h.first; steps = h.steps; explains = h.explains }

heard_of : (p : Contents) (span : Span) (old new : Sketch) (text : List ℕ) (r : Recording) → IsBlank span old
    → (h : IsHeard (listening Hears old new) p text r) → IsOf p.codes span (reports_of_run p r.entries h.first h.steps) new
heard_of p span old new text r b h = is_of p span (reports_of_run p r.entries h.first h.steps) old new b h.heard

draws : (p : Contents) (span : Span) (old new : Sketch) (text : List ℕ) (r : Recording) → IsBlank span old → new.steps ≤ most_steps
    → IsHeard (listening Hears old new) p text r → DrawsRun p span (svg_text p.codes new.rows.items) text r
draws p span old new text r b e h =
    let of = (heard_of p span old new text r b h).few e in
    record { run = heard_run h; few = of.1; drawn = ap (svg_text p.codes) of.0 }

-- a picture of what was heard
drawn : (i : Input) (span : Span) (old new : Sketch) (p : Contents) (files : List (ℕ × ℕ))
    → IsProfileOf i.profile p → Extracts (compared p i.certificate i.recording) (change None None) files → IsBlank span old
    → HearsRun (listening Hears old new) (compared p i.certificate i.recording) → new.steps ≤ most_steps
    → IsPicture i span 0 (svg_text p.codes new.rows.items)
drawn i span old new p files is here b h few =
    inl (
      refl,
      record {
        contents = p;
        is_profile = is;
        files = files;
        yes = here;
        so =
            both_known_map i.certificate i.recording (IsHeard (listening Hears old new) p)
            (DrawsRun p span (svg_text p.codes new.rows.items)) (λ t r g. draws p span old new t r b few g) h;
      },
    )

-- too many steps
too_long : (i : Input) (p : Contents) (span : Span) (Failed : Type 0) (old new : Sketch) (files : List (ℕ × ℕ))
    → IsProfileOf i.profile p → Extracts (compared p i.certificate i.recording) (change None None) files → IsBlank span old
    → HearsRun (listening Hears old new) (compared p i.certificate i.recording) → most_steps < new.steps
    → IsPictureFault i span Failed run.TooLong
too_long i p span Failed old new files is here b h e =
    record {
      contents = p;
      is_profile = is;
      files = files;
      yes = here;
      so =
          both_known_map i.certificate i.recording (IsHeard (listening Hears old new) p) (IsTooLongRun p span)
          (λ text r g. record { run = heard_run g; many = (heard_of p span old new text r b g).many e }) h;
    }

-- a fault of `a429 verify` is one of `picture`
pub as_verify : (i : Input) (span : Span) (Failed : Type 0) (e : RunFault)
    → IsVerifyFault i no_shelf Failed e → IsPictureFault i span Failed e
as_verify i span Failed = comes_by (verify_causes i no_shelf Failed) (picture_causes i span Failed)
    (record {
      profile = λ f h. h;
      recording = λ f h. h;
      file = λ k f h. absurd h;
      too_long = λ h. absurd h;
      no_place = λ h. absurd h;
      device = λ h. h;
      memory = λ h. h;
    })

-- ---- of what was judged and sketched

module _ (i : Input) (span : Span) (old new : Sketch) (b : IsBlank span old) where
  picture_by : (p : Contents) (a : Result (Vec (ℕ × ℕ) Global) CertFault) → IsProfileOf i.profile p → IsAnswered p i no_shelf a
      → HearsAnswer (listening Hears old new) p i a → ForOk a (λ _. new.steps ≤ most_steps)
      → IsPicture i span (status_of_answer a) (drawing_text p.codes new a)
  picture_by p (Ok files) is here h few = drawn i span old new p files.items is here b h (few files refl)
  picture_by p (Err f) is here h few = inr (rejects i no_shelf p f is here)

  pub pictured : (j : Judged)
      → IsJudged i no_shelf j → HearsJudged (listening Hears old new) i j → ForOk j.answer (λ _. new.steps ≤ most_steps)
      → IsPicture i span (status_of_answer j.answer) (drawing_text j.profile.codes new j.answer)
  pictured j judged heard few = picture_by j.profile j.answer judged.0 judged.1 heard few

  too_long_by : (Failed : Type 0) (p : Contents) (a : Result (Vec (ℕ × ℕ) Global) CertFault) → IsProfileOf i.profile p
      → IsAnswered p i no_shelf a → HearsAnswer (listening Hears old new) p i a → IsOkAnd a (λ _. most_steps < new.steps)
      → IsPictureFault i span Failed run.TooLong
  too_long_by Failed p (Ok files) is here h many = too_long i p span Failed old new files.items is here b h many
  too_long_by Failed p (Err f) is here h many = absurd many

  pub not_pictured : (Failed : Type 0) (j : Judged) → IsJudged i no_shelf j → HearsJudged (listening Hears old new) i j
      → IsOkAnd j.answer (λ _. most_steps < new.steps) → IsPictureFault i span Failed run.TooLong
  not_pictured Failed j judged heard many = too_long_by Failed j.profile j.answer judged.0 judged.1 heard many

utf8 : (i : Input) (span : Span) (status : ℕ) (text : List ℕ) → IsPicture i span status text → IsUtf8 i.profile
utf8 i span status text (inl h) = h.1.is_profile.0
utf8 i span status text (inr h) = h.is_profile.0

-- the drawing is as promised
pub drawing_is : (i : Input) (span : Span) (Failed : Type 0) (status : ℕ) (text : List ℕ) → IsPicture i span status text → (Failed → ⊥)
    → Bears (of_picture i span Failed) (λ n t. (n ≡ status) × (t ≡ text)) (λ t. t ≡ text) ⊤
drawing_is i span Failed status text is works = record {
  says = λ n t here. (rw (here.0, here.1) is, works);
  begins = λ t here. ((status, rw here is), works);
  no_room = λ _. (utf8 i span status text is, inl tt);
}

-- a sketch that is not too long has few steps
pub few_steps : (b : Bool) (n : ℕ) → (IsTrue b ↔ (most_steps < n)) → b ≡ false → n ≤ most_steps
few_steps b n iff none = by (nat_lt most_steps n) refl
  where
    by : (t : Bool) → nat_lt most_steps n ≡ t → n ≤ most_steps
    by true e = let long = iff.1 (ltb-true most_steps n e) in absurd (cc (long, none))
    by false e = ltb-false most_steps n e
