-- What is answered of a certificate, and what a command reports where there is no verdict.
use Rattle.std.proofs.Common.{◌≡◌, ◌||◌, ◌∙◌, inl, inr, ℕ, Bool, true, false, ◌≢◌, List, Vec, Global, Option, Some, None, Result, Ok, Err, IfOk, IfErr, refl, sym, ap, subst}
use Rattle.std.specs.Result.{OnOk}
use Rattle.std.proofs.lemmas.Bool.{or_left, or_right}
use Rattle.a429_cert.specs.Stream.{OneFailed}
use Rattle.a429_profile.specs.Profile.{Contents}
use Rattle.a429_record.specs.declared.fault.ReadFault.{ReadFault}
use Rattle.a429_record.specs.declared.fault.ReadFault.TheVariants as read
use Rattle.a429_cert.specs.declared.shelf.PutFile.{PutFile}
use Rattle.a429_cert.specs.declared.stream_fault.StreamFault.{StreamFault}
use Rattle.a429_cert.specs.declared.stream_fault.StreamFault.TheVariants as stream
use Rattle.a429_cert.specs.Shelf.{IsUnchanged}
use Rattle.a429_cert.specs.BreakOff.{Shelved}
use Rattle.a429_cert.specs.StreamExplained.{compared, HearsBefore, HearsRun, Refuses, SaysYes}
use Rattle.a429_cert.specs.Report.{Listening}
use Rattle.a429_cert.specs.declared.fault.CertFault.{CertFault}
use Rattle.a429_cert.specs.declared.fault.CertFault.TheVariants as cert
use Rattle.a429_profile.specs.declared.fault.ProfileFault.{ProfileFault}
use Rattle.a429_commands.specs.declared.engines.verdict.Judged.{Judged}
use Rattle.a429_commands.specs.declared.fault.RunFault.{RunFault}
use Rattle.a429_commands.specs.declared.fault.RunFault.TheVariants as run
use Rattle.a429_commands.specs.Profile.{IsProfileOf, IsProfileFault, profile_causes}
use Rattle.a429_commands.specs.Streaming.{reported}
use Rattle.a429_commands.specs.Verdict.{HasAnswer, HearsAnswer, HearsUntil, Input, IsAnswerOf, IsAnswered, IsJudged, IsNoAnswer, IsVerdict, IsVerifyFault, Judges, Rejects, SaysAnswer, no, of_stream, of_verdict, status_of_answer, text_of_answer, verify_causes, yes}
use Rattle.a429_view.specs.Verdict.{no_text}
use Rattle.a429_cert.specs.Change.{change}
use Rattle.a429_commands.proofs.EndsFacts.{Bears}
use Rattle.a429_commands.proofs.FaultFacts.{comes_by}

pub unchanged : (files : Option (List PutFile)) → IsUnchanged files files
unchanged None = tt
unchanged (Some files) = refl

-- ---- what was judged

-- the answer of a stream is judged by its profile
pub has_answer : (i : Input) (shelf : Shelved) (p : Contents) (r : Result (Vec (ℕ × ℕ) Global) StreamFault) → IsProfileOf i.profile p
    → IfOk r (SaysYes (compared p i.certificate i.recording) (change shelf.before shelf.after))
    → IfErr r (Refuses (compared p i.certificate i.recording) (change shelf.before shelf.after)) → HasAnswer i shelf
has_answer i shelf p (Ok files) is here _ = (Ok files.items, record { contents = p; is_profile = is; is = here })
has_answer i shelf p (Err f) is _ here = (Err f, record { contents = p; is_profile = is; is = here })

pub judged_answer : (i : Input) (shelf : Shelved) (p : Contents) (a : Result (Vec (ℕ × ℕ) Global) CertFault)
    → IsProfileOf i.profile p → IsAnswered p i shelf a → HasAnswer i shelf
judged_answer i shelf p (Ok files) is here = (Ok files.items, record { contents = p; is_profile = is; is = here })
judged_answer i shelf p (Err f) is here = (Err (stream.Cert f), record { contents = p; is_profile = is; is = here.0 })

pub judged : (i : Input) (shelf : Shelved) (j : Judged) → IsJudged i shelf j → HasAnswer i shelf
judged i shelf j h = judged_answer i shelf j.profile j.answer h.0 h.1

-- a certificate that is refused is a no
pub rejects : (i : Input) (shelf : Shelved) (p : Contents) (f : CertFault) → IsProfileOf i.profile p
    → Refuses (compared p i.certificate i.recording) (change shelf.before shelf.after) (stream.Cert f) × (f ≢ cert.OutOfMemory)
    → Rejects i shelf 2 (no_text f)
rejects i shelf p f is here =
    record { contents = p; is_profile = is; fault = f; refused = here.0; of_certificate = here.1; status_is = refl; text_is = refl }

answered : (i : Input) (shelf : Shelved) (p : Contents) (a : Result (Vec (ℕ × ℕ) Global) CertFault)
    → IsProfileOf i.profile p → IsAnswered p i shelf a → IsVerdict i shelf (status_of_answer a) (text_of_answer a)
answered i shelf p (Ok files) is here = yes p is files.items here refl refl
answered i shelf p (Err f) is here = no (rejects i shelf p f is here)

-- its text is the text of a verdict
pub verdict : (i : Input) (shelf : Shelved) (j : Judged)
    → IsJudged i shelf j → IsVerdict i shelf (status_of_answer j.answer) (text_of_answer j.answer)
verdict i shelf j h = answered i shelf j.profile j.answer h.0 h.1

-- it bears what is promised
pub judged_bears : (i : Input) (shelf : Shelved) (Failed : Type 0) (j : Judged)
    → IsJudged i shelf j → (Failed → ⊥) → Bears (of_verdict i shelf Failed) (SaysAnswer j.answer) (λ text. text ≡ text_of_answer j.answer) ⊥
judged_bears i shelf Failed j is works = record {
  says = λ status text here. (rw (here.0, here.1) (verdict i shelf j is), works);
  begins = λ text here. ((status_of_answer j.answer, rw here (verdict i shelf j is)), works);
  no_room = λ e. absurd e;
}

-- ---- what has failed

pub not_either : (a b : Bool) → a ≡ false → b ≡ false → (a || b) ≡ true → ⊥
not_either false b g h e = cc (h, e)
not_either true b g h e = cc g

-- what has failed where a stream reports a device
pub one_failed : (rec cert shelf listener : Bool) → OneFailed cert shelf listener → (listener || (shelf || (rec || cert))) ≡ true
one_failed rec cert shelf listener (inl a) = or_right listener (shelf || (rec || cert)) (or_right shelf (rec || cert) (or_right rec cert a))
one_failed rec cert shelf listener (inr (inl b)) = or_right listener (shelf || (rec || cert)) (or_left shelf (rec || cert) b)
one_failed rec cert shelf listener (inr (inr d)) = or_left listener (shelf || (rec || cert)) d

pub reader_failed : (rec cert shelf listener : Bool) → rec ≡ true → (listener || (shelf || (rec || cert))) ≡ true
reader_failed rec cert shelf listener a = or_right listener (shelf || (rec || cert)) (or_right shelf (rec || cert) (or_left rec cert a))

-- ---- why there is no verdict

-- a profile that was not read
pub by_profile : (i : Input) (shelf : Shelved) (Failed : Type 0) (e : RunFault)
    → IsUnchanged shelf.before shelf.after → IsProfileFault i.profile e → IsVerifyFault i shelf Failed e
by_profile i shelf Failed e same = comes_by (profile_causes i.profile) (verify_causes i shelf Failed)
    (record {
      profile = λ f h. (h, same);
      recording = λ f h. absurd h;
      file = λ k f h. absurd h;
      too_long = λ h. absurd h;
      no_place = λ h. absurd h;
      device = λ h. absurd h;
      memory = λ h. (h, inl same);
    }) e

-- then nothing was heard of the recording
pub unheard : {T : Type 0} (l : Listening T) (i : Input) (e : RunFault) → IsProfileFault i.profile e → HearsUntil l i e
unheard l i (run.Profile f) h = tt
unheard l i run.Memory h = tt
unheard l i (run.Read f) h = absurd h
unheard l i run.Device h = tt
unheard l i (run.Cut k f) h = tt
unheard l i run.TooLong h = tt
unheard l i run.BadWord h = tt
unheard l i run.Usage h = tt
unheard l i run.NoPlace h = tt
unheard l i run.OldFiles h = tt
unheard l i (run.Map f) h = tt
unheard l i (run.Export f) h = tt

-- a fault of a stream, as a command reports it
pub by_stream : (i : Input) (shelf : Shelved) (p : Contents) (Failed : Type 0) (f : StreamFault)
    → IsProfileOf i.profile p → Refuses (compared p i.certificate i.recording) (change shelf.before shelf.after) f
    → (f ≡ stream.Device → Failed) → (f ≡ stream.Read read.Device → Failed) → IsVerifyFault i shelf Failed (of_stream f)
by_stream i shelf p Failed f is here a b = by f here a b
  where
    found : (f : StreamFault) → Refuses (compared p i.certificate i.recording) (change shelf.before shelf.after) f → Judges i shelf (Err f)
    found f here = record { contents = p; is_profile = is; is = here }

    by : (f : StreamFault) → Refuses (compared p i.certificate i.recording) (change shelf.before shelf.after) f
        → (f ≡ stream.Device → Failed) → (f ≡ stream.Read read.Device → Failed) → IsVerifyFault i shelf Failed (of_stream f)
    by (stream.Cert f) here a b = (is.0, inr (Err (stream.Cert f), found (stream.Cert f) here))
    by (stream.Read read.Header) here a b = (refl, found (stream.Read read.Header) here)
    by (stream.Read (read.Row n)) here a b = (refl, found (stream.Read (read.Row n)) here)
    by (stream.Read (read.TimeBack n)) here a b = (refl, found (stream.Read (read.TimeBack n)) here)
    by (stream.Read read.TooMany) here a b = (refl, found (stream.Read read.TooMany) here)
    by (stream.Read read.Failed) here a b = (refl, found (stream.Read read.Failed) here)
    by (stream.Read read.Device) here a b = (b refl, (Err (stream.Read read.Device), found (stream.Read read.Device) here))
    by (stream.Read read.OutOfMemory) here a b = (is.0, inr (Err (stream.Read read.OutOfMemory), found (stream.Read read.OutOfMemory) here))
    by stream.Device here a b = (a refl, (Err stream.Device, found stream.Device here))
    by stream.OutOfMemory here a b = (is.0, inr (Err stream.OutOfMemory, found stream.OutOfMemory here))

-- no fault of a stream is one of a profile
pub no_profile : (f : StreamFault) (fault : ProfileFault) → of_stream f ≡ run.Profile fault → ⊥
no_profile (stream.Cert f) fault e = cc e
no_profile (stream.Read read.Header) fault e = cc e
no_profile (stream.Read (read.Row i)) fault e = cc e
no_profile (stream.Read (read.TimeBack i)) fault e = cc e
no_profile (stream.Read read.TooMany) fault e = cc e
no_profile (stream.Read read.Failed) fault e = cc e
no_profile (stream.Read read.Device) fault e = cc e
no_profile (stream.Read read.OutOfMemory) fault e = cc e
no_profile stream.Device fault e = cc e
no_profile stream.OutOfMemory fault e = cc e

-- ---- the answer of a stream, unless something has failed

module _ (i : Input) (shelf : Shelved) (p : Contents) (failed : Bool) where
  pub answered_by : (r : Result (Vec (ℕ × ℕ) Global) StreamFault) (a : Result (Vec (ℕ × ℕ) Global) CertFault) → IsAnswerOf failed r a
      → IfOk r (SaysYes (compared p i.certificate i.recording) (change shelf.before shelf.after))
      → IfErr r (Refuses (compared p i.certificate i.recording) (change shelf.before shelf.after)) → IsAnswered p i shelf a
  answered_by (Ok files) a h there no_way = subst (IsAnswered p i shelf) (sym h.1) there
  answered_by (Err f) a h there no_way =
      subst (IsAnswered p i shelf) (sym h.1.3)
      (subst (Refuses (compared p i.certificate i.recording) (change shelf.before shelf.after)) h.1.1 no_way, h.1.2)

  pub heard_by : {T : Type 0} (l : Listening T) (r : Result (Vec (ℕ × ℕ) Global) StreamFault) (a : Result (Vec (ℕ × ℕ) Global) CertFault)
      → IsAnswerOf failed r a
      → OnOk r (HearsRun l (compared p i.certificate i.recording)) → IfErr r (HearsBefore l (compared p i.certificate i.recording))
      → HearsAnswer l p i a
  heard_by l (Ok files) a h there no_way = subst (HearsAnswer l p i) (sym h.1) there
  heard_by l (Err f) a h there no_way =
      subst (HearsAnswer l p i) (sym h.1.3) (subst (HearsBefore l (compared p i.certificate i.recording)) h.1.1 no_way)

  -- where it is no answer, but a fault of the recording
  pub heard_until : {T : Type 0} (l : Listening T) (r : Result (Vec (ℕ × ℕ) Global) StreamFault) (e : RunFault)
      → IsProfileOf i.profile p → IsNoAnswer failed r e
      → IfErr r (HearsBefore l (compared p i.certificate i.recording)) → HearsUntil l i e
  heard_until l r e is (inl h) heard = subst (HearsUntil l i) (sym h.1) tt
  heard_until l r e is (inr (_, (f, same, fault))) heard =
      subst (HearsUntil l i) (sym fault)
      (by f
      (subst (λ (x : Result (Vec (ℕ × ℕ) Global) StreamFault). IfErr x (HearsBefore l (compared p i.certificate i.recording))) same heard))
    where
      by : (f : StreamFault) → HearsBefore l (compared p i.certificate i.recording) f → HearsUntil l i (of_stream f)
      by (stream.Cert f) h = tt
      by (stream.Read read.Header) h = (p, is, h)
      by (stream.Read (read.Row n)) h = (p, is, h)
      by (stream.Read (read.TimeBack n)) h = (p, is, h)
      by (stream.Read read.TooMany) h = (p, is, h)
      by (stream.Read read.Failed) h = (p, is, h)
      by (stream.Read read.Device) h = tt
      by (stream.Read read.OutOfMemory) h = tt
      by stream.Device h = tt
      by stream.OutOfMemory h = tt

  pub none_has_failed : (r : Result (Vec (ℕ × ℕ) Global) StreamFault) (a : Result (Vec (ℕ × ℕ) Global) CertFault)
      → IsAnswerOf failed r a → failed ≡ false
  none_has_failed (Ok files) a h = h.0
  none_has_failed (Err f) a h = h.0

  -- why there is none
  pub by_no_answer : (Failed : Type 0) (r : Result (Vec (ℕ × ℕ) Global) StreamFault) (e : RunFault)
      → IsProfileOf i.profile p → IsNoAnswer failed r e
      → IfOk r (SaysYes (compared p i.certificate i.recording) (change shelf.before shelf.after))
      → IfErr r (Refuses (compared p i.certificate i.recording) (change shelf.before shelf.after))
      → (failed ≡ true → Failed) → (r ≡ Err stream.Device → Failed) → (r ≡ Err (stream.Read read.Device) → Failed)
      → IsVerifyFault i shelf Failed e
  by_no_answer Failed r e is (inl h) there no_way any a b =
      subst (IsVerifyFault i shelf Failed) (sym h.1) (any h.0, has_answer i shelf p r is there no_way)
  by_no_answer Failed r e is (inr (_, (f, same, fault))) there no_way any a b =
      let refused : Refuses (compared p i.certificate i.recording) (change shelf.before shelf.after) f =
      subst (λ (x : Result (Vec (ℕ × ℕ) Global) StreamFault).
      IfErr x (Refuses (compared p i.certificate i.recording) (change shelf.before shelf.after))) same no_way in
      subst (IsVerifyFault i shelf Failed) (sym fault)
      (by_stream i shelf p Failed f is refused (λ is_device. a (same ∙ ap (λ (x : StreamFault). Err x) is_device))
      (λ is_read. b (same ∙ ap (λ (x : StreamFault). Err x) is_read)))

-- where a listener has failed, it is that of a device
pub of_a_device : (failed listener : Bool) (r : Result (Vec (ℕ × ℕ) Global) StreamFault) (e : RunFault)
    → IsNoAnswer failed r e → (failed ≡ false → listener ≡ false) → listener ≡ true → e ≡ run.Device
of_a_device failed listener r e (inl h) works is = h.1
of_a_device failed listener r e (inr h) works is = absurd (cc (is, works h.0))

-- such a fault is none of the profile
pub none_of_profile : (failed : Bool) (r : Result (Vec (ℕ × ℕ) Global) StreamFault) (e : RunFault) (f : ProfileFault)
    → IsNoAnswer failed r e → e ≡ run.Profile f → ⊥
none_of_profile failed r e f (inl h) is = cc (h.1, is)
none_of_profile failed r e f (inr (_, (g, same, fault))) is = no_profile g f (sym fault ∙ is)

-- that of a stream is reported as one that is met entry by entry
pub stream_fault : (f : ReadFault) → reported f ≡ of_stream (stream.Read f)
stream_fault read.Header = refl
stream_fault (read.Row i) = refl
stream_fault (read.TimeBack i) = refl
stream_fault read.TooMany = refl
stream_fault read.Device = refl
stream_fault read.OutOfMemory = refl
stream_fault read.Failed = refl
