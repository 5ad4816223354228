-- How the listing of a certificate's units ends: by its verdict, at a fault, or where its output fails.
use Rattle.std.proofs.Common.{◌≡◌, ◌||◌, ◌≤◌, ◌++◌, ◌∙◌, ℕ, List, [], length, take, Vec, Global, Bool, true, false, Option, Some, None, Result, Ok, Err, inl, inr, refl, sym, ap, subst, append_assoc, length-append, arith}
use Rattle.std.specs.Prelude.{IfOk, IfErr, OnOk, OnErr}
use Rattle.std.specs.Io.KnownBytes.{append_known, Appends, Keeps}
use Rattle.std.proofs.KnownBytes.{Appends-nil, Appends-trans}
use Rattle.std.proofs.lemmas.Bool.{cases_Bool, or_parts}
use Rattle.std.proofs.lemmas.List.{append-nil, append_cancel_left}
use Rattle.std.proofs.Math.Seq.{take-append_seam}
use Rattle.a429_word.specs.declared.tally.Tally.{Tally}
use Rattle.a429_word.specs.Tally.{has_failed, inner_of, AppendsPrefix, Puts, PutsFront}
use Rattle.a429_word.specs.Page.{paged}
use Rattle.a429_word.proofs.PageFacts.{AppendsPrefix-behind}
use Rattle.a429_profile.specs.Profile.{Contents}
use Rattle.a429_record.specs.Recording.{Recording}
use Rattle.a429_record.specs.declared.fault.ReadFault.{ReadFault}
use Rattle.a429_cert.specs.declared.fault.CertFault.{CertFault}
use Rattle.a429_cert.specs.declared.stream_fault.StreamFault.TheVariants as stream
use Rattle.a429_cert.specs.StreamExplained.{WhereBothKnown, IsHeardBefore}
use Rattle.a429_cert.specs.Report.{listening, IsHeard, TriesSome, reports_of_run}
use Rattle.a429_view.specs.declared.units.rows.UnitRows.{UnitRows}
use Rattle.a429_view.specs.Units.{units_text, ended_text}
use Rattle.a429_view.specs.UnitSteps.{HearsRows, TriesRows, PutsInPart, line_before, PutsAll}
use Rattle.a429_view.proofs.UnitsFacts.{all_rows, ended_put}
use Rattle.a429_view.proofs.UnitsTried.{Tried, part_both, rows_more, tried}
use Rattle.a429_commands.specs.declared.engines.verdict.Judged.{Judged}
use Rattle.a429_commands.specs.Ends.{Ends, answered, stopped, cut_off, refused}
use Rattle.a429_commands.specs.Output.{output}
use Rattle.a429_commands.specs.Verdict.{HasAnswer, HearsJudged, HearsUntil, Input, IsJudged, IsVerifyFault, TriesUntil, no_shelf}
use Rattle.a429_view.specs.Verdict.{no_text}
use Rattle.a429_commands.specs.declared.fault.RunFault.{RunFault}
use Rattle.a429_commands.specs.declared.fault.RunFault.TheVariants as run
use Rattle.a429_profile.specs.declared.fault.ProfileFault.{ProfileFault}
use Rattle.a429_commands.specs.Units.{of_units, last_text, AreFresh, AreEndedBefore, AreUnitsOfRun, EndsInPart, EndsUnits, HaveEnded, IsFrontOf, IsLeft, LeavesUnits, ReportsUnits}
use Rattle.a429_commands.proofs.VerdictFacts.{judged_answer, not_either}

-- an empty page holds nothing back
from_empty : (a b : Option (List ℕ)) (text : List ℕ) → Appends (append_known a []) b text → Appends a b text
from_empty None b text h = tt
from_empty (Some xs) None text h = h
from_empty (Some xs) (Some ys) text h = subst (λ (t : List ℕ). ys ≡ t ++ text) (append-nil xs) h

-- ---- the text of a verdict

-- a text that was written, and what it is where certificate and recording are known
record Written {W : Type 0} (contents : W → Option (List ℕ)) (old new : Tally W) (known : Option (List ℕ)) (rec : Option Recording)
    (end : List ℕ) (Are : List ℕ → List ℕ → Recording → Type 0) : Type 0 where
  rows : List ℕ
  puts : Puts contents old new (rows ++ end)
  are : WhereBothKnown known rec (Are rows)

module _ {W : Type 0} (contents : W → Option (List ℕ)) (p : Contents) (old mid : UnitRows W) (out : Tally W) (fresh : AreFresh old) where
  -- the rows of a run, and nothing after them
  whole : (known : Option (List ℕ)) (rec : Option Recording) (text : List ℕ)
      → WhereBothKnown known rec (IsHeard (listening (HearsRows contents) old mid) p)
      → Appends (paged contents mid.out mid.page) (contents (inner_of out)) (line_before mid.row) → Puts contents old.out out text
      → Written contents old.out out known rec [] (AreUnitsOfRun p)
  whole None rec text h last puts = record { rows = text; puts = rw (append-nil text) puts; are = tt }
  whole (Some cert) None text h last puts = record { rows = text; puts = rw (append-nil text) puts; are = tt }
  whole (Some cert) (Some r) text h last puts =
      let reports = reports_of_run p r.entries h.first h.steps in
      let all = all_rows contents p old mid reports (contents (inner_of out)) fresh.1 h.heard last in
      record {
        rows = units_text p.codes reports;
        puts = rw (append-nil (units_text p.codes reports))
            (from_empty (contents (inner_of old.out)) (contents (inner_of out)) (units_text p.codes reports)
            (subst (λ (page : List ℕ). Appends (paged contents old.out page) (contents (inner_of out)) (units_text p.codes reports)) fresh.0
            all));
        are = record { first = h.first; steps = h.steps; explains = h.explains; are = refl };
      }

  -- the rows of the units that ended before a fault, and a line after them
  ended : (before : Tally W) (f : CertFault) (known : Option (List ℕ)) (rec : Option Recording) (rows : List ℕ)
      → WhereBothKnown known rec (IsHeardBefore (listening (HearsRows contents) old mid) p (stream.Cert f))
      → Appends (paged contents mid.out mid.page) (contents (inner_of before)) [] → Puts contents before out (no_text f)
      → Puts contents old.out before rows
      → Written contents old.out out known rec (no_text f) (AreEndedBefore p (stream.Cert f))
  ended before f None rec rows h rest last puts = record { rows = rows; puts = Appends-trans _ _ _ _ _ puts last; are = tt }
  ended before f (Some cert) None rows h rest last puts = record { rows = rows; puts = Appends-trans _ _ _ _ _ puts last; are = tt }
  ended before f (Some cert) (Some r) rows h rest last puts =
      let all = ended_put contents p old mid h.reports (contents (inner_of before)) fresh.1 h.heard rest in
      let first = from_empty (contents (inner_of old.out)) (contents (inner_of before)) (ended_text p.codes h.reports)
      (subst (λ (page : List ℕ). Appends (paged contents old.out page) (contents (inner_of before)) (ended_text p.codes h.reports)) fresh.0
      all) in
      record {
        rows = ended_text p.codes h.reports;
        puts = Appends-trans _ _ _ _ _ first last;
        are = record { reports = h.reports; before = h.before; are = refl };
      }

-- what was put of the rows, where they have not failed since
put_so_far : {W : Type 0} (contents : W → Option (List ℕ)) (old mid : UnitRows W) (out : Tally W) (text more : List ℕ) → AreFresh old
    → has_failed mid.out ≡ false → PutsInPart contents old mid text
    → Appends (paged contents mid.out mid.page) (contents (inner_of out)) more → Puts contents old.out out (text ++ more)
put_so_far contents old mid out text more fresh works part last =
    let all =
    subst (λ (page : List ℕ). Appends (paged contents old.out page) (paged contents mid.out mid.page) text) fresh.0 (part.all works) in
    from_empty (contents (inner_of old.out)) (contents (inner_of out)) (text ++ more) (Appends-trans _ _ _ _ _ all last)

-- the text of a verdict
record Reported {W : Type 0} (contents : W → Option (List ℕ)) (i : Input) (old new : UnitRows W) (status : ℕ) : Type 0 where
  text : List ℕ
  reports : ReportsUnits i status text
  puts : Puts contents old.out new.out text

module _ {W : Type 0} (contents : W → Option (List ℕ)) (i : Input) (old mid new : UnitRows W) (j : Judged) (fresh : AreFresh old)
    (judged : IsJudged i no_shelf j) (heard : HearsJudged (listening (HearsRows contents) old mid) i j) (works : has_failed mid.out ≡ false)
    (tries : Tried contents old mid) where
  reported : (answer : Result (Vec (ℕ × ℕ) Global) CertFault) (status : ℕ)
      → j.answer ≡ answer → EndsUnits contents mid new answer status → Reported contents i old new status
  reported (Ok files) status is h =
      let reports = rw is at heard in
      let w =
      whole contents j.profile old mid new.out fresh i.certificate i.recording (tries.text ++ line_before mid.row) reports h.1
      (put_so_far contents old mid new.out tries.text (line_before mid.row) fresh works tries.part h.1) in
      record {
        text = w.rows;
        reports =
            inl (h.0, record { contents = j.profile; is_profile = judged.0; files = files.items; yes = rw is at judged.1; rows = w.are });
        puts = subst (λ (t : List ℕ). Puts contents old.out new.out t) (append-nil w.rows) w.puts;
      }
  reported (Err f) status is h =
      let no = rw is at judged.1 in
      let reports = rw is at heard in
      let waited = h.1.0 in
      let w =
      ended contents j.profile old mid new.out fresh waited.out f i.certificate i.recording (tries.text ++ []) reports h.1.1 h.1.2
      (put_so_far contents old mid waited.out tries.text [] fresh works tries.part h.1.1) in
      record {
        text = w.rows ++ no_text f;
        reports = inr (
          h.0,
          record {
            contents = j.profile;
            is_profile = judged.0;
            fault = f;
            refused = no.0;
            of_certificate = no.1;
            rows = w.rows;
            ended = w.are;
            is = refl;
          },
        );
        puts = w.puts;
      }

-- ---- where the output fails

-- at most a prefix of a text has gone out
gone_out : {W : Type 0} (contents : W → Option (List ℕ)) (old new : UnitRows W) (text : List ℕ) → AreFresh old
    → PutsInPart contents old new text → PutsFront contents old.out new.out text
gone_out contents old new text fresh part =
    subst (λ (page : List ℕ). AppendsPrefix (contents (inner_of old.out)) (contents (inner_of new.out)) (page ++ text)) fresh.0 part.prefix

kept_by_none : (a b : Option (List ℕ)) → Appends a b [] → Keeps a b
kept_by_none None b h = tt
kept_by_none (Some x) None h = h
kept_by_none (Some x) (Some y) h = h ∙ append-nil x

-- of what waited, all of which has gone out, and of a text after it
pub waited_and : {W : Type 0} (contents : W → Option (List ℕ)) (old waited : UnitRows W) (out : Tally W) (text : List ℕ)
    → PutsAll contents old waited [] → PutsFront contents waited.out out text
    → AppendsPrefix (contents (inner_of old.out)) (contents (inner_of out)) (old.page ++ text)
waited_and contents old waited out text all front = AppendsPrefix-behind _ _ _ old.page text (kept_by_none _ _ all) front

module _ {W : Type 0} (contents : W → Option (List ℕ)) (i : Input) (Failed : Type 0) (old mid new : UnitRows W)
    (answer : Result (Vec (ℕ × ℕ) Global) CertFault) (fresh : AreFresh old) (works : has_failed mid.out ≡ false)
    (tries : Tried contents old mid) (has : HasAnswer i no_shelf) where
  ends_broken : has_failed new.out ≡ true → EndsInPart contents mid new answer
      → Ends (output contents old.out new.out) (of_units i Failed) (Err run.Device)
  ends_broken failed part = by answer refl
    where
      rest : PutsInPart contents mid new (last_text mid answer)
      rest = record { all = λ w. absurd (cc (w, failed)); prefix = part; stays = λ f. absurd (cc (f, works)) }

      front : PutsFront contents old.out new.out (tries.text ++ last_text mid answer)
      front =
          gone_out contents old new (tries.text ++ last_text mid answer) fresh
          (part_both contents old mid new tries.text (last_text mid answer) tries.part rest)

      by : (a : Result (Vec (ℕ × ℕ) Global) CertFault)
          → answer ≡ a → Ends (output contents old.out new.out) (of_units i Failed) (Err run.Device)
      by (Ok files) e =
          cut_off (tries.text ++ line_before mid.row) refl (inl (rows_more tries.text mid.row tries.rows), has) failed (rw e at front)
      by (Err f) e = cut_off (tries.text ++ no_text f) refl (inr (tries.text, f, tries.rows, refl), has) failed (rw e at front)

-- ---- at a fault

-- what has gone out is the front of a text of which the rest waits
front_both : (a b : Option (List ℕ)) (page whole text : List ℕ) → Appends (append_known a []) (append_known b page) whole
    → AppendsPrefix a b text → (out : List ℕ) × Appends a b out × IsFrontOf out whole
front_both None b page whole text h p = ([], tt, (0, omega arith, refl))
front_both (Some x) None page whole text h p = absurd p.2
front_both (Some x) (Some y) page whole text h p =
    let out = take p.0 text in
    let joined : x ++ (out ++ page) ≡ x ++ whole =
    sym (append_assoc x out page) ∙ ap (λ t. t ++ page) (sym p.2) ∙ h ∙ ap (λ t. t ++ whole) (append-nil x) in
    let is : out ++ page ≡ whole = append_cancel_left x (out ++ page) whole joined in (
      out,
      p.2,
      (
        length out,
        subst (λ t. length out ≤ length t) is (omega (arith, length-append out page)),
        sym (take-append_seam out page) ∙ ap (take (length out)) is,
      ),
    )

module _ {W : Type 0} (contents : W → Option (List ℕ)) (i : Input) (old new : UnitRows W) (fresh : AreFresh old)
    (works : has_failed new.out ≡ false) where
  -- what was written before it
  record Left (e : RunFault) : Type 0 where
    text : List ℕ
    is : IsLeft i e text
    puts : Puts contents old.out new.out text

  left_of_read : (f : ReadFault) (p : Contents) (known : Option (List ℕ)) (rec : Option Recording) (tries : Tried contents old new)
      → WhereBothKnown known rec (HaveEnded contents old new p f)
      → (text : List ℕ) × Puts contents old.out new.out text
      × WhereBothKnown known rec (λ t r. (rows : List ℕ) × AreEndedBefore p (stream.Read f) rows t r × IsFrontOf text rows)
  left_of_read f p None rec tries h =
      let front = gone_out contents old new tries.text fresh tries.part in (take front.0 tries.text, front.2, tt)
  left_of_read f p (Some cert) None tries h =
      let front = gone_out contents old new tries.text fresh tries.part in (take front.0 tries.text, front.2, tt)
  left_of_read f p (Some cert) (Some r) tries h =
      let all =
      subst (λ (page : List ℕ). Appends (paged contents old.out page) (paged contents new.out new.page) (ended_text p.codes h.reports))
      fresh.0 h.puts in
      let out =
      front_both (contents (inner_of old.out)) (contents (inner_of new.out)) new.page (ended_text p.codes h.reports) tries.text all
      (gone_out contents old new tries.text fresh tries.part) in
      (out.0, out.1, (ended_text p.codes h.reports, record { reports = h.reports; before = h.before; are = refl }, out.2))

  left_at : (e : RunFault) → Tried contents old new → LeavesUnits contents old new i e → Left e
  left_at (run.Read f) tries h =
      let out = left_of_read f h.0 i.certificate i.recording tries h.2 in
      record { text = out.0; is = (h.0, h.1, out.2); puts = out.1 }
  left_at run.Device tries h =
      let front = gone_out contents old new tries.text fresh tries.part in
      record { text = take front.0 tries.text; is = (tries.text, tries.rows, (front.0, front.1, refl)); puts = front.2 }
  left_at run.Memory tries h =
      let front = gone_out contents old new tries.text fresh tries.part in
      record { text = take front.0 tries.text; is = (tries.text, tries.rows, (front.0, front.1, refl)); puts = front.2 }
  left_at (run.Cut k f) tries h =
      let front = gone_out contents old new tries.text fresh tries.part in
      record { text = take front.0 tries.text; is = (tries.text, tries.rows, (front.0, front.1, refl)); puts = front.2 }
  left_at run.TooLong tries h =
      let front = gone_out contents old new tries.text fresh tries.part in
      record { text = take front.0 tries.text; is = (tries.text, tries.rows, (front.0, front.1, refl)); puts = front.2 }
  left_at run.BadWord tries h =
      let front = gone_out contents old new tries.text fresh tries.part in
      record { text = take front.0 tries.text; is = (tries.text, tries.rows, (front.0, front.1, refl)); puts = front.2 }
  left_at run.Usage tries h =
      let front = gone_out contents old new tries.text fresh tries.part in
      record { text = take front.0 tries.text; is = (tries.text, tries.rows, (front.0, front.1, refl)); puts = front.2 }
  left_at run.NoPlace tries h =
      let front = gone_out contents old new tries.text fresh tries.part in
      record { text = take front.0 tries.text; is = (tries.text, tries.rows, (front.0, front.1, refl)); puts = front.2 }
  left_at run.OldFiles tries h =
      let front = gone_out contents old new tries.text fresh tries.part in
      record { text = take front.0 tries.text; is = (tries.text, tries.rows, (front.0, front.1, refl)); puts = front.2 }
  left_at (run.Map f) tries h =
      let front = gone_out contents old new tries.text fresh tries.part in
      record { text = take front.0 tries.text; is = (tries.text, tries.rows, (front.0, front.1, refl)); puts = front.2 }
  left_at (run.Export f) tries h =
      let front = gone_out contents old new tries.text fresh tries.part in
      record { text = take front.0 tries.text; is = (tries.text, tries.rows, (front.0, front.1, refl)); puts = front.2 }
  left_at (run.Profile f) tries h =
      let front = gone_out contents old new tries.text fresh tries.part in
      record { text = take front.0 tries.text; is = (tries.text, tries.rows, (front.0, front.1, refl)); puts = front.2 }

pub ends_until : {W : Type 0} (contents : W → Option (List ℕ)) (i : Input) (Failed : Type 0) (old new : UnitRows W) (e : RunFault)
    → AreFresh old
    → TriesUntil (λ (r : UnitRows W). has_failed r.out) (listening (TriesRows contents) old new) i.profile e
    → IsVerifyFault i no_shelf Failed e → LeavesUnits contents old new i e
    → Ends (output contents old.out new.out) (of_units i Failed) (Err e)
ends_until {W = W} contents i Failed old new e fresh (inl h) fault left = refused e refl h.0 (ap (λ (r : UnitRows W). r.out) h.1)
ends_until {W = W} contents i Failed old new e fresh (inr h) fault left =
    let tries = tried contents h.contents old new h.tried.0 h.tried.1 in
    elim (cases_Bool (has_failed new.out)) [
      | inl failed ↦ cut_off tries.text (ap (λ f. Err f) (h.device failed)) (
        inl tries.rows,
        (subst (IsVerifyFault i no_shelf Failed) (h.device failed) fault).1,
      ) failed (gone_out contents old new tries.text fresh tries.part)
      | inr works ↦ let l = left_at contents i old new fresh works e tries left in stopped e l.text refl (l.is, fault) works l.puts
    ]

-- ---- how it ends

pub ends_judged : {W : Type 0} (contents : W → Option (List ℕ)) (i : Input) (old mid new : UnitRows W) (j : Judged) (rec cert : Bool)
    (r : Result ℕ RunFault) → AreFresh old → IsJudged i no_shelf j
    → HearsJudged (listening (HearsRows contents) old mid) i j → (has_failed mid.out || (rec || cert)) ≡ false
    → TriesSome (listening (TriesRows contents) old mid) j.profile
    → IfOk r (EndsUnits contents mid new j.answer) → OnOk r (has_failed new.out ≡ false)
    → IfErr r (λ e. (e ≡ run.Device) × (has_failed new.out ≡ true)) → OnErr r (EndsInPart contents mid new j.answer)
    → Ends (output contents old.out new.out) (of_units i ((has_failed new.out || (rec || cert)) ≡ true)) r
ends_judged contents i old mid new j rec cert (Ok status) fresh judged heard all tries ended works err part =
    let t = tried contents j.profile old mid tries.0 tries.1 in
    let said =
    reported contents i old mid new j fresh judged heard (or_parts (has_failed mid.out) (rec || cert) all).0 t j.answer status refl ended in
    answered status said.text refl (said.reports, λ failed. none failed) works said.puts
  where
    none : (has_failed new.out || (rec || cert)) ≡ true → ⊥
    none h = not_either (has_failed new.out) (rec || cert) works (or_parts (has_failed mid.out) (rec || cert) all).1 h
ends_judged contents i old mid new j rec cert (Err e) fresh judged heard all tries ended works err part =
    let t = tried contents j.profile old mid tries.0 tries.1 in
    subst (λ (f : RunFault). Ends (output contents old.out new.out) (of_units i ((has_failed new.out || (rec || cert)) ≡ true)) (Err f))
    (sym err.0)
    (ends_broken contents i ((has_failed new.out || (rec || cert)) ≡ true) old mid new j.answer fresh
    (or_parts (has_failed mid.out) (rec || cert) all).0 t (judged_answer i no_shelf j.profile j.answer judged.0 judged.1) err.1 part)

-- ---- the rows and their page

-- the rows of the units that ended before a fault of the recording
ended_until : {W : Type 0} (contents : W → Option (List ℕ)) (p : Contents) (old new : UnitRows W) (f : ReadFault) (known : Option (List ℕ))
    (rec : Option Recording) → AreFresh old
    → WhereBothKnown known rec (IsHeardBefore (listening (HearsRows contents) old new) p (stream.Read f))
    → WhereBothKnown known rec (HaveEnded contents old new p f)
ended_until contents p old new f None rec fresh h = tt
ended_until contents p old new f (Some text) None fresh h = tt
ended_until contents p old new f (Some text) (Some r) fresh h =
    record {
      reports = h.reports;
      before = h.before;
      puts =
          ended_put contents p old new h.reports (paged contents new.out new.page) fresh.1 h.heard
          (Appends-nil (paged contents new.out new.page));
    }

-- a fault of the profile comes before anything is put
pub untouched : {W : Type 0} (contents : W → Option (List ℕ)) (bytes : List ℕ) (old new : UnitRows W) (e : RunFault)
    → TriesUntil (λ (r : UnitRows W). has_failed r.out) (listening (TriesRows contents) old new) bytes e → (f : ProfileFault)
    → e ≡ run.Profile f → new ≡ old
untouched contents bytes old new e (inl h) f is = h.1
untouched contents bytes old new e (inr h) f is = absurd (h.no_profile f is)

pub leaves_units : {W : Type 0} (contents : W → Option (List ℕ)) (i : Input) (old new : UnitRows W) (e : RunFault) → AreFresh old
    → ((f : ProfileFault) → e ≡ run.Profile f → new ≡ old)
    → HearsUntil (listening (HearsRows contents) old new) i e → LeavesUnits contents old new i e
leaves_units contents i old new (run.Profile f) fresh before h = before f refl
leaves_units contents i old new (run.Read f) fresh before h =
    (h.0, h.1, ended_until contents h.0 old new f i.certificate i.recording fresh h.2)
leaves_units contents i old new run.Device fresh before h = tt
leaves_units contents i old new run.Memory fresh before h = tt
leaves_units contents i old new (run.Cut k f) fresh before h = tt
leaves_units contents i old new run.TooLong fresh before h = tt
leaves_units contents i old new run.BadWord fresh before h = tt
leaves_units contents i old new run.Usage fresh before h = tt
leaves_units contents i old new run.NoPlace fresh before h = tt
leaves_units contents i old new run.OldFiles fresh before h = tt
leaves_units contents i old new (run.Map f) fresh before h = tt
leaves_units contents i old new (run.Export f) fresh before h = tt
