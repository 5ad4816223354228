-- A check that goes on over a certificate's lines.
use Rattle.std.proofs.Common.{◌≡◌, ◌∙◌, ◌≤◌, ◌+◌, ◌-◌, ◌++◌, ℕ, suc, List, [], inl, inr, Bool, Option, ap, refl, sym, subst, arith}
use Rattle.std.specs.Io.KnownBytes.{prepend_known}
use Rattle.a429_profile.specs.Profile.{Contents}
use Rattle.a429_link.specs.declared.file.FileBytes.{FileBytes}
use Rattle.a429_link.specs.Link.{with_earlier}
use Rattle.a429_link.specs.State.{State}
use Rattle.a429_record.specs.Entries.{EntriesLeft}
use Rattle.a429_record.specs.Recording.{Recording}
use Rattle.a429_cert.specs.declared.explained.Head.{Head}
use Rattle.a429_cert.specs.declared.shelf.PutFile.{PutFile}
use Rattle.a429_cert.specs.declared.replay.Replay.{Replay}
use Rattle.a429_cert.specs.declared.stream_fault.StreamFault.{StreamFault}
use Rattle.a429_cert.specs.BreakOff.{BreaksOff, shelved}
use Rattle.a429_cert.specs.Change.{change}
use Rattle.a429_cert.specs.Version.{read_as, step_lines}
use Rattle.a429_cert.specs.Report.{Hearing, HearsText, listening, position}
use Rattle.a429_cert.specs.Series.{SeriesValue, RefusesPart}
use Rattle.a429_cert.specs.Stream.{GainsAll, PassesOver, sizes}
use Rattle.a429_cert.specs.StreamExplained.{compared, HearsBefore, IsStreamFault, Refuses, WhereBothKnown}
use Rattle.a429_cert.specs.StreamNext.{Progress, Unread, TakesNone, TakesOne, TakesSome, Stops, at_next, progress}
use Rattle.a429_cert.proofs.BreakOffFacts.{IsPlaceOf, between_breaks, stop_breaks}
use Rattle.a429_cert.proofs.SeriesFacts.{IsIn, part_on, part_stopped, part_stops}
use Rattle.a429_cert.proofs.StreamFacts.{noted_on, put_on}
use Rattle.a429_cert.proofs.StreamLine.{line_stops, line_unreported}
use Rattle.a429_cert.proofs.StreamRefused.{device_both_known}
use Rattle.a429_cert.proofs.StreamReplay.{on_both_known}
use Rattle.a429_cert.proofs.StreamStands.{Stands}
use Rattle.a429_cert.proofs.ReportFacts.{Hears, hears_on}

-- ---- a certificate's check, from its third line on

-- what it began with: what was to come of the certificate, where that is known, and of the recording, the shelf and the listener
pub record Beginning (S T : Type 0) : Type 0 where
  pub known : Option (List ℕ)
  pub recording : EntriesLeft
  pub shelf : S
  pub listener : T

-- where it is: k lines after the first two were taken, and these files were put
pub record Walks {S T : Type 0} (files : S → Option (List PutFile)) (hears : Hearing T) (p : Contents) (from : Beginning S T) (d : Head)
    (w : Progress S T) : Type 0 where
  pub k : ℕ
  pub taken : List FileBytes
  pub number : w.replay.lines ≡ k + 2
  pub reports : WhereBothKnown from.known from.recording.to_come
      (λ text r. Stands p text r d k w.replay.used taken w.replay.link.state w.left w.recording.to_come)
  pub heard : WhereBothKnown from.known from.recording.to_come (λ text r.
      Hears hears p d.first (step_lines d.version text) r k w.replay.used (with_earlier taken w.replay.link.state) from.listener w.listener)
  pub none_left : w.replay.link.state.sink.received.files ≡ []
  pub put : GainsAll (files from.shelf) (files w.shelf) 1 taken
  pub noted : w.replay.files.items ≡ sizes taken
  pub few : w.replay.used ≤ w.replay.lines
  pub counted : w.recording.count ≡ from.recording.count + w.replay.used
  pub link : w.replay.link.profile ≡ p
  pub profile : w.replay.profile.now ≡ p
  pub version : w.replay.version ≡ d.version

-- it goes on
walks_one : {S T : Type 0} (files : S → Option (List PutFile)) (hears : Hearing T) (p : Contents) (from : Beginning S T) (d : Head)
    (old new : Progress S T)
    → Walks files hears p from d old → TakesOne files hears old new → Walks files hears p from d new
walks_one files hears p from d old new v h =
    let s = old.replay.link.state in
    let on = h.goes_on in
    let t = on.state in
    let rec = change old.recording.to_come new.recording.to_come in
    let at = position s old.recording.to_come old.replay.used in
    let l = listening hears old.listener new.listener in
    let lines : new.replay.lines ≡ old.replay.lines + 1 = ap (λ (w : Replay). w.lines) h.kept in
    let used : new.replay.used ≡ old.replay.used + h.used = ap (λ (w : Replay). w.used) h.kept in
    let passed =
    subst (λ w. PassesOver p (read_as w h.line) (change s t) rec h.used) v.version
    (subst (λ q. PassesOver q (read_as old.replay.version h.line) (change s t) rec h.used) v.profile on.passed) in
    let heard =
    subst (λ w. HearsText l p (read_as w h.line) at) v.version
    (subst (λ q. HearsText l q (read_as old.replay.version h.line) at) v.profile h.heard) in
    record {
      k = suc v.k;
      taken = v.taken ++ t.sink.received.files;
      number = omega (arith, lines, v.number);
      reports =
          rw (used, on.given)
          (on_both_known p d v.k old.replay.used h.used v.taken s t h.line from.known old.left new.left from.recording.to_come
          old.recording.to_come new.recording.to_come h.given passed v.reports);
      heard =
          rw (used, on.given)
          (hears_on hears p d v.k old.replay.used h.used v.taken s t h.line from.known old.left new.left from.recording.to_come
          old.recording.to_come new.recording.to_come
          from.listener old.listener new.listener h.given passed heard v.reports v.heard);
      none_left = ap (λ (q : State). q.sink.received.files) on.given;
      put =
          put_on (files from.shelf) (files old.shelf)
          (files new.shelf) [] old.replay.files.items v.taken t.sink.received.files v.put v.noted on.put;
      noted = noted_on [] old.replay.files.items new.replay.files.items v.taken t.sink.received.files v.noted on.noted;
      few = omega (arith, lines, used, v.few, h.few);
      counted = omega (arith, used, v.counted, h.counts);
      link = h.profile ∙ v.profile;
      profile = ap (λ (w : Replay). w.profile.now) h.kept ∙ v.profile;
      version = ap (λ (w : Replay). w.version) h.kept ∙ v.version;
    }

pub walks_some : {S T : Type 0} (files : S → Option (List PutFile)) (hears : Hearing T) (p : Contents) (from : Beginning S T) (d : Head)
    (old new : Progress S T)
    → Walks files hears p from d old → TakesSome files hears old new → Walks files hears p from d new
walks_some files hears p from d old new v (inl h) = walks_one files hears p from d old new v h
walks_some files hears p from d old new v (inr h) =
    walks_one files hears p from d h.0 new (walks_one files hears p from d old h.0 v h.1) h.2

-- no line is left
pub ended_walks : {S T : Type 0} (files : S → Option (List PutFile)) (hears : Hearing T) (p : Contents) (from : Beginning S T) (d : Head)
    (old new : Progress S T)
    → Walks files hears p from d old → TakesNone old new
    → Walks files hears p from d (progress new.replay old.left new.recording new.shelf new.listener)
ended_walks files hears p from d old new v h = rw (h.replay, h.recording, h.shelf, h.listener) v

-- ---- it stops at the next line

module _ {S T : Type 0} (files : S → Option (List PutFile)) (hears : Hearing T) (failed : S → Bool) (broken : T → Bool) (p : Contents)
    (from : Beginning S T) (d : Head) (reader : Unread) (old new : Progress S T) (f : StreamFault) where
  -- the fault comes first, and the files of the lines before it are put
  pub stop_refuses : Walks files hears p from d old → Stops files failed broken reader old new f
      → Refuses (compared p from.known from.recording.to_come) (change (files from.shelf) (files new.shelf)) f
  stop_refuses v (inl h) =
      record {
        files = v.taken;
        fault =
            subst (λ (g : StreamFault). WhereBothKnown from.known from.recording.to_come (IsStreamFault p g v.taken)) (sym h.fault)
            (device_both_known p d v.k old.replay.used v.taken old.replay.link.state from.known old.left from.recording.to_come
            old.recording.to_come v.none_left v.reports);
        put = rw h.shelf v.put;
      }
  stop_refuses v (inr h) =
      line_stops files failed (broken new.listener) p (at_next old.replay) d v.k v.taken h.line from.known old.left
      (prepend_known h.ahead reader.bytes) from.recording.to_come old.recording new.recording h.line
      from.shelf old.shelf new.shelf f v.profile v.version v.noted
      (omega (arith, v.number)) v.none_left refl h.given v.put v.reports h.stopped

  -- the listener has heard the lines before it
  pub stop_unreported : Walks files hears p from d old → Stops files failed broken reader old new f
      → HearsBefore (listening hears from.listener new.listener) (compared p from.known from.recording.to_come) f
  stop_unreported v (inl h) =
      subst (λ (g : StreamFault). HearsBefore (listening hears from.listener new.listener) (compared p from.known from.recording.to_come) g)
      (sym h.fault) tt
  stop_unreported v (inr h) =
      line_unreported hears files failed (broken new.listener) p (at_next old.replay) d v.k v.taken h.line from.known old.left
      (prepend_known h.ahead reader.bytes) from.recording.to_come old.recording new.recording h.line
      old.shelf new.shelf f from.listener old.listener new.listener v.profile v.version
      (omega (arith, v.number)) v.none_left refl h.given v.reports v.heard h.unreported h.stopped

  -- the place at which it breaks off
  pub stop_place : Walks files hears p from d old → Stops files failed broken reader old new f
      → BreaksOff p (record {
        certificate = from.known;
        left = reader.bytes;
        failed = reader.failed;
        recording = from.recording.to_come;
        given = new.recording.count - from.recording.count;
      })
      (shelved files failed from.shelf new.shelf) (broken new.listener) f
  stop_place v (inl h) =
      record {
        files = v.taken;
        place =
            subst (λ (g : StreamFault). WhereBothKnown from.known from.recording.to_come
            (IsPlaceOf p d v.k old.replay.used v.taken old.replay.link.state from.known old.left reader.bytes reader.failed
            (failed new.shelf) (broken new.listener) h.ahead from.recording old.recording new.recording v.taken g))
            (sym h.fault)
            (between_breaks p d v.k old.replay.used v.taken old.replay.link.state from.known old.left reader.bytes reader.failed
            (failed new.shelf) (broken new.listener) h.ahead from.recording old.recording new.recording
            v.none_left h.part h.kept v.counted (ap (λ (e : EntriesLeft). e.count) h.recording) h.failed v.reports);
        put = rw h.shelf v.put;
      }
  stop_place v (inr h) =
      stop_breaks files failed (broken new.listener) reader.failed p
      (at_next old.replay) d v.k v.taken h.line from.known old.left reader.bytes h.line h.ahead from.recording old.recording new.recording
      from.shelf old.shelf new.shelf f v.profile v.version v.noted v.none_left refl h.few h.given v.counted v.put v.reports h.stopped

-- ---- a part's check, from the third line of its certificate on

pub record WalksPart (old : SeriesValue) (known : Option (List ℕ)) (first : Option Recording) (d : Head) (replay : Replay)
    (left : Option (List ℕ)) (rec : EntriesLeft) : Type 0 where
  pub k : ℕ
  pub taken : List FileBytes
  pub number : replay.lines ≡ k + 2
  pub reports : WhereBothKnown known first (IsIn old d k replay.used taken replay.link.state left rec.to_come)
  pub none_left : replay.link.state.sink.received.files ≡ []
  pub noted : replay.files.items ≡ old.files ++ sizes taken
  pub few : replay.used ≤ replay.lines
  pub link : replay.link.profile ≡ old.profile
  pub profile : replay.profile.now ≡ old.profile
  pub version : replay.version ≡ d.version

part_one : {S T : Type 0} (files : S → Option (List PutFile)) (hears : Hearing T) (old : SeriesValue) (known : Option (List ℕ))
    (first : Option Recording) (d : Head) (before after : Progress S T)
    → WalksPart old known first d before.replay before.left before.recording → TakesOne files hears before after
    → WalksPart old known first d after.replay after.left after.recording
part_one files hears old known first d before after v h =
    let p = old.profile in
    let s = before.replay.link.state in
    let on = h.goes_on in
    let t = on.state in
    let rec = change before.recording.to_come after.recording.to_come in
    let lines : after.replay.lines ≡ before.replay.lines + 1 = ap (λ (w : Replay). w.lines) h.kept in
    let used : after.replay.used ≡ before.replay.used + h.used = ap (λ (w : Replay). w.used) h.kept in
    let passed =
    subst (λ w. PassesOver p (read_as w h.line) (change s t) rec h.used) v.version
    (subst (λ q. PassesOver q (read_as before.replay.version h.line) (change s t) rec h.used) v.profile on.passed) in
    record {
      k = suc v.k;
      taken = v.taken ++ t.sink.received.files;
      number = omega (arith, lines, v.number);
      reports =
          rw (used, on.given)
          (part_on old d v.k before.replay.used v.taken s known before.left after.left h.line first before.recording.to_come h.used t
          after.recording.to_come h.given passed v.reports);
      none_left = ap (λ (q : State). q.sink.received.files) on.given;
      noted = noted_on old.files before.replay.files.items after.replay.files.items v.taken t.sink.received.files v.noted on.noted;
      few = omega (arith, lines, used, v.few, h.few);
      link = h.profile ∙ v.profile;
      profile = ap (λ (w : Replay). w.profile.now) h.kept ∙ v.profile;
      version = ap (λ (w : Replay). w.version) h.kept ∙ v.version;
    }

pub part_some : {S T : Type 0} (files : S → Option (List PutFile)) (hears : Hearing T) (old : SeriesValue) (known : Option (List ℕ))
    (first : Option Recording) (d : Head) (before after : Progress S T)
    → WalksPart old known first d before.replay before.left before.recording → TakesSome files hears before after
    → WalksPart old known first d after.replay after.left after.recording
part_some files hears old known first d before after v (inl h) = part_one files hears old known first d before after v h
part_some files hears old known first d before after v (inr h) =
    part_one files hears old known first d h.0 after (part_one files hears old known first d before h.0 v h.1) h.2

-- no line is left
pub ended_part : {S T : Type 0} (old : SeriesValue) (known : Option (List ℕ)) (first : Option Recording) (d : Head)
    (before after : Progress S T)
    → WalksPart old known first d before.replay before.left before.recording → TakesNone before after
    → WalksPart old known first d after.replay before.left after.recording
ended_part old known first d before after v h = rw (h.replay, h.recording) v

-- it stops: the fault is the part's first
pub part_at_next : {S T : Type 0} (files : S → Option (List PutFile)) (failed : S → Bool) (broken : T → Bool) (old : SeriesValue)
    (known : Option (List ℕ)) (first : Option Recording) (d : Head) (reader : Unread) (before after : Progress S T) (f : StreamFault)
    → WalksPart old known first d before.replay before.left before.recording → Stops files failed broken reader before after f
    → RefusesPart old known first f
part_at_next files failed broken old known first d reader before after f v (inl h) = part_stopped old known first f (inl h.fault)
part_at_next files failed broken old known first d reader before after f v (inr h) =
    part_stops old (at_next before.replay) d v.k v.taken known before.left (prepend_known h.ahead reader.bytes) h.line h.line first
    before.recording after.recording f v.profile v.version (omega (arith, v.number)) refl h.given v.reports h.stopped
