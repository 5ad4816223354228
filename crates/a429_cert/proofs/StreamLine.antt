-- What is told where a replay along a certificate's lines stops at one of them.
use Rattle.std.proofs.Common.{◌≡◌, ◌+◌, ◌++◌, inl, inr, ℕ, List, [], Bool, true, Option, subst}
use Rattle.a429_profile.specs.Profile.{Contents}
use Rattle.a429_link.specs.declared.file.FileBytes.{FileBytes}
use Rattle.a429_link.specs.Link.{with_earlier}
use Rattle.a429_record.specs.Recording.{Recording}
use Rattle.a429_record.specs.Entries.{EntriesLeft}
use Rattle.a429_cert.specs.declared.explained.Head.{Head}
use Rattle.a429_cert.specs.declared.shelf.PutFile.{PutFile}
use Rattle.a429_cert.specs.declared.replay.Replay.{Replay}
use Rattle.a429_cert.specs.declared.stream_fault.StreamFault.{StreamFault}
use Rattle.a429_cert.specs.CutLines.{GivesLine}
use Rattle.a429_cert.specs.Version.{read_as, step_lines}
use Rattle.a429_cert.specs.Stream.{taking, EndsReplay, GainsAll, IsUnreported, PassesOver, RefusesOver, StopsAt, sizes}
use Rattle.a429_cert.specs.StreamExplained.{compared, HearsBefore, Refuses, WhereBothKnown}
use Rattle.a429_cert.specs.Report.{listening, position, Hearing}
use Rattle.a429_cert.proofs.StreamFacts.{put_on}
use Rattle.a429_cert.proofs.StreamRefused.{refused_both_known, not_put_both_known}
use Rattle.a429_cert.proofs.StreamStands.{Stands}
use Rattle.a429_cert.proofs.ReportFacts.{Hears}
use Rattle.a429_cert.proofs.ReportsOfRefused.{heard_refused, heard_nothing}
use Rattle.a429_cert.specs.Change.{change}

-- why the line is refused, said of the line that the reader holds, under the profile and the version that were read
pub refused_here : (p : Contents) (replay : Replay) (d : Head) (held text : Option (List ℕ)) (rec : Option Recording) (f : StreamFault)
    → replay.profile.now ≡ p → replay.version ≡ d.version → text ≡ held
    → EndsReplay replay text rec f → RefusesOver p (read_as d.version held) (position replay.link.state rec replay.used) replay.lines f
refused_here p replay d held text rec f profile version same h = rw (← profile, ← version, ← same) h

-- the fault comes first, and the files of the lines before it are put
pub line_stops : {S : Type 0} (shelved : S → Option (List PutFile)) (failed : S → Bool) (listener : Bool) (p : Contents) (replay : Replay)
    (d : Head) (k : ℕ) (taken : List FileBytes) (held known left more : Option (List ℕ)) (start_rec : Option Recording)
    (rec new_rec : EntriesLeft) (text : Option (List ℕ)) (first before after : S) (f : StreamFault)
    → replay.profile.now ≡ p → replay.version ≡ d.version → replay.files.items ≡ sizes taken → replay.lines ≡ k + 3
    → replay.link.state.sink.received.files ≡ [] → text ≡ held → GivesLine left more held true
    → GainsAll (shelved first) (shelved before) 1 taken
    → WhereBothKnown known start_rec (λ text r. Stands p text r d k replay.used taken replay.link.state left rec.to_come)
    → StopsAt shelved failed listener (taking replay text (change rec new_rec) (change before after)) f
    → Refuses (compared p known start_rec) (change (shelved first) (shelved after)) f
line_stops shelved failed listener p replay d k taken held known left more start_rec rec new_rec text first before after f profile version
    noted n none same given put reports (inl h) =
    record {
      files = taken;
      fault =
          refused_both_known p d k replay.used replay.lines taken replay.link.state held known left more start_rec rec.to_come f n none
          given (refused_here p replay d held text rec.to_come f profile version same h.ends) reports;
      put = rw h.put put;
    }
line_stops shelved failed listener p replay d k taken held known left more start_rec rec new_rec text first before after f profile version
    noted n none same given put reports (inr h) =
    record {
      files = taken ++ h.put.front;
      fault =
          not_put_both_known p d k replay.used h.used taken h.put.front h.put.more h.put.next replay.link.state h.state
          (read_as replay.version text) known left start_rec rec.to_come new_rec.to_come f h.fault none h.put.first
          (subst (λ q. PassesOver q (read_as replay.version text) (change replay.link.state h.state)
          (change rec.to_come new_rec.to_come) h.used) profile h.passed)
          reports;
      put = put_on (shelved first) (shelved before) (shelved after) [] replay.files.items taken h.put.front put noted h.put.gained;
    }

-- a listener has heard the lines before the fault, and nothing else
pub line_unreported : {S T : Type 0} (hears : Hearing T) (shelved : S → Option (List PutFile)) (failed : S → Bool) (listener : Bool)
    (p : Contents) (replay : Replay) (d : Head) (k : ℕ) (taken : List FileBytes) (held known left more : Option (List ℕ))
    (start_rec : Option Recording) (rec new_rec : EntriesLeft) (text : Option (List ℕ)) (before after : S) (f : StreamFault)
    (old now new : T)
    → replay.profile.now ≡ p → replay.version ≡ d.version → replay.lines ≡ k + 3 → replay.link.state.sink.received.files ≡ [] → text ≡ held
    → GivesLine left more held true
    → WhereBothKnown known start_rec (λ text r. Stands p text r d k replay.used taken replay.link.state left rec.to_come)
    → WhereBothKnown known start_rec
    (λ text r. Hears hears p d.first (step_lines d.version text) r k replay.used (with_earlier taken replay.link.state) old now)
    → IsUnreported now new f → StopsAt shelved failed listener (taking replay text (change rec new_rec) (change before after)) f
    → HearsBefore (listening hears old new) (compared p known start_rec) f
line_unreported hears shelved failed listener p replay d k taken held known left more start_rec rec new_rec text before after f old now new
    profile version n none same given reports heard unreported (inl h) =
    heard_refused hears p d k replay.used taken replay.link.state left rec.to_come old now known start_rec held more replay.lines f new n
    none given (refused_here p replay d held text rec.to_come f profile version same h.ends) unreported reports heard
line_unreported hears shelved failed listener p replay d k taken held known left more start_rec rec new_rec text before after f old now new
    profile version n none same given reports heard unreported (inr h) =
    heard_nothing hears p known start_rec old new f h.fault
