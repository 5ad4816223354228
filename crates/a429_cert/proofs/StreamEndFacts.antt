-- A replay after the last line of a certificate, where an entry is left or the recording has a fault.
use Rattle.std.proofs.Common.{◌≡◌, inl, inr, ℕ, List, [], false, Option, sym, subst}
use Rattle.a429_profile.specs.Profile.{Contents}
use Rattle.a429_link.specs.declared.file.FileBytes.{FileBytes}
use Rattle.a429_link.specs.State.{State}
use Rattle.a429_link.specs.Link.{with_earlier}
use Rattle.a429_record.specs.Recording.{Recording}
use Rattle.a429_cert.specs.declared.stream_fault.StreamFault.{StreamFault}
use Rattle.a429_cert.specs.declared.explained.Head.{Head}
use Rattle.a429_cert.specs.Version.{step_lines}
use Rattle.a429_cert.specs.CutLines.{GivesLine}
use Rattle.a429_cert.specs.StreamEnd.{EndsLate}
use Rattle.a429_cert.specs.StreamExplained.{compared, WhereBothKnown, IsStreamFault, HearsBefore}
use Rattle.a429_cert.specs.Report.{listening, Hearing}
use Rattle.a429_cert.proofs.StreamStands.{Stands}
use Rattle.a429_cert.proofs.StreamRefused.{unfinished_both_known, stopped_both_known}
use Rattle.a429_cert.proofs.ReportFacts.{Hears}
use Rattle.a429_cert.proofs.ReportsOfRefused.{heard_unfinished, heard_stopped}

module _ (p : Contents) (d : Head) (k i : ℕ) (taken : List FileBytes) (s : State) (held known left more : Option (List ℕ))
    (start rec new : Option Recording) (f : StreamFault) where
  pub late_both_known : s.sink.received.files ≡ [] → GivesLine left more held false → EndsLate i rec new f
      → WhereBothKnown known start (λ text r. Stands p text r d k i taken s left rec) → WhereBothKnown known start (IsStreamFault p f taken)
  late_both_known none g (inl e) h =
      subst (λ (o : StreamFault). WhereBothKnown known start (IsStreamFault p o taken)) (sym e.2)
      (unfinished_both_known p d k i taken s held known left more e.0 start rec new none g e.1 h)
  late_both_known none g (inr e) h =
      subst (λ (o : StreamFault). WhereBothKnown known start (IsStreamFault p o taken)) (sym e.2)
      (stopped_both_known p d k i taken s held known left more start rec new e.0 none g e.1 h)

  pub heard_late : {T : Type 0} (hears : Hearing T) (old now : T)
      → s.sink.received.files ≡ [] → GivesLine left more held false → EndsLate i rec new f
      → WhereBothKnown known start (λ text r. Stands p text r d k i taken s left rec)
      → WhereBothKnown known start (λ text r. Hears hears p d.first (step_lines d.version text) r k i (with_earlier taken s) old now)
      → HearsBefore (listening hears old now) (compared p known start) f
  heard_late hears old now none g (inl e) h b =
      subst (HearsBefore (listening hears old now) (compared p known start)) (sym e.2)
      (heard_unfinished hears p d k i taken s left rec old now known start held more e.0 new g e.1 h b)
  heard_late hears old now none g (inr e) h b =
      subst (HearsBefore (listening hears old now) (compared p known start)) (sym e.2)
      (heard_stopped hears p d k i taken s left rec old now known start held more e.0 new none g e.1 h b)
