use Rattle.std.proofs.Common.{◌≡◌, true, Err}
use Rattle.a429_word.specs.Tally.{unread}
use Rattle.a429_record.specs.declared.fault.ReadFault.TheVariants as read
use Rattle.a429_cert.specs.declared.stream_fault.StreamFault.TheVariants as stream
use Rattle.a429_commands.proofs.SeriesVerdictFacts.{added_err, added_ok, stop_failed, works_ok, works_refused}
use Rattle.a429_commands.proofs.engines.series.add_open.Goals as goal
use Rattle.a429_commands.proofs.engines.series.add_open.Goals.{then-failed, else-failed}

pub returns-clause-ok : goal.returns-clause-ok
returns-clause-ok g c =
    added_ok c.failed-2.result c.add-added.result c.unless_failed.result _ c.unless_failed.ensures.ok c.add-added.ensures.ok

pub returns-clause-err : goal.returns-clause-err
returns-clause-err g c =
    added_err c.failed-2.result c.add-added.result c.unless_failed.result c.args.series
    (unread g.C.Read.remaining c.args.part.cert) c.args.part.rec.to_come c.unless_failed.ensures.err c.add-added.ensures.err

pub returns-clause-works : goal.returns-clause-works
returns-clause-works g c =
    works_ok c.failed-2.result _ c.add-added.result c.unless_failed.result c.failed-2.ensures c.unless_failed.ensures.ok

pub returns-clause-refused : goal.returns-clause-refused
returns-clause-refused g c =
    works_refused c.failed-2.result _ c.add-added.result c.unless_failed.result c.failed-2.ensures c.unless_failed.ensures.err

pub returns-clause-device : goal.returns-clause-device
returns-clause-device g c =
    let noted : c.add-added.result ≡ Err stream.Device → c.if-failed.note ≡ true = λ e.
    let failed = c.add-added.ensures.device e in
    elim c.if-failed.branch [
      | then-failed w ↦ cc (w.note-is, w.if-failed.true)
      | else-failed w ↦ cc (w.note-is, w.failed-else-failed.ensures, failed)
    ]
    in λ is.
    stop_failed c.failed-2.result _ c.add-added.result c.unless_failed.result stream.Device c.failed-2.ensures c.unless_failed.ensures.err
    (λ e. c.note.ensures.failed (noted e)) is

pub returns-clause-read : goal.returns-clause-read
returns-clause-read g c =
    let noted : c.add-added.result ≡ Err (stream.Read read.Device) → c.if-failed.note ≡ true = λ e.
    let failed = c.add-added.ensures.read e in
    elim c.if-failed.branch [
      | then-failed w ↦ cc (w.note-is, w.if-failed.true)
      | else-failed w ↦ absurd (cc (w.if-failed.false, c.failed.ensures, failed))
    ]
    in λ is.
    stop_failed c.failed-2.result _ c.add-added.result c.unless_failed.result
    (stream.Read read.Device) c.failed-2.ensures c.unless_failed.ensures.err (λ e. c.note.ensures.failed (noted e)) is
