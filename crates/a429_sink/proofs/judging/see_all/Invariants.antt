use Rattle.std.proofs.Common.{◌≡◌, ◌+◌, List, length}
use Rattle.a429_record.specs.declared.entry.Entry.{Entry}
use Rattle.a429_cert.specs.Explained.{items_of}
use Rattle.a429_parts.proofs.KeepingFacts.{Came}
use Rattle.a429_sink.specs.LoneTrace.{IsLoneTrace}
use Rattle.a429_sink.proofs.judging.see_all.Given as goal

abbrev pub invariant-entries : goal.invariant-entries
invariant-entries g l = (es : List Entry) × IsLoneTrace l.profile (items_of es) l.trace × Came l.fn.rec.to_come es l.rec.to_come
    × (l.rec.count ≡ l.fn.rec.count + length es)

abbrev pub decreases-entries : goal.decreases-entries
decreases-entries g l = l.rec.room
