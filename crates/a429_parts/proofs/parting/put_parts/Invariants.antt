use Rattle.std.proofs.Common.{◌≡◌, ◌+◌, false, List, length}
use Rattle.a429_record.specs.declared.entry.Entry.{Entry}
use Rattle.a429_parts.specs.Cutter.{IsCurrent}
use Rattle.a429_parts.specs.Parting.{Progress, outputs}
use Rattle.a429_parts.proofs.KeepingFacts.{Came}
use Rattle.a429_parts.proofs.parting.put_parts.Given as goal

abbrev pub invariant-entries : goal.invariant-entries
invariant-entries g l = record {
  entries : List Entry;
  progress : Progress l.profile l.most false
      (outputs g.W.Write.contents (g.P.Parts.known l.fn.parts) (g.P.Parts.known l.parts) l.fn.sheet l.sheet) entries l.parting;
  came : Came l.fn.rec.to_come entries l.rec.to_come;
  current : IsCurrent l.parting.cutter;
  count : l.rec.count ≡ l.fn.rec.count + length entries;
}

abbrev pub decreases-entries : goal.decreases-entries
decreases-entries g l = l.rec.room
