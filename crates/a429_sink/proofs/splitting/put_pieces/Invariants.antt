use Rattle.std.proofs.Common.{◌≡◌, ◌+◌, false, List, length}
use Rattle.a429_record.specs.declared.entry.Entry.{Entry}
use Rattle.a429_parts.proofs.KeepingFacts.{Came}
use Rattle.a429_sink.specs.Splitting.{Splits}
use Rattle.a429_sink.proofs.splitting.put_pieces.Given as goal

abbrev pub invariant-entries : goal.invariant-entries
invariant-entries g l = record {
  entries : List Entry;
  splits : Splits l.profile false (g.P.Pieces.known l.fn.pieces) (g.P.Pieces.known l.pieces) entries l.splitting;
  came : Came l.fn.rec.to_come entries l.rec.to_come;
  count : l.rec.count ≡ l.fn.rec.count + length entries;
}

abbrev pub decreases-entries : goal.decreases-entries
decreases-entries g l = l.rec.room
