use Rattle.std.proofs.Common.{◌≡◌, ◌≤◌, [], false}
use Rattle.a429_word.specs.Tally.{has_failed}
use Rattle.a429_record.specs.Lines.{pending_of, room_of}
use Rattle.a429_record.specs.Handed.{Loses, AreLines}
use Rattle.a429_record.specs.Rows.{rows_left}
use Rattle.a429_record.proofs.RowsFacts.{AreRows}
use Rattle.a429_record.proofs.rows.RowReader.header.Given as goal

abbrev pub invariant-lines : goal.invariant-lines
invariant-lines g l = record {
  rows : AreRows (rows_left g.R.Read.remaining l.initial.self l.initial.rec) (pending_of g.R.Read.remaining l.self.lines l.rec);
  blank : Loses (AreLines (λ rows. rows ≡ [])) (pending_of g.R.Read.remaining l.initial.self.lines l.initial.rec)
      (pending_of g.R.Read.remaining l.self.lines l.rec);
  format : l.self.format ≡ l.initial.self.format;
  most : l.self.most ≡ l.initial.self.most;
  count : l.self.count ≡ l.initial.self.count;
  last : l.self.last ≡ l.initial.self.last;
  room : room_of l.self.lines l.rec ≤ room_of l.initial.self.lines l.initial.rec;
  works : has_failed l.rec ≡ false;
}

abbrev pub decreases-lines : goal.decreases-lines
decreases-lines g l = room_of l.self.lines l.rec
