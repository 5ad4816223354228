use Rattle.std.proofs.Common.{◌≡◌, length, true, false}
use Rattle.a429_word.specs.Tally.{has_failed, unread}
use Rattle.a429_record.specs.declared.stage.Stage.TheVariants as stage
use Rattle.a429_record.specs.Recording.{most_entries, NeverFalls}
use Rattle.a429_record.specs.Lines.{pending_of, room_of}
use Rattle.a429_record.specs.Stage.{may_go_on}
use Rattle.a429_record.specs.Reading.{still_to_come}
use Rattle.a429_record.specs.Handed.{Loses}
use Rattle.a429_record.proofs.RowsFacts.{Given}
use Rattle.a429_record.proofs.HandedFormats.{AreGivenAt, IsFormOf}
use Rattle.a429_record.proofs.RecordingTimes.{last_time}
use Rattle.a429_record.proofs.recording.read_entries.Given as goal

abbrev pub invariant-entries : goal.invariant-entries
invariant-entries g l = record {
  given : Given (unread g.R.Read.remaining l.fn.rec) l.entries.items
      (still_to_come g.R.Read.remaining l.reading.stage l.reading.rows l.rec);
  lines : Loses (AreGivenAt l.reading.stage l.reading.rows.format l.entries.items) (unread g.R.Read.remaining l.fn.rec)
      (pending_of g.R.Read.remaining l.reading.rows.lines l.rec);
  format : IsFormOf l.reading.stage (unread g.R.Read.remaining l.fn.rec) l.reading.rows.format;
  most : l.reading.rows.most ≡ most_entries;
  times : NeverFalls 0 l.entries.items;
  last : last_time 0 l.entries.items ≡ l.reading.rows.last;
  count : length l.entries.items ≡ l.reading.rows.count;
  goes : may_go_on l.reading.stage ≡ true;
  works : l.reading.stage ≡ stage.Rows → has_failed l.rec ≡ false;
}

abbrev pub decreases-entries : goal.decreases-entries
decreases-entries g l = room_of l.reading.rows.lines l.rec
