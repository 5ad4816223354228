use Rattle.std.specs.Io.KnownBytes.{Consumes}
use Rattle.std.proofs.Common.{◌≡◌, ◌+◌, ◌-◌, ◌≤◌, take, false}
use Rattle.a429_word.specs.Tally.{left_of, has_failed, unread}
use Rattle.a429_record.specs.Binary.{magic}
use Rattle.a429_record.proofs.lines.Lines.format.Given as goal

abbrev pub invariant-bytes : goal.invariant-bytes
invariant-bytes g l = record {
  start : l.self.at ≡ 0;
  few : l.self.filled ≤ 8;
  front : take l.self.filled l.self.buffer ≡ take l.self.filled magic;
  gone : Consumes (unread g.R.Read.remaining l.fn.rec) (unread g.R.Read.remaining l.rec) (take l.self.filled l.self.buffer);
  left : left_of l.rec + l.self.filled ≡ left_of l.fn.rec;
  works : has_failed l.rec ≡ false;
}

abbrev pub decreases-bytes : goal.decreases-bytes
decreases-bytes g l = 8 - l.self.filled
