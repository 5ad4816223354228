use Rattle.std.specs.Io.KnownBytes.{Consumes}
use Rattle.std.proofs.Common.{◌≡◌, ◌+◌, ◌≤◌, length, take, false}
use Rattle.a429_word.specs.Tally.{left_of, has_failed}
use Rattle.a429_record.specs.Lines.{pending_of, room_of}
use Rattle.a429_record.proofs.lines.Lines.fill.Given as goal

abbrev pub invariant-parts : goal.invariant-parts
invariant-parts g l = record {
  size : length l.bytes ≡ length l.fn.bytes;
  most : l.at ≤ length l.bytes;
  gone : Consumes (pending_of g.R.Read.remaining l.fn.self l.fn.rec) (pending_of g.R.Read.remaining l.self l.rec) (take l.at l.bytes);
  room : room_of l.self l.rec + l.at ≡ room_of l.fn.self l.fn.rec;
  works : has_failed l.rec ≡ false;
}

abbrev pub decreases-parts : goal.decreases-parts
decreases-parts g l = left_of l.rec
