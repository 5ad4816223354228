use Rattle.std.specs.Io.KnownBytes.{Consumes}
use Rattle.std.proofs.Common.{◌≡◌, ◌+◌, length, false}
use Rattle.a429_word.specs.Tally.{left_of, has_failed}
use Rattle.a429_record.specs.Lines.{pending_of, room_of}
use Rattle.a429_record.specs.Ends.{HasNoEnd}
use Rattle.a429_record.proofs.lines.Lines.next_line.Given as goal

abbrev pub invariant-parts : goal.invariant-parts
invariant-parts g l = record {
  line : HasNoEnd l.line.items;
  gone : Consumes (pending_of g.R.Read.remaining l.initial.self l.initial.rec) (pending_of g.R.Read.remaining l.self l.rec) l.line.items;
  room : room_of l.self l.rec + length l.line.items ≡ room_of l.initial.self l.initial.rec;
  works : has_failed l.rec ≡ false;
}

abbrev pub decreases-parts : goal.decreases-parts
decreases-parts g l = left_of l.rec
