use Rattle.std.proofs.Common.{◌+◌, ◌≤◌}
use Rattle.a429_word.specs.Tally.{left_of, unread}
use Rattle.a429_cert.specs.declared.explained.Head.{Head}
use Rattle.a429_cert.specs.LineReader.{to_come, room_left}
use Rattle.a429_cert.proofs.StreamNextFacts.{WalksPart}
use Rattle.a429_cert.proofs.series.Series.add.Given as goal

abbrev pub invariant-lines : goal.invariant-lines
invariant-lines g l = record {
  head : Head;
  walks : WalksPart l.fn.self (unread g.C.Read.remaining l.fn.cert) l.fn.rec.to_come head l.replay
      (to_come g.C.Read.remaining l.lines l.cert) l.rec;
  room : l.replay.lines + room_left l.lines l.cert ≤ left_of l.fn.cert;
}

abbrev pub decreases-lines : goal.decreases-lines
decreases-lines g l = room_left l.lines l.cert
