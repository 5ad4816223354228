use Rattle.std.proofs.Common.{◌≡◌, true}
use Rattle.std.specs.Io.KnownBytes.{Keeps}
use Rattle.a429_word.specs.Tally.{left_of, has_failed}
use Rattle.a429_cert.specs.LineReader.{to_come, room_left}
use Rattle.a429_cert.proofs.line_reader.LineReader.next_line.Given as goal

abbrev pub invariant-reads : goal.invariant-reads
invariant-reads g l = record {
  same : Keeps (to_come g.R.Read.remaining l.initial.self l.initial.cert) (to_come g.R.Read.remaining l.self l.cert);
  room : room_left l.self l.cert ≡ room_left l.initial.self l.initial.cert;
  stays : has_failed l.initial.cert ≡ true → has_failed l.cert ≡ true;
}

abbrev pub decreases-reads : goal.decreases-reads
decreases-reads g l = left_of l.cert
