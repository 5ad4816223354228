use Rattle.std.proofs.Common.{◌+◌, ◌≤◌}
use Rattle.a429_word.specs.Tally.{left_of, unread}
use Rattle.a429_cert.specs.declared.explained.Head.{Head}
use Rattle.a429_cert.specs.LineReader.{to_come, room_left}
use Rattle.a429_cert.specs.Report.{listening, TriesSome}
use Rattle.a429_cert.specs.StreamNext.{progress}
use Rattle.a429_cert.proofs.StreamNextFacts.{Walks}
use Rattle.a429_cert.proofs.stream.replay_stream.Given as goal

abbrev pub invariant-lines : goal.invariant-lines
invariant-lines g l = record {
  head : Head;
  walks : Walks g.S.Shelf.files g.T.Listener.hears l.profile
      (record { known = unread g.C.Read.remaining l.fn.cert; recording = l.fn.rec; shelf = l.fn.shelf; listener = l.fn.listener }) head
      (progress l.replay (to_come g.C.Read.remaining l.lines l.cert) l.rec l.shelf l.listener);
  tried : TriesSome (listening g.T.Listener.tries l.fn.listener l.listener) l.profile;
  room : l.replay.lines + room_left l.lines l.cert ≤ left_of l.fn.cert;
}

abbrev pub decreases-lines : goal.decreases-lines
decreases-lines g l = room_left l.lines l.cert
