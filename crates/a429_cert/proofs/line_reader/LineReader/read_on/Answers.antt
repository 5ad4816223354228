use Rattle.std.proofs.Common.{◌∙◌, inl, arith, take}
use Rattle.a429_cert.specs.LineReader.{bytes_ahead}
use Rattle.a429_cert.proofs.LineReaderFacts.{read_behind, grown, none_behind, none_grown, none_lost}
use Rattle.a429_cert.proofs.line_reader.LineReader.read_on.Goals as goal

pub returns-then-self-eq-ROOM-clause-end : goal.returns-then-self-eq-ROOM-clause-end
returns-then-self-eq-ROOM-clause-end g c = λ t. inl (omega (arith, c.make_room.ensures.len, c.if-self-eq-ROOM.true))

pub returns-clause-keeps : goal.returns-clause-keeps
returns-clause-keeps g c =
    let s = c.make_room.new.self in
    let got = c.pull.new.buf in
    grown _ _ (bytes_ahead c.args.self.now) (bytes_ahead s) _ (take c.in_ok-n.n got) c.make_room.ensures.ahead
    (read_behind s.buffer got _ s.next s.filled c.in_ok-n.n c.make_room.ensures.front c.make_room.ensures.len c.in_ok-n.ensures.bound.0)
    c.in_ok-n.ensures.bytes.0

pub returns-clause-same : goal.returns-clause-same
returns-clause-same g c = λ none.
    let s = c.make_room.new.self in
    let got = c.pull.new.buf in
    none_grown got _ (bytes_ahead s) (bytes_ahead c.args.self.now) c.in_ok-n.n none
    (read_behind s.buffer got _ s.next s.filled c.in_ok-n.n c.make_room.ensures.front c.make_room.ensures.len c.in_ok-n.ensures.bound.0)
    c.make_room.ensures.ahead

pub returns-in_err-n-clause-keeps : goal.returns-in_err-n-clause-keeps
returns-in_err-n-clause-keeps g c =
    let s = c.make_room.new.self in
    none_lost _ _ (bytes_ahead c.args.self.now) _
    (none_behind s.buffer c.pull.new.buf _ s.next s.filled c.make_room.ensures.front c.make_room.ensures.len ∙ c.make_room.ensures.ahead)
    c.in_err-n.ensures.bytes
