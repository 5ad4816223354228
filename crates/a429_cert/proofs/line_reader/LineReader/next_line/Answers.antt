use Rattle.std.proofs.Common.{rules, arith, ◌∙◌, refl}
use Rattle.a429_word.specs.Tally.{unread}
use Rattle.a429_cert.specs.LineReader.{bytes_ahead, held_line, to_come}
use Rattle.a429_cert.proofs.LineReaderFacts.{ended_given, open_given}
use Rattle.a429_cert.proofs.line_reader.LineReader.next_line.Goals as goal

pub returns-then-take_line-clause-given : goal.returns-then-take_line-clause-given
returns-then-take_line-clause-given g c =
    let line = c.if-take_line.ensures.line refl in
    ended_given (to_come g.R.Read.remaining c.args.self.now c.args.cert.now) (unread g.R.Read.remaining c.reads.cert)
    (bytes_ahead c.reads.self) (bytes_ahead c.take_line.new.self) (held_line c.take_line.new.self)
    c.reads.invariant.same (c.if-take_line.ensures.yes refl) line.0 line.1

pub returns-then-not-branch-clause-given : goal.returns-then-not-branch-clause-given
returns-then-not-branch-clause-given g c =
    let ahead = bytes_ahead c.read_on.new.self in
    let k = unread g.R.Read.remaining c.read_on.new.cert in
    let same = c.in_ok-read_on.ensures.same c.if-not-branch.true ∙ c.if-take_line.ensures.same refl in
    let taken = rw (c.if-take_line.ensures.same refl) at c.in_ok-read_on.ensures.keeps in
    rw c.is_empty.ensures
    (open_given (to_come g.R.Read.remaining c.args.self.now c.args.cert.now) (to_come g.R.Read.remaining c.reads.self c.reads.cert) k
    (bytes_ahead c.reads.self) ahead (held_line c.read_on.new.self)
    c.reads.invariant.same taken same (c.if-take_line.ensures.no refl) c.in_ok-read_on.ensures.line
    (c.in_ok-read_on.ensures.end c.if-not-branch.true))

pub returns-then-not-branch-clause-room : goal.returns-then-not-branch-clause-room
returns-then-not-branch-clause-room g c = search rules

pub returns-then-take_line-clause-shorter : goal.returns-then-take_line-clause-shorter
returns-then-take_line-clause-shorter g c = λ _. omega (arith, c.reads.invariant.room, c.if-take_line.ensures.short refl)

pub returns-then-take_line-clause-room : goal.returns-then-take_line-clause-room
returns-then-take_line-clause-room g c = λ _. omega (arith, c.reads.invariant.room, c.if-take_line.ensures.short refl)

pub returns-then-take_line-clause-kept : goal.returns-then-take_line-clause-kept
returns-then-take_line-clause-kept g c = λ h. absurd (h refl)

pub returns-then-take_line-clause-part : goal.returns-then-take_line-clause-part
returns-then-take_line-clause-part g c = λ e. absurd (cc e)

pub returns-then-take_line-clause-device : goal.returns-then-take_line-clause-device
returns-then-take_line-clause-device g c = λ e. absurd (cc e)

pub returns-then-take_line-clause-stays : goal.returns-then-take_line-clause-stays
returns-then-take_line-clause-stays g c = c.reads.invariant.stays
