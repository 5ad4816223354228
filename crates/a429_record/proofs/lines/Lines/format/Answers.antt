-- the bytes that were read choose the format
use Rattle.std.proofs.Common.{rules, ◌<◌, ◌≤◌, length, take, arith}
use Rattle.std.proofs.KnownBytes.{Consumes-trans}
use Rattle.a429_word.specs.Tally.{unread}
use Rattle.a429_record.proofs.LinesFacts.{take_most}
use Rattle.a429_record.proofs.FormatFacts.{ends_text, other_bytes}
use Rattle.a429_record.proofs.lines.Lines.format.Goals as goal

pub returns-in-Ok-false-clause-chosen : goal.returns-in-Ok-false-clause-chosen
returns-in-Ok-false-clause-chosen g c =
    let s = c.read_on.new.self in
    let came = c.in-Ok-false.ensures.came in
    let gone = rw (← came.1) at (Consumes-trans _ _ _ _ _ c.bytes.invariant.gone came.2) in
    let size = take_most s.filled s.buffer in
    let few : length (take s.filled s.buffer) < 8 =
    omega (arith, size, c.bytes-test.true, c.in-Ok-false.ensures.filled.1 c.in-Ok-false.field-0-test) in
    ends_text (unread g.R.Read.remaining c.args.rec.now) (unread g.R.Read.remaining c.read_on.new.rec) s.at _
    (take s.filled s.buffer) c.requires.none c.in-Ok-false.ensures.start gone
    (c.in-Ok-false.ensures.end c.in-Ok-false.field-0-test) few

pub returns-then-not-begins_magic-clause-chosen : goal.returns-then-not-begins_magic-clause-chosen
returns-then-not-begins_magic-clause-chosen g c =
    let s = c.read_on.new.self in
    let came = c.in-Ok-true.ensures.came in
    let gone = rw (← came.1) at (Consumes-trans _ _ _ _ _ c.bytes.invariant.gone came.2) in
    let size = take_most s.filled s.buffer in
    let few : length (take s.filled s.buffer) ≤ 8 = omega (arith, size, c.in-Ok-true.ensures.filled.0) in
    other_bytes (unread g.R.Read.remaining c.args.rec.now) (unread g.R.Read.remaining c.read_on.new.rec) s.at _
    (take s.filled s.buffer) c.requires.none c.in-Ok-true.ensures.start gone
    few (λ e. cc (c.if-not-begins_magic.ensures.1 e))

pub returns-clause-chosen : goal.returns-clause-chosen
returns-clause-chosen g c = search rules
