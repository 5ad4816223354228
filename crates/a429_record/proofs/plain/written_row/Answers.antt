use Rattle.std.proofs.Common.{arith, rules, take}
use Rattle.a429_record.specs.declared.entry.Entry.{Entry}
use Rattle.a429_record.proofs.WrittenIsReadBack.{word-back}
use Rattle.a429_record.proofs.WrittenRow.{next_byte, plain_of, same_or, written_line}
use Rattle.a429_record.proofs.plain.written_row.Goals as goal

pub returns-clause-row : goal.returns-clause-row
returns-clause-row c =
    let f = c.in_ok-fields.fields in
    let w = c.in_ok-word.word in
    let e : Entry = record { time = f.time; bus = f.bus; word = w } in
    rw c.row.ensures
    (plain_of (take f.len c.args.bytes.now) f.word.now e c.in_ok-fields.ensures.front
    (rw c.in_ok-word.ensures.some (word-back w (omega arith))))

pub returns-clause-line : goal.returns-clause-line
returns-clause-line c =
    let bytes = c.args.bytes.now in
    let f = c.in_ok-fields.fields in
    let w = c.in_ok-word.word in
    let e : Entry = record { time = f.time; bus = f.bus; word = w } in
    rw c.row.ensures
    (written_line bytes f.word.now f.len e (next_byte bytes f.len 0 (search rules) (search rules)) c.in_ok-fields.ensures.inside
    c.in_ok-fields.ensures.front c.in_ok-word.ensures.some
    (λ zero. same_or f.len 12 (λ other. cc (c.if-has_zero.ensures.1 (zero, other)))))
