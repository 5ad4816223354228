use Rattle.std.proofs.Common.{Some, take, sym}
use Rattle.a429_record.specs.declared.entry.Entry.{Entry}
use Rattle.a429_record.proofs.RowDigits.{word_in-reads}
use Rattle.a429_record.proofs.WrittenRow.{plain_of}
use Rattle.a429_record.proofs.plain.plain_row.Goals as goal

pub returns : goal.returns
returns c =
    let f = c.in_ok-fields.fields in
    let w = c.in_ok-word.word in
    let e : Entry = record { time = f.time; bus = f.bus; word = w } in
    rw c.row.ensures (
      c.in_ok-fields.ensures.inside,
      plain_of (take f.len c.args.bytes.now) f.word.now e c.in_ok-fields.ensures.front
          (sym (word_in-reads f.word.now (Some w) c.in_ok-word.ensures)),
    )
