use Rattle.a429_record.proofs.PlainFacts.{whole_line}
use Rattle.a429_record.proofs.line.plain_entry.Goals as goal

pub returns-then-is_line_end : goal.returns-then-is_line_end
returns-then-is_line_end c =
    whole_line c.args.line.now c.in_ok-row.row.len c.in_ok-row.row.entry c.in_ok-row.ensures.1
    (c.is_line_end.ensures.0 c.if-is_line_end.true)
