use Rattle.std.proofs.Common.{sym, ◌∙◌, drop}
use Rattle.std.specs.List.{flat_map}
use Rattle.a429_word.proofs.SheetFacts.{◌▹◌, says_after_failure}
use Rattle.a429_record.specs.Writing.{line_text}
use Rattle.a429_record.proofs.WritingTexts.{flat_map-more, flat_map-rest}
use Rattle.a429_record.proofs.writing.put_lines.Goals as goal

pub loop-entry-preserved : goal.loop-entry-preserved
loop-entry-preserved g c =
    rw (flat_map-more line_text c.args.entries.now c.loop-entry.entry-index c.entry-item.result c.loop-entry-test.true c.entry-item.is)
    (c.loop-entry.invariant ▹ c.put_line.ensures)

-- the lines that are left are not written
pub returns-then-failed : goal.returns-then-failed
returns-then-failed g c =
    let rest = flat_map line_text (drop c.loop-entry.entry-index c.args.entries.now) in
    rw (flat_map-rest line_text c.args.entries.now c.loop-entry.entry-index) at (c.loop-entry.invariant
    ▹ says_after_failure _ _ rest (sym c.failed.ensures ∙ c.if-failed.true))
