use Rattle.a429_word.proofs.SheetFacts.{◌▹◌}
use Rattle.a429_record.proofs.WritingTexts.{flat_map-more}
use Rattle.a429_record.specs.Writing.{line_text}
use Rattle.a429_commands.proofs.engines.piece_folder.put_lines.Goals as goal

pub loop-entry-preserved : goal.loop-entry-preserved
loop-entry-preserved g c =
    rw (flat_map-more line_text c.args.entries.now c.loop-entry.entry-index c.entry-item.result c.loop-entry-test.true c.entry-item.is)
    (c.loop-entry.invariant ▹ c.put_line.ensures)
