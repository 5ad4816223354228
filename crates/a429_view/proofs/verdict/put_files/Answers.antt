use Rattle.a429_word.proofs.SheetFacts.{◌▹◌}
use Rattle.a429_record.proofs.WritingTexts.{flat_map-more}
use Rattle.a429_view.specs.Verdict.{line_of_file}
use Rattle.a429_view.proofs.verdict.put_files.Goals as goal

pub loop-file-preserved : goal.loop-file-preserved
loop-file-preserved g c =
    rw (flat_map-more line_of_file c.args.files.now c.loop-file.file-index c.file-item.result c.loop-file-test.true c.file-item.is)
    (c.loop-file.invariant ▹ (rw c.as_slice.ensures at c.put_file.ensures))
