use Rattle.std.proofs.Common.{get_or}
use Rattle.std.proofs.lemmas.List.{get_or_default}
use Rattle.a429_word.proofs.SheetFacts.{◌▹◌}
use Rattle.a429_record.proofs.WritingTexts.{flat_map-more}
use Rattle.a429_view.specs.Verdict.{file_line}
use Rattle.a429_view.proofs.verdict.put_sizes.Goals as goal

pub loop-file-preserved : goal.loop-file-preserved
loop-file-preserved g c =
    let here = get_or c.args.files.now c.loop-file.file-index (0, 0) in
    rw (flat_map-more file_line c.args.files.now c.loop-file.file-index here c.loop-file-test.true
    (get_or_default c.args.files.now c.loop-file.file-index (0, 0) here c.loop-file-test.true))
    (c.loop-file.invariant ▹ c.put_size.ensures)
