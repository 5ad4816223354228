use Rattle.std.proofs.Common.{get_or}
use Rattle.std.proofs.lemmas.List.{get_or_default}
use Rattle.a429_link.specs.declared.doing.Crossing.{Crossing}
use Rattle.a429_word.proofs.SheetFacts.{◌▹◌}
use Rattle.a429_record.proofs.WritingTexts.{flat_map-more}
use Rattle.a429_view.specs.Sink.{crossed_line}
use Rattle.a429_view.proofs.sink.put_files.Goals as goal

pub loop-file-preserved : goal.loop-file-preserved
loop-file-preserved g c =
    let none : Crossing = record { number = 0; bytes = 0 } in
    let here = get_or c.args.files.now c.loop-file.file-index none in
    rw (flat_map-more crossed_line c.args.files.now c.loop-file.file-index here c.loop-file-test.true
    (get_or_default c.args.files.now c.loop-file.file-index none here c.loop-file-test.true))
    (c.loop-file.invariant ▹ c.put_file.ensures)
