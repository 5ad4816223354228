use Rattle.std.proofs.Common.{false, get_or}
use Rattle.std.proofs.lemmas.List.{get_or_default}
use Rattle.a429_sink.specs.declared.file_units.FileUnits.{FileUnits}
use Rattle.a429_word.proofs.SheetFacts.{◌▹◌}
use Rattle.a429_record.proofs.WritingTexts.{flat_map-more}
use Rattle.a429_view.specs.History.{open_line}
use Rattle.a429_view.proofs.history.put_others.Goals as goal

pub loop-units-preserved : goal.loop-units-preserved
loop-units-preserved g c =
    let none : FileUnits = record { file = 0; first = 0; last = 0; ended = false } in
    let here = get_or c.args.others.now c.loop-units.units-index none in
    rw (flat_map-more open_line c.args.others.now c.loop-units.units-index here c.loop-units-test.true
    (get_or_default c.args.others.now c.loop-units.units-index none here c.loop-units-test.true))
    (c.loop-units.invariant ▹ c.put_open.ensures)
