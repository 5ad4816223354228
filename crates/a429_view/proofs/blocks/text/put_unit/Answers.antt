use Rattle.a429_word.proofs.SheetFacts.{◌▹◌}
use Rattle.a429_view.proofs.blocks.text.put_unit.Goals as goal

pub returns-in-Some : goal.returns-in-Some
returns-in-Some g c =
    let file = rw c.from.ensures at c.put_cell.ensures in
    let ldu = rw c.from-in-Some.ensures at c.put_cell-in-Some.ensures in
    rw c.in-Some.is (file ▹ ldu)
