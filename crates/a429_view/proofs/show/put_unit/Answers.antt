use Rattle.std.proofs.Common.{sym, ◌∙◌}
use Rattle.a429_word.proofs.SheetFacts.{◌▹◌}
use Rattle.a429_view.proofs.ShowFacts.{unit_text-is}
use Rattle.a429_view.proofs.show.put_unit.Goals as goal

pub returns : goal.returns
returns g c =
    let unit = rw c.as_bytes.ensures.value at c.put-2.ensures in
    rw (unit_text-is c.args.unit.now (sym c.is_empty.ensures ∙ c.if-is_empty.false)) at (c.put.ensures ▹ unit)
