use Rattle.std.proofs.Common.{◌∙◌, refl}
use Rattle.a429_word.proofs.SheetFacts.{◌▹◌}
use Rattle.a429_view.proofs.show.put_value.Goals as goal

pub returns : goal.returns
returns g c =
    let name = rw (c.as_bytes.ensures.value ∙ c.as_str.ensures) at c.put.ensures in
    let digits = c.put_on.ensures in
    let unit = rw c.as_str-2.ensures at c.put_unit.ensures in
    (_, (digits.0, digits.1, refl), name ▹ c.put-2.ensures ▹ digits.2 ▹ unit ▹ c.put_test.ensures)
