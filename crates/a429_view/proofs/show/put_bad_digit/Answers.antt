use Rattle.std.proofs.Common.{◌∙◌}
use Rattle.a429_word.proofs.SheetFacts.{◌▹◌}
use Rattle.a429_view.proofs.show.put_bad_digit.Goals as goal

pub returns : goal.returns
returns g c =
    let name = rw (c.as_bytes.ensures.value ∙ c.as_str.ensures) at c.put.ensures in
    let place = rw c.from.ensures at c.put_number.ensures in
    name ▹ c.put-2.ensures ▹ place
