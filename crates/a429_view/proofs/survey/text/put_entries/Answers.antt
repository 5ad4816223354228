use Rattle.std.proofs.Common.{◌∙◌}
use Rattle.a429_word.proofs.SheetFacts.{◌▹◌}
use Rattle.a429_view.proofs.survey.text.put_entries.Goals as goal

pub returns : goal.returns
returns g c =
    let letter = rw (c.as_bytes.ensures.value ∙ c.letter.ensures) at c.put.ensures in
    letter ▹ c.put-2.ensures ▹ c.put_number.ensures ▹ c.put-3.ensures
