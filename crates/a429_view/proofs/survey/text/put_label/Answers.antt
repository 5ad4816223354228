use Rattle.std.proofs.Common.{◌∙◌}
use Rattle.a429_word.proofs.SheetFacts.{◌▹◌}
use Rattle.a429_view.proofs.SurveyFacts.{label_text_some}
use Rattle.a429_view.proofs.survey.text.put_label.Goals as goal

pub returns-then-count-gt0 : goal.returns-then-count-gt0
returns-then-count-gt0 g c =
    let letter = rw (c.as_bytes.ensures.value ∙ c.letter.ensures) at c.put.ensures in
    let octal = rw c.octal.ensures at c.put-then-count-gt0-2.ensures in
    rw (label_text_some c.args.bus c.args.label c.args.count.count c.args.count.even c.if-count-gt0.true)
    (letter ▹ c.put-then-count-gt0.ensures ▹ octal ▹ c.put-then-count-gt0-3.ensures ▹ c.put_number.ensures ▹ c.put-then-count-gt0-4.ensures
    ▹ c.put_number-then-count-gt0.ensures ▹ c.put-then-count-gt0-5.ensures)
