use Rattle.std.proofs.Common.{◌∙◌}
use Rattle.a429_word.proofs.SheetFacts.{◌▹◌}
use Rattle.a429_view.proofs.SurveyFacts.{kind_text_some}
use Rattle.a429_view.proofs.survey.text.put_kind.Goals as goal

pub returns-then-hits-gt0 : goal.returns-then-hits-gt0
returns-then-hits-gt0 g c =
    let letter = rw (c.as_bytes.ensures.value ∙ c.letter.ensures) at c.put.ensures in
    let kind = rw c.name.ensures at c.put-then-hits-gt0-2.ensures in
    rw (kind_text_some c.args.bus c.args.kind c.args.hits.count c.args.hits.first c.if-hits-gt0.true)
    (letter ▹ c.put-then-hits-gt0.ensures ▹ kind ▹ c.put-then-hits-gt0-3.ensures ▹ c.put_number.ensures ▹ c.put-then-hits-gt0-4.ensures
    ▹ c.put_number-then-hits-gt0.ensures ▹ c.put-then-hits-gt0-5.ensures)
