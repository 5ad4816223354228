use Rattle.std.proofs.Common.{◌∙◌, rules}
use Rattle.a429_word.proofs.SheetFacts.{writes}
use Rattle.a429_commands.proofs.engines.verdict.write_answer.Goals as goal

pub returns-clause-written : goal.returns-clause-written
returns-clause-written g c =
    let written =
    writes (c.new-sheet.ensures.page ∙ c.without_room-page.ensures) c.new-sheet.ensures.out c.put_answer.ensures
    c.in_ok-finish.ensures.nothing_more c.in_ok-finish.ensures.written in
    search rules

pub returns-in_err-finish-clause-written : goal.returns-in_err-finish-clause-written
returns-in_err-finish-clause-written g c =
    let written =
    writes (c.new-sheet.ensures.page ∙ c.without_room-page.ensures) c.new-sheet.ensures.out c.put_answer.ensures
    c.in_err-finish.ensures.nothing_more c.in_err-finish.ensures.written in
    search rules
