use Rattle.std.proofs.Common.{◌∙◌, rules}
use Rattle.a429_word.proofs.SheetFacts.{writes}
use Rattle.a429_commands.proofs.engines.text.put_by.Goals as goal

pub returns-in_err-finish-clause-prefix : goal.returns-in_err-finish-clause-prefix
returns-in_err-finish-clause-prefix g c =
    let first = c.put-status.ensures.first in
    let written =
    writes (c.new-sheet.ensures.page ∙ c.requires) c.new-sheet.ensures.out first.2 c.in_err-finish.ensures.nothing_more
    c.in_err-finish.ensures.written in
    let prefix = written.prefix in
    (first.0, first.1, search rules)

pub returns-clause-prefix : goal.returns-clause-prefix
returns-clause-prefix g c =
    let first = c.put-status.ensures.first in
    let written =
    writes (c.new-sheet.ensures.page ∙ c.requires) c.new-sheet.ensures.out first.2 c.in_ok-finish.ensures.nothing_more
    c.in_ok-finish.ensures.written in
    let prefix = written.prefix in
    (first.0, first.1, search rules)
