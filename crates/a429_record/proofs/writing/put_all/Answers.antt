use Rattle.std.proofs.Common.{◌∙◌, rules}
use Rattle.a429_word.proofs.SheetFacts.{◌▹◌, writes}
use Rattle.a429_record.proofs.writing.put_all.Goals as goal

pub returns-clause-written : goal.returns-clause-written
returns-clause-written g c =
    let text = c.put_header.ensures ▹ (c.put_lines.ensures ▹ (c.put.ensures ▹ c.put_lines-2.ensures)) in
    let written =
    writes (c.new-sheet.ensures.page ∙ c.requires) c.new-sheet.ensures.out text c.finish.ensures.nothing_more c.finish.ensures.written in
    search rules
