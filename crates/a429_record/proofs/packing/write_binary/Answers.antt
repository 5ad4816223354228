use Rattle.std.proofs.Common.{◌∙◌, rules}
use Rattle.a429_word.proofs.SheetFacts.{writes}
use Rattle.a429_record.proofs.packing.write_binary.Goals as goal

pub returns-clause-written : goal.returns-clause-written
returns-clause-written g c =
    let written =
    writes (c.new-sheet.ensures.page ∙ c.without_room-page.ensures) c.new-sheet.ensures.out c.put_binary.ensures
    c.finish.ensures.nothing_more c.finish.ensures.written in
    search rules
