use Rattle.std.proofs.Common.{◌++◌, length, rules}
use Rattle.a429_parts.specs.Parts.{joined}
use Rattle.a429_word.proofs.SheetFacts.{says_nothing}
use Rattle.a429_parts.proofs.PartsFacts.{progress_more, same_parts, stopped}
use Rattle.a429_parts.proofs.parting.Parting.put_and_end.Goals as goal

pub returns-in_default-clause-err : goal.returns-in_default-clause-err
returns-in_default-clause-err g c p most at_end known first es fault reason few h =
    stopped g.W.Write.contents p most known first es at_end (g.P.Parts.known c.args.parts.now) (g.P.Parts.known c.args.parts.now)
    c.args.sheet.now c.args.sheet.now c.args.self.now fault h few (same_parts (g.P.Parts.known c.args.parts.now))
    (says_nothing g.W.Write.contents c.args.sheet.now) (λ more left. reason (es ++ more) (length (joined h.parts)))

pub returns-in-Ok-clause-ok : goal.returns-in-Ok-clause-ok
returns-in-Ok-clause-ok g c p most at_end known first es ends h =
    let same = c.put.ensures.same.0 in
    let part = c.requires.part in
    progress_more g.W.Write.contents p most known first es at_end (g.P.Parts.known c.args.parts.now) (g.P.Parts.known c.put.new.parts)
    c.args.sheet.now c.put.new.sheet c.args.size c.args.self.now _ h ends (c.end_part.ensures.reach) (c.end_part.ensures.begin) part
    (rw same at c.end_part.ensures.waits) (rw same at c.end_part.ensures.most.0) (search rules) c.in-Ok.ensures.ok.2
    (λ parted rest cuts. rw same at (c.end_part.ensures.cuts p parted rest (rw same cuts))) c.in-Ok.ensures.ok.0 c.in-Ok.ensures.ok.1

pub returns-in-Err-clause-err : goal.returns-in-Err-clause-err
returns-in-Err-clause-err g c p most at_end known first es fault reason few h =
    stopped g.W.Write.contents p most known first es at_end (g.P.Parts.known c.args.parts.now) (g.P.Parts.known c.put.new.parts)
    c.args.sheet.now c.put.new.sheet c.args.self.now fault h few c.in-Err.ensures.err.0 c.in-Err.ensures.err.1
    (λ more left. reason (es ++ more) (length (joined h.parts)))
