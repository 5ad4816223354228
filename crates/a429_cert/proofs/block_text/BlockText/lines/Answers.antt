use Rattle.std.proofs.Common.{◌≡◌, ◌∙◌, ◌+◌, arith}
use Rattle.a429_cert.specs.BlockText.{start_of}
use Rattle.a429_cert.proofs.BlockTextFacts.{starts_ordered, ends_inside, lines_between}
use Rattle.a429_cert.proofs.LikelyFacts.{get-below}
use Rattle.a429_cert.proofs.block_text.BlockText.lines.Goals as goal
use Rattle.a429_cert.proofs.block_text.BlockText.lines.Goals.{After-deref}

from_is : (c : After-deref) → c.index-from.result.now ≡ start_of c.args.place
from_is c = (rw c.args.self.now.parts at c.index-from.ensures)
    ∙ get-below start_of 255 c.args.place c.index-from.result.now (omega (arith, c.requires))

to_is : (c : After-deref) → c.index-to.result.now ≡ start_of (c.args.place + c.args.words)
to_is c = (rw c.args.self.now.parts at c.index-to.ensures)
    ∙ get-below start_of 255 (c.args.place + c.args.words) c.index-to.result.now (omega (arith, c.requires))

pub part-requires-clause-ordered : goal.part-requires-clause-ordered
part-requires-clause-ordered c = starts_ordered c.args.place c.args.words _ _ (from_is c) (to_is c)

pub part-requires-clause-inside : goal.part-requires-clause-inside
part-requires-clause-inside c =
    ends_inside (c.args.place + c.args.words) _ c.deref.result.now c.requires (c.deref.ensures.value ∙ c.args.self.now.whole) (to_is c)

pub returns : goal.returns
returns c = c.part.ensures ∙ lines_between c.args.place c.args.words _ _ c.deref.result.now c.requires
    (c.deref.ensures.value ∙ c.args.self.now.whole) (from_is (goal.at.returns c).After-deref) (to_is (goal.at.returns c).After-deref)
