use Rattle.std.proofs.Common.{◌∙◌}
use Rattle.a429_cert.specs.Likely.{pair_text}
use Rattle.a429_cert.proofs.LikelyFacts.{get-below}
use Rattle.a429_cert.proofs.likely.WordLines.pair.Goals as goal

pub returns : goal.returns
returns c =
    let text = c.as_slice.ensures ∙ (rw c.args.self.now.pairs_all at c.index.ensures)
    ∙ get-below pair_text 254 c.args.place c.index.result.now c.if-place-ge254.false in
    (text, c.if-place-ge254.false)
