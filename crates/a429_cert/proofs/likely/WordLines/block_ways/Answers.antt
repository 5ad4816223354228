use Rattle.std.proofs.Common.{◌∙◌, ap, sym, arith}
use Rattle.a429_cert.specs.Likely.{ways_fields}
use Rattle.a429_cert.proofs.LikelyFacts.{get-below}
use Rattle.a429_cert.proofs.likely.WordLines.block_ways.Goals as goal

pub returns-in-0 : goal.returns-in-0
returns-in-0 c =
    let few = c.if-taken-gt254.false in
    let text = c.as_slice.ensures ∙ (rw c.args.self.now.idle_all at c.index.ensures)
    ∙ get-below (ways_fields 0) 255 c.args.taken c.index.result.now (omega (arith, few))
    ∙ ap (λ n. ways_fields n c.args.taken) (sym c.in-0.is) in
    (text, few, omega (arith, c.in-0.is))

pub returns-in-1 : goal.returns-in-1
returns-in-1 c =
    let few = c.if-taken-gt254.false in
    let text = c.as_slice-in-1.ensures ∙ (rw c.args.self.now.busy_all at c.index-in-1.ensures)
    ∙ get-below (ways_fields 1) 255 c.args.taken c.index-in-1.result.now (omega (arith, few))
    ∙ ap (λ n. ways_fields n c.args.taken) (sym c.in-1.is) in
    (text, few, omega (arith, c.in-1.is))
