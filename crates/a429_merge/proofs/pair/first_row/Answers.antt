use Rattle.std.proofs.Common.{◌≡◌, ◌+◌, ◌∙◌, length, arith}
use Rattle.a429_merge.proofs.PairFacts.{row_none}
use Rattle.a429_merge.proofs.pair.first_row.Goals as goal

pub returns : goal.returns
returns c =
    let all : c.loop-n.n ≡ length c.args.right.now + 1 = omega arith in
    row_none c.args.right.now c.loop-n.row.items (c.loop-n.invariant.long ∙ all) (λ k l. c.loop-n.invariant.each k (omega arith))
