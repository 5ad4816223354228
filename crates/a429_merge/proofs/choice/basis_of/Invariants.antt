use Rattle.std.proofs.Common.{take}
use Rattle.a429_merge.specs.Choice.{IsBasis}
use Rattle.a429_merge.proofs.choice.basis_of.Given as goal

abbrev pub invariant-loop-k : goal.invariant-loop-k
invariant-loop-k l = IsBasis l.columns l.basis.items (take l.k l.columns)
