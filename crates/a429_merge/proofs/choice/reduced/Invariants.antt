use Rattle.std.proofs.Common.{◌≡◌, take, fold}
use Rattle.a429_merge.specs.Choice.{reduced_by}
use Rattle.a429_merge.proofs.choice.reduced.Given as goal

abbrev pub invariant-loop-step : goal.invariant-loop-step
invariant-loop-step l = l.rest ≡ fold reduced_by l.fn.sum (take l.step-index l.basis)
