use Rattle.std.proofs.Common.{length, take, ◌-◌, ◌+◌, ◌≡◌, ◌≤◌, false}
use Rattle.std.specs.Io.KnownBytes.{Consumes}
use Rattle.a429_word.specs.Tally.{inner_of, left_of, has_failed}
use Rattle.a429_word.proofs.tally.Tally.read_whole.Given as goal

abbrev pub invariant-loop-at : goal.invariant-loop-at
invariant-loop-at g l = (l.at ≤ length l.buf)
    × (has_failed l.self ≡ false)
    × (left_of l.self + l.at ≡ left_of l.initial.self)
    × Consumes (g.R.Read.remaining (inner_of l.initial.self)) (g.R.Read.remaining (inner_of l.self)) (take l.at l.buf)

abbrev pub decreases-loop-at : goal.decreases-loop-at
decreases-loop-at g l = length l.initial.buf - l.at
