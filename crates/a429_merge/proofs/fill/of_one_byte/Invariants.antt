use Rattle.std.proofs.Common.{ℕ, ◌<◌, [], ◌∷◌, ◌++◌}
use Rattle.a429_merge.specs.Fill.{CanBeFilled, data_word}
use Rattle.a429_merge.proofs.fill.of_one_byte.Given as goal

abbrev pub invariant-loop-last : goal.invariant-loop-last
invariant-loop-last l = (last : ℕ)
    → last < l.last → ¬ CanBeFilled l.profile 2 l.wanted.check (l.recorded ++ data_word l.profile.codes (last ∷ []) ∷ [])
