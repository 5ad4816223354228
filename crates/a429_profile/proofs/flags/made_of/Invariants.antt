use Rattle.std.proofs.Common.{◌≡◌, map, take}
use Rattle.toml.specs.View.{view}
use Rattle.a429_profile.specs.Value.{flag_of}
use Rattle.a429_profile.proofs.flags.made_of.Given as goal

abbrev pub invariant-loop-value : goal.invariant-loop-value
invariant-loop-value l = l.flags.items ≡ map (λ w. flag_of (view w)) (take l.value-index l.values)
