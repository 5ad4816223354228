use Rattle.std.proofs.Common.{◌≡◌, map, take}
use Rattle.toml.specs.View.{view}
use Rattle.a429_profile.specs.Value.{byte_of}
use Rattle.a429_profile.proofs.value.bytes.Given as goal

abbrev pub invariant-loop-value : goal.invariant-loop-value
invariant-loop-value l = l.numbers.items ≡ map (λ v. byte_of (view v)) (take l.value-index l.values)
