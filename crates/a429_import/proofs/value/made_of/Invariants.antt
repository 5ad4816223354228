use Rattle.std.proofs.Common.{◌≡◌, map, take}
use Rattle.toml.specs.View.{view}
use Rattle.a429_profile.specs.Value.{text_of_value}
use Rattle.a429_import.proofs.value.made_of.Given as goal

abbrev pub invariant-loop-value : goal.invariant-loop-value
invariant-loop-value l = l.texts.items ≡ map (λ w. text_of_value (view w)) (take l.value-index l.values)
