use Rattle.std.proofs.Common.{◌∙◌, arith}
use Rattle.toml.specs.View.{view}
use Rattle.a429_profile.proofs.ValueArrays.{byte_of-between}
use Rattle.a429_profile.proofs.flags.bit_of.Goals as goal

pub returns-in-Some : goal.returns-in-Some
returns-in-Some c =
    let found = rw c.in-Some.is at c.at.ensures in
    let within = rw (← found) at c.requires in
    rw (← found) (c.byte.ensures ∙ byte_of-between 11 29 (view c.in-Some.value.now) (omega arith) within)
