use Rattle.std.proofs.Common.{◌≡◌, drop}
use Rattle.a429_commands.specs.History.{history_status}
use Rattle.a429_commands.proofs.engines.history.status_of.Given as goal

abbrev pub invariant-loop-place : goal.invariant-loop-place
invariant-loop-place l = history_status (drop l.place l.told) ≡ history_status l.told
