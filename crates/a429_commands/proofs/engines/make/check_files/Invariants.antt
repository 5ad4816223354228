use Rattle.std.proofs.Common.{map}
use Rattle.a429_commands.proofs.MakeCounted.{AreCounted}
use Rattle.a429_commands.proofs.engines.make.check_files.Given as goal

abbrev pub invariant-loop-k : goal.invariant-loop-k
invariant-loop-k l = AreCounted (map (λ f. f.items) l.files) l.k l.count
