use Rattle.std.proofs.Common.{map}
use Rattle.a429_link.proofs.CleanFiles.{AreFiles}
use Rattle.a429_link.proofs.clean.clean_run.Given as goal

abbrev pub invariant-loop-k : goal.invariant-loop-k
invariant-loop-k l = AreFiles l.profile l.max_words l.first_file l.number l.k (map (λ f. f.items) l.files) l.run.items
