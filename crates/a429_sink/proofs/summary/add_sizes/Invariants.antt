use Rattle.std.proofs.Common.{◌≡◌, ◌++◌, take}
use Rattle.a429_link.specs.Implied.{sizes_of}
use Rattle.a429_sink.proofs.summary.add_sizes.Given as goal

abbrev pub invariant-loop-file : goal.invariant-loop-file
invariant-loop-file l = l.sizes.items ≡ l.fn.sizes.items ++ sizes_of (take l.file-index l.files)
