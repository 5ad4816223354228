use Rattle.std.proofs.Common.{◌≡◌, ◌++◌, ◌≤◌, length}
use Rattle.a429_ldu.specs.Filling.{data_words}
use Rattle.a429_ldu.proofs.filling.data_words.Given as goal

abbrev pub invariant-loop-rest : goal.invariant-loop-rest
invariant-loop-rest l = record {
  words : l.words.items ++ data_words l.profile.codes l.rest ≡ data_words l.profile.codes l.bytes;
  most : length l.rest ≤ 632;
}

abbrev pub decreases-loop-rest : goal.decreases-loop-rest
decreases-loop-rest l = length l.rest
