use Rattle.std.proofs.Common.{◌≡◌, ◌++◌, ◌*◌, ◌-◌, ◌≤◌, ◌+◌, length}
use Rattle.a429_ldu.specs.Filling.{data_words}
use Rattle.a429_ldu.proofs.FillingDigits.{words_from}
use Rattle.a429_ldu.proofs.filling.add_words.Given as goal

abbrev pub invariant-loop-at : goal.invariant-loop-at
invariant-loop-at l = record {
  words : l.words.items ++ words_from l.profile.codes l.bytes l.at ≡ l.fn.words.items ++ data_words l.profile.codes l.bytes;
  at : l.at ≤ 2 * length l.bytes + 4;
}

abbrev pub decreases-loop-at : goal.decreases-loop-at
decreases-loop-at l = 2 * length l.bytes + 5 - l.at
