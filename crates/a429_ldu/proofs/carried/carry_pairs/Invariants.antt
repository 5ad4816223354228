use Rattle.std.proofs.Common.{◌≤◌, ◌+◌, ◌*◌, ◌-◌, None, take, length}
use Rattle.a429_ldu.specs.Carried.{AddSemis, semis_held}
use Rattle.a429_ldu.proofs.carried.carry_pairs.Given as goal

abbrev pub invariant-pairs : goal.invariant-pairs
invariant-pairs l = record {
  within : l.at ≤ length l.words;
  room : 2 * length l.bytes.items ≤ 2 * length l.fn.bytes.items + 5 * l.at;
  semis : AddSemis l.profile.codes (take l.at l.words) (semis_held l.fn.bytes.items None) (semis_held l.bytes.items None);
}

abbrev pub decreases-pairs : goal.decreases-pairs
decreases-pairs l = length l.words - l.at
