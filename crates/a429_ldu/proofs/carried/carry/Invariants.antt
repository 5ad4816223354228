use Rattle.std.proofs.Common.{◌≡◌, ◌<◌, ◌≤◌, ◌+◌, ◌*◌, ◌++◌, Some, IfSome, take, length}
use Rattle.std.specs.Option.{option_to_list}
use Rattle.a429_ldu.specs.Semis.{semis_of_bytes}
use Rattle.a429_ldu.specs.Carried.{joined_to, semis_of_words}
use Rattle.a429_ldu.proofs.carried.carry.Given as goal

abbrev pub invariant-loop-word : goal.invariant-loop-word
invariant-loop-word l = record {
  semis : joined_to (Some (semis_of_bytes l.fn.bytes.items ++ option_to_list l.fn.low))
      (semis_of_words l.profile.codes (take l.word-index l.words)) ≡ Some (semis_of_bytes l.bytes.items ++ option_to_list l.waiting);
  low : IfSome l.waiting (λ digit. digit < 16);
  room : 2 * length l.bytes.items + length (option_to_list l.waiting) + 5 * length l.words ≤ 1265 + 5 * l.word-index;
}
