use Rattle.std.proofs.Common.{◌≡◌, ◌<◌, ◌++◌, IfSome, take}
use Rattle.std.specs.Option.{option_to_list}
use Rattle.a429_ldu.specs.Semis.{semis_of_bytes}
use Rattle.a429_ldu.proofs.carried.push_semis.Given as goal

abbrev pub invariant-loop-digit : goal.invariant-loop-digit
invariant-loop-digit l = record {
  bytes : semis_of_bytes l.bytes.items ++ option_to_list l.waiting ≡ (semis_of_bytes l.fn.bytes.items ++ option_to_list l.fn.low)
      ++ take l.digit-index l.semis;
  low : IfSome l.waiting (λ digit. digit < 16);
}
