use Rattle.std.proofs.Common.{◌≡◌, ℕ, ◌+◌, ◌-◌, ◌<◌, length, get_or}
use Rattle.a429_word.specs.Word.{bit}
use Rattle.a429_view.proofs.word.bits.Given as goal

abbrev pub invariant-loop-i : goal.invariant-loop-i
invariant-loop-i l = record {
  len : length l.digit-items ≡ 32;
  digits : (k : ℕ) → k < l.i → get_or l.digit-items k 0 ≡ 48 + bit l.word (32 - k);
}
