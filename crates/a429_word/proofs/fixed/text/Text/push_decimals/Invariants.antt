use Rattle.std.proofs.Common.{◌≡◌, ◌≤◌, ◌+◌, ◌-◌, ◌/◌, ◌^◌, ◌++◌, length}
use Rattle.a429_word.specs.Digits.{numeral}
use Rattle.a429_word.proofs.fixed.text.Text.push_decimals.Given as goal

abbrev pub invariant-loop-left : goal.invariant-loop-left
invariant-loop-left l = record {
  few : l.left ≤ l.count;
  text : numeral 10 l.left l.rest ++ l.self ≡ numeral 10 l.count l.number ++ l.fn.self;
  rest : l.rest ≡ l.number / 10 ^ (l.count - l.left);
  len : length l.self + l.left ≡ length l.fn.self + l.count;
}

abbrev pub decreases-loop-left : goal.decreases-loop-left
decreases-loop-left l = l.left
