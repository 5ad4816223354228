use Rattle.std.proofs.Common.{◌≡◌, ◌≤◌, ◌-◌, take, length}
use Rattle.std.specs.Str.Parse.{digits_value, AllDigits}
use Rattle.a429_record.proofs.plain.leading_number.Given as goal

abbrev pub invariant-digits : goal.invariant-digits
invariant-digits l = record {
  inside : l.len ≤ length l.bytes;
  few : l.len ≤ 19;
  digits : AllDigits 10 (take l.len l.bytes);
  number : l.number ≡ digits_value 10 (take l.len l.bytes);
}

abbrev pub decreases-digits : goal.decreases-digits
decreases-digits l = 19 - l.len
