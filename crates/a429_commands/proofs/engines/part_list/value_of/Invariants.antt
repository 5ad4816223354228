use Rattle.std.proofs.Common.{◌≡◌, ◌≤◌, ◌-◌, take, length}
use Rattle.std.specs.Str.Parse.{digits_value, AllDigits}
use Rattle.a429_commands.proofs.engines.part_list.value_of.Given as goal

abbrev pub invariant-digits : goal.invariant-digits
invariant-digits l = record {
  inside : l.len ≤ length l.digits;
  all : AllDigits 10 (take l.len l.digits);
  number : l.number ≡ digits_value 10 (take l.len l.digits);
}

abbrev pub decreases-digits : goal.decreases-digits
decreases-digits l = length l.digits - l.len
