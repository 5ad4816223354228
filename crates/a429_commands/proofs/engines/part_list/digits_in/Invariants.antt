use Rattle.std.proofs.Common.{◌≤◌, ◌-◌, take, length}
use Rattle.std.specs.Str.Parse.{AllDigits}
use Rattle.a429_commands.proofs.engines.part_list.digits_in.Given as goal

abbrev pub invariant-digits : goal.invariant-digits
invariant-digits l = record {
  inside : l.len ≤ length l.text;
  digits : AllDigits 10 (take l.len l.text);
}

abbrev pub decreases-digits : goal.decreases-digits
decreases-digits l = length l.text - l.len
