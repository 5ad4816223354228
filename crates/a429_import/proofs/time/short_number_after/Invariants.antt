-- the digits so far, and room for those to come
use Rattle.std.proofs.Common.{◌≡◌, ◌≤◌, ◌+◌, ◌-◌, ◌*◌, ◌^◌, length, take}
use Rattle.std.specs.Str.Parse.{digits_value_after}
use Rattle.a429_import.proofs.time.short_number_after.Given as goal

abbrev pub invariant-digits : goal.invariant-digits
invariant-digits l = record {
  number : l.number ≡ digits_value_after 10 l.fn.before (take l.byte-index l.digits);
  room : (l.number + 1) * 10 ^ (length l.digits - l.byte-index) ≤ (l.fn.before + 1) * 10 ^ length l.digits;
}
