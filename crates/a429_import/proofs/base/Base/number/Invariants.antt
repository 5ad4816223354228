-- the digits so far, and their number
use Rattle.std.proofs.Common.{◌≡◌, ◌<◌, ◌^◌, take}
use Rattle.std.specs.Str.Parse.{digits_value, AllDigits}
use Rattle.a429_import.specs.Base.{radix_of}
use Rattle.a429_import.proofs.base.Base.number.Given as goal

abbrev pub invariant-digits : goal.invariant-digits
invariant-digits l = record {
  number : l.number ≡ digits_value (radix_of l.fn.self) (take l.byte-index l.digits);
  digits : AllDigits (radix_of l.fn.self) (take l.byte-index l.digits);
  below : l.number < 2 ^ l.bits;
}
