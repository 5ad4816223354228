use Rattle.a429_cert.proofs.FieldDigits.{IsRead}
use Rattle.a429_cert.proofs.field.hex_digits_of.Given as goal

abbrev pub invariant-loop-byte : goal.invariant-loop-byte
invariant-loop-byte l = IsRead l.byte-index l.number l.text
