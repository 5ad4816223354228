use Rattle.std.proofs.Common.{◌≡◌, drop, All}
use Rattle.a429_import.specs.Part.{IsSoundPart}
use Rattle.a429_import.specs.Parts.{is_in_part}
use Rattle.a429_import.proofs.parts.is_in_part.Given as goal

abbrev pub invariant-loop-part : goal.invariant-loop-part
invariant-loop-part l = record {
  rest : is_in_part (drop l.part-index l.parts) l.bit ≡ is_in_part l.parts l.bit;
  sound : All IsSoundPart (drop l.part-index l.parts);
}
