-- What memory keeps of parts (profile).
use Rattle.std.specs.Prelude.{ℕ, List, Vec}
use Rattle.std.specs.Global.{Global}
use Rattle.a429_parts.specs.declared.parts.Part.{Part}
use Rattle.a429_parts.specs.Parts.{NumberedPart}

abbrev pub part_in : Part → NumberedPart
part_in part = record { number = part.number; entries = part.rows }

abbrev pub bytes_in : Vec ℕ Global → List ℕ
bytes_in bytes = bytes.items
