use Rattle.std.proofs.Common.{◌≡◌, drop}
use Rattle.a429_import.specs.Fields.{fields_left}
use Rattle.a429_import.specs.Row.{part_values, word_after}
use Rattle.a429_import.proofs.row.Row.word.Given as goal

abbrev pub invariant-loop-k : goal.invariant-loop-k
invariant-loop-k l =
    word_after 0 0 (part_values l.self.map.now.parts l.self.columns.now.parts (fields_left l.self.fields))
    ≡ word_after l.k l.word (part_values (drop l.k l.self.map.now.parts) (drop l.k l.self.columns.now.parts) (fields_left l.self.fields))
