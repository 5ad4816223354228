use Rattle.std.proofs.Common.{◌≡◌, ◌++◌, length, List}
use Rattle.a429_word.specs.Sheet.{Says}
use Rattle.a429_record.specs.declared.entry.Entry.{Entry}
use Rattle.a429_record.specs.Binary.{binary_form}
use Rattle.a429_record.proofs.packing.put_binary.Given as goal

abbrev pub invariant-groups : goal.invariant-groups
invariant-groups g l =
    (front : List Entry) × (l.fn.entries ≡ front ++ l.rest) × Says g.W.Write.contents l.fn.sheet l.sheet (binary_form front)

abbrev pub decreases-groups : goal.decreases-groups
decreases-groups g l = length l.rest
