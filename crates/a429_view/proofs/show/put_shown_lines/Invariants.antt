use Rattle.std.proofs.Common.{◌≡◌, ◌++◌, List}
use Rattle.std.specs.Slice.Iter.{chunks_rest, chunks_size}
use Rattle.a429_record.specs.declared.entry.Entry.{Entry}
use Rattle.a429_word.specs.Sheet.{SaysSome}
use Rattle.a429_view.specs.Show.{AreShowLines}
use Rattle.a429_view.proofs.show.put_shown_lines.Given as goal

abbrev pub invariant-loop-piece : goal.invariant-loop-piece
invariant-loop-piece g l =
    (goal.iterator-loop-piece g).can_next l.piece-iterator
    × (goal.iterator-loop-piece g).is_finite l.piece-iterator
    × (chunks_size l.piece-iterator ≡ 256)
    × (done : List Entry) × (done ++ chunks_rest l.piece-iterator ≡ l.entries)
    × SaysSome g.W.Write.contents l.initial.sheet l.sheet (AreShowLines l.profile done)
