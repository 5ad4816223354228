use Rattle.a429_word.proofs.SheetFacts.{◌▹◌}
use Rattle.a429_explain.proofs.note.put_note.Goals as goal

pub returns-in-Pair : goal.returns-in-Pair
returns-in-Pair g c =
    rw c.in-Pair.is ((rw c.number-in-Pair.ensures at c.put_word.ensures) ▹ (rw c.number-in-Pair-2.ensures at c.put_word-in-Pair.ensures))

pub returns-in-Moves : goal.returns-in-Moves
returns-in-Moves g c = rw c.in-Moves.is (c.put_move.ensures ▹ c.put_likely.ensures)
