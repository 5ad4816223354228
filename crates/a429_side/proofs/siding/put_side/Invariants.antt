use Rattle.std.proofs.Common.{◌≡◌, ◌+◌, ◌<◌, ◌^◌, List, length, IfSome, Ok, None, false}
use Rattle.a429_word.specs.Sheet.{Says}
use Rattle.a429_record.specs.declared.entry.Entry.{Entry}
use Rattle.a429_record.specs.Rows.{entries_in}
use Rattle.a429_record.specs.Writing.{IsLineOf}
use Rattle.a429_parts.proofs.KeepingFacts.{Gave, left_with}
use Rattle.a429_side.specs.Counts.{AreCounts}
use Rattle.a429_side.specs.Side.{lots_of}
use Rattle.a429_side.specs.Siding.{side_text}
use Rattle.a429_side.proofs.SideFacts.{turn_of}
use Rattle.a429_side.proofs.siding.put_side.Given as goal

abbrev pub invariant-entries : goal.invariant-entries
invariant-entries g l = record {
  entries : List Entry;
  says : Says g.W.Write.contents l.fn.sheet l.sheet (side_text l.profile.codes l.side entries);
  counted : AreCounts l.counts (lots_of l.profile.codes l.side entries);
  last : l.last ≡ turn_of l.profile.codes l.side entries;
  gave : Gave l.fn.rec.to_come entries l.rec.to_come (Ok l.next);
  count : l.rec.count ≡ l.fn.rec.count + length entries + entries_in (Ok l.next);
  few : IfSome l.next (λ _. l.rec.count < 2 ^ 64);
  works : l.next ≡ None → l.rec.failed ≡ false;
  line : IfSome l.next (IsLineOf l.line);
}

abbrev pub decreases-entries : goal.decreases-entries
decreases-entries g l = left_with l.next l.rec.room
