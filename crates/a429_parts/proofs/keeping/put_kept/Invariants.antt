use Rattle.std.proofs.Common.{◌≡◌, ◌+◌, List, length, IfSome, Ok, None, false}
use Rattle.a429_word.specs.Sheet.{Says}
use Rattle.a429_record.specs.declared.entry.Entry.{Entry}
use Rattle.a429_record.specs.Rows.{entries_in}
use Rattle.a429_record.specs.Writing.{IsLineOf}
use Rattle.a429_parts.specs.Keeping.{kept_text}
use Rattle.a429_parts.proofs.KeepingFacts.{Gave, left_with}
use Rattle.a429_parts.proofs.keeping.put_kept.Given as goal

abbrev pub invariant-entries : goal.invariant-entries
invariant-entries g l = record {
  entries : List Entry;
  says : Says g.W.Write.contents l.fn.sheet l.sheet (kept_text l.profile.codes entries);
  gave : Gave l.fn.rec.to_come entries l.rec.to_come (Ok l.next);
  count : l.rec.count ≡ l.fn.rec.count + length entries + entries_in (Ok l.next);
  works : l.next ≡ None → l.rec.failed ≡ false;
  line : IfSome l.next (IsLineOf l.line);
}

abbrev pub decreases-entries : goal.decreases-entries
decreases-entries g l = left_with l.next l.rec.room
