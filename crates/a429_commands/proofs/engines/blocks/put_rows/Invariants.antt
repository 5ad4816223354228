use Rattle.std.proofs.Common.{◌≡◌, ◌+◌, List, length, []}
use Rattle.a429_record.specs.declared.entry.Entry.{Entry}
use Rattle.a429_parts.proofs.KeepingFacts.{Came}
use Rattle.a429_view.specs.Blocks.{PutsOnTo, begun_text}
use Rattle.a429_commands.proofs.BlocksRows.{Blocked}
use Rattle.a429_commands.proofs.engines.blocks.put_rows.Given as goal

abbrev pub invariant-entries : goal.invariant-entries
invariant-entries g l =
    (es : List Entry) × Blocked l.profile l.blocks es × Came l.fn.rec.to_come es l.rec.to_come × (l.rec.count ≡ l.fn.rec.count + length es)
    × PutsOnTo g.W.Write.contents l.fn.sheet l.sheet (begun_text l.profile []) (begun_text l.profile es)

abbrev pub decreases-entries : goal.decreases-entries
decreases-entries g l = l.rec.room
