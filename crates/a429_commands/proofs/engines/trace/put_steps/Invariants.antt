use Rattle.std.proofs.Common.{◌≡◌, ◌+◌, List, length}
use Rattle.a429_word.specs.Sheet.{Says}
use Rattle.a429_record.specs.declared.entry.Entry.{Entry}
use Rattle.a429_parts.proofs.KeepingFacts.{Came}
use Rattle.a429_commands.specs.Trace.{first_lines}
use Rattle.a429_commands.proofs.TraceLines.{Traced}
use Rattle.a429_commands.proofs.engines.trace.put_steps.Given as goal

abbrev pub invariant-entries : goal.invariant-entries
invariant-entries g l = (es : List Entry) × Traced l.profile l.trace es × Came l.fn.rec.to_come es l.rec.to_come
    × (l.rec.count ≡ l.fn.rec.count + length es) × Says g.W.Write.contents l.fn.sheet l.sheet (first_lines l.profile es)

abbrev pub decreases-entries : goal.decreases-entries
decreases-entries g l = l.rec.room
