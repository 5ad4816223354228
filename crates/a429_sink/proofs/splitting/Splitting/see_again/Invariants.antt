use Rattle.std.proofs.Common.{◌-◌, List, length, Bool, Option}
use Rattle.a429_record.specs.declared.entry.Entry.{Entry}
use Rattle.a429_sink.specs.Pieces.{PutPieces}
use Rattle.a429_sink.specs.Splitting.{Replays}
use Rattle.a429_sink.proofs.splitting.Splitting.see_again.Given as goal

abbrev pub invariant-entries : goal.invariant-entries
invariant-entries l = (at_end : Bool) (first now : Option PutPieces) (es : List Entry)
    → Replays l.profile at_end first now es 0 l.fn.self → Replays l.profile at_end first now es l.next l.self

abbrev pub decreases-entries : goal.decreases-entries
decreases-entries l = length l.self.held.items - l.next
