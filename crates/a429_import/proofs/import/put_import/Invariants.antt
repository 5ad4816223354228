use Rattle.std.proofs.Common.{◌≡◌, ◌+◌, ◌≤◌, List, length, false}
use Rattle.a429_word.specs.Sheet.{Says}
use Rattle.a429_word.specs.Tally.{has_failed, left_of, unread}
use Rattle.a429_record.specs.Lines.{pending_of, room_of}
use Rattle.a429_import.specs.declared.lot.Lot.{Lot}
use Rattle.a429_import.specs.Importing.{AreImported, lots_text}
use Rattle.a429_import.proofs.ImportFacts.{Gave}
use Rattle.a429_import.proofs.import.put_import.Given as goal

abbrev pub invariant-lines : goal.invariant-lines
invariant-lines g l = record {
  lots : List Lot;
  says : Says g.W.Write.contents l.fn.sheet l.sheet (lots_text lots);
  counted : AreImported l.import lots;
  gave : Gave l.map (unread g.R.Read.remaining l.fn.export) lots l.progress (pending_of g.R.Read.remaining l.lines l.export);
  few : length lots + room_of l.lines l.export ≤ left_of l.fn.export;
  count : l.progress.lines ≡ length lots;
  works : has_failed l.export ≡ false;
}

abbrev pub decreases-lines : goal.decreases-lines
decreases-lines g l = room_of l.lines l.export
