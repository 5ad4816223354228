use Rattle.std.proofs.Common.{◌≡◌, ◌++◌, ◌+◌, length, take}
use Rattle.a429_cert.specs.Stream.{GainsAll, sizes}
use Rattle.a429_cert.proofs.replay.put_all.Given as goal

abbrev pub invariant-loop-file : goal.invariant-loop-file
invariant-loop-file g l = record {
  gained : GainsAll (g.S.Shelf.files l.fn.shelf) (g.S.Shelf.files l.shelf) (length l.fn.notes.items + 1) (take l.file-index l.files);
  noted : l.notes.items ≡ l.fn.notes.items ++ sizes (take l.file-index l.files);
}
