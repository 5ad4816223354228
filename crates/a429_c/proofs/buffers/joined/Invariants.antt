use Rattle.std.proofs.Common.{◌≡◌, take}
use Rattle.a429_c.specs.Buffers.{bytes_of}
use Rattle.a429_c.proofs.buffers.joined.Given as goal

abbrev pub invariant-loop-file : goal.invariant-loop-file
invariant-loop-file l = l.bytes.items ≡ bytes_of (take l.file-index l.files)
