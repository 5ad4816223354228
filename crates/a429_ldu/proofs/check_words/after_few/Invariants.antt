use Rattle.std.proofs.Common.{◌≡◌, take, fold}
use Rattle.std.specs.List.{flat_map}
use Rattle.a429_profile.specs.CheckTables.{turned, fed_down}
use Rattle.a429_ldu.specs.CheckWord.{fed_bits}
use Rattle.a429_ldu.proofs.check_words.after_few.Given as goal

abbrev pub invariant-loop-byte : goal.invariant-loop-byte
invariant-loop-byte l =
    l.register ≡ fold (fed_down (turned l.check.poly)) l.start (flat_map (fed_bits l.low_first) (take l.byte-index l.bytes))
