use Rattle.std.proofs.Common.{◌≡◌, fold, length}
use Rattle.std.specs.List.{flat_map}
use Rattle.a429_profile.specs.CheckTables.{turned, fed_down}
use Rattle.a429_ldu.specs.CheckWord.{fed_bits}
use Rattle.a429_ldu.proofs.check_words.after_bytes.Given as goal

abbrev pub invariant-loop-rest : goal.invariant-loop-rest
invariant-loop-rest l =
    fold (fed_down (turned l.check.poly)) l.register (flat_map (fed_bits l.low_first) l.rest)
    ≡ fold (fed_down (turned l.check.poly)) l.start (flat_map (fed_bits l.low_first) l.bytes)

abbrev pub decreases-loop-rest : goal.decreases-loop-rest
decreases-loop-rest l = length l.rest
