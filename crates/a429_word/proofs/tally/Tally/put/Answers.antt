use Rattle.std.proofs.Common.{rules}
use Rattle.std.proofs.lemmas.List.{take_rest}
use Rattle.std.proofs.Math.Seq.{take-add}
use Rattle.std.proofs.KnownBytes.{Appends-trans}
use Rattle.a429_word.proofs.tally.Tally.put.Goals as goal

pub loop-at-preserved : goal.loop-at-preserved
loop-at-preserved g c =
    let grown = rw take_rest at c.in-Ok.ensures.bytes in
    (search rules, search rules, search rules, rw take-add (Appends-trans _ _ _ _ _ c.loop-at.invariant.3 grown))
