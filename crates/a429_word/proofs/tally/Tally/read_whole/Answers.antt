-- what was read so far and what this read gave stand one after the other
use Rattle.std.proofs.Common.{◌≤◌, length, rules, arith}
use Rattle.std.proofs.KnownBytes.{Consumes-trans}
use Rattle.a429_word.proofs.TallySlices.{take-put_mid_within, length-put_mid_within}
use Rattle.a429_word.proofs.tally.Tally.read_whole.Goals as goal

pub loop-at-preserved : goal.loop-at-preserved
loop-at-preserved g c =
    let inside : c.loop-at.at ≤ length c.loop-at.buf = c.loop-at.invariant.0 in
    let few : c.in-Ok.n ≤ length c.pull.new.buf = c.in-Ok.ensures.bound.0 in (
      length-put_mid_within c.loop-at.at _ c.in-Ok.n c.loop-at.buf c.pull.new.buf inside few,
      search rules,
      omega (arith, c.in-Ok.ensures.left, c.loop-at.invariant.2),
      rw (take-put_mid_within c.loop-at.at _ c.in-Ok.n c.loop-at.buf c.pull.new.buf inside few)
          (Consumes-trans _ _ _ _ _ c.loop-at.invariant.3 c.in-Ok.ensures.bytes.0),
    )

pub returns-in-Ok-eq0-clause-bytes : goal.returns-in-Ok-eq0-clause-bytes
returns-in-Ok-eq0-clause-bytes g c = tt

pub returns-in-Ok-eq0-clause-left : goal.returns-in-Ok-eq0-clause-left
returns-in-Ok-eq0-clause-left g c = tt

pub returns-in-Ok-eq0-clause-falls : goal.returns-in-Ok-eq0-clause-falls
returns-in-Ok-eq0-clause-falls g c = omega (arith, c.in-Ok-eq0.ensures.left, c.loop-at.invariant.2)
