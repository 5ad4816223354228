use Rattle.std.proofs.Common.{◌∙◌, sym, arith}
use Rattle.a429_profile.proofs.Turns.{bit_after-next, bit_after-here}
use Rattle.a429_profile.proofs.clash.bit_twin.Goals as goal

pub returns-then-has_twin : goal.returns-then-has_twin
returns-then-has_twin c =
    sym (bit_after-here c.args.label c.args.flags.now c.loop-i.i c.index-flags-i.result (omega arith) c.index-flags-i.is
    (sym c.has_twin.ensures ∙ c.if-has_twin.true))
    ∙ c.loop-i.invariant

pub loop-i-preserved : goal.loop-i-preserved
loop-i-preserved c =
    sym (bit_after-next c.args.label c.args.flags.now c.loop-i.i c.index-flags-i.result (omega arith) c.index-flags-i.is
    (sym c.has_twin.ensures ∙ c.if-has_twin.false))
    ∙ c.loop-i.invariant
