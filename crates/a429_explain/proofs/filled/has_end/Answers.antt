use Rattle.std.proofs.Common.{true, false, sym, ◌∙◌}
use Rattle.a429_explain.proofs.FilledFacts.{end_next}
use Rattle.a429_explain.proofs.filled.has_end.Goals as goal

pub returns-then-is_end : goal.returns-then-is_end
returns-then-is_end c =
    sym (c.loop-at.invariant ∙ end_next c.args.decoded.now.profile.codes c.args.decoded.now.items c.loop-at.at c.args.group.to c.word.result
    true c.loop-at-test.true c.word.ensures.is (sym c.if-is_end.true ∙ c.is_end.ensures))

pub loop-at-preserved : goal.loop-at-preserved
loop-at-preserved c = c.loop-at.invariant
    ∙ end_next c.args.decoded.now.profile.codes c.args.decoded.now.items c.loop-at.at c.args.group.to c.word.result false
    c.loop-at-test.true c.word.ensures.is (sym c.if-is_end.false ∙ c.is_end.ensures)
