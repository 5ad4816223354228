use Rattle.std.proofs.Common.{sym, ◌∙◌, arith}
use Rattle.a429_explain.proofs.GroupsFacts.{starts_here, starts_later}
use Rattle.a429_explain.proofs.groups.group_start.Goals as goal

pub returns-in-Some : goal.returns-in-Some
returns-in-Some c =
    sym (c.loop-at.invariant ∙ starts_here c.args.roles.now c.loop-at.at c.args.group.to _ c.in-Some.start c.loop-at-test.true
    (omega (arith, c.loop-at-test.true, c.requires)) (sym c.start_of.ensures ∙ c.in-Some.is))

pub loop-at-preserved : goal.loop-at-preserved
loop-at-preserved c = c.loop-at.invariant ∙ starts_later c.args.roles.now c.loop-at.at c.args.group.to _ c.loop-at-test.true
    (omega (arith, c.loop-at-test.true, c.requires)) (sym c.start_of.ensures ∙ c.in_default.is)
