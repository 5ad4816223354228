use Rattle.std.proofs.Common.{◌≤◌, Some, None, IfSome, sym, ◌∙◌, subst}
use Rattle.a429_explain.proofs.FilledFacts.{gfi_next}
use Rattle.a429_explain.proofs.filled.first_gfi.Goals as goal

pub returns-in-Some-clause-exact : goal.returns-in-Some-clause-exact
returns-in-Some-clause-exact c =
    sym (c.loop-at.invariant ∙ gfi_next c.args.decoded.now.profile.codes c.args.decoded.now.items c.loop-at.at c.args.group.to c.word.result
    (Some c.in-Some.gfi) c.loop-at-test.true c.word.ensures.is (sym c.in-Some.is ∙ c.gfi_of.ensures.exact))

pub returns-in-Some-clause-fits : goal.returns-in-Some-clause-fits
returns-in-Some-clause-fits c = subst (λ o. IfSome o (λ gfi. gfi ≤ 15)) c.in-Some.is (c.gfi_of.ensures.fits c.word.ensures.range)

pub loop-at-preserved : goal.loop-at-preserved
loop-at-preserved c = c.loop-at.invariant
    ∙ gfi_next c.args.decoded.now.profile.codes c.args.decoded.now.items c.loop-at.at c.args.group.to c.word.result None c.loop-at-test.true
    c.word.ensures.is (sym c.in_default.is ∙ c.gfi_of.ensures.exact)
