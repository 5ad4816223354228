use Rattle.std.proofs.Common.{◌≡◌, [], take, subst, sym, ◌∙◌, arith}
use Rattle.a429_search.proofs.RecordedFacts.{closed, closed_on, first_closed}
use Rattle.a429_search.proofs.attempts.first_request.Goals as goal

pub returns-then-is_some-clause-none : goal.returns-then-is_some-clause-none
returns-then-is_some-clause-none c = first_closed c.args.decoded.now.profile c.args.decoded.now.items c.loop-at.at c.loop-at.invariant

pub loop-at-preserved : goal.loop-at-preserved
loop-at-preserved c =
    closed_on c.args.decoded.now.profile c.args.decoded.now.items c.loop-at.at c.requested.result
    (omega (arith, c.loop-at-test.true, c.len-at-end.ensures)) c.requested.ensures (sym c.is_some.ensures ∙ c.if-is_some.false)
    ∙ c.loop-at.invariant

pub returns-clause-none : goal.returns-clause-none
returns-clause-none c =
    let end : c.loop-at.at ≡ c.len.result = omega (arith, c.loop-at-test.false, c.loop-at.auto, c.len.ensures, c.len-at-end.ensures) in
    first_closed c.args.decoded.now.profile c.args.decoded.now.items c.len.result
    (subst (λ k. closed c.args.decoded.now.profile (take k c.args.decoded.now.items) ≡ []) end c.loop-at.invariant)
