use Rattle.a429_merge.proofs.FillFacts.{whole}
use Rattle.a429_merge.proofs.fill.filled_in_front.Goals as goal

pub returns-then-branch-clause-some : goal.returns-then-branch-clause-some
returns-then-branch-clause-some c =
    whole c.args.profile.now c.args.wanted.check c.args.wanted.count c.args.recorded.now c.in_ok-from_slice.field-0.items
    c.in_ok-from_slice.ensures.items c.if-recorded-wanted-2.true (c.in_ok-fits.ensures.0 c.if-branch.true)
