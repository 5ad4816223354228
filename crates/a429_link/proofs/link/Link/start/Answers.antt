use Rattle.std.proofs.Common.{sym, subst, arith, rules}
use Rattle.a429_link.specs.Link.{IsKept}
use Rattle.a429_link.proofs.LinkKept.{kept_start}
use Rattle.a429_link.proofs.link.Link.start.Goals as goal

pub invariant_of-result : goal.invariant_of-result
invariant_of-result c =
    subst (IsKept c.args.profile.now) (sym c.start.ensures.state)
    (kept_start c.args.profile.now c.args.first_file c.start.ensures.sound (omega (arith, c.ranges.first_file.fits)))

pub returns-clause-begins : goal.returns-clause-begins
returns-clause-begins c = search rules
