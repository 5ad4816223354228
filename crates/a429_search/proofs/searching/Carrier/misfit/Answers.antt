use Rattle.std.proofs.Common.{◌≡◌, ◌+◌, Ok, ap, arith, subst}
use Rattle.a429_search.specs.Frontier.{IsRefused}
use Rattle.a429_search.proofs.searching.Carrier.misfit.Goals as goal

pub halving-preserved-in-None : goal.halving-preserved-in-None
halving-preserved-in-None c =
    let old = c.halving.invariant in
    let more = c.halving-test.true in
    record {
      low = old.low;
      order = omega (arith, more, old.order);
      high = omega (arith, more, old.order, old.high);
      known = old.known;
      refused = c.in_ok-fits.ensures.refused (ap Ok c.in-None.is);
    }

pub returns-clause-refused : goal.returns-clause-refused
returns-clause-refused c =
    let last : c.halving.refused ≡ c.halving.fits + 1 = omega (arith, c.halving-test.false, c.halving.invariant.order) in
    subst (IsRefused c.args.decoded.now.profile c.args.decoded.now.items c.args.hypotheses.now c.args.from) last c.halving.invariant.refused
