use Rattle.std.proofs.Common.{◌≡◌, ◌-◌, ◌<◌, ◌≤◌, None}
use Rattle.a429_search.specs.Frontier.{FitsSome, IsRefused}
use Rattle.a429_search.proofs.searching.Carrier.misfit.Given as goal

abbrev pub invariant-halving : goal.invariant-halving
invariant-halving l = record {
  low : l.from ≤ l.fits;
  order : l.fits < l.refused;
  high : l.refused ≤ l.to;
  known : l.cut ≡ None → FitsSome l.decoded.profile l.decoded.items l.hypotheses l.from l.fits;
  refused : IsRefused l.decoded.profile l.decoded.items l.hypotheses l.from l.refused;
}

abbrev pub decreases-halving : goal.decreases-halving
decreases-halving l = l.refused - l.fits
