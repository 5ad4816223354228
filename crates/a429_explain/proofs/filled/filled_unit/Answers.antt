use Rattle.std.proofs.Common.{◌≡◌, Option, IfOk, slice_range, subst, rules}
use Rattle.a429_ldu.specs.Ldu.{LduValue}
use Rattle.a429_explain.proofs.FilledFacts.{filled_is}
use Rattle.a429_explain.proofs.filled.filled_unit.Goals as goal

pub returns-clause-exact : goal.returns-clause-exact
returns-clause-exact c =
    let items = slice_range c.args.decoded.now.items c.args.request.group.from c.args.request.group.to in
    let same =
    filled_is c.args.decoded.now.profile c.profile-profile.result.now c.args.request.count c.first_gfi-gfi.result items c.has_end.result
    c.in_ok-is_odd.is_odd c.in_ok-words.words.items c.as_slice.result.now c.fill.new.words.items c.as_slice-2.result.now
    c.profile-profile.ensures.is c.has_end.ensures c.if-has_end.false c.in_ok-words.ensures.exact c.as_slice.ensures.value
    c.in_ok-is_odd.ensures c.as_slice-2.ensures.value c.in_ok-fill.ensures c.first_gfi-gfi.ensures.exact in
    subst (λ (x : Option LduValue). IfOk c.unit_filled.result (λ found. found ≡ x)) same c.unit_filled.ensures.exact

pub returns-then-has_end-clause-exact : goal.returns-then-has_end-clause-exact
returns-then-has_end-clause-exact c = search rules
