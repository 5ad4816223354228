use Rattle.std.proofs.Common.{refl}
use Rattle.a429_search.proofs.groups.unit_found.Goals as goal

pub returns-then-not-are_in_range-clause-exact : goal.returns-then-not-are_in_range-clause-exact
returns-then-not-are_in_range-clause-exact c = λ _ _ u is. c.if-not-are_in_range.ensures.out refl c.args.profile.now u is
