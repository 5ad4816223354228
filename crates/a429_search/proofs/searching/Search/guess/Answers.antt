use Rattle.std.proofs.Common.{ap, length, ◌∙◌}
use Rattle.a429_explain.proofs.AttemptsFacts.{length-roles}
use Rattle.a429_search.proofs.searching.Search.guess.Goals as goal

pub returns-clause-guess : goal.returns-clause-guess
returns-clause-guess c = record {
  many = c.in_ok-roles-2.ensures ∙ ap length (c.deref-2.ensures.value ∙ c.in_ok-roles.ensures)
      ∙ length-roles c.args.decoded.now.profile.codes c.args.decoded.now.items;
  plans = rw (c.profile.ensures.is) at c.in_ok-plans.ensures;
}
