use Rattle.std.proofs.Common.{◌≡◌, ◌+◌, IfOk, List, None, subst, sym}
use Rattle.a429_search.specs.declared.searching.Hypothesis.{Hypothesis}
use Rattle.a429_search.specs.Frontier.{FitsSome, IsRefused}
use Rattle.a429_search.proofs.searching.Search.misfit.Goals as goal

pub misfit-requires-clause-refused : goal.misfit-requires-clause-refused
misfit-requires-clause-refused c =
    subst (λ (l : List Hypothesis). IsRefused c.args.decoded.now.profile c.args.decoded.now.items l c.args.from c.args.to)
    (sym c.deref.ensures.value) c.requires.refused

pub returns-clause-refused : goal.returns-clause-refused
returns-clause-refused c =
    subst (λ (l : List Hypothesis).
    IfOk c.misfit.result (λ m. IsRefused c.args.decoded.now.profile c.args.decoded.now.items l c.args.from (m.entry + 1)))
    c.deref.ensures.value c.misfit.ensures.refused

pub returns-clause-fits : goal.returns-clause-fits
returns-clause-fits c =
    subst (λ (l : List Hypothesis). IfOk c.misfit.result
    (λ m. m.cut ≡ None → FitsSome c.args.decoded.now.profile c.args.decoded.now.items l c.args.from m.entry))
    c.deref.ensures.value c.misfit.ensures.fits
