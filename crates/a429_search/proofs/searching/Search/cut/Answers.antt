use Rattle.std.proofs.Common.{◌≡◌, ◌∙◌, ◌⊎◌, IfSome, Option, Some, ap, is_some, subst, sym}
use Rattle.std.proofs.lemmas.Option.{IfSome_then}
use Rattle.a429_word.proofs.Outcomes.{not_some}
use Rattle.a429_merge.specs.declared.budget.Cut.{Cut}
use Rattle.a429_search.proofs.SearchingFacts.{first_cut, no_cut}
use Rattle.a429_search.proofs.searching.Search.cut.Goals as goal

pub returns-clause-whole : goal.returns-clause-whole
returns-clause-whole c = λ none. (no_cut _ _ (sym c.or.ensures ∙ none)).0

pub returns-clause-uncut : goal.returns-clause-uncut
returns-clause-uncut c = λ none.
    not_some _ (sym c.cut.ensures.some ∙ ap is_some (no_cut _ _ (sym c.or.ensures ∙ none)).1)

pub returns-clause-at : goal.returns-clause-at
returns-clause-at c =
    let left_out = c.args.self.now.left_out in
    let entry = c.args.self.now.carrier.budget.entry in
    subst (λ (o : Option Cut). IfSome o (λ cut. (cut.entry ≡ entry) ⊎ (left_out ≡ Some cut))) (sym c.or.ensures)
    (first_cut left_out c.cut.result entry (IfSome_then c.cut.result c.cut.ensures.is (λ cut both. both.0)))
