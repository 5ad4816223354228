use Rattle.std.proofs.Common.{◌≡◌, List, ap, ◌∙◌, fold}
use Rattle.a429_merge.specs.declared.choice.Sum.{Sum}
use Rattle.a429_merge.specs.Choice.{reduced_by}
use Rattle.a429_merge.proofs.ChoiceFacts.{found, found_within, not_found}
use Rattle.a429_merge.proofs.choice.choose_columns.Goals as goal
use Rattle.a429_merge.proofs.choice.choose_columns.Goals.{After-reduced-rest}

-- what is left of the wanted number
is : (c : After-reduced-rest)
    → c.reduced-rest.result ≡ fold reduced_by (record { value = c.args.wanted; chosen = 0 }) c.in_ok-basis.basis.items
is c = c.reduced-rest.ensures
    ∙ ap (λ (basis : List Sum). fold reduced_by (record { value = c.args.wanted; chosen = 0 }) basis) c.deref.ensures.value

pub returns-then-rest-eq0-clause-chosen : goal.returns-then-rest-eq0-clause-chosen
returns-then-rest-eq0-clause-chosen c =
    found c.args.columns.now c.in_ok-basis.basis.items c.args.wanted c.in_ok-basis.ensures c.reduced-rest.result
    (is (goal.at.returns-then-rest-eq0-clause-chosen c).After-reduced-rest) c.if-rest-eq0.true

pub returns-then-rest-eq0-clause-within : goal.returns-then-rest-eq0-clause-within
returns-then-rest-eq0-clause-within c =
    found_within c.args.columns.now c.in_ok-basis.basis.items c.args.wanted c.in_ok-basis.ensures c.reduced-rest.result
    (is (goal.at.returns-then-rest-eq0-clause-within c).After-reduced-rest)

pub returns-clause-none : goal.returns-clause-none
returns-clause-none c =
    not_found c.args.columns.now c.in_ok-basis.basis.items c.args.wanted c.in_ok-basis.ensures c.reduced-rest.result
    (is (goal.at.returns-clause-none c).After-reduced-rest) c.if-rest-eq0.false
