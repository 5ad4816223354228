use Rattle.std.proofs.Common.{sym, ◌∙◌}
use Rattle.a429_profile.proofs.ValueArrays.{is_array_of-integers}
use Rattle.a429_profile.proofs.value.integers.Goals as goal

pub returns-then-are_integers-clause-variant : goal.returns-then-are_integers-clause-variant
returns-then-are_integers-clause-variant c =
    is_array_of-integers _ c.in_ok-values.values.now _ c.in_ok-values.ensures.variant c.in_ok-values.ensures.some
    (sym c.if-are_integers.true ∙ c.are_integers.ensures)

pub returns-else-are_integers-clause-variant : goal.returns-else-are_integers-clause-variant
returns-else-are_integers-clause-variant c =
    is_array_of-integers _ c.in_ok-values.values.now _ c.in_ok-values.ensures.variant c.in_ok-values.ensures.some
    (sym c.if-are_integers.false ∙ c.are_integers.ensures)
