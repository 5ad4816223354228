use Rattle.std.proofs.Common.{◌∙◌, ap, sym, refl, map}
use Rattle.toml.specs.View.{view}
use Rattle.a429_profile.specs.Value.{flag_of}
use Rattle.a429_profile.proofs.ValueArrays.{value_fault-flags, map-flag_of}
use Rattle.a429_profile.proofs.flags.flags.Goals as goal

pub returns-then-not-are_flags : goal.returns-then-not-are_flags
returns-then-not-are_flags c =
    λ _. value_fault-flags c.args.key (view c.args.value.now) c.in-Some.values.now _ _ c.in-Some.ensures.variant c.in-Some.ensures.some
    (sym c.if-not-are_flags.true ∙ c.are_flags.ensures) refl

pub returns-then-not-are_in_range : goal.returns-then-not-are_in_range
returns-then-not-are_in_range c =
    λ _. value_fault-flags c.args.key (view c.args.value.now) c.in-Some.values.now _ _ c.in-Some.ensures.variant c.in-Some.ensures.some
    (sym c.if-not-are_flags.false ∙ c.are_flags.ensures) (sym c.if-not-are_in_range.true ∙ c.are_in_range.ensures)

pub returns-in-Ok : goal.returns-in-Ok
returns-in-Ok c =
    let fault =
    value_fault-flags c.args.key (view c.args.value.now) c.in-Some.values.now _ _ c.in-Some.ensures.variant c.in-Some.ensures.some
    (sym c.if-not-are_flags.false ∙ c.are_flags.ensures) (sym c.if-not-are_in_range.false ∙ c.are_in_range.ensures) in
    (fault, ap (map flag_of) c.in-Some.ensures.some ∙ map-flag_of c.in-Some.values.now ∙ sym c.in-Ok.ensures)
