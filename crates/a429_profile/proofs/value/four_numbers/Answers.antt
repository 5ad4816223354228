use Rattle.std.proofs.Common.{◌∙◌, ap, sym, arith, map}
use Rattle.toml.specs.View.{view}
use Rattle.a429_profile.specs.Value.{number_of_value, byte_of}
use Rattle.a429_profile.proofs.ValueArrays.{value_fault-not_between, map-byte_of, map-four}
use Rattle.a429_profile.proofs.value.four_numbers.Goals as goal

pub returns-then-not-are_between-clause-err : goal.returns-then-not-are_between-clause-err
returns-then-not-are_between-clause-err c =
    value_fault-not_between c.args.key (view c.args.value.now) c.in-Some.values.now c.args.low c.args.high
    record {
      kind = c.in-Some.ensures.variant;
      elements = c.in-Some.ensures.some;
      between = sym c.if-not-are_between.true ∙ c.are_between.ensures;
    }

pub returns-clause-value : goal.returns-clause-value
returns-clause-value c =
    let vs = c.in-Some.values.now in
    ap (map number_of_value) c.in-Some.ensures.some
    ∙ map-byte_of c.args.low c.args.high vs (omega arith) (sym c.are_between.ensures ∙ c.if-not-are_between.false)
    ∙ map-four (λ v. byte_of (view v)) vs c.a-item.result c.b-item.result c.c-item.result c.d-item.result c.in-len4.len_at_least
    c.in-len4.len_below c.a-item.is c.b-item.is c.c-item.is c.d-item.is
    ∙ (cc)
