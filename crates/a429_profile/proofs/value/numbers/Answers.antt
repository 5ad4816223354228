use Rattle.std.proofs.Common.{◌∙◌, ap, sym, arith, map}
use Rattle.toml.specs.View.{view}
use Rattle.a429_profile.specs.Value.{number_of_value}
use Rattle.a429_profile.proofs.ValueArrays.{value_fault-numbers, map-byte_of}
use Rattle.a429_profile.proofs.value.numbers.Goals as goal

pub returns-then-not-are_between : goal.returns-then-not-are_between
returns-then-not-are_between c = λ _. value_fault-numbers c.args.key (view c.args.value.now) c.in-Some.values.now c.args.low c.args.high _
    record {
      kind = c.in-Some.ensures.variant;
      elements = c.in-Some.ensures.some;
      between = sym c.if-not-are_between.true ∙ c.are_between.ensures;
    }

pub returns-in-Ok : goal.returns-in-Ok
returns-in-Ok c =
    let between = sym c.if-not-are_between.false ∙ c.are_between.ensures in
    let values = c.in-Some.values.now in
    let fault =
    value_fault-numbers c.args.key (view c.args.value.now) values c.args.low c.args.high _
    record { kind = c.in-Some.ensures.variant; elements = c.in-Some.ensures.some; between = between } in
    let numbers = map-byte_of c.args.low c.args.high values (omega arith) (sym c.are_between.ensures ∙ c.if-not-are_between.false) in
    (fault, ap (map number_of_value) c.in-Some.ensures.some ∙ numbers ∙ sym c.in-Ok.ensures ∙ sym c.new.ensures)
