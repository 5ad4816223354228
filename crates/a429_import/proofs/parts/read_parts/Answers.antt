use Rattle.std.proofs.Common.{◌∙◌, sym}
use Rattle.toml.specs.View.{view}
use Rattle.a429_import.proofs.PartsFacts.{array_fault-tables, parts_in-tables}
use Rattle.a429_import.proofs.parts.read_parts.Goals as goal

pub returns-then-not-are_tables : goal.returns-then-not-are_tables
returns-then-not-are_tables c =
    let found = rw c.in-Some.is at c.at.ensures in
    λ _. rw (← found)
    (array_fault-tables c.args.header (view c.in-Some.value.now) c.in-Some-elements.values.now _ c.in-Some-elements.ensures.variant
    c.in-Some-elements.ensures.some (sym c.if-not-are_tables.true ∙ c.are_tables.ensures))

pub returns : goal.returns
returns c =
    let found = rw c.in-Some.is at c.at.ensures in
    rw (
      ← found,
      array_fault-tables c.args.header (view c.in-Some.value.now) c.in-Some-elements.values.now _ c.in-Some-elements.ensures.variant
          c.in-Some-elements.ensures.some (sym c.if-not-are_tables.false ∙ c.are_tables.ensures),
      parts_in-tables c.args.header (view c.in-Some.value.now) c.in-Some-elements.values.now c.in-Some-elements.ensures.some,
    ) c.read_tables.ensures
