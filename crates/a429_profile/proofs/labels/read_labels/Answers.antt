use Rattle.std.proofs.Common.{◌∙◌, sym}
use Rattle.toml.specs.View.{view}
use Rattle.a429_profile.proofs.LabelsArray.{array_fault-tables, entries_in-tables}
use Rattle.a429_profile.proofs.labels.read_labels.Goals as goal

pub returns-then-not-are_tables-clause-err : goal.returns-then-not-are_tables-clause-err
returns-then-not-are_tables-clause-err c =
    let found = rw c.in-Some.is at c.at.ensures in
    λ _. rw (← found)
    (array_fault-tables (view c.in-Some.value.now) c.in-Some-elements.values.now _ c.in-Some-elements.ensures.variant
    c.in-Some-elements.ensures.some (sym c.if-not-are_tables.true ∙ c.are_tables.ensures))

pub returns-clause-ok : goal.returns-clause-ok
returns-clause-ok c =
    let found = rw c.in-Some.is at c.at.ensures in
    rw (
      ← found,
      array_fault-tables (view c.in-Some.value.now) c.in-Some-elements.values.now _ c.in-Some-elements.ensures.variant
          c.in-Some-elements.ensures.some (sym c.if-not-are_tables.false ∙ c.are_tables.ensures),
    ) c.read_entries.ensures.ok

pub returns-clause-value : goal.returns-clause-value
returns-clause-value c =
    let found = rw c.in-Some.is at c.at.ensures in
    rw (← found, entries_in-tables (view c.in-Some.value.now) c.in-Some-elements.values.now c.in-Some-elements.ensures.some)
    c.read_entries.ensures.value

pub returns-clause-err : goal.returns-clause-err
returns-clause-err c =
    let found = rw c.in-Some.is at c.at.ensures in
    rw (
      ← found,
      array_fault-tables (view c.in-Some.value.now) c.in-Some-elements.values.now _ c.in-Some-elements.ensures.variant
          c.in-Some-elements.ensures.some (sym c.if-not-are_tables.false ∙ c.are_tables.ensures),
    ) c.read_entries.ensures.err
