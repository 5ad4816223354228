use Rattle.std.proofs.Common.{ap, ◌∙◌, refl}
use Rattle.std.specs.BTreeMap.Range.{IsRangeOf}
use Rattle.std.specs.declared.ops.Bound.TheVariants.{Included, Unbounded}
use Rattle.a429_import.specs.KeyCounts.{by_key}
use Rattle.a429_import.specs.SortKey.{earliest}
use Rattle.a429_import.specs.Repeats.{is_again, is_repeat}
use Rattle.a429_import.proofs.RepeatsFacts.{first_is_again, none_is_again}
use Rattle.a429_import.proofs.repeats.LastEntries.have.Goals as goal

pub returns-in-Some : goal.returns-in-Some
returns-in-Some c =
    let within = c.args.rule.within in
    let e = c.args.entry in
    let counts = c.self.inside.counts in
    let entries = c.self.inside.entries.items in
    let range : IsRangeOf by_key (Included (earliest within e)) Unbounded counts c.range.result =
    rw c.earliest-first.ensures at (c.range.ensures.in_range tt) in
    let first = rw c.in-Some.ensures.steps at range.1 in
    c.is_again.ensures
    ∙ ap (is_again within e) c.entry.ensures
    ∙ first_is_again within e counts entries c.in-Some.key.now c.self.invariant first.0.0 (rw first.1 refl)
    (λ q from some. rw c.in-Some.ensures.steps at (range.2 q (from, tt) some))
    ∙ ap (λ es. is_repeat within es e) c.self.view_is

pub returns-in-None : goal.returns-in-None
returns-in-None c =
    let within = c.args.rule.within in
    let e = c.args.entry in
    let counts = c.self.inside.counts in
    let entries = c.self.inside.entries.items in
    let range : IsRangeOf by_key (Included (earliest within e)) Unbounded counts c.range.result =
    rw c.earliest-first.ensures at (c.range.ensures.in_range tt) in
    none_is_again within e counts entries c.self.invariant (λ q from. range.5 c.in-None.ensures.steps.0 q (from, tt))
    ∙ ap (λ es. is_repeat within es e) c.self.view_is
