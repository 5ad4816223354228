use Rattle.std.proofs.Common.{arith, refl, ◌++◌}
use Rattle.std.specs.Prelude.{codes}
use Rattle.a429_commands.proofs.PartListFacts.{after_count, after_part, after_entries, after_before}
use Rattle.a429_commands.proofs.engines.part_list.part_at.Goals as goal

pub returns-in_default-number_after-clause-none : goal.returns-in_default-number_after-clause-none
returns-in_default-number_after-clause-none c = λ e n rest few eq.
    c.in_default-number_after.ensures.none refl n (after_count c.args.from rest) (omega (arith, few)) (λ d. absurd (omega (arith, d)))
    (after_part c.args.text.now c.in-Some.after_part.now rest c.args.number c.args.from n eq c.in-Some.ensures.some)

pub returns-then-count-clause-none : goal.returns-then-count-clause-none
returns-then-count-clause-none c = λ e n rest few eq.
    let some = c.in-Some-number_after.ensures.some in
    let entries = after_part c.args.text.now c.in-Some.after_part.now rest c.args.number c.args.from n eq c.in-Some.ensures.some in
    let same =
    after_entries c.in-Some.after_part.now c.in-Some-number_after.after_count.now rest c.args.from n c.in-Some-number_after.count entries
    some.0 few some.1 some.2 in
    absurd (omega (arith, same.0, few, c.if-count.true))

pub returns-in_default-after_number-clause-none : goal.returns-in_default-after_number-clause-none
returns-in_default-after_number-clause-none c = λ e n rest few eq.
    let some = c.in-Some-number_after.ensures.some in
    let entries = after_part c.args.text.now c.in-Some.after_part.now rest c.args.number c.args.from n eq c.in-Some.ensures.some in
    let same =
    after_entries c.in-Some.after_part.now c.in-Some-number_after.after_count.now rest c.args.from n c.in-Some-number_after.count entries
    some.0 few some.1 some.2 in
    c.in_default-after_number.ensures.none refl (codes "\n" ++ rest) (λ d. absurd (omega (arith, d))) same.1

pub returns-in-None-clause-none : goal.returns-in-None-clause-none
returns-in-None-clause-none c = λ e n rest few eq.
    let some = c.in-Some-number_after.ensures.some in
    let entries = after_part c.args.text.now c.in-Some.after_part.now rest c.args.number c.args.from n eq c.in-Some.ensures.some in
    let same =
    after_entries c.in-Some.after_part.now c.in-Some-number_after.after_count.now rest c.args.from n c.in-Some-number_after.count entries
    some.0 few some.1 some.2 in
    c.in-None.ensures rest
    (after_before c.in-Some-number_after.after_count.now c.in-Some-after_number.after_from.now rest c.args.from same.1
    c.in-Some-after_number.ensures.some)
