use Rattle.std.proofs.Common.{◌≡◌, ◌∙◌, ◌++◌, ◌/◌, List, ℕ, arith, refl, ap, subst, drop, length}
use Rattle.std.specs.Fmt.{decimal}
use Rattle.a429_word.specs.Sheet.{Says}
use Rattle.a429_record.proofs.WritingFacts.{after_upper, entry_of_two, upper_stays, written_over}
use Rattle.a429_record.proofs.entry_text.EntryText.put_after_upper.Goals as goal

pub returns : goal.returns
returns g c =
    let e = c.args.entry in
    let upper : c.self.inside.upper ≡ e.time / 10000 = c.self.view_is ∙ c.requires in
    let four = c.copy_from_slice.ensures.after ∙ c.four_digits-four.ensures in
    let fields = c.copy_from_slice-2.ensures.after ∙ c.bus_and_word-fields.ensures in
    let written =
    written_over c.self.inside.bytes _ _ c.copy_from_slice.new.self c.copy_from_slice-2.new.self _ _ (omega arith)
    (omega (arith, ap length four)) refl refl in
    subst (λ (text : List ℕ). Says g.W.Write.contents c.args.sheet.now c.put_first.new.self text)
    (after_upper c.self.inside.start
    (decimal c.self.inside.upper) c.self.inside.bytes c.copy_from_slice.new.self c.copy_from_slice-2.new.self _ _
    (omega arith) c.self.invariant.1 c.self.invariant.2 (omega (arith, ap length four)) (omega arith) written
    ∙ ap (λ n. decimal n ++ (c.copy_from_slice.new.self ++ c.copy_from_slice-2.new.self)) upper
    ∙ ap (λ t. decimal (e.time / 10000) ++ (t ++ c.copy_from_slice-2.new.self)) four
    ∙ entry_of_two c.args.between c.args.after e c.copy_from_slice-2.new.self (omega (arith, c.self.invariant.0, upper))
    (omega arith) fields)
    c.put_first.ensures

pub invariant_of-self : goal.invariant_of-self
invariant_of-self g c =
    let four = c.copy_from_slice.ensures.after ∙ c.four_digits-four.ensures in
    let written =
    written_over c.self.inside.bytes _ _ c.copy_from_slice.new.self c.copy_from_slice-2.new.self _ _ (omega arith)
    (omega (arith, ap length four)) refl refl in (
      c.self.invariant.0,
      c.self.invariant.1,
      ap (drop c.self.inside.start) (upper_stays c.self.inside.bytes _ _ (omega arith) written) ∙ c.self.invariant.2,
    )
