use Rattle.std.proofs.Common.{◌∙◌, sym, arith}
use Rattle.std.proofs.lemmas.Bool.{eqb-true, eqb-false, not-true, not-false}
use Rattle.std.proofs.lemmas.List.{nil_from_length}
use Rattle.a429_ldu.proofs.CarriedFacts.{left_over, kept_whole, none_whole}
use Rattle.a429_ldu.proofs.carried.are_whole.Goals as goal

pub returns-then-is_none-clause-yes : goal.returns-then-is_none-clause-yes
returns-then-is_none-clause-yes c some =
    let filled = eqb-false _ 0 (sym c.is_empty.ensures ∙ not-true _ some) in
    kept_whole c.args.bytes.now c.args.low (sym c.if-is_none.ensures) (omega (arith, filled))

pub returns-then-is_none-clause-no : goal.returns-then-is_none-clause-no
returns-then-is_none-clause-no c none =
    none_whole c.args.bytes.now c.args.low (sym c.if-is_none.ensures)
    (nil_from_length _ (eqb-true _ 0 (sym c.is_empty.ensures ∙ not-false _ none)))

pub returns-else-is_none-clause-no : goal.returns-else-is_none-clause-no
returns-else-is_none-clause-no c e = sym (left_over c.args.bytes.now c.args.low (sym c.if-is_none.ensures))
