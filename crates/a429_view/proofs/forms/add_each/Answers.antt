use Rattle.std.proofs.Common.{◌++◌, ◌∷◌, [], ◌∙◌, ◌+◌, codes, map, take, get_or, length, true, append_assoc, subst, sym, ap, arith}
use Rattle.std.specs.Fmt.{digit_glyph}
use Rattle.std.proofs.lemmas.List.{map_more, take_all}
use Rattle.a429_view.specs.Line.{Adds}
use Rattle.a429_view.proofs.LineFacts.{◌▹◌, within}
use Rattle.a429_view.proofs.forms.add_each.Goals as goal

pub loop-i-init : goal.loop-i-init
loop-i-init c = within 5 c.put.ensures (omega arith)

pub loop-i-preserved : goal.loop-i-preserved
loop-i-preserved c =
    let i = c.loop-i.i in
    let semis = c.as_slice-semis.result.now in
    let text = digit_glyph true in
    let more = map_more text semis i 0 c.loop-i-test.true in
    let digit = rw c.hex_digit.ensures at c.put-in-loop-i.ensures in
    subst (Adds c.args.line.now c.put-in-loop-i.new.self (5 + (i + 1)))
    (append_assoc (codes "data ") (map text (take i semis)) (text (get_or semis i 0) ∷ []) ∙ ap (λ t. codes "data " ++ t) (sym more))
    (within (5 + (i + 1)) (c.loop-i.invariant ▹ digit) (omega arith))

pub returns : goal.returns
returns c =
    within 10
    (rw c.as_slice-semis.ensures.value at (rw (take_all c.loop-i.i c.as_slice-semis.result.now c.loop-i-test.false) at c.loop-i.invariant))
    (omega (arith, c.as_slice-semis.ensures.sound.1, ap length c.as_slice-semis.ensures.value))
