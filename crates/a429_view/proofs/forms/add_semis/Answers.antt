use Rattle.std.proofs.Common.{◌∙◌, ◌++◌, ℕ, List, codes, map, true, arith, sym, subst}
use Rattle.std.specs.Fmt.{digit_glyph}
use Rattle.a429_view.specs.Line.{Adds}
use Rattle.a429_view.proofs.LineFacts.{five}
use Rattle.a429_view.proofs.forms.add_semis.Goals as goal

pub returns-then-digits-eq5 : goal.returns-then-digits-eq5
returns-then-digits-eq5 c =
    let xs = c.as_slice-digits.result.now in
    let all = five xs (omega arith) in
    let each = rw (
      c.hex_digit.ensures,
      c.hex_digit-then-digits-eq5.ensures,
      c.hex_digit-then-digits-eq5-2.ensures,
      c.hex_digit-then-digits-eq5-3.ensures,
      c.hex_digit-then-digits-eq5-4.ensures,
    ) at c.put.ensures in
    subst (λ (s : List ℕ). Adds c.args.line.now c.put.new.self 10 (codes "data " ++ map (digit_glyph true) s))
    (sym all ∙ c.as_slice-digits.ensures.value) each
