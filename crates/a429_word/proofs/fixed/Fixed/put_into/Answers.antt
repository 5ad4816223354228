use Rattle.std.proofs.Common.{◌∙◌, sym, ap, arith, rules}
use Rattle.std.specs.Int.{w128}
use Rattle.std.specs.Prelude.{unsigned_abs}
use mir.Val.{SFits}
use Rattle.std.proofs.lemmas.Int.{to_z-of_z}
use Rattle.a429_word.proofs.FixedText.{put_together, sign_test}
use Rattle.a429_word.proofs.fixed.Fixed.put_into.Goals as goal

pub returns : goal.returns
returns c =
    let z = c.args.self.now.number in
    let fits : SFits w128 z = search rules in
    let size = ap unsigned_abs (sym (to_z-of_z w128 z fits)) ∙ sym c.unsigned_abs.ensures.value ∙ c.shortest-number.ensures.value in
    put_together z _ c.args.self.now.decimals c.shortest-number.result.0 c.shortest-number.result.1 c.push_decimals-whole.result
    c.args.text.now c.push_decimals-whole.new.self c.push_point.new.self c.push_whole.new.self c.push_sign.new.self
    (omega arith) (sign_test z fits) size c.shortest-number.ensures.fewer c.shortest-number.ensures.ends
    c.requires.empty c.push_decimals-whole.ensures.text c.push_decimals-whole.ensures.rest c.push_point.ensures c.push_whole.ensures.text
    c.push_sign.ensures
