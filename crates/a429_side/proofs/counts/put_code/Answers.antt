use Rattle.std.proofs.Common.{◌∙◌, ap, drop, subst, take}
use Rattle.a429_word.specs.Digits.{hex_text}
use Rattle.a429_word.specs.Sheet.{Says}
use Rattle.a429_side.proofs.CountsFacts.{last_pair}
use Rattle.a429_side.proofs.counts.put_code.Goals as goal

pub returns : goal.returns
returns g c =
    let code = c.from_u32.ensures ∙ c.from.ensures in
    subst (Says g.W.Write.contents c.args.sheet.now c.put.new.self)
    (ap (λ text. take 2 (drop 6 text)) (c.hex.ensures ∙ ap hex_text code) ∙ last_pair c.args.code) c.put.ensures
