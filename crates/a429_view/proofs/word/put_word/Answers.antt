use Rattle.std.proofs.Common.{◌∙◌, ap, codes, rules, subst, w32}
use mir.Val.{SFits}
use Rattle.std.proofs.lemmas.Int.{to_z-of_z}
use Rattle.std.specs.Fmt.{signed_decimal}
use Rattle.a429_word.specs.Digits.{octal_text}
use Rattle.a429_word.specs.Sheet.{Says}
use Rattle.a429_word.proofs.SheetFacts.{◌▹◌}
use Rattle.a429_view.specs.Word.{line}
use Rattle.a429_view.proofs.OneDigit.{one_digit}
use Rattle.a429_view.proofs.word.put_word.Goals as goal

pub returns : goal.returns
returns g c =
    let fits : SFits w32 c.bnr_raw.result = search rules in
    let text = simp to_z-of_z at c.format.ensures.text in
    let hex = rw c.hex.ensures at c.put_line.ensures in
    let bits = rw c.bits.ensures at c.put_line-2.ensures in
    let label = rw (c.octal.ensures ∙ ap octal_text c.label.ensures) at c.put_line-3.ensures in
    let sdi =
    subst (λ value. Says g.W.Write.contents c.put_line-3.new.sheet c.put_line-4.new.sheet (line (codes "sdi") value))
    (one_digit _ _ c.sdi.ensures.value c.sdi.ensures.range) c.put_line-4.ensures in
    let ssm =
    subst (λ value. Says g.W.Write.contents c.put_line-4.new.sheet c.put_line-5.new.sheet (line (codes "ssm") value))
    (one_digit _ _ c.ssm.ensures.value c.ssm.ensures.range) c.put_line-5.ensures in
    let parity = rw (c.as_bytes.ensures.value ∙ c.parity.ensures) at c.put_line-6.ensures in
    let bnr = rw (c.as_bytes-2.ensures.value ∙ text ∙ ap signed_decimal c.bnr_raw.ensures) at c.put_line-7.ensures in
    hex ▹ bits ▹ label ▹ sdi ▹ ssm ▹ parity ▹ bnr
