use Rattle.std.proofs.Common.{◌≡◌, ◌∙◌, ◌-◌, take, drop, ap, arith}
use Rattle.a429_word.specs.Digits.{numeral, hex_text}
use Rattle.a429_cert.proofs.FieldDigits.{last-digits, length-numeral}
use Rattle.a429_view.proofs.LineFacts.{within}
use Rattle.a429_view.proofs.line.Line.put_hex.Goals as goal

pub returns : goal.returns
returns c =
    let digits : take (8 - 4) (drop 4 c.hex-hex.result) ≡ numeral 16 4 c.args.bits =
    ap (λ t. take (8 - 4) (drop 4 t)) (c.hex-hex.ensures ∙ ap hex_text (c.from_u32.ensures ∙ c.from.ensures))
    ∙ last-digits 4 c.args.bits (omega arith) in
    within 4 (rw digits at c.put.ensures) (omega (arith, length-numeral 4 c.args.bits))
