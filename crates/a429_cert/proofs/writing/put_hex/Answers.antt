use Rattle.std.proofs.Common.{◌≡◌, ◌∙◌, ◌-◌, take, drop, ap}
use Rattle.a429_word.specs.Digits.{numeral, hex_text}
use Rattle.a429_cert.proofs.FieldDigits.{last-digits}
use Rattle.a429_cert.proofs.writing.put_hex.Goals as goal

-- what is cut off the word's digits
digits : (c : goal.After-put_field)
    → take (8 - (8 - c.args.digits)) (drop (8 - c.args.digits) c.hex-hex.result) ≡ numeral 16 c.args.digits c.args.number
digits c =
    ap (λ t. take (8 - (8 - c.args.digits)) (drop (8 - c.args.digits) t)) (c.hex-hex.ensures ∙ ap hex_text c.from_u32.ensures)
    ∙ last-digits c.args.digits c.args.number c.requires

pub returns : goal.returns
returns c = rw (digits c) at c.put_field.ensures
