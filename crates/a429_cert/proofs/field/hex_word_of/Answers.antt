use Rattle.std.proofs.Common.{◌∙◌, sym}
use Rattle.a429_cert.proofs.FieldDigits.{word-upper, word-lower}
use Rattle.a429_cert.proofs.field.hex_word_of.Goals as goal

pub returns-then-has_no_lower : goal.returns-then-has_no_lower
returns-then-has_no_lower c =
    word-upper c.args.digits.now c.parse_hex.result c.requires (sym c.has_no_lower.ensures ∙ c.if-has_no_lower.true) c.parse_hex.ensures

pub returns-else-has_no_lower : goal.returns-else-has_no_lower
returns-else-has_no_lower c = word-lower c.args.digits.now (sym c.has_no_lower.ensures ∙ c.if-has_no_lower.false)
