use Rattle.std.proofs.Common.{◌≡◌, ◌∙◌, ap, ◌∷◌, [], ℕ, List, refl, get_or}
use Rattle.a429_word.specs.Digits.{numeral, hex_text}
use Rattle.a429_cert.specs.Field.{field}
use Rattle.a429_cert.proofs.writing.word_field.Goals as goal

-- byte by byte
bytes-are : (w : ℕ) (hex : List ℕ) → hex ≡ hex_text w
    → 32 ∷ get_or hex 0 0 ∷ get_or hex 1 0 ∷ get_or hex 2 0 ∷ get_or hex 3 0 ∷ get_or hex 4 0 ∷ get_or hex 5 0 ∷ get_or hex 6 0
    ∷ get_or hex 7 0 ∷ [] ≡ field (hex_text w)
unfolding numeral
bytes-are w hex e = rw e refl

pub returns : goal.returns
returns c = bytes-are c.args.number c.hex-hex.result (c.hex-hex.ensures ∙ ap hex_text c.from_u32.ensures)
