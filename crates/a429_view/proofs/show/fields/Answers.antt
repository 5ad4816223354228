use Rattle.std.proofs.Common.{◌≡◌, ◌∙◌, ◌∷◌, [], ◌+◌, ℕ, List, ap, get_or, refl}
use Rattle.std.specs.Fmt.{decimal}
use Rattle.a429_word.specs.Word.{label_of, sdi_of, ssm_of}
use Rattle.a429_word.specs.Digits.{numeral, octal_text}
use Rattle.a429_view.specs.Show.{fields_text}
use Rattle.a429_view.proofs.OneDigit.{one_digit}
use Rattle.a429_view.proofs.show.fields.Goals as goal

-- byte by byte
bytes-are : (w sdi ssm : ℕ) (label : List ℕ)
    → label ≡ octal_text (label_of w) → (48 + sdi) ∷ [] ≡ decimal (sdi_of w) → (48 + ssm) ∷ [] ≡ decimal (ssm_of w)
    → get_or label 0 0 ∷ get_or label 1 0 ∷ get_or label 2 0 ∷ 32 ∷ (48 + sdi) ∷ 32 ∷ (48 + ssm) ∷ 32 ∷ [] ≡ fields_text w
unfolding numeral
bytes-are w sdi ssm label e1 e2 e3 = rw (e1, ← e2, ← e3) refl

pub returns : goal.returns
returns c =
    bytes-are c.args.word c.sdi.result c.ssm.result c.octal-label.result (c.octal-label.ensures ∙ ap octal_text c.label.ensures)
    (one_digit _ _ c.sdi.ensures.value c.sdi.ensures.range) (one_digit _ _ c.ssm.ensures.value c.ssm.ensures.range)
