-- What a word holds, as text (profile).
use Rattle.std.specs.Prelude.{ℕ, zero, suc, ◌+◌, ◌%◌, List, [], ◌∷◌, ◌++◌, ◌==◌, if◌then◌else◌, codes}
use Rattle.std.specs.Fmt.{decimal, signed_decimal}
use Rattle.a429_word.specs.Word.{bit, label_of, sdi_of, ssm_of, count_of_ones}
use Rattle.a429_word.specs.Bnr.{raw_of}
use Rattle.a429_word.specs.Digits.{hex_text, octal_text}

-- a name, a space, a value and the line's end
abbrev pub line : List ℕ → List ℕ → List ℕ
line name value = name ++ codes " " ++ value ++ codes "\n"

-- a digit for each bit from bit k down to bit 1
unfoldable pub bits_text : ℕ → ℕ → List ℕ
bits_text w zero = []
bits_text w (suc k) = (48 + bit w (suc k)) ∷ bits_text w k

-- whether the parity is odd, as it is to be
abbrev pub parity_text : ℕ → List ℕ
parity_text w = if count_of_ones w % 2 == 1 then codes "ok" else codes "bad"

-- the word, its bits from 32 to 1, label, SDI, SSM, parity, and its raw number with 18 significant bits
abbrev pub word_lines : ℕ → List ℕ
word_lines w =
    line (codes "word") (hex_text w)
    ++ line (codes "bits") (bits_text w 32)
    ++ line (codes "label") (octal_text (label_of w))
    ++ line (codes "sdi") (decimal (sdi_of w))
    ++ line (codes "ssm") (decimal (ssm_of w))
    ++ line (codes "parity") (parity_text w)
    ++ line (codes "bnr") (signed_decimal (raw_of w 18))
