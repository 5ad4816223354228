use Rattle.std.proofs.Common.{◌≡◌, ◌∙◌, ◌++◌, ◌∷◌, [], ℕ, List, refl, get_or}
use Rattle.a429_word.specs.declared.bus.Bus.{Bus}
use Rattle.a429_word.specs.declared.bus.Bus.TheVariants.{A, B}
use Rattle.a429_word.specs.Digits.{numeral, hex_text}
use Rattle.a429_word.specs.Bus.{bus_text}
use Rattle.a429_record.proofs.entry_text.bus_and_word.Goals as goal

letter_alone : (bus : Bus) → get_or (bus_text bus) 0 0 ∷ [] ≡ bus_text bus
letter_alone A = refl
letter_alone B = refl

-- byte by byte
bytes-are : (before following w : ℕ) (bus : Bus) (letter hex : List ℕ) → letter ≡ bus_text bus → hex ≡ hex_text w
    → before ∷ get_or letter 0 0 ∷ before ∷ get_or hex 0 0 ∷ get_or hex 1 0 ∷ get_or hex 2 0 ∷ get_or hex 3 0 ∷ get_or hex 4 0
    ∷ get_or hex 5 0 ∷ get_or hex 6 0 ∷ get_or hex 7 0 ∷ following ∷ []
    ≡ before ∷ (bus_text bus ++ (before ∷ (hex_text w ++ following ∷ [])))
unfolding numeral
bytes-are before following w bus letter hex e1 e2 = rw (e1, e2, ← letter_alone bus) refl

pub returns : goal.returns
returns c =
    bytes-are c.args.before c.args.following c.args.word c.args.bus c.as_bytes.result.now c.hex-hex.result
    (c.as_bytes.ensures.value ∙ c.letter.ensures) c.hex-hex.ensures
