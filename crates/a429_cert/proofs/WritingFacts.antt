-- What stands at the front of a vector to which text is appended.
use Rattle.std.proofs.Common.{◌+◌, ◌<◌, ◌≡◌, ◌∙◌, ◌++◌, ◌≤◌, ℕ, List, length, take, refl, sym, ap, arith}
use Rattle.std.proofs.lemmas.List.{length-take-le, take-take, take_at, length-append}
use Rattle.a429_word.specs.Digits.{hex_text}
use Rattle.a429_cert.specs.Field.{field}
use Rattle.a429_cert.specs.Writing.{IsFrontOf}
use Rattle.a429_cert.proofs.FieldDigits.{length-numeral}
use Rattle.a429_cert.proofs.ReadingFacts.{words_text, length-words}

-- what kept a longer list kept a list at its front
pub front-then : (old mid new text : List ℕ) → mid ≡ old ++ text → IsFrontOf mid new → IsFrontOf old new
front-then old mid new text e h =
    let longer : length old ≤ length mid = omega (arith, ap length e, length-append old text) in
    sym (take-take (length old) (length mid) new longer) ∙ ap (take (length old)) (h ∙ e) ∙ take_at old text (length old) refl

-- a word that finds no room: there was none for all of them
pub no_room : (words : List ℕ) (i word before after old len : ℕ) → i < length words
    → before ≤ after → len ≡ old + length (words_text (take i words)) → after < len + length (field (hex_text word))
    → before < old + length (words_text words)
no_room words i word before after old len inside grown e full =
    omega (arith, length-words (take i words), length-words words, length-take-le i words (omega arith), length-numeral 8 word)
