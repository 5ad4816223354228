-- The data words of bytes (profile).
use Rattle.std.specs.Prelude.{ℕ, ◌+◌, ◌*◌, ◌^◌, List, [], ◌∷◌, map}
use Rattle.a429_profile.specs.declared.codes.Codes.{Codes}
use Rattle.a429_ldu.specs.declared.forms.Form.TheVariants.{Part}
use Rattle.a429_ldu.specs.Semis.{semis_of_bytes}
use Rattle.a429_ldu.specs.Form.{label_bits, word_number}

-- semi-octets, five to a word; the last word may have fewer
abbrev pub fives : List ℕ → List (List ℕ)
fives (p ∷ q ∷ r ∷ s ∷ t ∷ rest) = (p ∷ q ∷ r ∷ s ∷ t ∷ []) ∷ fives rest
fives [] = []
fives rest = rest ∷ []

-- the data words of bytes: full words, and then at most one partial word
abbrev pub data_words : Codes → List ℕ → List ℕ
data_words c bytes = map (λ semis. word_number c (Part semis)) (fives (semis_of_bytes bytes))

-- the label and the type of a full data word, in their places
abbrev pub full_frame : Codes → ℕ
full_frame c = label_bits c.to_sink + c.full * 2 ^ 28
