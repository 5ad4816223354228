-- The lines of a certificate (profile).
use Rattle.a429_cert.specs.declared.lines.TextLine.{TextLine}
use Rattle.a429_cert.specs.declared.lines.TextLine.TheVariants.{Ended, Unended}
use Rattle.std.specs.Prelude.{ℕ, List, [], ◌∷◌, ◌==◌, if◌then◌else◌, Option, Some, None, option_map}

-- a text of this byte and of what these lines are the lines of; after its last line feed it is in a line that has no end
abbrev pub begun_with : ℕ → List (Option (List ℕ)) → List (Option (List ℕ))
begun_with b [] = None ∷ []
begun_with b (line ∷ lines) = option_map (λ text. b ∷ text) line ∷ lines

-- the lines of a text, each without its line feed, and none for a last line that has no line feed
abbrev pub certificate_lines : List ℕ → List (Option (List ℕ))
certificate_lines [] = []
certificate_lines (b ∷ bs) = if b == 10 then Some [] ∷ certificate_lines bs else begun_with b (certificate_lines bs)

-- the text of a line that ends
abbrev pub line_bytes : TextLine → Option (List ℕ)
line_bytes (Ended text) = Some text.now
line_bytes Unended = None
