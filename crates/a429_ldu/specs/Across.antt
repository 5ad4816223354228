-- Words of the other direction, where two units send each other files on one pair of lines. A word carries the label of the unit that it
-- goes to (ARINC 429 Part 3), so the requests of one direction and the answers of the other have one label on one line (profile).
use Rattle.std.specs.Prelude.{ℕ, Option}
use Rattle.a429_word.specs.Word.{number_at}
use Rattle.a429_word.specs.declared.bus.Bus.{Bus}
use Rattle.a429_word.specs.declared.bus.Bus.TheVariants as bus
use Rattle.a429_profile.specs.declared.codes.Codes.{Codes}
use Rattle.a429_ldu.specs.declared.forms.Form.{Form}
use Rattle.a429_ldu.specs.Form.{form_of}

-- the other line of the pair
abbrev pub other_line : Bus → Bus
other_line bus.A = bus.B
other_line bus.B = bus.A

-- the codes of the other direction, where the two units use one table of types and codes; its destination is not looked at
abbrev pub mirrored : Codes → Codes
mirrored c = record c { to_sink = c.to_source; to_source = c.to_sink }

abbrev pub with_destination : ℕ → Codes → Codes
with_destination d c = record c { destination = d }

-- the codes of the other direction, to the destination of this word
abbrev pub across : Codes → ℕ → Codes
across c w = with_destination (number_at w 17 8) (mirrored c)

-- the form that a word of this line has in the other direction, where it has one, whatever its destination: there the line to the sink is
-- the other one
abbrev pub form_across : Codes → Bus → ℕ → Option Form
form_across c b w = form_of (across c w) (other_line b) w
