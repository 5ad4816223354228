-- Why a word that claims to be one of the transfer has no form in either direction (profile).
use Rattle.std.specs.Prelude.{ℕ, List, Bool, ◌++◌, codes, ◌==◌, ◌||◌, if◌then◌else◌}
use Rattle.std.specs.List.{list_any}
use Rattle.std.specs.Fmt.{decimal}
use Rattle.a429_word.specs.declared.bus.Bus.{Bus}
use Rattle.a429_word.specs.declared.bus.Bus.TheVariants as bus
use Rattle.a429_profile.specs.declared.codes.Codes.{Codes}
use Rattle.a429_ldu.specs.Form.{Fields}
use Rattle.a429_view.specs.declared.gap.Gap.{Gap}
use Rattle.a429_view.specs.declared.gap.Numbers.{Numbers}
use Rattle.a429_view.specs.declared.gap.Gap.TheVariants.{Kind, Code, Destination, Count, SemiOctets}

-- the numbers of a word, as the table of forms has them
abbrev pub fields_in : Numbers → Fields
fields_in n = record { kind = n.kind; upper = n.upper; middle = n.middle; lower = n.lower }

-- the code of the protocol word in which a unit on this bus names a destination: a request on A, a clear answer on B
abbrev pub asking_code : Codes → Bus → ℕ
asking_code c bus.A = c.rts
asking_code c bus.B = c.cts

-- of a protocol word of neither direction: another code than those of a request and a clear answer; or else the destination, where the word is
-- one of this bus; or the count
abbrev pub gap_of_protocol : Codes → Bus → Fields → Gap
gap_of_protocol c b f =
    if f.upper == asking_code c b
    then (if f.middle == c.destination then Count f.lower else Destination f.middle)
    else (if f.upper == c.rts || f.upper == c.cts then Count f.lower else Code f.upper)

-- it is one of the codes of partial data words
abbrev pub is_partial : Codes → ℕ → Bool
is_partial c code = list_any (λ n. n == code) c.partial_codes

-- of a partial data word: its code, or, where it has one of those of partial words, the semi-octets behind its own
abbrev pub gap_of_partial : Codes → ℕ → Gap
gap_of_partial c code = if is_partial c code then SemiOctets else Code code

-- the first number in the word that no form has there: its type, its code, its destination, its count, or semi-octets that are not 0 behind
-- those of a partial word
abbrev pub gap_of : Codes → Bus → Fields → Gap
gap_of c b f =
    if f.kind == c.protocol
    then gap_of_protocol c b f
    else (if f.kind == c.partial then gap_of_partial c f.upper else Kind f.kind)

abbrev pub gap_text : Gap → List ℕ
gap_text (Kind n) = codes "type " ++ decimal n
gap_text (Code n) = codes "code " ++ decimal n
gap_text (Destination n) = codes "destination " ++ decimal n
gap_text (Count n) = codes "count " ++ decimal n
gap_text SemiOctets = codes "semi-octets"
