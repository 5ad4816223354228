-- What is written of a word: what it is to the file transfer (profile).
use Rattle.std.specs.Prelude.{ℕ, List, [], ◌++◌, map, codes, Bool, true, false, Option, Some, None}
use Rattle.std.specs.Fmt.{decimal, digit_glyph}
use Rattle.a429_word.specs.Digits.{numeral}
use Rattle.a429_word.specs.declared.bus.Bus.{Bus}
use Rattle.a429_profile.specs.declared.codes.Codes.{Codes}
use Rattle.a429_ldu.specs.declared.forms.Form.{Form}
use Rattle.a429_ldu.specs.declared.forms.Form.TheVariants.{Rts, Cts, Ack, Nak, Sot, Part, Eot}
use Rattle.a429_ldu.specs.declared.freedom.Freedom.{Freedom}
use Rattle.a429_ldu.specs.declared.freedom.Freedom.TheVariants.{BadParity, OtherLabel, IgnoredType, IgnoredCode}
use Rattle.a429_ldu.specs.Across.{form_across}
use Rattle.a429_ldu.specs.Form.{fields_of, form_of}
use Rattle.a429_ldu.specs.Freedom.{freedom_of}
use Rattle.a429_ldu.specs.Ldu.{is_final}
use Rattle.a429_view.specs.declared.gap.Gap.{Gap}
use Rattle.a429_view.specs.Gap.{gap_of, gap_text}

-- why the transfer passes over it
abbrev pub freedom_text : Freedom → List ℕ
freedom_text BadParity = codes "free parity"
freedom_text OtherLabel = codes "free label"
freedom_text IgnoredType = codes "free type"
freedom_text IgnoredCode = codes "free code"

-- after an end word that ends its file
abbrev pub final_text : Bool → List ℕ
final_text true = codes " final"
final_text false = []

-- the numbers of a link data unit
abbrev pub ldu_text : ℕ → ℕ → List ℕ
ldu_text file ldu = decimal file ++ codes " " ++ decimal ldu

-- a form with its numbers; semi-octets in their order, a hexadecimal digit each
abbrev pub form_text : Codes → Form → List ℕ
form_text c (Rts count) = codes "rts " ++ decimal count
form_text c (Cts count) = codes "cts " ++ decimal count
form_text c (Ack file ldu) = codes "ack " ++ ldu_text file ldu
form_text c (Nak bits) = codes "nak " ++ numeral 16 4 bits
form_text c (Sot gfi file ldu) = codes "sot " ++ ldu_text file ldu ++ codes " gfi " ++ decimal gfi
form_text c (Part semis) = codes "data " ++ map (digit_glyph true) semis
form_text c (Eot flags check) = codes "eot flags " ++ decimal flags ++ codes " check " ++ numeral 16 4 check ++ final_text (is_final c flags)

-- a word that is not free and has no form: by its form in the other direction, where it has one there, or else by the first number
-- that no form has
abbrev pub across_text : Codes → Option Form → Gap → List ℕ
across_text c (Some x) gap = codes "other " ++ form_text c x
across_text c None gap = codes "no form, " ++ gap_text gap

abbrev pub other_text : Codes → Bus → ℕ → List ℕ
other_text c b w = across_text c (form_across c b w) (gap_of c b (fields_of w))

-- a word that is not free, by its form, or by this text, where it has none
abbrev pub form_or_other_text : Codes → Option Form → List ℕ → List ℕ
form_or_other_text c (Some x) other = form_text c x
form_or_other_text c None other = other

-- a word by the reason why it is free, where there is one
abbrev pub reason_or_text : Option Freedom → List ℕ → List ℕ
reason_or_text (Some why) text = freedom_text why
reason_or_text None text = text

-- what a word is on its bus: why it is free, its form, its form in the other direction, or which number no form has
abbrev pub what_text : Codes → Bus → ℕ → List ℕ
what_text c b w = reason_or_text (freedom_of c b w) (form_or_other_text c (form_of c b w) (other_text c b w))
