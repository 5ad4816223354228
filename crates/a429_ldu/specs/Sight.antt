-- What a word is to the file transfer: free, a form, or neither.
use Rattle.std.specs.Prelude.{ℕ, ◌==◌, if◌then◌else◌, Option, Some, None, length}
use Rattle.a429_word.specs.declared.bus.Bus.{Bus}
use Rattle.a429_profile.specs.declared.codes.Codes.{Codes}
use Rattle.a429_ldu.specs.declared.forms.Form.{Form}
use Rattle.a429_ldu.specs.declared.forms.Form.TheVariants.{Part}
use Rattle.a429_ldu.specs.declared.sight.Sight.{Sight}
use Rattle.a429_ldu.specs.declared.sight.Sight.TheVariants as sight
use Rattle.a429_ldu.specs.Form.{is_free, form_of}

-- a word that is not free, by its form
abbrev pub sight_in : Option Form → Sight
sight_in (Some x) = sight.Form x
sight_in None = sight.NoForm

abbrev pub sight_of : Codes → Bus → ℕ → Sight
sight_of c b w = if is_free c b w then sight.Free else sight_in (form_of c b w)

-- its form, where it has one
abbrev pub form_in : Sight → Option Form
form_in (sight.Form x) = Some x
form_in _ = None

-- the form of a data word of five semi-octets, which is a full one, and of no other word
abbrev pub full_in : Option Form → Option Form
full_in (Some (Part semis)) = if length semis == 5 then Some (Part semis) else None
full_in _ = None
