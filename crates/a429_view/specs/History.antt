-- What `history` says of the pieces of a recording (profile).
use Rattle.std.specs.Prelude.{ℕ, suc, ◌++◌, Bool, true, false, List, [], ◌∷◌, codes, flat_map, Option, Some, None}
use Rattle.std.specs.Fmt.{decimal}
use Rattle.a429_profile.specs.declared.codes.Codes.{Codes}
use Rattle.a429_ldu.specs.declared.forms.Form.{Form}
use Rattle.a429_ldu.specs.declared.forms.Form.TheVariants as form
use Rattle.a429_ldu.specs.Sight.{form_in, sight_of}
use Rattle.a429_parts.specs.Parts.{part_line}
use Rattle.a429_sink.specs.declared.file_units.FileUnits.{FileUnits}
use Rattle.a429_sink.specs.declared.summary.PieceSummary.{PieceSummary}
use Rattle.a429_sink.specs.declared.summary.Stopped.{Stopped}
use Rattle.a429_view.specs.Sink.{crossed_line}

-- a file was begun before the piece
abbrev pub begun_text : Bool → List ℕ
begun_text false = []
begun_text true = codes "begun before\n"

-- why no run records a word of this form
abbrev pub reason_text : Option Form → List ℕ
reason_text None = codes " NoForm\n"
reason_text (Some (form.Sot gfi file ldu)) = codes " NotGranted\n"
reason_text (Some (form.Part semis)) = codes " NotGranted\n"
reason_text (Some (form.Eot flags check)) = codes " NotGranted\n"
reason_text (Some f) = codes " WrongAnswer\n"

-- the line of the entry at which a piece stops
abbrev pub stop_line : Codes → Stopped → List ℕ
stop_line c s = codes "stopped " ++ decimal s.entry ++ reason_text (form_in (sight_of c s.seen.bus s.seen.word))

abbrev pub stop_text : Codes → Option Stopped → List ℕ
stop_text c None = []
stop_text c (Some s) = stop_line c s

-- the line of acknowledged units of a file whose beginning or end is not there
abbrev pub open_line : FileUnits → List ℕ
open_line u = codes "open " ++ decimal u.file ++ (codes " units " ++ decimal u.first) ++ (codes " to " ++ decimal u.last) ++ codes "\n"

-- the lines of the piece of this number
abbrev pub piece_text : Codes → ℕ → PieceSummary → List ℕ
piece_text c k t = part_line k t.entries t.from ++ begun_text t.begun_before ++ stop_text c t.stop ++ flat_map crossed_line t.files.items ++ flat_map open_line t.units.items

-- those of the pieces from this number on
abbrev pub history_text : Codes → ℕ → List PieceSummary → List ℕ
history_text c k [] = []
history_text c k (t ∷ told) = piece_text c k t ++ history_text c (suc k) told

-- how they are meant
abbrev pub caveat : List ℕ
caveat = codes "a file listed has crossed, here or before; that a part ends there is an assumption\n"
