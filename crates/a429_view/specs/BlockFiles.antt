-- The rows by which the files of a recording cross (profile).
use Rattle.std.specs.Prelude.{◌≡◌, ℕ, ◌&&◌, Bool, true, false, List, map, Option, Some, None, option_map}
use Rattle.std.specs.List.{filter}
use Rattle.a429_profile.specs.declared.codes.Codes.{Codes}
use Rattle.a429_profile.specs.Profile.{Contents}
use Rattle.a429_ldu.specs.declared.forms.Form.{Form}
use Rattle.a429_ldu.specs.declared.forms.Form.TheVariants as form
use Rattle.a429_ldu.specs.Ldu.{is_final}
use Rattle.a429_link.specs.declared.file.FileBytes.{FileBytes}
use Rattle.a429_record.specs.declared.entry.Entry.{Entry}
use Rattle.a429_view.specs.declared.blocks.row.Answer.{Answer}
use Rattle.a429_view.specs.declared.blocks.row.Answer.TheVariants as answer
use Rattle.a429_view.specs.declared.blocks.row.AttemptRow.{AttemptRow}
use Rattle.a429_view.specs.Blocks.{Attempt, attempts, form_at, latest, placed, row_of}

-- the flags of an end word
abbrev pub flags_by : Option Form → Option ℕ
flags_by (Some (form.Eot flags check)) = Some flags
flags_by _ = None

-- flags of the last link data unit of a file
abbrev pub are_final : Codes → Option ℕ → Bool
are_final c None = false
are_final c (Some flags) = is_final c flags

-- the link data unit of an attempt is the last of its file, by the end word
abbrev pub ends_file : Codes → Attempt → Bool
ends_file c a = are_final c (latest (λ x. flags_by (form_at c x)) a.after)

-- the outcome is `acknowledged`
abbrev pub is_accepted : Option Answer → Bool
is_accepted (Some answer.Accepted) = true
is_accepted _ = false

-- the row of the attempt has the outcome `acknowledged`, and its link data unit is the last of its file
abbrev pub delivers : Contents → Attempt → Bool
delivers p a = is_accepted (row_of p a).answer && ends_file p.codes a

-- of the rows of these entries those `acknowledged` whose link data unit is the last of its file
abbrev pub delivering_rows : Contents → List Entry → List AttemptRow
delivering_rows p es = map (row_of p) (filter (delivers p) (attempts p.codes (placed p es)))

-- the file number of a row; none where no start word was recorded
abbrev pub file_in : AttemptRow → Option ℕ
file_in r = option_map (λ u. u.file) r.unit

-- the rows have the numbers of these files, in order
abbrev pub NameFiles : List AttemptRow → List FileBytes → Type 0
NameFiles rows files = map file_in rows ≡ map (λ f. Some f.number) files
