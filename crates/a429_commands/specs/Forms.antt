-- What `a429 forms` writes (profile).
use Rattle.std.specs.Prelude.{◌≡◌, ℕ, List, ◌++◌, codes}
use Rattle.std.specs.List.{flat_map}
use Rattle.a429_profile.specs.declared.codes.Codes.{Codes}
use Rattle.a429_profile.specs.Profile.{Contents}
use Rattle.a429_record.specs.declared.entry.Entry.{Entry}
use Rattle.a429_view.specs.Show.{recorded_text}
use Rattle.a429_view.specs.Forms.{what_text}

-- the line of an entry: time, bus, word, and what it is
abbrev pub form_line : Codes → Entry → List ℕ
form_line c e = recorded_text e ++ what_text c e.bus e.word ++ codes "\n"

abbrev pub form_lines : Codes → List Entry → List ℕ
form_lines c es = flat_map (form_line c) es

-- the text is the lines of these entries
abbrev pub AreFormLines : Contents → List Entry → List ℕ → Type 0
AreFormLines p es text = text ≡ form_lines p.codes es

-- with status 0, the lines of all entries
abbrev pub TellsForms : Contents → List Entry → ℕ → List ℕ → Type 0
TellsForms p es status text = (status ≡ 0) × AreFormLines p es text
