-- The label table of a profile, as text (profile).
use Rattle.std.specs.Prelude.{ℕ, List, ◌++◌, length, codes, Option, Some, None}
use Rattle.std.specs.List.{flat_map}
use Rattle.std.specs.Fmt.{decimal}
use Rattle.a429_word.specs.Digits.{octal_text}
use Rattle.a429_profile.specs.declared.entry.Kind.{Kind}
use Rattle.a429_profile.specs.declared.entry.Kind.TheVariants.{Bnr, Bcd, Discrete}
use Rattle.a429_profile.specs.declared.entry.LabelEntry.{LabelEntry}

-- an SDI, or a star for any
abbrev pub sdi_text : Option ℕ → List ℕ
sdi_text None = codes "*"
sdi_text (Some sdi) = decimal sdi

-- the kind with its numbers; of a discrete the number of its flags
abbrev pub kind_text : Kind → List ℕ
kind_text (Bnr bits range decimals) = codes "bnr " ++ decimal bits ++ codes " " ++ decimal range ++ codes " " ++ decimal decimals
kind_text (Bcd digits decimals) = codes "bcd " ++ decimal digits ++ codes " " ++ decimal decimals
kind_text (Discrete flags) = codes "discrete " ++ decimal (length flags)

-- the words that an entry is for
abbrev pub address_text : LabelEntry → List ℕ
address_text e = octal_text e.label ++ codes " " ++ sdi_text e.sdi

-- label, SDI, kind and name, with a space between them, and the line's end
abbrev pub label_line : LabelEntry → List ℕ
label_line e = address_text e ++ codes " " ++ kind_text e.kind ++ codes " " ++ e.name ++ codes "\n"

-- a line for each entry
abbrev pub label_lines : List LabelEntry → List ℕ
label_lines es = flat_map label_line es
