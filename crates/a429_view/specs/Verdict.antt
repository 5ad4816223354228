-- The text of a verdict on a certificate (profile).
use Rattle.std.specs.Prelude.{◌++◌, ℕ, List, [], length, codes}
use Rattle.std.specs.List.{flat_map}
use Rattle.std.specs.Fmt.{decimal}
use Rattle.a429_link.specs.declared.file.FileBytes.{FileBytes}
use Rattle.a429_cert.specs.declared.fault.CertFault.{CertFault}
use Rattle.a429_cert.specs.declared.fault.CertFault.TheVariants as cert

-- the line of a file: its number, and how many bytes it has
abbrev pub file_line : ℕ × ℕ → List ℕ
file_line f = codes "file " ++ decimal f.0 ++ codes " " ++ decimal f.1 ++ codes "\n"

-- how many files cross
abbrev pub count_line : ℕ → List ℕ
count_line n = codes "YES files " ++ decimal n ++ codes "\n"

-- the line of a file whose bytes are known
abbrev pub line_of_file : FileBytes → List ℕ
line_of_file f = file_line (f.number, length f.bytes)

-- a yes, with the number and the length of each file
abbrev pub yes_text : List (ℕ × ℕ) → List ℕ
yes_text files = count_line (length files) ++ flat_map file_line files

-- the first fault of a certificate, with its line or entry; out of memory is no verdict
abbrev pub fault_text : CertFault → List ℕ
fault_text cert.Version = codes "version\n"
fault_text (cert.Line n) = codes "line " ++ decimal n ++ codes "\n"
fault_text (cert.NotAllowed n) = codes "not allowed " ++ decimal n ++ codes "\n"
fault_text (cert.StateDiffers n) = codes "state differs " ++ decimal n ++ codes "\n"
fault_text (cert.WordDiffers n i) = codes "word differs " ++ decimal n ++ codes " " ++ decimal i ++ codes "\n"
fault_text (cert.Unfinished i) = codes "unfinished " ++ decimal i ++ codes "\n"
fault_text cert.OutOfMemory = []

-- a no
abbrev pub no_text : CertFault → List ℕ
no_text f = codes "NO " ++ fault_text f
