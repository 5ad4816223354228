-- The lines of files.
use Rattle.std.proofs.Common.{◌≡◌, ◌∙◌, ◌++◌, ℕ, List, length, ap}
use Rattle.std.specs.List.{flat_map}
use Rattle.std.proofs.lemmas.List.{length-map}
use Rattle.std.proofs.lemmas.List.Folds.{flat_map-map}
use Rattle.a429_link.specs.declared.file.FileBytes.{FileBytes}
use Rattle.a429_cert.specs.Stream.{sizes}
use Rattle.a429_view.specs.Verdict.{count_line, file_line, line_of_file, yes_text}

-- what is reported of files, by their lines
pub yes_of_files : (files : List FileBytes) → yes_text (sizes files) ≡ count_line (length files) ++ flat_map line_of_file files
yes_of_files files =
    ap (λ n. count_line n ++ flat_map file_line (sizes files)) (length-map files (λ f. (f.number, length f.bytes)))
    ∙ ap (λ (t : List ℕ). count_line (length files) ++ t) (flat_map-map file_line (λ f. (f.number, length f.bytes)) files)
