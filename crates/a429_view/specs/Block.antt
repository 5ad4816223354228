-- The text of a block that the sink is in, before and after the number of data words taken (profile).
use Rattle.std.specs.Prelude.{ℕ, List, ◌++◌, codes}
use Rattle.std.specs.Fmt.{decimal}
use Rattle.a429_view.specs.Forms.{ldu_text}

abbrev pub block_start : ℕ → ℕ → List ℕ
block_start file ldu = codes " | in block " ++ ldu_text file ldu ++ codes ", "

abbrev pub block_end : ℕ → List ℕ
block_end asked = codes " of " ++ decimal asked ++ codes " data words"
