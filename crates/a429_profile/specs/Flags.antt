-- The texts of a flag, which are made once for each flag of a profile (profile).
use Rattle.std.specs.Prelude.{ℕ, List, ◌++◌, codes}
use Rattle.std.specs.Fmt.{decimal}
use Rattle.a429_profile.specs.declared.entry.Flag.{Flag}

-- a flag and its bit, after a space
abbrev pub text_with : ℕ → Flag → List ℕ
text_with bit f = codes " " ++ f.name ++ codes "=" ++ decimal bit

-- first where the bit is 0, and then where it is 1
abbrev pub both_texts : Flag → List ℕ
both_texts f = text_with 0 f ++ text_with 1 f
