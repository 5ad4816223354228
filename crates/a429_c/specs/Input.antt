-- What the bytes of a profile say (profile).
use Rattle.std.specs.Prelude.{ℕ, List, Ok}
use Rattle.std.specs.Str.{IsUtf8}
use Rattle.toml.specs.Parse.{parse_document}
use Rattle.a429_profile.specs.Profile.{Contents, Answers}

-- the bytes are the text of a profile that says this
abbrev pub IsProfileOf : List ℕ → Contents → Type 0
IsProfileOf bytes contents = IsUtf8 bytes × Answers (parse_document bytes) (Ok contents)
