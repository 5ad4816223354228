use Rattle.std.proofs.Common.{◌≡◌, take}
use Rattle.std.specs.List.{flat_map}
use Rattle.a429_profile.specs.Flags.{both_texts}
use Rattle.a429_profile.proofs.entry.texts_of.Given as goal

abbrev pub invariant-loop-flag : goal.invariant-loop-flag
invariant-loop-flag l = l.texts.items ≡ flat_map both_texts (take l.flag-index l.flags)
