-- A part of a recording by itself (profile).
use Rattle.std.specs.Prelude.{◌≡◌, List, ◌++◌}
use Rattle.a429_profile.specs.Profile.{Contents}
use Rattle.a429_link.specs.declared.seen.Seen.{Seen}
use Rattle.a429_link.specs.Trace.{files_of}
use Rattle.a429_parts.specs.Kept.{HasRun}

-- a run records the words of a part, and delivers what they add to the files of the words before them
pub record IsRunAlone (p : Contents) (before part : List Seen) : Type 0 where
  pub run : HasRun p part (files_of p part)
  pub files : files_of p (before ++ part) ≡ files_of p before ++ files_of p part
