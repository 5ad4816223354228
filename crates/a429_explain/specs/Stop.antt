-- Where a recording is doubted, and why no certificate is written (profile).
use Rattle.std.specs.Prelude.{ℕ, ◌<◌, List, length, slice_get}
use Rattle.a429_profile.specs.declared.codes.Codes.{Codes}
use Rattle.a429_ldu.specs.declared.forms.Form.TheVariants.{Rts, Sot, Part, Eot}
use Rattle.a429_ldu.specs.declared.sight.Sight.{Sight}
use Rattle.a429_ldu.specs.declared.sight.Sight.TheVariants as sight
use Rattle.a429_link.specs.declared.seen.Seen.{Seen}
use Rattle.a429_explain.specs.Decoded.{sight_at}
use Rattle.a429_explain.specs.declared.stop.Stop.{Stop}
use Rattle.a429_explain.specs.declared.stop.Stop.TheVariants.{Unexplained, OutOfMemory}
use Rattle.a429_explain.specs.declared.verdict.Doubt.{Doubt}
use Rattle.a429_explain.specs.declared.verdict.Doubt.TheVariants.{NeverWhole, NotOneBlock, NotReplayed, OutOfSteps}

-- what is doubted of a word: of a request, that its link data unit was recorded whole; of a request or a word of
-- a block, that it belongs to the link data unit of its group
abbrev pub IsDoubtOf : Sight → Doubt → Type 0
IsDoubtOf (sight.Form (Rts n)) NeverWhole = Unit {0}
IsDoubtOf (sight.Form (Rts n)) NotOneBlock = Unit {0}
IsDoubtOf (sight.Form (Sot gfi file ldu)) NotOneBlock = Unit {0}
IsDoubtOf (sight.Form (Part semis)) NotOneBlock = Unit {0}
IsDoubtOf (sight.Form (Eot flags check)) NotOneBlock = Unit {0}
IsDoubtOf _ _ = ⊥

-- the doubt fits word i; the steps that are guessed may stop at any word, and so may a search
abbrev pub IsDoubtAt : Codes → List Seen → ℕ → Doubt → Type 0
IsDoubtAt c items i NotReplayed = i < length items
IsDoubtAt c items i OutOfSteps = i < length items
IsDoubtAt c items i doubt = IsDoubtOf (sight_at c (slice_get items i)) doubt

abbrev pub IsStop : Codes → List Seen → Stop → Type 0
IsStop c items (Unexplained i doubt) = IsDoubtAt c items i doubt
IsStop c items OutOfMemory = Unit {0}
