-- What the verdict on a recording says (profile).
use Rattle.std.specs.Prelude.{◌≡◌, ◌+◌, ◌<◌, ◌⊎◌, List, [], ◌∷◌, take, slice_get, length}
use Rattle.a429_profile.specs.declared.codes.Codes.{Codes}
use Rattle.a429_profile.specs.Profile.{Contents}
use Rattle.a429_ldu.specs.declared.sight.Sight.TheVariants as sight
use Rattle.a429_ldu.specs.Sight.{sight_of}
use Rattle.a429_link.specs.declared.seen.Seen.{Seen}
use Rattle.a429_link.specs.Run.{BeginsARun}
use Rattle.a429_cert.specs.Explained.{IsExplained, AreInSomeRun, AreInEveryRun}
use Rattle.a429_explain.specs.Explanation.{HasNoFault, HasLeastVersion}
use Rattle.a429_explain.specs.declared.verdict.Verdict.{Verdict}
use Rattle.a429_explain.specs.declared.verdict.Verdict.TheVariants.{Explained, Impossible, Unexplained}
use Rattle.a429_explain.specs.declared.stop.Stop.TheVariants as stop
use Rattle.a429_explain.specs.Walk.{FitsAt, AreAllowedUpTo, IsFirstRefused}
use Rattle.a429_explain.specs.Stop.{IsDoubtAt}
use Rattle.a429_explain.specs.Guess.{HasNoDoubt, IsFirstStop}

-- a certificate explains the recorded words by a run that delivers the files, and every run that records them
-- delivers these
abbrev pub IsSoundVerdict : Contents → List Seen → Verdict → Type 0
IsSoundVerdict p items (Explained certificate files) = IsExplained p certificate items files × AreInEveryRun p items files
IsSoundVerdict p items _ = Unit {0}

-- some run records these words and no others, and delivers the files
abbrev pub IsOfSomeRun : Contents → List Seen → Verdict → Type 0
IsOfSomeRun p items (Explained certificate files) = AreInSomeRun p items files
IsOfSomeRun p items _ = Unit {0}

-- in the certificate there is no fault, so `verify` accepts it, unless it is out of memory
abbrev pub IsAccepted : Contents → List Seen → Verdict → Type 0
IsAccepted p items (Explained certificate files) = HasNoFault p certificate items
IsAccepted p items _ = Unit {0}

abbrev pub IsOfLeastVersion : Contents → List Seen → Verdict → Type 0
IsOfLeastVersion p items (Explained certificate files) = HasLeastVersion p certificate items
IsOfLeastVersion p items _ = Unit {0}

-- no run's trace begins with the words up to this one, and the reason fits it
abbrev pub IsImpossible : Contents → List Seen → Verdict → Type 0
IsImpossible p items (Impossible i reason) = (i < length items) × FitsAt p.codes (slice_get items i) reason × (BeginsARun p (take (i + 1) items) → ⊥)
IsImpossible p items _ = Unit {0}

-- a word that claims to be one of the transfer and has none of its forms is recorded
abbrev pub HasNoForm : Codes → List Seen → Type 0
HasNoForm c [] = ⊥
HasNoForm c (i ∷ items) = (sight_of c i.bus i.word ≡ sight.NoForm) ⊎ HasNoForm c items

abbrev pub IsImpossibility : Verdict → Type 0
IsImpossibility (Impossible i reason) = Unit {0}
IsImpossibility _ = ⊥

abbrev pub IsExplanation : Verdict → Type 0
IsExplanation (Explained certificate files) = Unit {0}
IsExplanation _ = ⊥

-- the doubt fits the word at this place
abbrev pub IsDoubted : Contents → List Seen → Verdict → Type 0
IsDoubted p items (Unexplained i doubt) = IsDoubtAt p.codes items i doubt
IsDoubted p items _ = Unit {0}

-- the verdict is at the first test that fails: whether each word is allowed after those before it, then whether each group
-- passes its tests, then whether the steps can be made
abbrev pub IsFirst : Contents → List Seen → Verdict → Type 0
IsFirst p items (Impossible i reason) = IsFirstRefused p items i
IsFirst p items (Unexplained i doubt) = AreAllowedUpTo p items (length items) × IsFirstStop p items (stop.Unexplained i doubt)
IsFirst p items (Explained certificate files) = AreAllowedUpTo p items (length items) × HasNoDoubt p items
