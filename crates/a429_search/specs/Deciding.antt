-- Which verdict `decide` gives (profile).
use Rattle.std.specs.Prelude.{◌≡◌, ◌+◌, ◌≤◌, ◌<◌, ◌⊎◌, ℕ, IfSome, IsSomeAnd, List, Option, None, Some, length, slice_get, take}
use Rattle.a429_profile.specs.Profile.{Contents}
use Rattle.a429_link.specs.declared.seen.Seen.{Seen}
use Rattle.a429_cert.specs.Explained.{IsExplained}
use Rattle.a429_link.specs.Observer.{IsRefused}
use Rattle.a429_link.specs.Run.{BeginsARun}
use Rattle.a429_explain.specs.declared.verdict.Reason.{Reason}
use Rattle.a429_explain.specs.declared.verdict.Reason.TheVariants.{NoRun}
use Rattle.a429_explain.specs.declared.verdict.Verdict.{Verdict}
use Rattle.a429_explain.specs.declared.verdict.Verdict.TheVariants.{Explained, Impossible, Unexplained}
use Rattle.a429_explain.specs.declared.verdict.Doubt.{Doubt}
use Rattle.a429_explain.specs.declared.verdict.Doubt.TheVariants.{NotReplayed, OutOfSteps}
use Rattle.a429_explain.specs.Explanation.{IsExplanationOf}
use Rattle.a429_explain.specs.Verdict.{IsFirst}
use Rattle.a429_explain.specs.Walk.{AreAllowedUpTo, FitsAt}
use Rattle.a429_explain.specs.Guess.{IsGuess}
use Rattle.a429_contradiction.specs.declared.contradiction.Contradiction.{Contradiction}
use Rattle.a429_search.specs.declared.deciding.Judged.{Judged}
use Rattle.a429_search.specs.declared.deciding.Judged.TheVariants as judged
use Rattle.a429_search.specs.declared.deciding.Before.{Before}
use Rattle.a429_search.specs.declared.deciding.Written.{Written}
use Rattle.a429_search.specs.declared.deciding.Written.TheVariants as written
use Rattle.a429_merge.specs.Budget.{IsReached}
use Rattle.a429_merge.specs.declared.budget.Cut.{Cut}
use Rattle.a429_search.specs.Frontier.{IsSureUnless}
use Rattle.a429_search.specs.Recorded.{IsRequestAt}
use Rattle.a429_contradiction.specs.Contradiction.{ContradictsAt, HasNoContradiction, HasNoneBefore, HasNoRun, IsFirstContradiction}

-- the words before item i do not allow it, and the reason fits it; or it contradicts them, by this reason
abbrev pub IsReasonAt : Contents → List Seen → ℕ → Reason → Type 0
IsReasonAt p items i reason = (IsRefused p items i × FitsAt p.codes (slice_get items i) reason) ⊎ ContradictsAt p items i reason

-- each of the first n items is allowed after those before it, and none contradicts them: no reason holds at any of them
abbrev pub HasNoReason : Contents → List Seen → ℕ → Type 0
HasNoReason p items n = AreAllowedUpTo p items n × HasNoContradiction p items n

-- the reason holds at item i, and item i contradicts the words before it by no reason that comes before this one in their order
abbrev pub IsFirstReasonAt : Contents → List Seen → ℕ → Reason → Type 0
IsFirstReasonAt p items i reason = IsReasonAt p items i reason × HasNoneBefore (ContradictsAt p items i) reason

-- no run's trace begins with the words up to this one; there the reason is the first that holds, or it is `NoRun`, and no reason
-- holds at this item or one before it
abbrev pub IsImpossibleBy : Contents → List Seen → Verdict → Type 0
IsImpossibleBy p items (Impossible i reason) = (i < length items) × (IsFirstReasonAt p items i reason ⊎ ((reason ≡ NoRun) × HasNoReason p items (i + 1))) × HasNoRun p items i
IsImpossibleBy p items _ = Unit {0}

-- no run's trace begins with the words up to this one: it is the first that contradicts those before it; or none up to it does, and the
-- reason is `NoRun`
pub record IsNoRun (p : Contents) (items : List Seen) (c : Contradiction) : Type 0 where
  pub inside : c.entry < length items
  pub how : IsFirstContradiction p items c ⊎ ((c.reason ≡ NoRun) × HasNoContradiction p items (c.entry + 1))
  pub no_run : HasNoRun p items c.entry

-- where the search was not cut short, some run's trace begins with the first n items
abbrev pub BeginsUnlessCut : {Z : Type 0} → Contents → List Seen → ℕ → Option Z → Type 0
BeginsUnlessCut p items n cut = cut ≡ None → BeginsARun p (take n items)

-- no run's trace begins with the words up to its entry; where the search was not cut short, some run's trace begins with those before it
abbrev pub IsNoRunUnlessCut : {Z : Type 0} → Contents → List Seen → Contradiction → Option Z → Type 0
IsNoRunUnlessCut p items c cut = IsNoRun p items c × BeginsUnlessCut p items c.entry cut

-- what is found of items that are allowed
abbrev pub IsJudged : Contents → List Seen → Judged → Type 0
IsJudged p items (judged.NoRun c cut) = IsNoRunUnlessCut p items c cut
IsJudged p items (judged.Guessed guess unsure) = IsGuess p items guess × HasNoContradiction p items (length items) × IsSureUnless p items unsure
IsJudged p items (judged.CutShort at) = IsRequestAt p items at.entry × HasNoContradiction p items (length items)

-- the same, with the run that is guessed written down
abbrev pub IsWritten : Contents → List Seen → Written → Type 0
IsWritten p items (written.NoRun c cut) = IsNoRunUnlessCut p items c cut
IsWritten p items (written.Run e) = IsExplanationOf p items e × HasNoContradiction p items (length items)
IsWritten p items (written.Begun i) = (i < length items) × BeginsARun p items × HasNoContradiction p items (length items)
IsWritten p items (written.CutShort at) = IsRequestAt p items at.entry × HasNoContradiction p items (length items)

-- what is found of the items before one that is refused
abbrev pub IsFoundBefore : Contents → List Seen → Option Cut → Option Contradiction → Type 0
IsFoundBefore p items cut (Some c) = IsNoRunUnlessCut p items c cut
IsFoundBefore p items cut None = HasNoContradiction p items (length items) × (cut ≡ None → BeginsARun p items)

abbrev pub IsLookedBefore : Contents → List Seen → Before → Type 0
IsLookedBefore p items b = IsFoundBefore p items b.cut b.found

-- what a search alone finds of items
abbrev pub IsSearched : Contents → List Seen → Option Cut → Option Contradiction → Type 0
IsSearched p items cut (Some c) = (c.entry < length items) × (c.reason ≡ NoRun) × HasNoRun p items c.entry × BeginsUnlessCut p items c.entry cut
IsSearched p items cut None = cut ≡ None → BeginsARun p items

abbrev pub IsSearchedBefore : Contents → List Seen → Before → Type 0
IsSearchedBefore p items b = IsSearched p items b.cut b.found

-- the verdict says that no run's trace begins with the words up to item i, or with fewer
abbrev pub IsImpossibleUpTo : ℕ → Verdict → Type 0
IsImpossibleUpTo i (Impossible j reason) = j ≤ i
IsImpossibleUpTo i _ = ⊥

-- `check` has a doubt of these words: no word is refused, and a test of a group fails, or the steps cannot be made
pub record HasDoubt (p : Contents) (items : List Seen) : Type 0 where
  pub entry : ℕ
  pub doubt : Doubt
  pub is : IsFirst p items (Unexplained entry doubt)

-- an explanation is that of `check`, or a search explains the words of which `check` has a doubt; where `decide` has one, `check` does, too
abbrev pub IsOfCheck : Contents → List Seen → Verdict → Type 0
IsOfCheck p items (Explained certificate files) = IsFirst p items (Explained certificate files) ⊎ HasDoubt p items
IsOfCheck p items (Impossible i reason) = Unit {0}
IsOfCheck p items (Unexplained i doubt) = HasDoubt p items

-- a yes, with a certificate that explains these words; or an item such that no run's trace begins with the words up to it, and some run's
-- trace with those before it, unless the search was cut short; or the request at which it was cut short; or some run's trace begins with
-- all these words
abbrev pub IsExactly : Contents → List Seen → Option Cut → Verdict → Type 0
IsExactly p items cut (Explained certificate files) = IsExplained p certificate items files
IsExactly p items cut (Impossible i reason) = (i < length items) × HasNoRun p items i × (cut ≡ None → BeginsARun p (take i items))
IsExactly p items cut (Unexplained i OutOfSteps) = IsSomeAnd cut (λ c. c.entry ≡ i) × IsRequestAt p items i
IsExactly p items cut (Unexplained i NotReplayed) = BeginsARun p items
IsExactly p items cut (Unexplained i doubt) = ⊥

-- the verdict is exact (`IsExactly`); `cut` says where and by which limit its search was cut short, if it was, and that limit was reached
pub record IsExact (p : Contents) (items : List Seen) (cut : Option Cut) (v : Verdict) : Type 0 where
  pub verdict : IsExactly p items cut v
  pub reached : IfSome cut (λ c. IsReached c.by.limit)
