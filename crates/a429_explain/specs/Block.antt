-- The link data unit of a group whose first request asks for so many words (profile). The group has to pass three tests: all
-- its requests ask for as many words, it makes a link data unit, and its words are some of the block of that.
use Rattle.std.specs.Prelude.{◌≡◌, ◌⊎◌, ◌+◌, ◌<◌, ◌≤◌, ℕ, Option, Some, None, slice_range}
use Rattle.a429_ldu.specs.Ldu.{LduValue, IsLdu, count_of}
use Rattle.a429_link.specs.Clean.{without_free, clean_block}
use Rattle.a429_explain.specs.declared.groups.Request.{Request}
use Rattle.a429_link.specs.declared.number.UnitNumber.{UnitNumber}
use Rattle.a429_explain.specs.declared.stop.Stop.{Stop}
use Rattle.a429_explain.specs.declared.stop.Stop.TheVariants.{Unexplained, OutOfMemory}
use Rattle.a429_explain.specs.declared.verdict.Doubt.{Doubt}
use Rattle.a429_explain.specs.declared.verdict.Doubt.TheVariants.{NeverWhole, NotOneBlock, NotReplayed, OutOfSteps}
use Rattle.a429_explain.specs.Filled.{group_unit}
use Rattle.a429_explain.specs.Decoded.{HeardValue}
use Rattle.a429_explain.specs.Matching.{AreMatched}
use Rattle.a429_explain.specs.Whole.{words_for, other_request}

-- ---- the first two tests

-- the first request of the group that asks for another number of words than its first one
abbrev pub other_for : HeardValue → Request → Option ℕ
other_for h r = other_request h.profile.codes r.count (words_for h r) r.group.from

-- its link data unit
abbrev pub unit_for : HeardValue → Request → Option LduValue
unit_for h r = group_unit h.profile r.count (words_for h r)

-- the group makes this link data unit
pub record IsUnitFor (h : HeardValue) (r : Request) (u : LduValue) : Type 0 where
  pub unit : IsLdu h.profile u
  pub count : count_of u ≡ r.count
  -- each request of the group asks for as many words
  pub others : other_for h r ≡ None
  -- it is that of the first whole attempt, or else that of the last data words with filler words after them
  pub is : unit_for h r ≡ Some u

-- why the group makes none; memory may be refused only where each request asks for as many words
abbrev pub IsWhyNoUnit : HeardValue → Request → Stop → Type 0
IsWhyNoUnit h r (Unexplained i NotOneBlock) = other_for h r ≡ Some i
IsWhyNoUnit h r (Unexplained i NeverWhole) = (i ≡ r.group.from) × (other_for h r ≡ None) × (unit_for h r ≡ None)
IsWhyNoUnit h r (Unexplained i NotReplayed) = ⊥
IsWhyNoUnit h r (Unexplained i OutOfSteps) = ⊥
IsWhyNoUnit h r OutOfMemory = other_for h r ≡ None

-- ---- all three

-- the words of the group are, too, some of the block of its link data unit under these numbers: each is matched with the
-- first equal word there that is not yet passed, at each request from the start of the block on
pub record IsMatchedUnit (h : HeardValue) (r : Request) (place : UnitNumber) (u : LduValue) : Type 0 where
  pub gives : IsUnitFor h r u
  pub matched : AreMatched h.profile.codes u place (slice_range h.items r.group.from r.group.to)

-- word i is the first of the group that is matched with none
pub record IsUnmatched (h : HeardValue) (r : Request) (place : UnitNumber) (i : ℕ) : Type 0 where
  pub unit : LduValue
  pub gives : IsUnitFor h r unit
  pub inside : i < r.group.to
  pub before : AreMatched h.profile.codes unit place (slice_range h.items r.group.from i)
  pub unmatched : ¬ AreMatched h.profile.codes unit place (slice_range h.items r.group.from (i + 1))

-- the first test that the group fails, and the place where it does: a request of another count, the group's first request
-- where there is no link data unit, or the first word that is matched with none
abbrev pub IsDoubtIn : HeardValue → Request → UnitNumber → ℕ → Doubt → Type 0
IsDoubtIn h r place i NotOneBlock = IsWhyNoUnit h r (Unexplained i NotOneBlock) ⊎ IsUnmatched h r place i
IsDoubtIn h r place i doubt = IsWhyNoUnit h r (Unexplained i doubt)

abbrev pub IsStopIn : HeardValue → Request → UnitNumber → Stop → Type 0
IsStopIn h r place (Unexplained i doubt) = IsDoubtIn h r place i doubt
IsStopIn h r place OutOfMemory = Unit {0}

-- ---- without loss

-- the words of the group are, free ones left out, those of this link data unit that crosses without loss at this place
pub record HasCrossed (h : HeardValue) (r : Request) (place : UnitNumber) (u : LduValue) : Type 0 where
  pub unit : IsLdu h.profile u
  pub file : place.file ≤ 255
  pub ldu : place.ldu ≤ 255
  pub words : without_free h.profile.codes (words_for h r) ≡ clean_block h.profile.codes place u
