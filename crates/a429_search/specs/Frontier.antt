-- What a source may have done up to an attempt, as hypotheses that are carried from one attempt to the next (profile).
use Rattle.std.specs.Prelude.{◌≡◌, ◌<◌, ◌≤◌, ◌⊎◌, ℕ, Bool, true, false, List, [], ◌∷◌, Option, Some, None, IfSome, is_some, length, not, slice_get, take}
use Rattle.a429_profile.specs.Profile.{Contents}
use Rattle.a429_ldu.specs.Ldu.{LduValue}
use Rattle.a429_link.specs.Assignment.{Assigned, GivesUp, IsNext, IsSound, LeavesFor}
use Rattle.a429_link.specs.declared.number.UnitNumber.{UnitNumber}
use Rattle.a429_link.specs.declared.seen.Seen.{Seen}
use Rattle.a429_link.specs.Run.{BeginsARun}
use Rattle.a429_explain.specs.Decoded.{HeardValue}
use Rattle.a429_explain.specs.Guess.{IsGuess}
use Rattle.a429_search.specs.declared.attempts.Attempt.{Attempt}
use Rattle.a429_search.specs.declared.groups.Group.{Group}
use Rattle.a429_search.specs.declared.searching.Hypothesis.{Hypothesis}
use Rattle.a429_search.specs.declared.standing.Standing.{Standing}
use Rattle.a429_search.specs.declared.searching.Found.{Found}
use Rattle.a429_search.specs.declared.searching.Found.TheVariants as found
use Rattle.a429_merge.specs.declared.budget.Cut.{Cut}
use Rattle.a429_merge.specs.Block.{MayBeUnitOf}
use Rattle.a429_contradiction.specs.Contradiction.{HasNoRun}
use Rattle.a429_search.specs.Recorded.{IsAttemptFrom, IsRequestAt, MayBeTo}
use Rattle.a429_search.specs.Standing.{CanStand, IsAt, IsRegular, Stands, StandsLater, all_give_ups}

-- the attempts of the group may have been attempts to send this link data unit
abbrev pub FitsGroup : Contents → Option Group → LduValue → Type 0
FitsGroup p None u = Unit {0}
FitsGroup p (Some g) u = MayBeUnitOf p g.pieces u

-- the hypothesis allows that the last attempt, or the next one, is to send this: with the link data unit of its group, or with one of a
-- later file
abbrev pub Covers : Contents → Hypothesis → Assigned → Type 0
Covers p h t = StandsLater p.codes.first_ldu h.standing t.number t.give_ups ⊎ (Stands p.codes.first_ldu h.standing t.number t.give_ups × FitsGroup p h.group t.unit)

-- one of the hypotheses does
pub record AreCovered (p : Contents) (hyps : List Hypothesis) (t : Assigned) : Type 0 where
  pub place : ℕ
  pub hypothesis : Hypothesis
  pub is : slice_get hyps place ≡ Some hypothesis
  pub covers : Covers p hypothesis t

-- the source is where this is said of it, or at a later file
abbrev pub IsAmong : ℕ → Standing → Assigned → Type 0
IsAmong first s t = Stands first s t.number t.give_ups ⊎ StandsLater first s t.number t.give_ups

-- each of the hypotheses is still there
abbrev pub AreKept : List Hypothesis → List Hypothesis → Type 0
AreKept old new = (k : ℕ) (h : Hypothesis) → slice_get old k ≡ Some h → slice_get new k ≡ Some h

-- the hypotheses carried on to an attempt cover what those before cover, where it may be what the attempt was to send
abbrev pub CarriesOn : Contents → List Hypothesis → Attempt → List Hypothesis → Type 0
CarriesOn p hyps a next = (t : Assigned) → IsSound p t → MayBeTo p a t → AreCovered p hyps t → AreCovered p next t

-- the attempt fits none of the hypotheses
abbrev pub FitsNone : Contents → List Hypothesis → Attempt → Type 0
FitsNone p hyps a = (t : Assigned) → IsSound p t → MayBeTo p a t → ¬ AreCovered p hyps t

-- the next hypotheses cover whatever may follow the attempt, where the hypotheses before cover what it may be, if they left nothing out
abbrev pub GoOnFrom : Contents → Bool → List Hypothesis → Attempt → List Hypothesis → Type 0
GoOnFrom p whole hyps a next = (t u : Assigned) → (whole ≡ true → AreCovered p hyps t) → IsSound p t → MayBeTo p a t → IsNext p.codes (Some t) (is_some a.acknowledged) u → AreCovered p next u

-- before all attempts: the source is at the first number of some file
abbrev pub IsStart : List Hypothesis → Type 0
IsStart hyps = (h : Hypothesis) × (hyps ≡ h ∷ []) × (h.standing.known ≡ None) × (h.standing.give_ups ≡ 0) × (h.standing.since ≡ 0) × (h.standing.is_started ≡ false) × (h.group ≡ None)

-- after a start word each hypothesis is at its number
abbrev pub AreAt : Option UnitNumber → List Hypothesis → Type 0
AreAt start hyps = IfSome start (λ n. (k : ℕ) (h : Hypothesis) → slice_get hyps k ≡ Some h → IsAt n h.standing)

-- it is one of them, and none of them has fewer files given up
abbrev pub HasFewest : List Hypothesis → ℕ → Type 0
HasFewest hyps place = (best : Hypothesis) × (slice_get hyps place ≡ Some best) × ((k : ℕ) (h : Hypothesis) → slice_get hyps k ≡ Some h → all_give_ups best.standing ≤ all_give_ups h.standing)

-- the last attempt of the first `to` items, whose request is item `from`, fits none of the hypotheses
abbrev pub IsRefused : Contents → List Seen → List Hypothesis → ℕ → ℕ → Type 0
IsRefused p items hyps from to = (a : Attempt) × IsAttemptFrom p items from to a × FitsNone p hyps a

-- ---- that nothing is made up

-- by this standing and the group under way the last attempt can have been to send this; where no group is under way, the next one can be
abbrev pub CanSend : Contents → Standing → Option Group → Assigned → Type 0
CanSend p s o t = CanStand p.codes.first_ldu s t.number t.give_ups × FitsGroup p o t.unit

-- so each hypothesis is: its standing is regular, and its group has a link data unit
pub record IsReal (p : Contents) (s : Standing) (o : Option Group) : Type 0 where
  pub standing : IsRegular p.codes.first_ldu s (is_some o)
  pub unit : IfSome o (λ g. MayBeUnitOf p g.pieces g.unit)

abbrev pub AreReal : Contents → List Hypothesis → Type 0
AreReal p hyps = (k : ℕ) (h : Hypothesis) → slice_get hyps k ≡ Some h → IsReal p h.standing h.group

-- from there the source comes to the next attempt with this: it sends the same again, or gives its file up
abbrev pub LeadsBy : Contents → Standing → Option Group → Assigned → Type 0
LeadsBy p s None t = CanStand p.codes.first_ldu s t.number t.give_ups
LeadsBy p s (Some g) t = CanSend p s (Some g) t ⊎ ((t0 : Assigned) × IsSound p t0 × CanSend p s (Some g) t0 × GivesUp p.codes t0.number t0.give_ups t.number t.give_ups)

-- a hypothesis that is carried on from this one to an attempt makes nothing up: what it says may be what the attempt is to send, and this one
-- leads there
pub record IsCarriedFrom (p : Contents) (h : Hypothesis) (a : Attempt) (s : Standing) (o : Option Group) : Type 0 where
  pub real : IsReal p s o
  pub group : is_some o ≡ true
  pub comes : (t : Assigned) → IsSound p t → CanSend p s o t → MayBeTo p a t × LeadsBy p h.standing h.group t

-- each of the new hypotheses is an old one, or is carried on from this one
abbrev pub AddCarried : Contents → Hypothesis → Attempt → List Hypothesis → List Hypothesis → Type 0
AddCarried p h a old new = (k : ℕ) (x : Hypothesis) → slice_get new k ≡ Some x → (slice_get old k ≡ Some x) ⊎ IsCarriedFrom p h a x.standing x.group

-- it is carried on from one of the hypotheses
pub record IsCarried (p : Contents) (hyps : List Hypothesis) (a : Attempt) (x : Hypothesis) : Type 0 where
  pub place : ℕ
  pub hypothesis : Hypothesis
  pub is : slice_get hyps place ≡ Some hypothesis
  pub from : IsCarriedFrom p hypothesis a x.standing x.group

abbrev pub AreCarried : Contents → List Hypothesis → Attempt → List Hypothesis → Type 0
AreCarried p hyps a next = (k : ℕ) (x : Hypothesis) → slice_get next k ≡ Some x → IsCarried p hyps a x

-- the last attempt of the first `to` items, whose request is item `from`, is one to which some of the hypotheses can be carried on; or it
-- has no item yet
abbrev pub FitsSome : Contents → List Seen → List Hypothesis → ℕ → ℕ → Type 0
FitsSome p items hyps from to = ((from ≡ to) × (hyps ≡ [] → ⊥)) ⊎ ((a : Attempt) × IsAttemptFrom p items from to a × (next : List Hypothesis) × (AreReal p hyps → AreCarried p hyps a next) × (next ≡ [] → ⊥))

-- one of the hypotheses, which has a group, says this
pub record SomeSays (p : Contents) (hyps : List Hypothesis) (t : Assigned) : Type 0 where
  pub place : ℕ
  pub hypothesis : Hypothesis
  pub is : slice_get hyps place ≡ Some hypothesis
  pub group : is_some hypothesis.group ≡ true
  pub says : CanSend p hypothesis.standing hypothesis.group t

-- after an attempt that was acknowledged: what a hypothesis says one of those before says; or, where the source has heard the acknowledgement,
-- it comes there from what one of them says
abbrev pub IsHeardBy : Contents → List Hypothesis → Standing → Option Group → Type 0
IsHeardBy p next s (Some g) = (t : Assigned) → IsSound p t → CanSend p s (Some g) t → SomeSays p next t
IsHeardBy p next s None = (last : Assigned) × IsSound p last × SomeSays p next last × ((t : Assigned) → IsSound p t → CanStand p.codes.first_ldu s t.number t.give_ups → LeavesFor p.codes last true t.number t.give_ups)

abbrev pub AreHeard : Contents → List Hypothesis → List Hypothesis → Type 0
AreHeard p next hyps = (k : ℕ) (h : Hypothesis) → slice_get hyps k ≡ Some h → IsReal p h.standing h.group × IsHeardBy p next h.standing h.group

-- each of the new hypotheses is an old one, but for its place in the trail
abbrev pub AreSame : List Hypothesis → List Hypothesis → Type 0
AreSame old new = (k : ℕ) (h : Hypothesis) → slice_get new k ≡ Some h → (j : ℕ) × (g : Hypothesis) × (slice_get old j ≡ Some g) × (h.standing ≡ g.standing) × (h.group ≡ g.group)

-- hypotheses that are carried on to an attempt, and those after it, where it was acknowledged, or not
pub record TakesOn (p : Contents) (hyps : List Hypothesis) (a : Attempt) (new : List Hypothesis) : Type 0 where
  pub next : List Hypothesis
  pub carried : AreReal p hyps → AreCarried p hyps a next
  pub heard : List Hypothesis
  pub after : (heard ≡ next) ⊎ ((is_some a.acknowledged ≡ true) × (AreCarried p hyps a next → AreHeard p next heard))
  pub same : AreSame heard new

-- ---- where a search was cut short

-- nowhere, so that nothing is left out
abbrev pub leaves_nothing_out : Option Cut → Bool
leaves_nothing_out o = not (is_some o)

-- at the request of this attempt, or where one of two searches was before
abbrev pub AreCuts : Option Cut → Option Cut → ℕ → Option Cut → Type 0
AreCuts one other entry new = IfSome new (λ c. (c.entry ≡ entry) ⊎ ((one ≡ Some c) ⊎ (other ≡ Some c)))

-- at a request, if it was cut short
abbrev pub IsAtRequest : Contents → List Seen → Option Cut → Type 0
IsAtRequest p items o = IfSome o (λ c. IsRequestAt p items c.entry)

-- some run's words begin with these, unless the search was cut short at a request
pub record IsSureUnless (p : Contents) (items : List Seen) (unsure : Option Cut) : Type 0 where
  pub at : IsAtRequest p items unsure
  pub sure : unsure ≡ None → BeginsARun p items

-- what a search answers: what is guessed of the run, and where it was cut short, if it is not sure that there is one; or an entry with which
-- no run's words begin, where it was not cut short the first such entry; or a request at which it was cut short
abbrev pub IsFound : HeardValue → Found → Type 0
IsFound d (found.Run guess unsure) = IsGuess d.profile d.items guess × IsSureUnless d.profile d.items unsure
IsFound d (found.NoRun entry cut) = (entry < length d.items) × HasNoRun d.profile d.items entry × (cut ≡ None → BeginsARun d.profile (take entry d.items))
IsFound d (found.CutShort c) = IsRequestAt d.profile d.items c.entry
