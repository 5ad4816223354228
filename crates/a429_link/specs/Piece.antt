-- Recordings that begin with a request, anywhere in a run: the link data unit that they go on from (ARINC 429 Part 3; how a source
-- goes from one number to the next: profile).
use Rattle.std.specs.Prelude.{◌≡◌, ◌⊎◌, ◌≤◌, true, List, [], ◌∷◌, Some, IsSome}
use Rattle.a429_profile.specs.Profile.{Contents}
use Rattle.a429_profile.specs.declared.codes.Codes.{Codes}
use Rattle.a429_ldu.specs.Form.{form_of}
use Rattle.a429_ldu.specs.Ldu.{is_final}
use Rattle.a429_link.specs.declared.seen.Seen.{Seen}
use Rattle.a429_link.specs.Assignment.{AreAssigned, Assigned, IsSound}
use Rattle.a429_link.specs.Attempt.{asks, attempts}
use Rattle.a429_link.specs.Observer.{AreAllowed, Observer, at_first}
use Rattle.a429_link.specs.Sink.{Number}
use Rattle.a429_link.specs.State.{rest}

-- the first word is a request to send
abbrev pub BeginsWithRequest : Contents → List Seen → Type 0
BeginsWithRequest p [] = ⊥
BeginsWithRequest p (i ∷ items) = IsSome (asks i.bus (form_of p.codes i.bus i.word))

-- some run acknowledges this link data unit: its number is a file's first or a later one, and files are given up right before a
-- file's first number only
pub record IsReachable (p : Contents) (t : Assigned) : Type 0 where
  pub sound : IsSound p t
  pub low : p.codes.first_ldu ≤ t.number.ldu
  pub given_up : (t.give_ups ≡ 0) ⊎ (t.number.ldu ≡ p.codes.first_ldu)

-- its number, and whether it is its file's last
abbrev pub accepted_as : Codes → Assigned → Number
accepted_as c t = record { number = t.number; final = is_final c t.unit.flags }

-- the observer where this link data unit was acknowledged last, and no request is open
abbrev pub observer_past : Number → Observer
observer_past n = record at_first { last = Some n }

-- the recording goes on from a link data unit that was acknowledged last before it: the observer allows each word, and each
-- attempt can be assigned to that link data unit, sent again, or to one that the source comes to, from each one to the next
pub record FollowsUnit (p : Contents) (items : List Seen) : Type 0 where
  -- the link data unit acknowledged last before these words
  pub last : Assigned
  pub reachable : IsReachable p last
  pub allowed : AreAllowed p (observer_past (accepted_as p.codes last)) items
  -- the first of the attempts is the empty one before the first request
  pub units : List Assigned
  pub are : AreAssigned p (Some last) true (rest (attempts p items)) units
