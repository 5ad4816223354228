-- To which link data unit each attempt of a recording may be assigned (ARINC 429 Part 3; how a source goes from one number to the
-- next: profile).
use Rattle.std.specs.Prelude.{ℕ, ◌≡◌, ◌⊎◌, ◌+◌, ◌%◌, ◌≤◌, Bool, true, List, [], ◌∷◌, Option, Some, None, is_some}
use Rattle.a429_profile.specs.Profile.{Contents}
use Rattle.a429_profile.specs.declared.codes.Codes.{Codes}
use Rattle.a429_ldu.specs.Ldu.{LduValue, IsLdu}
use Rattle.a429_link.specs.declared.number.UnitNumber.{UnitNumber}
use Rattle.a429_link.specs.declared.seen.Seen.{Seen}
use Rattle.a429_link.specs.Attempt.{Attempt, IsAttemptAt, attempts}
use Rattle.a429_link.specs.Number.{number_after}

-- what an attempt is assigned to: a link data unit, its number, and how many files the source has given up by then since it
-- last heard an acknowledgement
pub record Assigned : Type 0 where
  pub number : UnitNumber
  pub unit : LduValue
  pub give_ups : ℕ

-- a source may send it: it is a link data unit of the profile, its number is one of a file's, and so many files may be given up
pub record IsSound (p : Contents) (t : Assigned) : Type 0 where
  pub unit : IsLdu p t.unit
  pub file : t.number.file ≤ 255
  pub ldu : t.number.ldu ≤ p.codes.first_ldu + 254
  pub give_ups : t.give_ups ≤ 127

-- from number n, with g files given up, the source gives up one file or more, and is at the first number of a later file: m,
-- with h files given up
abbrev pub GivesUp : Codes → UnitNumber → ℕ → UnitNumber → ℕ → Type 0
GivesUp c n g m h = (d : ℕ) × (1 ≤ d) × (m.file ≡ (n.file + d) % 256) × (m.ldu ≡ c.first_ldu) × (h ≡ g + d)

-- the source leaves this link data unit for number m, with h files given up: it gives its file up; or it has heard an
-- acknowledgement, is at the next number with none given up, and perhaps gives up files from there
abbrev pub LeavesFor : Codes → Assigned → Bool → UnitNumber → ℕ → Type 0
LeavesFor c t acked m h =
    GivesUp c t.number t.give_ups m h
    ⊎ ((acked ≡ true) × (((m ≡ number_after c t.number t.unit) × (h ≡ 0)) ⊎ GivesUp c (number_after c t.number t.unit) 0 m h))

-- the source comes to number m with h files given up: at first to the first number of any file; then it leaves the link data
-- unit of the attempt before, which was acknowledged or not
abbrev pub ComesTo : Codes → Option Assigned → Bool → UnitNumber → ℕ → Type 0
ComesTo c None acked m h = m.ldu ≡ c.first_ldu
ComesTo c (Some t) acked m h = LeavesFor c t acked m h

-- the next attempt is to send the same link data unit again, or one that the source comes to
abbrev pub IsNext : Codes → Option Assigned → Bool → Assigned → Type 0
IsNext c None acked t = ComesTo c None acked t.number t.give_ups
IsNext c (Some last) acked t = (t ≡ last) ⊎ ComesTo c (Some last) acked t.number t.give_ups

-- if a number is acknowledged, it is this one
abbrev pub IsAckedAs : UnitNumber → Option UnitNumber → Type 0
IsAckedAs n None = Unit {0}
IsAckedAs n (Some m) = m ≡ n

-- the attempt is one to send this link data unit. Before the first request there is none
abbrev pub IsOf : Contents → Option Assigned → Attempt → Type 0
IsOf p None a = Unit {0}
IsOf p (Some t) a = IsAttemptAt p t.number t.unit a × IsAckedAs t.number a.acked

-- these attempts are assigned to these link data units; the attempt before them, if there is one, is assigned to `last`, and was
-- acknowledged or not
abbrev pub AreAssigned : Contents → Option Assigned → Bool → List Attempt → List Assigned → Type 0
AreAssigned p last acked [] [] = Unit {0}
AreAssigned p last acked (a ∷ more) (t ∷ units) = IsSound p t × IsNext p.codes last acked t × IsOf p (Some t) a × AreAssigned p (Some t) (is_some a.acked) more units
AreAssigned p last acked _ _ = ⊥

-- the first of these attempts is assigned to `now`, if it has a request, and the others to these link data units
abbrev pub GoOnAssigned : Contents → Option Assigned → List Attempt → List Assigned → Type 0
GoOnAssigned p now [] units = ⊥
GoOnAssigned p now (a ∷ more) units = IsOf p now a × AreAssigned p now (is_some a.acked) more units

-- each attempt of the recording may be assigned to a link data unit, so that the source comes from each one to the next
pub record IsAssignable (p : Contents) (items : List Seen) : Type 0 where
  pub units : List Assigned
  pub are : GoOnAssigned p None (attempts p items) units
