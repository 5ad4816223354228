-- Where a source may stand: which number it has come to, and how many files it has given up (profile).
use Rattle.std.specs.Prelude.{◌≡◌, ◌⊎◌, ◌+◌, ◌%◌, ◌<◌, ◌≤◌, ℕ, zero, suc, Bool, true, false, Option, Some, None, IfSome, IsSomeAnd}
use Rattle.a429_link.specs.declared.number.UnitNumber.{UnitNumber}
use Rattle.a429_search.specs.declared.standing.Standing.{Standing}
use Rattle.a429_search.specs.declared.standing.Ways.{Ways}

-- the number after so many files are given up: the first number of a later file, or, after none, the same number
abbrev pub past : ℕ → UnitNumber → ℕ → UnitNumber
past first n zero = n
past first n (suc d) = record { file = (n.file + suc d) % 256; ldu = first }

-- from this number on, where at least `least` files are given up after it, the source may be at number m with g files given up in all
abbrev pub MayGoOn : ℕ → UnitNumber → ℕ → ℕ → UnitNumber → ℕ → Type 0
MayGoOn first n gave least m g = (d : ℕ) × (least ≤ d) × (m ≡ past first n d) × (gave + d ≤ g)

-- the source may be at number m with g files given up since it last heard an acknowledgement. Before any start word it is at the first
-- number of some file; where the present link data unit has the known number it is there; else it may have gone on from there
abbrev pub MayStand : ℕ → Option UnitNumber → Bool → Standing → UnitNumber → ℕ → Type 0
MayStand first None started s m g = (m.ldu ≡ first) × (s.give_ups + s.since ≤ g)
MayStand first (Some n) true s m g = (s.since ≡ 0) × (m ≡ n) × (s.give_ups ≤ g)
MayStand first (Some n) false s m g = MayGoOn first n s.give_ups s.since m g

abbrev pub Stands : ℕ → Standing → UnitNumber → ℕ → Type 0
Stands first s m g = MayStand first s.known s.is_started s m g

-- the same once it has given up one more file, or several
abbrev pub MayStandLater : ℕ → Option UnitNumber → Standing → UnitNumber → ℕ → Type 0
MayStandLater first None s m g = (m.ldu ≡ first) × (s.give_ups + s.since + 1 ≤ g)
MayStandLater first (Some n) s m g = MayGoOn first n s.give_ups (s.since + 1) m g

abbrev pub StandsLater : ℕ → Standing → UnitNumber → ℕ → Type 0
StandsLater first s m g = MayStandLater first s.known s m g

-- ---- how many files were given up

-- those since the acknowledgement that it heard last
abbrev pub all_give_ups : Standing → ℕ
all_give_ups s = s.give_ups + s.since

-- with the link data unit of the present group it has given up as many files as before; with that of a new one, as many more as
-- are named, and at most 127 in all
pub record KeepGiveUps (s : Standing) (ways : Ways) : Type 0 where
  pub join : IfSome ways.join (λ next. all_give_ups next ≡ all_give_ups s)
  pub begin : IfSome ways.begin (λ b. (all_give_ups b.1 ≡ all_give_ups s + b.0) × (all_give_ups b.1 ≤ 127))

-- ---- the ways from an attempt to the next

-- a link data unit may have this number, and so many files may be given up before it
pub record IsInRange (first : ℕ) (m : UnitNumber) (g : ℕ) : Type 0 where
  pub file : m.file ≤ 255
  pub ldu : m.ldu ≤ first + 254
  pub give_ups : g ≤ 127

-- the number is that of the start word, where one was recorded
abbrev pub IsNamed : Option UnitNumber → UnitNumber → Type 0
IsNamed start m = IfSome start (λ n. n ≡ m)

-- the start word of the present link data unit was recorded, and has this number
pub record IsAt (n : UnitNumber) (s : Standing) : Type 0 where
  pub known : s.known ≡ Some n
  pub started : s.is_started ≡ true
  pub since : s.since ≡ 0

-- the source has heard an acknowledgement, after which this number comes next, and has given up no file since
pub record IsHeard (n : UnitNumber) (s : Standing) : Type 0 where
  pub known : s.known ≡ Some n
  pub give_ups : s.give_ups ≡ 0
  pub since : s.since ≡ 0
  pub started : s.is_started ≡ false

-- there is such a way, and this holds of its standing
abbrev pub Joins : Ways → (Standing → Type 0) → Type 0
Joins ways Holds = IsSomeAnd ways.join Holds

abbrev pub Begins : Ways → (Standing → Type 0) → Type 0
Begins ways Holds = IsSomeAnd ways.begin (λ b. Holds b.1)

-- so many files may have been given up once one more is, or it is not as many as 127
pub record IsGivenUp (s : Standing) (begin : Option (ℕ × Standing)) : Type 0 where
  pub some : IfSome begin (λ b. (b.0 ≡ 1) × (b.1.known ≡ s.known) × (b.1.is_started ≡ false) × (b.1.give_ups ≡ s.give_ups) × (b.1.since ≡ s.since + 1) × (b.1.give_ups + b.1.since ≤ 127))
  pub none : begin ≡ None → 127 ≤ s.give_ups + s.since

-- the number known is past the last that a file may have, and no file was given up since: nothing can be loaded there
pub record IsPastLast (first : ℕ) (s : Standing) : Type 0 where
  pub number : UnitNumber
  pub known : s.known ≡ Some number
  pub started : s.is_started ≡ false
  pub since : s.since ≡ 0
  pub past : first + 254 < number.ldu

-- the ways leave nothing out: where the source may be at a number and has given up so many files, by the standing before the attempt,
-- the standing of a way says so
pub record LeaveNothingOut (first : ℕ) (s : Standing) (start : Option UnitNumber) (has_group : Bool) (ways : Ways) : Type 0 where
  -- with the present link data unit
  pub same : (m : UnitNumber) (g : ℕ) → IsInRange first m g → IsNamed start m → Stands first s m g → Joins ways (λ j. Stands first j m g) ⊎ Begins ways (λ b. Stands first b m g)
  -- with one of a later file
  pub later : (m : UnitNumber) (g : ℕ) → IsInRange first m g → IsNamed start m → StandsLater first s m g → Begins ways (λ b. Stands first b m g) ⊎ ((has_group ≡ false) × Joins ways (λ j. Stands first j m g ⊎ StandsLater first j m g))
  -- the second way is no more than what the first one may go on to
  pub last : ways.begin_last ≡ true → (m : UnitNumber) (g : ℕ) → Begins ways (λ b. Stands first b m g) → IfSome ways.join (λ j. StandsLater first j m g)
  -- after a start word its number is known
  pub join_at : IfSome start (λ n. IfSome ways.join (IsAt n))
  pub begin_at : IfSome start (λ n. IfSome ways.begin (λ b. IsAt n b.1))

-- ---- that nothing is made up

-- by the standing the source can be at number m, with exactly g files given up since it last heard an acknowledgement. Before any start
-- word it can be at the first number of any file, and more files may have been given up
abbrev pub CanBe : ℕ → Option UnitNumber → Bool → Standing → UnitNumber → ℕ → Type 0
CanBe first None started s m g = (m.ldu ≡ first) × (all_give_ups s ≤ g)
CanBe first (Some n) true s m g = (m ≡ n) × (g ≡ s.give_ups)
CanBe first (Some n) false s m g = (d : ℕ) × (s.since ≤ d) × (m ≡ past first n d) × (g ≡ s.give_ups + d)

abbrev pub CanStand : ℕ → Standing → UnitNumber → ℕ → Type 0
CanStand first s m g = CanBe first s.known s.is_started s m g

-- it can be there by giving up files from where it can stand
pub record CanComeTo (first : ℕ) (s : Standing) (m : UnitNumber) (g : ℕ) : Type 0 where
  pub number : UnitNumber
  pub give_ups : ℕ
  pub range : IsInRange first number give_ups
  pub stands : CanStand first s number give_ups
  pub files : ℕ
  pub some : 1 ≤ files
  pub file : m.file ≡ (number.file + files) % 256
  pub ldu : m.ldu ≡ first
  pub all : g ≡ give_ups + files

-- so each standing is: the start word of the present link data unit was recorded only where an attempt to send it was, and no file was given up
-- since; the number is one of a file, and of a link data unit where one was to be sent under it; and not too many files are given up
pub record IsRegular (first : ℕ) (s : Standing) (has_group : Bool) : Type 0 where
  pub started : s.is_started ≡ true → (s.since ≡ 0) × (has_group ≡ true)
  pub file : IfSome s.known (λ n. n.file ≤ 255)
  pub loaded : has_group ≡ true → s.since ≡ 0 → IfSome s.known (λ n. n.ldu ≤ first + 254)
  pub few : all_give_ups s ≤ 127

-- the ways make nothing up: where the standing of a way says that the source can be, it comes there by the standing before, and the start word
-- of the attempt has that number
pub record MakeNothingUp (first : ℕ) (s : Standing) (start : Option UnitNumber) (has_group : Bool) (ways : Ways) : Type 0 where
  pub join : IfSome ways.join (λ j. (m : UnitNumber) (g : ℕ) → IsInRange first m g → CanStand first j m g → IsNamed start m × CanStand first s m g)
  pub begin : IfSome ways.begin (λ b. (m : UnitNumber) (g : ℕ) → IsInRange first m g → CanStand first b.1 m g → IsNamed start m × (has_group ≡ true → CanComeTo first s m g) × (has_group ≡ false → CanStand first s m g))
  pub join_regular : IfSome ways.join (λ j. IsRegular first j true)
  pub begin_regular : IfSome ways.begin (λ b. IsRegular first b.1 true)
