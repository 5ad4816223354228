-- The attempts under one number, which are attempts to send one link data unit (ARINC 429 Part 3).
use Rattle.std.specs.Prelude.{ℕ, ◌≡◌, ◌⊎◌, ◌+◌, ◌%◌, ◌<◌, ◌≤◌, List, [], ◌∷◌, ◌++◌, Option, Some}
use Rattle.a429_word.specs.declared.bus.Bus.{Bus}
use Rattle.a429_word.specs.declared.bus.Bus.TheVariants as bus
use Rattle.a429_profile.specs.Profile.{Contents}
use Rattle.a429_ldu.specs.declared.forms.Form.{Form}
use Rattle.a429_ldu.specs.declared.forms.Form.TheVariants.{Ack}
use Rattle.a429_ldu.specs.Form.{form_of}
use Rattle.a429_ldu.specs.Ldu.{LduValue, IsLdu}
use Rattle.a429_link.specs.declared.number.UnitNumber.{UnitNumber}
use Rattle.a429_link.specs.declared.seen.Seen.{Seen}
use Rattle.a429_link.specs.Attempt.{HasNumber, IsAttemptAt, IsPartOf, IsWhole, latest}

-- if it is an acknowledgement, then of this number
abbrev pub AcksForm : UnitNumber → Bus → Option Form → Type 0
AcksForm n bus.B (Some (Ack file ldu)) = record { file = file; ldu = ldu } ≡ n
AcksForm n _ _ = Unit {0}

-- among these items no other number than this one is acknowledged
abbrev pub AcksOnly : Contents → UnitNumber → List Seen → Type 0
AcksOnly p n [] = Unit {0}
AcksOnly p n (i ∷ items) = AcksForm n i.bus (form_of p.codes i.bus i.word) × AcksOnly p n items

-- the attempt in which the items of `before` end and the one in which those of `group` end have the same number, and between
-- the two no other number is acknowledged
pub record IsGroup (p : Contents) (n : UnitNumber) (before group : List Seen) : Type 0 where
  pub begins : HasNumber p n (latest p before)
  pub again : HasNumber p n (latest p (before ++ group))
  pub acks : AcksOnly p n group

-- all attempts from the one in which the items of `before` end, to the one in which those of `group` end, are to send one link data unit
pub record IsOneUnit (p : Contents) (n : UnitNumber) (before group : List Seen) : Type 0 where
  pub unit : LduValue
  pub is : IsLdu p unit
  pub carried : (xs ys : List Seen) → group ≡ xs ++ ys → IsAttemptAt p n unit (latest p (before ++ xs))

-- the attempts among them are part of each one that is recorded whole
abbrev pub ArePartsOfWhole : Contents → List Seen → List Seen → Type 0
ArePartsOfWhole p before group = (xs xs' ys ys' : List Seen) → group ≡ xs ++ xs' → group ≡ ys ++ ys' → IsWhole (latest p (before ++ ys)) → IsPartOf (latest p (before ++ xs)) (latest p (before ++ ys))

-- the second number is a later one of the same file, or one of a file that is 1 to 128 past
abbrev pub IsFurther : UnitNumber → UnitNumber → Type 0
IsFurther n m = ((m.file ≡ n.file) × (n.ldu < m.ldu)) ⊎ ((d : ℕ) × (1 ≤ d) × (d ≤ 128) × (m.file ≡ (n.file + d) % 256))
