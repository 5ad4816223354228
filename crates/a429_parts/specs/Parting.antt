-- How far a recording is cut, and where it ends (profile).
use Rattle.std.specs.Prelude.{◌≡◌, ◌<◌, ◌≤◌, ◌+◌, ◌⊎◌, ℕ, suc, Bool, true, false, List, [], ◌++◌, length, Option, IfSome, ⊤}
use Rattle.a429_word.specs.declared.sheet.Sheet.{Sheet}
use Rattle.a429_word.specs.Sheet.{Says}
use Rattle.a429_profile.specs.Profile.{Contents}
use Rattle.a429_record.specs.declared.entry.Entry.{Entry}
use Rattle.a429_record.specs.declared.fault.ReadFault.{ReadFault}
use Rattle.a429_record.specs.declared.fault.ReadFault.TheVariants as read
use Rattle.a429_record.specs.Recording.{Recording, whole}
use Rattle.a429_record.specs.Rows.{Stops}
use Rattle.a429_parts.specs.declared.parting.Parting.{Parting}
use Rattle.a429_parts.specs.Cutter.{Cuts, CutterState, EndsLast, EndsNowhere, IsFoundInTime, IsInReach}
use Rattle.a429_parts.specs.Near.{HasNoneNear}
use Rattle.a429_parts.specs.Keeping.{Taken, with_entries}
use Rattle.a429_parts.specs.Parts.{AreFirstParts, AreParts, GainsParts, PutParts, joined, list_text}

-- what takes the parts and their lines, before and after
pub record Outputs (W : Type 0) : Type 0 where
  pub contents : W → Option (List ℕ)
  pub old_parts : Option PutParts
  pub new_parts : Option PutParts
  pub old_sheet : Sheet W
  pub new_sheet : Sheet W

abbrev pub outputs : {W : Type 0} → (W → Option (List ℕ)) → Option PutParts → Option PutParts → Sheet W → Sheet W → Outputs W
outputs contents old_parts new_parts old_sheet new_sheet =
    record { contents = contents; old_parts = old_parts; new_parts = new_parts; old_sheet = old_sheet; new_sheet = new_sheet }

-- these parts were put, and their lines are on the sheet
pub record ArePut {W : Type 0} (o : Outputs W) (parts : List (List Entry)) : Type 0 where
  pub gains : GainsParts o.old_parts o.new_parts parts
  pub says : Says o.contents o.old_sheet o.new_sheet (list_text parts)

-- all parts of a recording without fault were put, and this is their list; they have all entries that were handed out
pub record CutsAll {W : Type 0} (p : Contents) (most : ℕ) (t : Taken) (o : Outputs W) (list : List ℕ) : Type 0 where
  pub entries : List Entry
  pub parts : List (List Entry)
  pub came : t.given ≡ length entries
  pub all : IfSome t.recording (λ r. r ≡ whole entries)
  pub are : AreParts p most entries parts
  pub puts : ArePut o parts
  pub text : list ≡ list_text parts

-- no more parts are put of a recording of these entries, the first `from` of which are in parts, and these came after them: they are more than a part may have, and no place is near enough; or a device failed, or memory was refused
abbrev pub CannotGoOn : Contents → ℕ → List Entry → ℕ → List Entry → ReadFault → Type 0
CannotGoOn p most entries from rest read.TooMany = (most < length rest) × HasNoneNear p most entries from
CannotGoOn p most entries from rest read.Device = ⊤
CannotGoOn p most entries from rest read.OutOfMemory = ⊤
CannotGoOn p most entries from rest fault = ⊥

-- the first parts of a recording were put, up to a fault: its own, which comes after these entries, or another. Of the entries that were handed out at most twice as many as a part may have, and one, are in none of them
pub record CutsUntil {W : Type 0} (p : Contents) (most : ℕ) (t : Taken) (o : Outputs W) (fault : ReadFault) : Type 0 where
  pub entries : List Entry
  pub parts : List (List Entry)
  pub came : t.given ≡ length entries
  pub rest : List Entry
  pub few : length rest ≤ most + most + 1
  pub are : AreFirstParts p most entries parts rest
  pub puts : ArePut o parts
  pub ends : IfSome t.recording (λ r. (later : Recording) × (r ≡ with_entries entries later) × (Stops fault later ⊎ CannotGoOn p most (entries ++ later.entries) (length (joined parts)) rest fault))

-- ---- while it is cut

-- these entries are still to come: none at the end
abbrev pub IsLeft : Bool → List Entry → Type 0
IsLeft true rest = rest ≡ []
IsLeft false rest = Unit {0}

-- a part of so many of the entries that wait, which are more than a part may have, ends at the last place that is near enough
abbrev pub EndsFor : Bool → CutterState → ℕ → Type 0
EndsFor at_end c size = ((rest : List Entry) → IsLeft at_end rest → EndsLast c size rest) × (c.most < length c.waiting)

-- no place is near enough
abbrev pub EndsNowhereFor : Bool → CutterState → Type 0
EndsNowhereFor at_end c = (rest : List Entry) → IsLeft at_end rest → EndsNowhere c rest

-- of these entries, which are the first of a recording, or all, these parts are put, and the others wait
pub record Holds (p : Contents) (most : ℕ) (at_end : Bool) (parts : List (List Entry)) (es : List Entry) (s : Parting) : Type 0 where
  pub are : (rest : List Entry) → IsLeft at_end rest → AreFirstParts p most (es ++ rest) parts (s.cutter.waiting ++ rest)
  pub cuts : (rest : List Entry) → Cuts p (joined parts) rest s.cutter
  pub in_time : IsFoundInTime p (joined parts) s.cutter
  pub reach : IsInReach s.cutter
  pub limit : s.cutter.most ≡ most
  pub next : s.next ≡ suc (length parts)
  pub list : s.list.items ≡ list_text parts

-- and they are where they belong
pub record Progress {W : Type 0} (p : Contents) (most : ℕ) (at_end : Bool) (o : Outputs W) (es : List Entry) (s : Parting) : Type 0 where
  pub parts : List (List Entry)
  pub holds : Holds p most at_end parts es s
  pub puts : ArePut o parts

-- no more parts of these entries are put, by this fault
pub record Stopped {W : Type 0} (p : Contents) (most : ℕ) (at_end : Bool) (o : Outputs W) (es : List Entry) (fault : ReadFault) : Type 0 where
  pub parts : List (List Entry)
  pub rest : List Entry
  pub few : length rest ≤ most + most + 1
  pub are : AreFirstParts p most es parts rest
  pub puts : ArePut o parts
  pub reason : (more : List Entry) → IsLeft at_end more → CannotGoOn p most (es ++ more) (length (joined parts)) rest fault

-- all parts of these entries are put, and this is their list
pub record Finished {W : Type 0} (p : Contents) (most : ℕ) (o : Outputs W) (es : List Entry) (list : List ℕ) : Type 0 where
  pub parts : List (List Entry)
  pub are : AreParts p most es parts
  pub puts : ArePut o parts
  pub text : list ≡ list_text parts
