-- What a cutter of a recording holds, and what it knows (profile).
use Rattle.std.specs.Prelude.{◌≡◌, ◌<◌, ◌≤◌, ◌⊎◌, ◌+◌, ◌++◌, ℕ, List, [], length, take, IfSome}
use Rattle.a429_profile.specs.Profile.{Contents}
use Rattle.a429_record.specs.declared.entry.Entry.{Entry}
use Rattle.a429_cert.specs.Explained.{items_of}
use Rattle.a429_parts.specs.Cutting.{IsPlace}
use Rattle.a429_parts.specs.Near.{HasNoneAfter, HasNoneNear, IsNearEnough}
use Rattle.a429_parts.specs.Watch.{Finds, IsInDoubt, Watched, Watches, place_of}

-- the most entries of a part; what is known of the words so far; how many entries are in parts; the last place, after so many entries, or 0; the entries in no part yet
pub record CutterState : Type 0 where
  pub most : ℕ
  pub watched : Watched
  pub begin : ℕ
  pub place : ℕ
  pub waiting : List Entry

-- of a recording, the first of these entries are in parts, then come those that wait, and the others have still to come
pub record Cuts (p : Contents) (parted rest : List Entry) (c : CutterState) : Type 0 where
  pub begin : c.begin ≡ length parted
  pub count : c.watched.count ≡ length parted + length c.waiting
  pub watches : Watches p (items_of (parted ++ (c.waiting ++ rest))) c.watched
  pub place : 0 < c.place → IsPlace p (items_of (parted ++ (c.waiting ++ rest))) c.place
  pub before : 0 < c.place → c.place < c.watched.count
  pub finds : Finds p (items_of (parted ++ (c.waiting ++ rest))) c.place c.watched

-- so many of the entries that wait may be a part, and others come after it: they go to the last place
pub record IsPart (c : CutterState) (size : ℕ) : Type 0 where
  pub some : 0 < size
  pub within : size ≤ c.most
  pub waits : size < length c.waiting
  pub place : c.begin + size ≡ c.place

-- ---- no place is nearer to the most of a part

-- the same, whatever comes
abbrev pub CutsAlways : Contents → List Entry → CutterState → Type 0
CutsAlways p parted c = (rest : List Entry) → Cuts p parted rest c

-- whatever comes, the last place, where no part begins, is one by the entries up to it and as many more as a part may have, and one
abbrev pub IsFoundInTime : Contents → List Entry → CutterState → Type 0
IsFoundInTime p parted c = (rest : List Entry) → c.begin < c.place → IsPlace p (items_of (take (c.place + c.most + 1) (parted ++ (c.waiting ++ rest)))) c.place

-- where these entries are still to come, no place after a part of this size is near enough; its end is, where it was found in time
abbrev pub EndsLast : CutterState → ℕ → List Entry → Type 0
EndsLast c size rest =
    (p : Contents) (parted : List Entry)
    → CutsAlways p parted c → HasNoneAfter p c.most (parted ++ (c.waiting ++ rest)) c.begin (c.begin + size) × (IsFoundInTime p parted c → IsNearEnough p c.most (parted ++ (c.waiting ++ rest)) c.begin (c.begin + size))

-- no place is near enough
abbrev pub EndsNowhere : CutterState → List Entry → Type 0
EndsNowhere c rest = (p : Contents) (parted : List Entry) → CutsAlways p parted c → HasNoneNear p c.most (parted ++ (c.waiting ++ rest)) c.begin

-- the last place is not too far
abbrev pub IsInReach : CutterState → Type 0
IsInReach c = c.place ≤ c.begin + c.most

-- a place in doubt is not too far, and at most as many entries came after it as a part may have: so at most twice as many wait
abbrev pub AwaitsPlace : CutterState → Type 0
AwaitsPlace c = IfSome c.watched.doubt (λ doubt. (place_of doubt ≤ c.begin + c.most) × (c.begin + length c.waiting ≤ place_of doubt + c.most)) × (length c.waiting ≤ c.most + c.most)

-- each part that was complete has been ended: where more entries wait than a part may have, a place in doubt is awaited
abbrev pub IsCurrent : CutterState → Type 0
IsCurrent c = IsInReach c × ((length c.waiting ≤ c.most) ⊎ AwaitsPlace c)

-- so many of the entries that wait, which are more than a part may have, are the next part: it ends at the last place that is near enough
abbrev pub IsNextPart : CutterState → ℕ → Type 0
IsNextPart c size = IsPart c size × ((rest : List Entry) → EndsLast c size rest) × (c.most < length c.waiting)

-- the same where no entry comes any more
abbrev pub IsNextPartAtEnd : CutterState → ℕ → Type 0
IsNextPartAtEnd c size = IsPart c size × EndsLast c size [] × (c.most < length c.waiting)

-- more entries wait than a part may have, and no place is near enough
abbrev pub HasNoNextPart : CutterState → Type 0
HasNoNextPart c = (c.most < length c.waiting) × (IsInReach c → (rest : List Entry) → EndsNowhere c rest)

abbrev pub HasNoNextPartAtEnd : CutterState → Type 0
HasNoNextPartAtEnd c = (c.most < length c.waiting) × (IsInReach c → EndsNowhere c [])

-- the place in doubt is no end of the part: it is too far, or too many entries have come since
abbrev pub IsPastDoubt : CutterState → Type 0
IsPastDoubt c = (n : ℕ) → IsInDoubt n c.watched.doubt → c.begin < n → n ≤ c.begin + c.most → n + c.most < c.begin + length c.waiting

-- why there is no last part
abbrev pub HasNoPart : CutterState → Type 0
HasNoPart c = (c.place ≤ c.begin) ⊎ ((c.begin < c.place) × ((c.begin + c.most < c.place) ⊎ (c.begin + length c.waiting ≤ c.place)))
