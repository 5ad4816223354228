-- Where a long recording may be cut (profile): after an acknowledgement by which a file crosses, and after a word that no run
-- records, before the request with which a file begins.
use Rattle.std.specs.Prelude.{◌≡◌, ◌≢◌, ◌⊎◌, ℕ, zero, suc, not, ◌&&◌, if◌then◌else◌, List, [], ◌∷◌, drop, Option, Some, None, slice_get}
use Rattle.a429_word.specs.declared.bus.Bus.{Bus}
use Rattle.a429_word.specs.declared.bus.Bus.TheVariants as bus
use Rattle.a429_profile.specs.declared.codes.Codes.{Codes}
use Rattle.a429_profile.specs.Profile.{Contents}
use Rattle.a429_ldu.specs.declared.forms.Form.{Form}
use Rattle.a429_ldu.specs.declared.forms.Form.TheVariants.{Ack, Rts, Sot}
use Rattle.a429_ldu.specs.Form.{form_of}
use Rattle.a429_ldu.specs.Ldu.{is_final}
use Rattle.a429_link.specs.declared.number.UnitNumber.{UnitNumber}
use Rattle.a429_link.specs.declared.seen.Seen.{Seen}
use Rattle.a429_link.specs.Sink.{Number, SinkPhase, OwesAck, is_same, number_of}
use Rattle.a429_link.specs.Observer.{Observer, Allows, at_first, sees}

-- what the words so far say of the sink: an observer follows it, and the last word was an acknowledgement of this number by which a file crossed, or it was not; or a word was refused, and the sink has not begun anew since
pub data Course : Type 0 where
  Follows : (observer : Observer) (crossed : Option UnitNumber) → Course
  Lost : Course

-- the number of an acknowledgement by which a file crosses: its block is the last of a file, and is not the one accepted last
abbrev pub crossing_of : Codes → Option Number → SinkPhase → Option Form → Option UnitNumber
crossing_of c last (OwesAck b flags) (Some (Ack file ldu)) = if not (is_same last (number_of b)) && is_final c flags then Some (record { file = file; ldu = ldu }) else None
crossing_of c last phase form = None

-- that of a word that the observer sees
abbrev pub crossing : Contents → Observer → Seen → Option UnitNumber
crossing p o i = crossing_of p.codes o.last o.phase (form_of p.codes i.bus i.word)

-- ---- what comes next

-- a request
abbrev pub IsRequest : Bus → Option Form → Type 0
IsRequest bus.A (Some (Rts n)) = Unit {0}
IsRequest b form = ⊥

-- the number of a start word; none after a request; else what comes later
abbrev pub start_by : Option Form → Option UnitNumber → Option UnitNumber
start_by (Some (Rts n)) later = None
start_by (Some (Sot gfi file ldu)) later = Some (record { file = file; ldu = ldu })
start_by form later = later

-- the number of the next start word, where it is recorded before another request
abbrev pub next_start : Codes → List Seen → Option UnitNumber
next_start c [] = None
next_start c (i ∷ items) = start_by (form_of c i.bus i.word) (next_start c items)

-- the number of the first link data unit of a file
abbrev pub BeginsFile : Codes → Option UnitNumber → Type 0
BeginsFile c None = ⊥
BeginsFile c (Some n) = n.ldu ≡ c.first_ldu

-- the sink may begin anew with this word, which these words follow
abbrev pub BeginsAnew : Codes → Seen → List Seen → Type 0
BeginsAnew c i rest = IsRequest i.bus (form_of c i.bus i.word) × BeginsFile c (next_start c rest)

-- a start word of another number than this one; or another word that is allowed, and later such a start word
abbrev pub LeavesBy : UnitNumber → Option Form → Type 0 → Type 0 → Type 0
LeavesBy n (Some (Sot gfi file ldu)) Allowed Later = record { file = file; ldu = ldu } ≢ n
LeavesBy n form Allowed Later = Allowed × Later

-- the next start word has another number than this one, and no word before it is refused
abbrev pub LeavesUnit : Contents → UnitNumber → Observer → List Seen → Type 0
LeavesUnit p n o [] = ⊥
LeavesUnit p n o (i ∷ items) = LeavesBy n (form_of p.codes i.bus i.word) (Allows p o i) (LeavesUnit p n (sees p i o) items)

-- ---- places

-- the course after a word, which these words follow
abbrev pub GoesOn : Contents → Course → Seen → List Seen → Course → Type 0
GoesOn p (Follows o crossed) i rest new = (Allows p o i × (new ≡ Follows (sees p i o) (crossing p o i))) ⊎ ((Allows p o i → ⊥) × (new ≡ Lost))
GoesOn p Lost i rest new = (BeginsAnew p.codes i rest × (new ≡ Follows (sees p i at_first) None)) ⊎ ((BeginsAnew p.codes i rest → ⊥) × (new ≡ Lost))

-- the course after the first n of these words
abbrev pub CourseAfter : Contents → List Seen → ℕ → Course → Type 0
CourseAfter p items zero course = course ≡ Follows at_first None
CourseAfter p items (suc n) course = (before : Course) × (i : Seen) × CourseAfter p items n before × (slice_get items n ≡ Some i) × GoesOn p before i (drop (suc n) items) course

-- the words may be cut from these, after such a course
abbrev pub MayCut : Contents → Course → List Seen → Type 0
MayCut p (Follows o None) rest = ⊥
MayCut p (Follows o (Some n)) rest = LeavesUnit p n o rest
MayCut p Lost [] = ⊥
MayCut p Lost (i ∷ rest) = BeginsAnew p.codes i rest

-- a recording of these words may be cut after the first n
abbrev pub IsPlace : Contents → List Seen → ℕ → Type 0
IsPlace p items n = (course : Course) × CourseAfter p items n course × MayCut p course (drop n items)
