-- A recording in pieces, each of which may be the end of a run, and what is said of a piece (profile).
use Rattle.std.specs.Prelude.{ℕ, ◌≡◌, ◌≢◌, ◌↔◌, suc, ◌<◌, ◌≤◌, ◌==◌, ◌&&◌, ◌⊎◌, ◌++◌, not, Bool, true, if◌then◌else◌, List, [], ◌∷◌, length, drop, reverse, take, Option, Some, None, slice_get}
use Rattle.std.specs.List.{filter}
use Rattle.a429_word.specs.declared.bus.Bus.{Bus}
use Rattle.a429_word.specs.declared.bus.Bus.TheVariants as bus
use Rattle.a429_profile.specs.declared.codes.Codes.{Codes}
use Rattle.a429_profile.specs.Profile.{Contents}
use Rattle.a429_ldu.specs.declared.forms.Form.{Form}
use Rattle.a429_ldu.specs.declared.forms.Form.TheVariants.{Ack, Sot}
use Rattle.a429_ldu.specs.Form.{form_of}
use Rattle.a429_ldu.specs.Ldu.{is_final}
use Rattle.a429_link.specs.declared.file.FileBytes.{FileBytes}
use Rattle.a429_link.specs.declared.number.UnitNumber.{UnitNumber}
use Rattle.a429_link.specs.declared.seen.Seen.{Seen}
use Rattle.a429_link.specs.Attempt.{asks}
use Rattle.a429_link.specs.Sink.{Number, SinkPhase, OwesAck, number_of}
use Rattle.a429_parts.specs.Cutting.{BeginsAnew}
use Rattle.a429_sink.specs.declared.file_units.FileUnits.{FileUnits}
use Rattle.a429_sink.specs.Anywhere.{IsRefusedAnywhere, Known, is_known, learns, sure_files, unknown}

-- ---- where a piece ends

-- no run records item k after those before it, whatever came before, and it is the first such item
abbrev pub StopsAt : Contents → List Seen → ℕ → Type 0
StopsAt p items k = IsRefusedAnywhere p items k × ((m : ℕ) → m < k → IsRefusedAnywhere p items m → ⊥)

abbrev pub StopsNowhere : Contents → List Seen → Type 0
StopsNowhere p items = (k : ℕ) → IsRefusedAnywhere p items k → ⊥

-- a word, if there is one, which these words follow, is the request with which a file begins
abbrev pub BeginsFileWith : Contents → Option Seen → List Seen → Type 0
BeginsFileWith p None rest = ⊥
BeginsFileWith p (Some i) rest = BeginsAnew p.codes i rest

-- item n is the request with which a file begins
abbrev pub BeginsFileAt : Contents → List Seen → ℕ → Type 0
BeginsFileAt p items n = BeginsFileWith p (slice_get items n) (drop (suc n) items)

-- a piece may end before item n, and is not empty then
abbrev pub MayEnd : Contents → List Seen → ℕ → Type 0
MayEnd p items n = (0 < n) × BeginsFileAt p items n

-- of items that stop somewhere the first piece ends before item n: the last place at or before the item at which they stop; or, if
-- there is none so early, the first place
pub data EndsAt (p : Contents) (items : List Seen) (n : ℕ) : Type 0 where
  Before : (k : ℕ) (stops : StopsAt p items k) (place : MayEnd p items n) (early : n ≤ k) (last : (m : ℕ) → n < m → m ≤ k → MayEnd p items m → ⊥) → EndsAt p items n
  After : (k : ℕ) (stops : StopsAt p items k) (place : MayEnd p items n) (late : k < n) (first : (m : ℕ) → m < n → MayEnd p items m → ⊥) → EndsAt p items n

-- they are one piece: they stop nowhere, or there is no place
abbrev pub IsLastPiece : Contents → List Seen → Type 0
IsLastPiece p items = StopsNowhere p items ⊎ ((m : ℕ) → MayEnd p items m → ⊥)

-- the pieces of these items
abbrev pub ArePieces : Contents → List Seen → List (List Seen) → Type 0
ArePieces p items [] = ⊥
ArePieces p items (piece ∷ []) = (piece ≡ items) × IsLastPiece p items
ArePieces p items (piece ∷ (next ∷ pieces)) = (rest : List Seen) × (piece ++ rest ≡ items) × EndsAt p items (length piece) × ArePieces p rest (next ∷ pieces)

-- all words of the pieces, in order
abbrev pub joined_pieces : List (List Seen) → List Seen
joined_pieces [] = []
joined_pieces (piece ∷ pieces) = piece ++ joined_pieces pieces

-- ---- what is said of a piece

-- the number of a start word; else what comes later
abbrev pub start_or : Option Form → Option UnitNumber → Option UnitNumber
start_or (Some (Sot gfi file ldu)) later = Some (record { file = file; ldu = ldu })
start_or form later = later

-- the number of the first start word, also where other requests come before it
abbrev pub first_start : Codes → List Seen → Option UnitNumber
first_start c [] = None
first_start c (i ∷ items) = start_or (form_of c i.bus i.word) (first_start c items)

-- after a request the first of the two, else the second
abbrev pub if_asked : Option ℕ → Option UnitNumber → Option UnitNumber → Option UnitNumber
if_asked (Some n) asked other = asked
if_asked None asked other = other

-- the number of the first start word after the first request
abbrev pub asked_start : Codes → List Seen → Option UnitNumber
asked_start c [] = None
asked_start c (i ∷ items) = if_asked (asks i.bus (form_of c i.bus i.word)) (first_start c items) (asked_start c items)

-- the number of a link data unit that is not the first one of a file
abbrev pub GoesOnWithFile : Codes → Option UnitNumber → Type 0
GoesOnWithFile c None = ⊥
GoesOnWithFile c (Some n) = n.ldu ≢ c.first_ldu

-- the first start word after a request is not that of the first unit of a file: the file was begun before the piece
abbrev pub IsBegunBefore : Contents → List Seen → Type 0
IsBegunBefore p piece = GoesOnWithFile p.codes (asked_start p.codes piece)

-- where it stops, if it does
abbrev pub IsStop : Contents → List Seen → Option ℕ → Type 0
IsStop p piece None = StopsNowhere p piece
IsStop p piece (Some k) = StopsAt p piece k

-- the words before that
abbrev pub sound_words : List Seen → Option ℕ → List Seen
sound_words piece None = piece
sound_words piece (Some k) = take k piece

-- ---- acknowledged units, by their files

-- a unit goes on with the file of those before it
abbrev pub goes_with : Codes → FileUnits → Number → Bool
goes_with c u n = not u.ended && ((u.file == n.number.file) && not (n.number.ldu == c.first_ldu))

abbrev pub alone : Number → FileUnits
alone n = record { file = n.number.file; first = n.number.ldu; last = n.number.ldu; ended = n.final }

abbrev pub grown : FileUnits → Number → FileUnits
grown u n = record { file = u.file; first = u.first; last = n.number.ldu; ended = n.final }

-- with one more unit; the file of the last unit comes first
abbrev pub with_unit : Codes → Number → List FileUnits → List FileUnits
with_unit c n [] = alone n ∷ []
with_unit c n (u ∷ us) = if goes_with c u n then grown u n ∷ us else alone n ∷ (u ∷ us)

-- a block is acknowledged: one that comes again changes nothing; one that is not known is acknowledged only before the first request
abbrev pub with_block : Codes → SinkPhase → Option UnitNumber → List FileUnits → List FileUnits
with_block c (OwesAck b flags) last us = if is_known last (number_of b) then us else with_unit c (record { number = number_of b; final = is_final c flags }) us
with_block c phase last us = []

-- after a word of this form
abbrev pub units_by : Codes → Bus → Option Form → Known → List FileUnits → List FileUnits
units_by c bus.B (Some (Ack file ldu)) t us = with_block c t.phase t.last us
units_by c _ _ t us = us

abbrev pub units_after : Contents → Known → List FileUnits → List Seen → List FileUnits
units_after p t us [] = us
units_after p t us (i ∷ items) = units_after p (learns p i t) (units_by p.codes i.bus (form_of p.codes i.bus i.word) t us) items

-- the acknowledged units of these words, in order
abbrev pub acked_files : Contents → List Seen → List FileUnits
acked_files p items = reverse (units_after p unknown [] items)

-- they are all units of their file
abbrev pub is_whole : Codes → FileUnits → Bool
is_whole c u = (u.first == c.first_ldu) && u.ended

-- the units of files whose beginning or end is not there
abbrev pub open_units : Contents → List Seen → List FileUnits
open_units p items = filter (λ u. not (is_whole p.codes u)) (acked_files p items)

-- the units of files of which all are there
abbrev pub whole_units : Contents → List Seen → List FileUnits
whole_units p items = filter (is_whole p.codes) (acked_files p items)

-- ---- in all

-- what is said of a piece of a recording
pub record Told : Type 0 where
  pub begun_before : Bool
  pub stop : Option ℕ
  pub files : List FileBytes
  pub units : List FileUnits

-- whether the piece is begun before; where it stops; the files that are sure of the words before that, and the units of other files
pub record IsTold (p : Contents) (piece : List Seen) (t : Told) : Type 0 where
  pub begun : (t.begun_before ≡ true) ↔ IsBegunBefore p piece
  pub stops : IsStop p piece t.stop
  pub sure : t.files ≡ sure_files p (sound_words piece t.stop)
  pub others : t.units ≡ open_units p (sound_words piece t.stop)
