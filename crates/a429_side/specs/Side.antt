-- The words of one direction and one destination, of a recording with both directions (profile).
use Rattle.std.specs.Prelude.{ℕ, ◌+◌, ◌-◌, ◌*◌, ◌%◌, ◌^◌, Bool, true, false, not, ◌&&◌, ◌==◌, if◌then◌else◌, List, [], ◌∷◌, map, Option, Some, None}
use Rattle.a429_word.specs.Word.{count_of_ones, number_at}
use Rattle.a429_word.specs.declared.bus.Bus.{Bus}
use Rattle.a429_word.specs.declared.bus.Bus.TheVariants as bus
use Rattle.a429_profile.specs.declared.codes.Codes.{Codes}
use Rattle.a429_record.specs.declared.entry.Entry.{Entry}
use Rattle.a429_cert.specs.Explained.{seen_of}
use Rattle.a429_side.specs.declared.direction.Direction.{Direction}
use Rattle.a429_side.specs.declared.direction.Direction.TheVariants as direction
use Rattle.a429_side.specs.declared.lot.Lot.{Lot}
use Rattle.a429_side.specs.declared.lot.Lot.TheVariants.{Elsewhere, Kept, OfNone, OfOther, Renamed}
use Rattle.a429_side.specs.declared.lot.Side.{Side}
use Rattle.a429_ldu.specs.Across.{other_line}
use Rattle.a429_side.specs.Direction.{direction_in}
use Rattle.a429_side.specs.Destination.{destination_at, is_line_a, is_request}

-- ---- an entry

-- the entry as its direction names the lines, where its files travel on this one: on A
abbrev pub on_line : Bus → Entry → Entry
on_line bus.A e = e
on_line bus.B e = record e { bus = other_line e.bus }

-- the destination of the last request of the direction, this entry with it; a word of the other direction is none
abbrev pub last_in : Codes → ℕ → Entry → Direction → ℕ
last_in c last e direction.Other = last
last_in c last e _ = destination_at c last (seen_of e)

abbrev pub last_with : Codes → ℕ → Entry → ℕ
last_with c last e = last_in c last e (direction_in c (seen_of e))

-- an answer of this direction with the code of a clear answer
abbrev pub is_clear_answer : Codes → Entry → Bool
is_clear_answer c e = not (is_line_a e.bus) && (number_at e.word 29 3 == c.protocol && number_at e.word 25 4 == c.cts)

-- the same with this destination code, where one is given
abbrev pub is_answer_to : Codes → Option ℕ → Entry → Bool
is_answer_to c None e = false
is_answer_to c (Some code) e = is_clear_answer c e && number_at e.word 17 8 == code

-- what becomes of a word of this direction that is of this destination
abbrev pub lot_here : Codes → Option ℕ → ℕ → Entry → Lot
lot_here c answer d e =
    if d == c.destination
    then (if is_answer_to c answer e then Renamed else Kept)
    else Elsewhere d (is_request c (seen_of e))

abbrev pub lot_in : Codes → Option ℕ → ℕ → Entry → Direction → Lot
lot_in c answer last e direction.This = lot_here c answer (destination_at c last (seen_of e)) e
lot_in c answer last e direction.Other = OfOther
lot_in c answer last e direction.Free = Kept
lot_in c answer last e direction.Neither = OfNone

-- what becomes of an entry, after a last request to this destination
abbrev pub lot_of : Codes → Option ℕ → ℕ → Entry → Lot
lot_of c answer last e = lot_in c answer last e (direction_in c (seen_of e))

-- bits 1 to 31 of the word, with other bits 17 to 24
abbrev pub with_code : ℕ → ℕ → ℕ
with_code code w = number_at w 1 16 + code * 2 ^ 16 + number_at w 25 7 * 2 ^ 24

-- with the bit 32 that makes the parity odd
abbrev pub with_parity : ℕ → ℕ
with_parity n = n + (1 - count_of_ones n % 2) * 2 ^ 31

-- the word with this destination code
abbrev pub addressed_to : ℕ → ℕ → ℕ
addressed_to code w = with_parity (with_code code w)

-- what is written of an entry of which this becomes
abbrev pub written : Codes → Lot → Entry → Option Entry
written c Kept e = Some e
written c OfNone e = Some e
written c Renamed e = Some (record e { word = addressed_to c.destination e.word })
written c OfOther e = None
written c (Elsewhere d r) e = None

-- ---- all entries

abbrev pub with_written : Option Entry → List Entry → List Entry
with_written None es = es
with_written (Some e) es = e ∷ es

-- what is written of entries, after a last request to this destination
abbrev pub sided : Codes → Option ℕ → ℕ → List Entry → List Entry
sided c answer last [] = []
sided c answer last (e ∷ es) = with_written (written c (lot_of c answer last e) e) (sided c answer (last_with c last e) es)

-- and what becomes of each of them
abbrev pub lots : Codes → Option ℕ → ℕ → List Entry → List Lot
lots c answer last [] = []
lots c answer last (e ∷ es) = lot_of c answer last e ∷ lots c answer (last_with c last e) es

-- those of a recording: before any request the destination is the profile's
abbrev pub side_of : Codes → Side → List Entry → List Entry
side_of c s es = sided c s.answer c.destination (map (on_line s.line) es)

abbrev pub lots_of : Codes → Side → List Entry → List Lot
lots_of c s es = lots c s.answer c.destination (map (on_line s.line) es)
