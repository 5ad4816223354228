-- A row of an export's table, and the entry that it is (profile).
use Rattle.std.specs.Prelude.{ℕ, ◌+◌, List, [], ◌∷◌, slice_get, is_some, Option, Some, None, Result, Ok, Err, if◌then◌else◌}
use Rattle.std.specs.Int.Bits.{bit_or}
use Rattle.a429_word.specs.declared.bus.Bus.{Bus}
use Rattle.a429_import.specs.declared.channel.Channel.{Channel}
use Rattle.a429_import.specs.declared.channel.Channel.TheVariants.{Line, Passed, Unknown}
use Rattle.a429_import.specs.declared.columns.Columns.{Columns}
use Rattle.a429_import.specs.declared.fault.ExportFault.{ExportFault}
use Rattle.a429_import.specs.declared.fault.ExportFault.TheVariants as fault
use Rattle.a429_import.specs.declared.lot.Lot.{Lot}
use Rattle.a429_import.specs.declared.lot.Lot.TheVariants as lot
use Rattle.a429_import.specs.declared.map.Map.{Map}
use Rattle.a429_import.specs.declared.order.Moved.{Moved}
use Rattle.a429_import.specs.declared.order.Ordered.{Ordered}
use Rattle.a429_import.specs.declared.parity.ParityBit.{ParityBit}
use Rattle.a429_import.specs.declared.parity.ParityBit.TheVariants as bit_32
use Rattle.a429_import.specs.declared.parity.Verdict.{Verdict}
use Rattle.a429_import.specs.declared.parity.Verdict.TheVariants as verdict
use Rattle.a429_import.specs.declared.part.Part.{Part}
use Rattle.a429_import.specs.declared.past.Past.{Past}
use Rattle.a429_import.specs.declared.time.Reading.{Reading}
use Rattle.a429_import.specs.Channel.{heard_on}
use Rattle.a429_import.specs.Columns.{field_at}
use Rattle.a429_import.specs.Order.{meant, settled}
use Rattle.a429_import.specs.Parity.{judged, status_in, verdict_of}
use Rattle.a429_import.specs.Part.{part_in}
use Rattle.a429_import.specs.Repeats.{is_repeat}
use Rattle.a429_import.specs.TimeForm.{time_in}
use Rattle.a429_import.specs.Turning.{turned}

-- ---- readings that may have a fault

abbrev pub needed : {A : Type 0} → ExportFault → Option A → Result A ExportFault
needed f None = Err f
needed f (Some a) = Ok a

abbrev pub and_then : {A B : Type 0} → Result A ExportFault → (A → Result B ExportFault) → Result B ExportFault
and_then (Err f) more = Err f
and_then (Ok a) more = more a

-- ---- the word

-- what the fields of the parts say
abbrev pub part_values : List Part → List ℕ → List (List ℕ) → List (Option ℕ)
part_values (p ∷ ps) (i ∷ places) fields = part_in p (field_at fields i) ∷ part_values ps places fields
part_values _ _ fields = []

-- the bits of parts together, after k of them with these bits; or the number of the first that says nothing
abbrev pub word_after : ℕ → ℕ → List (Option ℕ) → Result ℕ ℕ
word_after k w [] = Ok w
word_after k w (None ∷ values) = Err k
word_after k w (Some bits ∷ values) = word_after (k + 1) (bit_or w bits) values

abbrev pub part_fault : ℕ → Result ℕ ℕ → Result ℕ ExportFault
part_fault n (Ok w) = Ok w
part_fault n (Err k) = Err (fault.Part n k)

-- the word of a row, put together and turned
abbrev pub word_of : Map → Columns → ℕ → List (List ℕ) → Result ℕ ExportFault
word_of m c n fields = part_fault n (word_after 0 0 (part_values m.parts c.parts fields))

-- ---- the entry

-- what a row says of the parity
abbrev pub status_of_row : ParityBit → List ℕ → Option Verdict
status_of_row (bit_32.Status s) text = status_in s text
status_of_row _ text = Some verdict.Received

-- the entry at this time, where it could be put in order
abbrev pub dated : ℕ → Bus → Reading → Verdict → ℕ → Option Ordered → Result Lot ExportFault
dated n bus r v w (Some o) = Ok (lot.Written (record { time = o.time; bus = bus; word = judged v w }) r.is_cut v o.mend)
dated n bus r v w None = Err (fault.TimeBack n)

-- where this time is meant, it is left out if it is one of the last entries again, and else put in order
abbrev pub lot_at : Map → ℕ → Past → Bus → Reading → Verdict → ℕ → Option Moved → Result Lot ExportFault
lot_at m n past bus r v w None = Err (fault.Time n)
lot_at m n past bus r v w (Some t) =
    if is_repeat m.repeats.within past.last (record { time = t.time; bus = bus; word = judged v w }) then Ok lot.Repeated
    else dated n bus r v w (settled m.time.order past.clock r.micros t)

-- the word is turned before its parity is judged
abbrev pub finished : Map → ℕ → Past → Bus → Reading → Verdict → ℕ → Result Lot ExportFault
finished m n past bus r status w =
    lot_at m n past bus r (verdict_of m.parity status (turned m.turning w)) (turned m.turning w) (meant m.time.order past.clock r.micros)

-- the entry of a row on this line, the row being line n of the export: time, status and parts are looked at in this order
abbrev pub entry_lot : Map → Columns → ℕ → Past → List (List ℕ) → Bus → Result Lot ExportFault
entry_lot m c n past fields bus =
    and_then (needed (fault.Time n) (time_in m.time.form m.time.unit (field_at fields c.time))) (λ r.
    and_then (needed (fault.Status n) (status_of_row m.parity (field_at fields c.status))) (λ status.
    and_then (word_of m c n fields) (λ w. finished m n past bus r status w)))

abbrev pub channel_lot : Map → Columns → ℕ → Past → List (List ℕ) → Channel → Result Lot ExportFault
channel_lot m c n past fields (Line bus) = entry_lot m c n past fields bus
channel_lot m c n past fields Passed = Ok lot.ChannelPassed
channel_lot m c n past fields Unknown = Err (fault.Channel n)

-- what becomes of a row: first it must have all columns, then its channel is looked at
abbrev pub row_lot : Map → Columns → ℕ → Past → List (List ℕ) → Result Lot ExportFault
row_lot m c n past fields =
    if is_some (slice_get fields c.last) then channel_lot m c n past fields (heard_on m.channels (field_at fields c.channel))
    else Err (fault.Fields n)
