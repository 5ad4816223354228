-- Laws of what an export becomes: times never fall, each line becomes something, words are those of the rows.
use Rattle.std.proofs.Common.{◌≡◌, ℕ, suc, ◌+◌, ◌-◌, ◌≤◌, List, [], ◌∷◌, length, Bool, true, false, if◌then◌else◌, nat_le, nat_lt, is_some, slice_get, Option, Some, None, Result, Ok, Err, refl, ap, arith}
use Rattle.std.specs.Prelude.{⊤}
use Rattle.std.specs.List.{list_all}
use Rattle.std.proofs.lemmas.Bool.{leb-true}
use Rattle.a429_word.specs.declared.bus.Bus.{Bus}
use Rattle.a429_record.specs.Recording.{NeverFalls, recording_lines}
use Rattle.a429_import.specs.declared.channel.Channel.{Channel}
use Rattle.a429_import.specs.declared.channel.Channel.TheVariants.{Line, Passed, Unknown}
use Rattle.a429_import.specs.declared.columns.Columns.{Columns}
use Rattle.a429_import.specs.declared.fault.ExportFault.{ExportFault}
use Rattle.a429_import.specs.declared.fault.ExportFault.TheVariants as fault
use Rattle.a429_import.specs.declared.lot.Lot.{Lot}
use Rattle.a429_import.specs.declared.lot.Lot.TheVariants as lot
use Rattle.a429_import.specs.declared.map.Map.{Map}
use Rattle.a429_import.specs.declared.order.Clock.{Clock}
use Rattle.a429_import.specs.declared.order.Moved.{Moved}
use Rattle.a429_import.specs.declared.order.Ordered.{Ordered}
use Rattle.a429_import.specs.declared.order.OrderRule.{OrderRule}
use Rattle.a429_import.specs.declared.parity.Verdict.{Verdict}
use Rattle.a429_import.specs.declared.past.Past.{Past}
use Rattle.a429_import.specs.declared.progress.Progress.{Progress}
use Rattle.a429_import.specs.declared.time.Reading.{Reading}
use Rattle.a429_import.specs.Channel.{heard_on}
use Rattle.a429_import.specs.Columns.{field_at}
use Rattle.a429_import.specs.Fields.{fields_in, is_blank, text_of}
use Rattle.a429_import.specs.Import.{Imported, at_end, at_start, entries_of, fields_lot, goes_on, imported, imported_after, is_comment, lot_of, progress_after}
use Rattle.a429_import.specs.Order.{meant, settled}
use Rattle.a429_import.specs.Parity.{judged, verdict_of}
use Rattle.a429_import.specs.Repeats.{is_repeat}
use Rattle.a429_import.specs.Row.{and_then, channel_lot, dated, entry_lot, lot_at, needed, row_lot, status_of_row, word_of}
use Rattle.a429_import.specs.Texts.{has_text}
use Rattle.a429_import.specs.TimeForm.{time_in}
use Rattle.a429_import.specs.Turning.{turned}

-- ---- an entry is not below the latest time

abbrev pub IsFrom : ℕ → Result Lot ExportFault → Type 0
IsFrom latest (Ok (lot.Written e is_cut v mend)) = latest ≤ e.time
IsFrom latest (Ok l) = ⊤
IsFrom latest (Err f) = ⊤

from_either : (latest : ℕ) (b : Bool) (x y : Result Lot ExportFault)
    → IsFrom latest x → IsFrom latest y → IsFrom latest (if b then x else y)
from_either latest true x y h k = h
from_either latest false x y h k = k

from_then : {A : Type 0} (latest : ℕ) (r : Result A ExportFault) (more : A → Result Lot ExportFault) → ((a : A) → IsFrom latest (more a))
    → IsFrom latest (and_then r more)
from_then latest (Ok a) more h = h a
from_then latest (Err f) more h = tt

abbrev pub IsAfter : ℕ → Option Ordered → Type 0
IsAfter latest (Some o) = latest ≤ o.time
IsAfter latest None = ⊤

after_either : (latest : ℕ) (b : Bool) (x y : Option Ordered)
    → (b ≡ true → IsAfter latest x) → IsAfter latest y → IsAfter latest (if b then x else y)
after_either latest true x y h k = h refl
after_either latest false x y h k = k

after_settled : (r : OrderRule) (k : Clock) (micros : ℕ) (m : Moved) → IsAfter k.latest (settled r k micros m)
after_settled r k micros m =
    let here : k.latest ≤ k.latest = omega arith in
    after_either k.latest (nat_le k.latest m.time) _ _ (λ e. leb-true k.latest m.time e)
    (after_either k.latest (nat_le (k.latest - m.time) r.back) _ _ (λ _. here)
    (after_either k.latest r.resets _ _ (λ _. here) tt))

from_dated : (n latest : ℕ) (bus : Bus) (r : Reading) (v : Verdict) (w : ℕ) (o : Option Ordered)
    → IsAfter latest o → IsFrom latest (dated n bus r v w o)
from_dated n latest bus r v w (Some o) h = h
from_dated n latest bus r v w None h = tt

from_lot : (m : Map) (n : ℕ) (p : Past) (bus : Bus) (r : Reading) (v : Verdict) (w : ℕ) (t : Option Moved)
    → IsFrom p.clock.latest (lot_at m n p bus r v w t)
from_lot m n p bus r v w None = tt
from_lot m n p bus r v w (Some t) =
    from_either p.clock.latest (is_repeat m.repeats.within p.last (record { time = t.time; bus = bus; word = judged v w })) _ _ tt
    (from_dated n p.clock.latest bus r v w (settled m.time.order p.clock r.micros t) (after_settled m.time.order p.clock r.micros t))

from_entry : (m : Map) (c : Columns) (n : ℕ) (p : Past) (fields : List (List ℕ)) (bus : Bus)
    → IsFrom p.clock.latest (entry_lot m c n p fields bus)
from_entry m c n p fields bus =
    from_then p.clock.latest (needed (fault.Time n) (time_in m.time.form m.time.unit (field_at fields c.time))) _ (λ r.
    from_then p.clock.latest (needed (fault.Status n) (status_of_row m.parity (field_at fields c.status))) _ (λ status.
    from_then p.clock.latest (word_of m c n fields) _ (λ w.
    from_lot m n p bus r (verdict_of m.parity status (turned m.turning w)) (turned m.turning w) (meant m.time.order p.clock r.micros))))

from_channel : (m : Map) (c : Columns) (n : ℕ) (p : Past) (fields : List (List ℕ)) (h : Channel)
    → IsFrom p.clock.latest (channel_lot m c n p fields h)
from_channel m c n p fields (Line bus) = from_entry m c n p fields bus
from_channel m c n p fields Passed = tt
from_channel m c n p fields Unknown = tt

from_row : (m : Map) (c : Columns) (n : ℕ) (p : Past) (fields : List (List ℕ)) → IsFrom p.clock.latest (row_lot m c n p fields)
from_row m c n p fields =
    from_either p.clock.latest (is_some (slice_get fields c.last)) _ _
    (from_channel m c n p fields (heard_on m.channels (field_at fields c.channel))) tt

from_fields : (m : Map) (s : Progress) (o : Option Columns) (fields : List (List ℕ)) → IsFrom s.past.clock.latest (fields_lot m s o fields)
from_fields m s None fields = tt
from_fields m s (Some c) fields =
    from_either s.past.clock.latest (has_text m.rows.pass (field_at fields 0)) _ _ tt (from_row m c (s.lines + 1) s.past fields)

from_line : (m : Map) (s : Progress) (line : List ℕ) → IsFrom s.past.clock.latest (lot_of m s line)
from_line m s line =
    from_either s.past.clock.latest (nat_lt s.lines m.rows.skip) _ _ tt
    (from_either s.past.clock.latest (list_all is_blank (text_of line)) _ _ tt
    (from_either s.past.clock.latest (is_comment m.rows.comment (text_of line)) _ _ tt
    (from_fields m s s.columns (fields_in m.rows line))))

falls_at_end : (latest : ℕ) (o : Option Columns) → NeverFalls latest (entries_of (at_end o).lots)
falls_at_end latest None = tt
falls_at_end latest (Some c) = tt

falls_on : (m : Map) (s : Progress) (line : List ℕ) (more : Lot → Imported) (r : Result Lot ExportFault) → IsFrom s.past.clock.latest r
    → ((l : Lot) → NeverFalls (progress_after m s line l).past.clock.latest (entries_of (more l).lots))
    → NeverFalls s.past.clock.latest (entries_of (goes_on r more).lots)
falls_on m s line more (Err f) h falls = tt
falls_on m s line more (Ok (lot.Written e is_cut v mend)) h falls = (h, falls (lot.Written e is_cut v mend))
falls_on m s line more (Ok lot.Skipped) h falls = falls lot.Skipped
falls_on m s line more (Ok lot.Empty) h falls = falls lot.Empty
falls_on m s line more (Ok lot.Comment) h falls = falls lot.Comment
falls_on m s line more (Ok lot.Heading) h falls = falls lot.Heading
falls_on m s line more (Ok lot.RowPassed) h falls = falls lot.RowPassed
falls_on m s line more (Ok lot.ChannelPassed) h falls = falls lot.ChannelPassed
falls_on m s line more (Ok lot.Repeated) h falls = falls lot.Repeated

falls_after : (m : Map) (s : Progress) (lines : List (List ℕ)) → NeverFalls s.past.clock.latest (entries_of (imported_after m s lines).lots)
falls_after m s [] = falls_at_end s.past.clock.latest s.columns
falls_after m s (line ∷ lines) =
    falls_on m s line (λ l. imported_after m (progress_after m s line l) lines) (lot_of m s line) (from_line m s line)
    (λ l. falls_after m (progress_after m s line l) lines)

pub never_falls : (m : Map) (bytes : List ℕ) → NeverFalls 0 (entries_of (imported m bytes).lots)
never_falls m bytes = falls_after m (at_start m) (recording_lines bytes)

-- ---- each line becomes something

all_at_end : (o : Option Columns) → length (at_end o).lots ≡ 0
all_at_end None = refl
all_at_end (Some c) = refl

all_on : (n : ℕ) (more : Lot → Imported) (r : Result Lot ExportFault) → ((l : Lot) → (more l).fault ≡ None → length (more l).lots ≡ n)
    → (goes_on r more).fault ≡ None → length (goes_on r more).lots ≡ suc n
all_on n more (Err f) all h = absurd (cc h)
all_on n more (Ok l) all h = ap suc (all l h)

all_after : (m : Map) (s : Progress) (lines : List (List ℕ))
    → (imported_after m s lines).fault ≡ None → length (imported_after m s lines).lots ≡ length lines
all_after m s [] e = all_at_end s.columns
all_after m s (line ∷ lines) e =
    all_on (length lines) (λ l. imported_after m (progress_after m s line l) lines) (lot_of m s line)
    (λ l. all_after m (progress_after m s line l) lines) e

pub all_lines : (m : Map) (bytes : List ℕ)
    → (imported m bytes).fault ≡ None → length (imported m bytes).lots ≡ length (recording_lines bytes)
all_lines m bytes e = all_after m (at_start m) (recording_lines bytes) e
