-- The words of entries are those of their rows, where nothing is done to them.
use Rattle.std.proofs.Common.{◌≡◌, ℕ, ◌+◌, List, [], ◌∷◌, Bool, true, false, if◌then◌else◌, nat_lt, is_some, slice_get, Option, Some, None, Result, Ok, Err, refl, ap, sym, subst, ◌∙◌}
use Rattle.std.specs.Prelude.{⊤}
use Rattle.std.specs.List.{list_all}
use Rattle.a429_word.specs.declared.bus.Bus.{Bus}
use Rattle.a429_record.specs.Recording.{recording_lines}
use Rattle.a429_import.specs.declared.channel.Channel.{Channel}
use Rattle.a429_import.specs.declared.channel.Channel.TheVariants.{Line, Passed, Unknown}
use Rattle.a429_import.specs.declared.columns.Columns.{Columns}
use Rattle.a429_import.specs.declared.fault.ExportFault.{ExportFault}
use Rattle.a429_import.specs.declared.fault.ExportFault.TheVariants as fault
use Rattle.a429_import.specs.declared.lot.Lot.{Lot}
use Rattle.a429_import.specs.declared.lot.Lot.TheVariants as lot
use Rattle.a429_import.specs.declared.map.Map.{Map}
use Rattle.a429_import.specs.declared.order.Moved.{Moved}
use Rattle.a429_import.specs.declared.order.Ordered.{Ordered}
use Rattle.a429_import.specs.declared.parity.ParityBit.TheVariants as bit_32
use Rattle.a429_import.specs.declared.parity.Verdict.{Verdict}
use Rattle.a429_import.specs.declared.past.Past.{Past}
use Rattle.a429_import.specs.declared.progress.Progress.{Progress}
use Rattle.a429_import.specs.declared.time.Reading.{Reading}
use Rattle.a429_import.specs.Channel.{heard_on}
use Rattle.a429_import.specs.Columns.{field_at}
use Rattle.a429_import.specs.Fields.{fields_in, is_blank, text_of}
use Rattle.a429_import.specs.Import.{Imported, at_end, at_start, fields_lot, goes_on, imported, imported_after, is_comment, lot_of, progress_after}
use Rattle.a429_import.specs.Order.{meant, settled}
use Rattle.a429_import.specs.Parity.{judged, verdict_of}
use Rattle.a429_import.specs.Repeats.{is_repeat}
use Rattle.a429_import.specs.Row.{and_then, channel_lot, dated, entry_lot, finished, lot_at, needed, row_lot, status_of_row, word_of}
use Rattle.a429_import.specs.Texts.{has_text}
use Rattle.a429_import.specs.TimeForm.{time_in}
use Rattle.a429_import.specs.Turning.{turned}
use Rattle.a429_import.specs.Words.{HasRowWord, HaveRowWords}

-- nothing is done to words
pub record KeepsWords (m : Map) : Type 0 where
  pub parity : m.parity ≡ bit_32.Received
  pub turning : m.turning ≡ record { bytes = false; label = false }

-- ---- the word of an entry, if there is one

abbrev IsWord : ℕ → Result Lot ExportFault → Type 0
IsWord w (Ok (lot.Written e is_cut v mend)) = e.word ≡ w
IsWord w _ = ⊤

word_dated : (n : ℕ) (bus : Bus) (r : Reading) (v : Verdict) (w : ℕ) (o : Option Ordered) → IsWord (judged v w) (dated n bus r v w o)
word_dated n bus r v w (Some o) = refl
word_dated n bus r v w None = tt

word_either : (w : ℕ) (b : Bool) (x y : Result Lot ExportFault) → IsWord w x → IsWord w y → IsWord w (if b then x else y)
word_either w true x y h k = h
word_either w false x y h k = k

word_at : (m : Map) (n : ℕ) (p : Past) (bus : Bus) (r : Reading) (v : Verdict) (w : ℕ) (t : Option Moved)
    → IsWord (judged v w) (lot_at m n p bus r v w t)
word_at m n p bus r v w None = tt
word_at m n p bus r v w (Some t) =
    word_either (judged v w) (is_repeat m.repeats.within p.last (record { time = t.time; bus = bus; word = judged v w })) _ _ tt
    (word_dated n bus r v w (settled m.time.order p.clock r.micros t))

judged_same : (m : Map) (status : Verdict) (w : ℕ)
    → KeepsWords m → judged (verdict_of m.parity status (turned m.turning w)) (turned m.turning w) ≡ w
judged_same m status w keeps = rw (keeps.parity, keeps.turning) refl

word_finished : (m : Map) (n : ℕ) (p : Past) (bus : Bus) (r : Reading) (status : Verdict) (w : ℕ)
    → KeepsWords m → IsWord w (finished m n p bus r status w)
word_finished m n p bus r status w keeps =
    subst (λ (v : ℕ). IsWord v (finished m n p bus r status w)) (judged_same m status w keeps)
    (word_at m n p bus r (verdict_of m.parity status (turned m.turning w)) (turned m.turning w) (meant m.time.order p.clock r.micros))

-- ---- it is the word of its row

abbrev IsOfRow : Map → Option Columns → ℕ → List (List ℕ) → Result Lot ExportFault → Type 0
IsOfRow m known n fields (Ok l) = HasRowWord m known n fields l
IsOfRow m known n fields (Err f) = ⊤

row_word : (m : Map) (c : Columns) (n : ℕ) (fields : List (List ℕ)) (w : ℕ) (x : Result Lot ExportFault)
    → word_of m c n fields ≡ Ok w → IsWord w x → IsOfRow m (Some c) n fields x
row_word m c n fields w (Err f) is h = tt
row_word m c n fields w (Ok (lot.Written e is_cut v mend)) is h = is ∙ ap Ok (sym h)
row_word m c n fields w (Ok lot.Skipped) is h = tt
row_word m c n fields w (Ok lot.Empty) is h = tt
row_word m c n fields w (Ok lot.Comment) is h = tt
row_word m c n fields w (Ok lot.Heading) is h = tt
row_word m c n fields w (Ok lot.RowPassed) is h = tt
row_word m c n fields w (Ok lot.ChannelPassed) is h = tt
row_word m c n fields w (Ok lot.Repeated) is h = tt

row_either : (m : Map) (known : Option Columns) (n : ℕ) (fields : List (List ℕ)) (b : Bool) (x y : Result Lot ExportFault)
    → IsOfRow m known n fields x → IsOfRow m known n fields y → IsOfRow m known n fields (if b then x else y)
row_either m known n fields true x y h k = h
row_either m known n fields false x y h k = k

row_then : {A : Type 0} (m : Map) (known : Option Columns) (n : ℕ) (fields : List (List ℕ)) (r : Result A ExportFault)
    (more : A → Result Lot ExportFault)
    → ((a : A) → r ≡ Ok a → IsOfRow m known n fields (more a)) → IsOfRow m known n fields (and_then r more)
row_then m known n fields (Ok a) more h = h a refl
row_then m known n fields (Err f) more h = tt

row_entry : (m : Map) (c : Columns) (n : ℕ) (p : Past) (fields : List (List ℕ)) (bus : Bus)
    → KeepsWords m → IsOfRow m (Some c) n fields (entry_lot m c n p fields bus)
row_entry m c n p fields bus keeps =
    row_then m (Some c) n fields (needed (fault.Time n) (time_in m.time.form m.time.unit (field_at fields c.time))) _ (λ r _.
    row_then m (Some c) n fields (needed (fault.Status n) (status_of_row m.parity (field_at fields c.status))) _ (λ status _.
    row_then m (Some c) n fields (word_of m c n fields) _ (λ w is.
    row_word m c n fields w (finished m n p bus r status w) is (word_finished m n p bus r status w keeps))))

row_channel : (m : Map) (c : Columns) (n : ℕ) (p : Past) (fields : List (List ℕ)) (h : Channel)
    → KeepsWords m → IsOfRow m (Some c) n fields (channel_lot m c n p fields h)
row_channel m c n p fields (Line bus) keeps = row_entry m c n p fields bus keeps
row_channel m c n p fields Passed keeps = tt
row_channel m c n p fields Unknown keeps = tt

row_row : (m : Map) (c : Columns) (n : ℕ) (p : Past) (fields : List (List ℕ))
    → KeepsWords m → IsOfRow m (Some c) n fields (row_lot m c n p fields)
row_row m c n p fields keeps =
    row_either m (Some c) n fields (is_some (slice_get fields c.last)) _ _
    (row_channel m c n p fields (heard_on m.channels (field_at fields c.channel)) keeps) tt

row_fields : (m : Map) (s : Progress) (known : Option Columns) (fields : List (List ℕ))
    → KeepsWords m → IsOfRow m known (s.lines + 1) fields (fields_lot m s known fields)
row_fields m s None fields keeps = tt
row_fields m s (Some c) fields keeps =
    row_either m (Some c) (s.lines + 1) fields (has_text m.rows.pass (field_at fields 0)) _ _ tt
    (row_row m c (s.lines + 1) s.past fields keeps)

row_line : (m : Map) (s : Progress) (line : List ℕ)
    → KeepsWords m → IsOfRow m s.columns (s.lines + 1) (fields_in m.rows line) (lot_of m s line)
row_line m s line keeps =
    row_either m s.columns (s.lines + 1) (fields_in m.rows line) (nat_lt s.lines m.rows.skip) _ _ tt
    (row_either m s.columns (s.lines + 1) (fields_in m.rows line) (list_all is_blank (text_of line)) _ _ tt
    (row_either m s.columns (s.lines + 1) (fields_in m.rows line) (is_comment m.rows.comment (text_of line)) _ _ tt
    (row_fields m s s.columns (fields_in m.rows line) keeps)))

-- ---- all lines

words_at_end : (m : Map) (s : Progress) (known : Option Columns) → HaveRowWords m s [] (at_end known).lots
words_at_end m s None = tt
words_at_end m s (Some c) = tt

words_on : (m : Map) (s : Progress) (line : List ℕ) (lines : List (List ℕ)) (more : Lot → Imported) (r : Result Lot ExportFault)
    → IsOfRow m s.columns (s.lines + 1) (fields_in m.rows line) r
    → ((l : Lot) → HaveRowWords m (progress_after m s line l) lines (more l).lots)
    → HaveRowWords m s (line ∷ lines) (goes_on r more).lots
words_on m s line lines more (Err f) h all = tt
words_on m s line lines more (Ok l) h all = (h, all l)

words_after : (m : Map) (s : Progress) (lines : List (List ℕ)) → KeepsWords m → HaveRowWords m s lines (imported_after m s lines).lots
words_after m s [] keeps = words_at_end m s s.columns
words_after m s (line ∷ lines) keeps =
    words_on m s line lines (λ l. imported_after m (progress_after m s line l) lines) (lot_of m s line) (row_line m s line keeps)
    (λ l. words_after m (progress_after m s line l) lines keeps)

pub row_words : (m : Map) (bytes : List ℕ) → m.parity ≡ bit_32.Received → m.turning ≡ record { bytes = false; label = false }
    → HaveRowWords m (at_start m) (recording_lines bytes) (imported m bytes).lots
row_words m bytes parity turning = words_after m (at_start m) (recording_lines bytes) (record { parity = parity; turning = turning })
