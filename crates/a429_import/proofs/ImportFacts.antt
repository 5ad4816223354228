-- What the lines of an export gave so far, and the recording of these.
use Rattle.std.proofs.Common.{◌≡◌, ℕ, List, [], ◌∷◌, ◌++◌, Option, Some, None, Ok, Err, IfSome, IsSome, refl, sym, ap, ◌∙◌, append_assoc}
use Rattle.std.specs.Prelude.{⊤}
use Rattle.std.specs.List.{flat_map}
use Rattle.std.specs.Io.KnownBytes.{IsAtEnd}
use Rattle.std.proofs.lemmas.Grind.{flat_map-append}
use Rattle.a429_record.specs.declared.entry.Entry.{Entry}
use Rattle.a429_record.specs.Handed.{IsLineHanded, Loses}
use Rattle.a429_record.specs.Recording.{recording_lines}
use Rattle.a429_record.specs.Writing.{header_text, line_text}
use Rattle.a429_record.proofs.LinesFacts.{line_first}
use Rattle.a429_import.specs.declared.columns.Columns.{Columns}
use Rattle.a429_import.specs.declared.fault.ExportFault.{ExportFault}
use Rattle.a429_import.specs.declared.fault.ExportFault.TheVariants.{Header}
use Rattle.a429_import.specs.declared.lot.Lot.{Lot}
use Rattle.a429_import.specs.declared.lot.Lot.TheVariants as lot
use Rattle.a429_import.specs.declared.map.Map.{Map}
use Rattle.a429_import.specs.declared.progress.Progress.{Progress}
use Rattle.a429_import.specs.Import.{Imported, at_end, columns_with, entries_of, entry_before, goes_on, imported, imported_after, lot_of, progress_after, with_lot}
use Rattle.a429_import.specs.declared.fault.ImportFault.{ImportFault}
use Rattle.a429_import.specs.declared.fault.ImportFault.TheVariants as fault
use Rattle.a429_import.specs.Importing.{Answers, BeginsWith, Stops, lots_text, with_lots}

-- ---- what was given

-- these lots came, and this is still to come
abbrev pub Gave : Map → Option (List ℕ) → List Lot → Progress → Option (List ℕ) → Type 0
Gave m None lots s left = ⊤
Gave m (Some bytes) lots s None = ⊥
Gave m (Some bytes) lots s (Some rest) = imported m bytes ≡ with_lots lots (imported_after m s (recording_lines rest))

with_lots-more : (lots : List Lot) (l : Lot) (i : Imported) → with_lots (lots ++ l ∷ []) i ≡ with_lots lots (with_lot l i)
with_lots-more [] l i = refl
with_lots-more (x ∷ lots) l i = ap (with_lot x) (with_lots-more lots l i)

-- the next line is handed out
next_line : (m : Map) (bytes rest : List ℕ) (lots : List Lot) (s : Progress) (line taken after : List ℕ)
    → imported m bytes ≡ with_lots lots (imported_after m s (recording_lines rest)) → rest ≡ taken ++ after → IsLineHanded line taken after
    → imported m bytes
    ≡ with_lots lots (goes_on (lot_of m s line) (λ l. imported_after m (progress_after m s line l) (recording_lines after)))
next_line m bytes rest lots s line taken after h e handed =
    h ∙ ap (λ ls. with_lots lots (imported_after m s ls)) (line_first line taken after rest handed e)

pub gave_more : (m : Map) (bytes old new : Option (List ℕ)) (lots : List Lot) (s t : Progress) (line : List ℕ) (l : Lot)
    → Gave m bytes lots s old → Loses (IsLineHanded line) old new → lot_of m s line ≡ Ok l → t ≡ progress_after m s line l
    → Gave m bytes (lots ++ l ∷ []) t new
gave_more m None old new lots s t line l h lost is after = tt
gave_more m (Some bytes) None new lots s t line l h lost is after = absurd h
gave_more m (Some bytes) (Some rest) None lots s t line l h lost is after = absurd lost
gave_more m (Some bytes) (Some rest) (Some more) lots s t line l h (taken, e, handed) is after =
    next_line m bytes rest lots s line taken more h e handed
    ∙ ap (λ r. with_lots lots (goes_on r (λ k. imported_after m (progress_after m s line k) (recording_lines more)))) is
    ∙ sym (with_lots-more lots l (imported_after m (progress_after m s line l) (recording_lines more)))
    ∙ ap (λ p. with_lots (lots ++ l ∷ []) (imported_after m p (recording_lines more))) (sym after)

with_lots-fault : (lots : List Lot) (f : Option ExportFault)
    → with_lots lots (record { lots = []; fault = f }) ≡ record { lots = lots; fault = f }
with_lots-fault [] f = refl
with_lots-fault (l ∷ lots) f = ap (with_lot l) (with_lots-fault lots f)

-- the next line has a fault
pub gave_fault : (m : Map) (bytes old new : Option (List ℕ)) (lots : List Lot) (s : Progress) (line : List ℕ) (f : ExportFault)
    → Gave m bytes lots s old → Loses (IsLineHanded line) old new → lot_of m s line ≡ Err f
    → IfSome bytes (λ b. imported m b ≡ record { lots = lots; fault = Some f })
gave_fault m None old new lots s line f h lost is = tt
gave_fault m (Some bytes) None new lots s line f h lost is = absurd h
gave_fault m (Some bytes) (Some rest) None lots s line f h lost is = absurd lost
gave_fault m (Some bytes) (Some rest) (Some more) lots s line f h (taken, e, handed) is =
    next_line m bytes rest lots s line taken more h e handed
    ∙ ap (λ r. with_lots lots (goes_on r (λ k. imported_after m (progress_after m s line k) (recording_lines more)))) is
    ∙ with_lots-fault lots (Some f)

-- no line is left
at_last : (m : Map) (bytes old : Option (List ℕ)) (lots : List Lot) (s : Progress) → Gave m bytes lots s old → IsAtEnd old
    → IfSome bytes (λ b. imported m b ≡ with_lots lots (at_end s.columns))
at_last m None old lots s h end = tt
at_last m (Some bytes) None lots s h end = absurd h
at_last m (Some bytes) (Some rest) lots s h end = h ∙ ap (λ r. with_lots lots (imported_after m s (recording_lines r))) end

known : (o : Option Columns) → IsSome o → at_end o ≡ record { lots = []; fault = None }
known (Some c) h = refl
known None h = cc h

pub gave_all : (m : Map) (bytes old : Option (List ℕ)) (lots : List Lot) (s : Progress)
    → Gave m bytes lots s old → IsAtEnd old → IsSome s.columns
    → IfSome bytes (λ b. imported m b ≡ record { lots = lots; fault = None })
gave_all m None old lots s h end is = tt
gave_all m (Some bytes) old lots s h end is =
    at_last m (Some bytes) old lots s h end ∙ ap (with_lots lots) (known s.columns is) ∙ with_lots-fault lots None

pub gave_no_header : (m : Map) (bytes old : Option (List ℕ)) (lots : List Lot) (s : Progress)
    → Gave m bytes lots s old → IsAtEnd old → s.columns ≡ None
    → IfSome bytes (λ b. imported m b ≡ record { lots = lots; fault = Some Header })
gave_no_header m None old lots s h end is = tt
gave_no_header m (Some bytes) old lots s h end is =
    at_last m (Some bytes) old lots s h end ∙ ap (λ o. with_lots lots (at_end o)) is ∙ with_lots-fault lots (Some Header)

-- those that came are the first
pub gave_these : (m : Map) (bytes old : Option (List ℕ)) (lots : List Lot) (s : Progress)
    → Gave m bytes lots s old → IfSome bytes (λ b. BeginsWith lots (imported m b))
gave_these m None old lots s h = tt
gave_these m (Some bytes) None lots s h = absurd h
gave_these m (Some bytes) (Some rest) lots s h = (imported_after m s (recording_lines rest), h)

-- columns that are known stay
pub known_stay : (m : Map) (known : Option Columns) (c : Columns) (fields : List (List ℕ)) (l : Lot)
    → known ≡ Some c → known ≡ columns_with m known fields l
known_stay m None c fields l e = absurd (cc e)
known_stay m (Some k) c fields lot.Heading e = refl
known_stay m (Some k) c fields lot.Skipped e = refl
known_stay m (Some k) c fields lot.Empty e = refl
known_stay m (Some k) c fields lot.Comment e = refl
known_stay m (Some k) c fields lot.RowPassed e = refl
known_stay m (Some k) c fields lot.ChannelPassed e = refl
known_stay m (Some k) c fields lot.Repeated e = refl
known_stay m (Some k) c fields (lot.Written entry is_cut v mend) e = refl

-- ---- their text

entry_before-append : (l : Lot) (xs ys : List Entry) → entry_before l (xs ++ ys) ≡ entry_before l xs ++ ys
entry_before-append (lot.Written e is_cut v mend) xs ys = refl
entry_before-append lot.Skipped xs ys = refl
entry_before-append lot.Empty xs ys = refl
entry_before-append lot.Comment xs ys = refl
entry_before-append lot.Heading xs ys = refl
entry_before-append lot.Repeated xs ys = refl
entry_before-append lot.RowPassed xs ys = refl
entry_before-append lot.ChannelPassed xs ys = refl

entries_of-more : (lots : List Lot) (l : Lot) → entries_of (lots ++ l ∷ []) ≡ entries_of lots ++ entry_before l []
entries_of-more [] l = refl
entries_of-more (x ∷ lots) l = ap (entry_before x) (entries_of-more lots l) ∙ entry_before-append x (entries_of lots) (entry_before l [])

pub lots_text-more : (lots : List Lot) (l : Lot) → lots_text (lots ++ l ∷ []) ≡ lots_text lots ++ flat_map line_text (entry_before l [])
lots_text-more lots l =
    ap (λ es. header_text ++ flat_map line_text es) (entries_of-more lots l)
    ∙ ap (λ (t : List ℕ). header_text ++ t) (flat_map-append line_text (entries_of lots) (entry_before l []))
    ∙ sym (append_assoc header_text (flat_map line_text (entries_of lots)) (flat_map line_text (entry_before l [])))

-- ---- answers

-- a fault at the next line
pub stops_at : (m : Map) (bytes old new : Option (List ℕ)) (lots : List Lot) (s : Progress) (line : List ℕ) (f : ImportFault)
    → Gave m bytes lots s old → Loses (IsLineHanded line) old new → Answers (lot_of m s line) (Err f)
    → IfSome bytes (λ b. Stops f lots (imported m b))
stops_at m bytes old new lots s line (fault.Export e) h lost answers = gave_fault m bytes old new lots s line e h lost answers
stops_at m bytes old new lots s line fault.OutOfMemory h lost answers = gave_these m bytes old lots s h
stops_at m bytes old new lots s line fault.Device h lost answers = absurd answers
