-- Places at which a clock jumps, one line more at a time.
use Rattle.std.proofs.Common.{◌≡◌, ℕ, ◌+◌, ◌<◌, List, [], ◌∷◌, ◌++◌, length, get_or, take, Option, sym, ap, ◌∙◌, arith, append_assoc, append-nil}
use Rattle.std.specs.Prelude.{filter}
use Rattle.std.specs.List.{flat_map}
use Rattle.std.proofs.lemmas.Grind.{flat_map-append}
use Rattle.std.proofs.lemmas.List.{take_more}
use Rattle.a429_word.specs.declared.sheet.Sheet.{Sheet}
use Rattle.a429_word.specs.Sheet.{Says}
use Rattle.a429_word.proofs.SheetFacts.{◌▹◌}
use Rattle.a429_import.specs.declared.lot.Lot.{Lot}
use Rattle.a429_import.specs.declared.lot.Lot.TheVariants as lot
use Rattle.a429_import.specs.declared.places.Place.{Place}
use Rattle.a429_import.specs.Counts.{is_entry}
use Rattle.a429_import.specs.Import.{entry_before}
use Rattle.a429_import.specs.Places.{place_line, places_after, places_at}

entries-more : (x : Lot) (lots : List Lot)
    → length (filter is_entry (x ∷ lots)) ≡ length (entry_before x []) + length (filter is_entry lots)
entries-more lot.Skipped lots = omega arith
entries-more lot.Empty lots = omega arith
entries-more lot.Comment lots = omega arith
entries-more lot.Heading lots = omega arith
entries-more lot.RowPassed lots = omega arith
entries-more lot.ChannelPassed lots = omega arith
entries-more lot.Repeated lots = omega arith
entries-more (lot.Written e is_cut v mend) lots = omega arith

-- the places of one line more
places_after-more : (e n : ℕ) (lots : List Lot) (l : Lot)
    → places_after e n (lots ++ l ∷ []) ≡ places_after e n lots ++ places_at (e + length (filter is_entry lots)) (n + length lots + 1) l
places_after-more e n [] l =
    let entries : e ≡ e + 0 = omega arith in
    let line : n + 1 ≡ n + 0 + 1 = omega arith in
    append-nil (places_at e (n + 1) l) ∙ ap (λ i. places_at i (n + 1) l) entries ∙ ap (λ i. places_at (e + 0) i l) line
places_after-more e n (x ∷ lots) l =
    let first = e + length (entry_before x []) in
    let entries : first + length (filter is_entry lots) ≡ e + length (filter is_entry (x ∷ lots)) = omega (arith, entries-more x lots) in
    let line : n + 1 + length lots + 1 ≡ n + length (x ∷ lots) + 1 = omega arith in
    ap (λ ps. places_at e (n + 1) x ++ ps) (places_after-more first (n + 1) lots l
    ∙ ap (λ i. places_after first (n + 1) lots ++ places_at i (n + 1 + length lots + 1) l) entries
    ∙ ap (λ i. places_after first (n + 1) lots ++ places_at (e + length (filter is_entry (x ∷ lots))) i l) line)
    ∙ sym (append_assoc (places_at e (n + 1) x) (places_after first (n + 1) lots)
    (places_at (e + length (filter is_entry (x ∷ lots))) (n + length (x ∷ lots) + 1) l))

pub places-more : (lots : List Lot) (l : Lot) (entries lines : ℕ) (old new : List Place)
    → old ≡ places_after 0 0 lots → entries ≡ length (filter is_entry lots)
    → lines ≡ length lots + 1 → new ≡ old ++ places_at entries lines l → new ≡ places_after 0 0 (lots ++ l ∷ [])
places-more lots l entries lines old new before e n is =
    let none : entries ≡ 0 + length (filter is_entry lots) = omega (arith, e) in
    let line : lines ≡ 0 + length lots + 1 = omega (arith, n) in
    is ∙ ap (λ ps. ps ++ places_at entries lines l) before ∙ ap (λ i. places_after 0 0 lots ++ places_at i lines l) none
    ∙ ap (λ i. places_after 0 0 lots ++ places_at (0 + length (filter is_entry lots)) i l) line ∙ sym (places_after-more 0 0 lots l)

-- their lines, one more
pub said_more : {W : Type 0} {contents : W → Option (List ℕ)} {a b c : Sheet W} (places : List Place) (i : ℕ) (d : Place)
    → i < length places
    → Says contents a b (flat_map place_line (take i places)) → Says contents b c (place_line (get_or places i d))
    → Says contents a c (flat_map place_line (take (i + 1) places))
said_more places i d inside before here =
    let lines : flat_map place_line (take (i + 1) places) ≡ flat_map place_line (take i places) ++ place_line (get_or places i d) =
    ap (flat_map place_line) (take_more places i d inside) ∙ flat_map-append place_line (take i places) (get_or places i d ∷ [])
    ∙ ap (λ (l : List ℕ). flat_map place_line (take i places) ++ l) (append-nil (place_line (get_or places i d))) in
    rw lines (before ▹ here)
