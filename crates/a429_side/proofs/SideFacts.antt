-- What is written of entries, one more at a time; and that it is the view of the direction.
use Rattle.std.proofs.Common.{◌≡◌, ℕ, suc, length, Bool, true, false, not, cond, ◌&&◌, ◌==◌, List, [], ◌∷◌, ◌++◌, map, Option, Some, None, refl, sym, ap, ◌∙◌, append_assoc}
use Rattle.std.specs.List.{flat_map}
use Rattle.std.proofs.lemmas.Grind.{flat_map-append}
use Rattle.a429_word.specs.declared.bus.Bus.{Bus}
use Rattle.a429_word.specs.declared.bus.Bus.TheVariants as bus
use Rattle.a429_profile.specs.declared.codes.Codes.{Codes}
use Rattle.a429_link.specs.declared.seen.Seen.{Seen}
use Rattle.a429_record.specs.declared.entry.Entry.{Entry}
use Rattle.a429_record.specs.Writing.{header_text, line_text}
use Rattle.a429_cert.specs.Explained.{items_of, seen_of}
use Rattle.a429_side.specs.declared.lot.Lot.{Lot}
use Rattle.a429_side.specs.declared.lot.Lot.TheVariants.{Elsewhere, Kept, Renamed}
use Rattle.a429_side.specs.declared.lot.Side.{Side}
use Rattle.a429_ldu.specs.Across.{mirrored}
use Rattle.a429_side.specs.Direction.{all_turned, belongs, turned, view}
use Rattle.a429_side.specs.Destination.{destination_at, destined, is_request}
use Rattle.a429_side.specs.Side.{last_in, last_with, lot_in, lot_of, lots, lots_of, on_line, side_of, sided, with_written, written}
use Rattle.a429_side.specs.Siding.{side_text, side_text_before}
use Rattle.a429_side.specs.BothSides.{AreHere}
use Rattle.a429_side.proofs.NamedFacts.{by_tests}

-- ---- one more entry

-- the destination of the last request of entries
abbrev pub last_of : Codes → ℕ → List Entry → ℕ
last_of c last [] = last
last_of c last (e ∷ es) = last_of c (last_with c last e) es

pub last_of-more : (c : Codes) (last : ℕ) (es : List Entry) (e : Entry) → last_of c last (es ++ e ∷ []) ≡ last_with c (last_of c last es) e
last_of-more c last [] e = refl
last_of-more c last (x ∷ es) e = last_of-more c (last_with c last x) es e

with_written-append : (o : Option Entry) (xs ys : List Entry) → with_written o (xs ++ ys) ≡ with_written o xs ++ ys
with_written-append None xs ys = refl
with_written-append (Some e) xs ys = refl

pub sided-more : (c : Codes) (answer : Option ℕ) (last : ℕ) (es : List Entry) (e : Entry)
    → sided c answer last (es ++ e ∷ []) ≡ sided c answer last es ++ with_written (written c (lot_of c answer (last_of c last es) e) e) []
sided-more c answer last [] e = refl
sided-more c answer last (x ∷ es) e =
    ap (with_written (written c (lot_of c answer last x) x)) (sided-more c answer (last_with c last x) es e)
    ∙ with_written-append (written c (lot_of c answer last x) x) (sided c answer (last_with c last x) es) _

pub lots-more : (c : Codes) (answer : Option ℕ) (last : ℕ) (es : List Entry) (e : Entry)
    → lots c answer last (es ++ e ∷ []) ≡ lots c answer last es ++ lot_of c answer (last_of c last es) e ∷ []
lots-more c answer last [] e = refl
lots-more c answer last (x ∷ es) e = ap (λ (l : List Lot). lot_of c answer last x ∷ l) (lots-more c answer (last_with c last x) es e)

lined-more : (b : Bus) (es : List Entry) (e : Entry) → map (on_line b) (es ++ e ∷ []) ≡ map (on_line b) es ++ on_line b e ∷ []
lined-more b [] e = refl
lined-more b (x ∷ es) e = ap (λ (l : List Entry). on_line b x ∷ l) (lined-more b es e)

-- ---- the same of a recording

-- the destination of the last request of the entries of a recording
abbrev pub turn_of : Codes → Side → List Entry → ℕ
turn_of c s es = last_of c c.destination (map (on_line s.line) es)

pub turn_of-more : (c : Codes) (s : Side) (es : List Entry) (e : Entry)
    → turn_of c s (es ++ e ∷ []) ≡ last_with c (turn_of c s es) (on_line s.line e)
turn_of-more c s es e =
    ap (last_of c c.destination) (lined-more s.line es e) ∙ last_of-more c c.destination (map (on_line s.line) es) (on_line s.line e)

pub lots_of-more : (c : Codes) (s : Side) (es : List Entry) (e : Entry)
    → lots_of c s (es ++ e ∷ []) ≡ lots_of c s es ++ lot_of c s.answer (turn_of c s es) (on_line s.line e) ∷ []
lots_of-more c s es e = ap (lots c s.answer c.destination) (lined-more s.line es e)
    ∙ lots-more c s.answer c.destination (map (on_line s.line) es) (on_line s.line e)

-- what is written of one entry more
abbrev pub written_next : Codes → Side → List Entry → Entry → Option Entry
written_next c s es e = written c (lot_of c s.answer (turn_of c s es) (on_line s.line e)) (on_line s.line e)

pub side_text-more : (c : Codes) (s : Side) (es : List Entry) (e : Entry)
    → side_text c s (es ++ e ∷ []) ≡ side_text c s es ++ flat_map line_text (with_written (written_next c s es e) [])
side_text-more c s es e =
    ap (λ (l : List Entry). header_text ++ flat_map line_text (sided c s.answer c.destination l)) (lined-more s.line es e)
    ∙ ap (λ (l : List Entry). header_text ++ flat_map line_text l)
    (sided-more c s.answer c.destination (map (on_line s.line) es) (on_line s.line e))
    ∙ ap (λ (t : List ℕ). header_text ++ t) (flat_map-append line_text (side_of c s es) (with_written (written_next c s es e) []))
    ∙ sym (append_assoc header_text (flat_map line_text (side_of c s es)) (flat_map line_text (with_written (written_next c s es e) [])))

-- what is written of the next entry, by the calls that find it
pub written_is : (c d : Codes) (s : Side) (es : List Entry) (e entry : Entry) (lot : Lot) (last : ℕ) (o : Option Entry)
    → o ≡ written d lot entry → d ≡ c → lot ≡ lot_of c s.answer last entry → last ≡ turn_of c s es → entry ≡ on_line s.line e
    → o ≡ written_next c s es e
written_is c d s es e entry lot last o is same lot_is last_is line_is = rw (is, same, lot_is, last_is, line_is) refl

pub lot_is : (c : Codes) (s : Side) (es : List Entry) (e entry : Entry) (lot : Lot) (last : ℕ) → lot ≡ lot_of c s.answer last entry
    → last ≡ turn_of c s es → entry ≡ on_line s.line e → lots_of c s es ++ lot ∷ [] ≡ lots_of c s (es ++ e ∷ [])
lot_is c s es e entry lot last is last_is line_is = rw (is, last_is, line_is) (sym (lots_of-more c s es e))

pub turn_is : (c : Codes) (s : Side) (es : List Entry) (e entry : Entry) (new last : ℕ)
    → new ≡ last_with c last entry → last ≡ turn_of c s es → entry ≡ on_line s.line e → new ≡ turn_of c s (es ++ e ∷ [])
turn_is c s es e entry new last is last_is line_is = rw (is, last_is, line_is) (sym (turn_of-more c s es e))

lots-long : (c : Codes) (answer : Option ℕ) (last : ℕ) (es : List Entry) → length (lots c answer last es) ≡ length es
lots-long c answer last [] = refl
lots-long c answer last (e ∷ es) = ap suc (lots-long c answer (last_with c last e) es)

lined-long : (b : Bus) (es : List Entry) → length (map (on_line b) es) ≡ length es
lined-long b [] = refl
lined-long b (e ∷ es) = ap suc (lined-long b es)

pub lots_of-long : (c : Codes) (s : Side) (es : List Entry) → length (lots_of c s es) ≡ length es
lots_of-long c s es = lots-long c s.answer c.destination (map (on_line s.line) es) ∙ lined-long s.line es

pub before_is : (c : Codes) (s : Side) (es : List Entry) (e : Entry) → side_text_before c s (es ++ e ∷ []) ≡ side_text c s (es ++ e ∷ [])
before_is c s [] e = refl
before_is c s (x ∷ es) e = refl

-- ---- the view

view_here : (c : Codes) (d : ℕ) (e : Entry) (r : Bool) (es : List Entry) (items : List Seen) (h : Bool)
    → ((n : ℕ) → items_of (sided c None n es) ≡ destined c n items)
    → items_of (with_written (written c (cond h (cond false Renamed Kept) (Elsewhere d r)) e) (sided c None d es))
    ≡ cond (true && not h) (destined c d items) (seen_of e ∷ destined c d items)
view_here c d e r es items true more = ap (λ (l : List Seen). seen_of e ∷ l) (more d)
view_here c d e r es items false more = more d

view_step : (c : Codes) (last : ℕ) (e : Entry) (es : List Entry) (items : List Seen) (theirs ours free : Bool)
    → ((n : ℕ) → items_of (sided c None n es) ≡ destined c n items)
    → items_of (with_written (written c (lot_in c None last e (by_tests theirs ours free)) e)
    (sided c None (last_in c last e (by_tests theirs ours free)) es))
    ≡ cond theirs (destined c last items)
    (cond (ours && not (destination_at c last (seen_of e) == c.destination)) (destined c (destination_at c last (seen_of e)) items)
    (seen_of e ∷ destined c (destination_at c last (seen_of e)) items))
view_step c last e es items true ours free more = more last
view_step c last e es items false true free more =
    view_here c (destination_at c last (seen_of e)) e (is_request c (seen_of e)) es items
    (destination_at c last (seen_of e) == c.destination) more
view_step c last e es items false false true more = ap (λ (l : List Seen). seen_of e ∷ l) (more (destination_at c last (seen_of e)))
view_step c last e es items false false false more = ap (λ (l : List Seen). seen_of e ∷ l) (more (destination_at c last (seen_of e)))

destined_by : (c : Codes) (last : ℕ) (i : Seen) (items : List Seen) (theirs : Bool)
    → cond theirs (destined c last items) (destined c last (i ∷ items)) ≡ destined c last (cond theirs items (i ∷ items))
destined_by c last i items true = refl
destined_by c last i items false = refl

pub sided-view : (c : Codes) (last : ℕ) (es : List Entry)
    → items_of (sided c None last es) ≡ destined c last (view (mirrored c) (items_of es))
sided-view c last [] = refl
sided-view c last (e ∷ es) =
    view_step c last e es (view (mirrored c) (items_of es)) (belongs (mirrored c) (turned (seen_of e))) (belongs c (seen_of e)) _
    (λ n. sided-view c n es)
    ∙ destined_by c last (seen_of e) (view (mirrored c) (items_of es)) (belongs (mirrored c) (turned (seen_of e)))

pub lined-turned : (es : List Entry) → items_of (map (on_line bus.B) es) ≡ all_turned (items_of es)
lined-turned [] = refl
lined-turned (e ∷ es) = ap (λ (l : List Seen). turned (seen_of e) ∷ l) (lined-turned es)

pub lined-same : (es : List Entry) → map (on_line bus.A) es ≡ es
lined-same [] = refl
lined-same (e ∷ es) = ap (λ (l : List Entry). e ∷ l) (lined-same es)

-- ---- the view of a direction with one destination

here_here : (c : Codes) (d : ℕ) (e : Entry) (r : Bool) (es : List Entry) (items : List Seen) (h : Bool)
    → ((n : ℕ) → AreHere (lots c None n es) → items_of (sided c None n es) ≡ items)
    → AreHere (cond h (cond false Renamed Kept) (Elsewhere d r) ∷ lots c None d es)
    → items_of (with_written (written c (cond h (cond false Renamed Kept) (Elsewhere d r)) e) (sided c None d es)) ≡ seen_of e ∷ items
here_here c d e r es items true more here = ap (λ (l : List Seen). seen_of e ∷ l) (more d here)
here_here c d e r es items false more here = absurd here

here_step : (c : Codes) (last : ℕ) (e : Entry) (es : List Entry) (items : List Seen) (theirs ours free : Bool)
    → ((n : ℕ) → AreHere (lots c None n es) → items_of (sided c None n es) ≡ items)
    → AreHere (lot_in c None last e (by_tests theirs ours free) ∷ lots c None (last_in c last e (by_tests theirs ours free)) es)
    → items_of (with_written (written c (lot_in c None last e (by_tests theirs ours free)) e)
    (sided c None (last_in c last e (by_tests theirs ours free)) es))
    ≡ cond theirs items (seen_of e ∷ items)
here_step c last e es items true ours free more here = more last here
here_step c last e es items false true free more here =
    here_here c (destination_at c last (seen_of e)) e (is_request c (seen_of e)) es items
    (destination_at c last (seen_of e) == c.destination) more here
here_step c last e es items false false true more here =
    ap (λ (l : List Seen). seen_of e ∷ l) (more (destination_at c last (seen_of e)) here)
here_step c last e es items false false false more here =
    ap (λ (l : List Seen). seen_of e ∷ l) (more (destination_at c last (seen_of e)) here)

pub here-view : (c : Codes) (last : ℕ) (es : List Entry)
    → AreHere (lots c None last es) → items_of (sided c None last es) ≡ view (mirrored c) (items_of es)
here-view c last [] here = refl
here-view c last (e ∷ es) here =
    here_step c last e es (view (mirrored c) (items_of es)) (belongs (mirrored c) (turned (seen_of e))) (belongs c (seen_of e)) _
    (λ n h. here-view c n es h) here
