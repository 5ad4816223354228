-- The rows of attempts, one entry more at a time.
use Rattle.std.proofs.Common.{◌≡◌, ℕ, suc, ◌+◌, ◌-◌, ◌^◌, ◌<◌, ◌≤◌, ◌==◌, min, Bool, true, false, cond, not, ◌&&◌, ◌||◌, List, [], ◌∷◌, ◌++◌, length, length-append, map, append_assoc, append-nil, Option, Some, None, refl, sym, ap, ◌∙◌, subst, inl, inr, arith}
use Rattle.std.specs.Prelude.{flat_map, option_map, unwrap_or}
use Rattle.std.specs.List.{filter_map, cons_option, fold, last_or, list_any}
use Rattle.std.specs.Option.{option_or}
use Rattle.std.proofs.lemmas.Grind.{flat_map-append}
use Rattle.a429_word.specs.Word.{number_at}
use Rattle.a429_word.specs.declared.bus.Bus.{Bus}
use Rattle.a429_word.specs.declared.bus.Bus.TheVariants as bus
use Rattle.a429_word.specs.declared.sheet.Sheet.{Sheet}
use Rattle.a429_word.specs.Sheet.{Says}
use Rattle.a429_word.proofs.SheetFacts.{says_nothing}
use Rattle.a429_word.proofs.CountFacts.{one_more}
use Rattle.a429_profile.specs.Profile.{Contents}
use Rattle.a429_ldu.specs.declared.forms.Form.{Form}
use Rattle.a429_ldu.specs.Form.{form_of, is_free}
use Rattle.a429_link.specs.declared.seen.Seen.{Seen}
use Rattle.a429_link.specs.Observer.{AllowsForm}
use Rattle.a429_link.specs.Implied.{Implied, does, implied, implied_at_first, implies, implies_form, observer_of}
use Rattle.a429_link.proofs.ImpliedFacts.{implied_push}
use Rattle.a429_record.specs.declared.entry.Entry.{Entry}
use Rattle.a429_ldu.proofs.FormFree.{free_none}
use Rattle.a429_cert.specs.Explained.{items_of, seen_of}
use Rattle.a429_cert.proofs.ItemsFacts.{items_push}
use Rattle.a429_view.specs.declared.units.span.Moment.{Moment}
use Rattle.a429_view.specs.declared.blocks.row.AttemptRow.{AttemptRow}
use Rattle.a429_view.specs.declared.blocks.Blocks.{Blocks}
use Rattle.a429_view.specs.Trace.{has_line}
use Rattle.a429_view.specs.Blocks.{IsBlocks, Placed, PutsOnTo, answer_in, asked_by, attempt_by, attempts, before_request, begun_text, blocks_text, columns_text, ended_line, ended_rows, form_at, is_a, is_damaged, is_odd, is_of_block, last_line, moment_at, moment_in, not_allowed_line, placed, placed_from, refused_text, row_of, rows_of, unit_by, up_to, why_in}
use Rattle.a429_view.specs.BlockSteps.{StepsOn, begun, counted, grown, line_before, noted, passed, place_next, row_after, row_with}

-- ---- places

placed_more : (p : Contents) (n : ℕ) (k : Implied) (es : List Entry) (e : Entry)
    → placed_from p n k (es ++ e ∷ []) ≡ placed_from p n k es
    ++ record { number = n + length es; entry = e; before = implied p (items_of es) k } ∷ []
placed_more p n k [] e = let none : n + 0 ≡ n = omega arith in rw none refl
placed_more p n k (x ∷ es) e =
    let sum : suc n + length es ≡ n + suc (length es) = omega arith in
    let next = implies p (seen_of x) k in
    ap (λ (ys : List Placed). record { number = n; entry = x; before = k } ∷ ys)
    (placed_more p (suc n) next es e
    ∙ ap (λ m. placed_from p (suc n) next es ++ record { number = m; entry = e; before = implied p (items_of es) next } ∷ []) sum)

-- the place of the entry after these
abbrev place_after : Contents → List Entry → Entry → Placed
place_after p es e = record { number = length es; entry = e; before = implied p (items_of es) implied_at_first }

placed_push : (p : Contents) (es : List Entry) (e : Entry) → placed p (es ++ e ∷ []) ≡ placed p es ++ place_after p es e ∷ []
placed_push p es e =
    let same : 0 + length es ≡ length es = omega arith in
    placed_more p 0 implied_at_first es e
    ∙ ap (λ m. placed p es ++ record { number = m; entry = e; before = implied p (items_of es) implied_at_first } ∷ []) same

placed_long : (p : Contents) (n : ℕ) (k : Implied) (es : List Entry) → length (placed_from p n k es) ≡ length es
placed_long p n k [] = refl
placed_long p n k (x ∷ es) = ap suc (placed_long p (suc n) (implies p (seen_of x) k) es)

-- ---- columns, entry by entry

abbrev latest_on : {T : Type 0} → (Placed → Option T) → List Placed → Option T → Option T
latest_on f [] o = o
latest_on f (x ∷ xs) o = latest_on f xs (option_or (f x) o)

abbrev moment_on : (Placed → Option Moment) → List Placed → Moment → Moment
moment_on f [] m = m
moment_on f (x ∷ xs) m = moment_on f xs (unwrap_or (f x) m)

abbrev counted_on : (Placed → Bool) → List Placed → ℕ → ℕ
counted_on f [] n = n
counted_on f (x ∷ xs) n = counted_on f xs (counted (f x) n)

latest_on-is : {T : Type 0} (f : Placed → Option T) (xs : List Placed) (o : Option T) → latest_on f xs o ≡ last_or o (filter_map f xs)
latest_on-is f [] o = refl
latest_on-is {T} f (x ∷ xs) o = by (f x) (λ m. latest_on-is f xs m)
  where
    by : (m : Option T) → ((n : Option T) → latest_on f xs n ≡ last_or n (filter_map f xs))
        → latest_on f xs (option_or m o) ≡ last_or o (cons_option m (filter_map f xs))
    by None h = h o
    by (Some m) h = h (Some m)

moment_from : (f : Placed → Option Moment) (xs : List Placed) (o : Option Moment) (m : Moment)
    → moment_on f xs (unwrap_or o m) ≡ unwrap_or (last_or o (filter_map f xs)) m
moment_from f [] o m = refl
moment_from f (x ∷ xs) o m = by (f x) (λ q. moment_from f xs q m)
  where
    by : (n : Option Moment) → ((q : Option Moment) → moment_on f xs (unwrap_or q m) ≡ unwrap_or (last_or q (filter_map f xs)) m)
        → moment_on f xs (unwrap_or n (unwrap_or o m)) ≡ unwrap_or (last_or o (cons_option n (filter_map f xs))) m
    by None h = h o
    by (Some n) h = h (Some n)

counted-is : (b : Bool) (n : ℕ) → n + 1 < 2 ^ 64 → counted b n ≡ n + cond b 1 0
counted-is true n few = grind arith
counted-is false n few = omega arith

counted_on-is : (f : Placed → Bool) (xs : List Placed) (n : ℕ) → n + length xs < 2 ^ 64
    → counted_on f xs n ≡ fold (λ a x. a + cond (f x) 1 0) n xs
counted_on-is f [] n few = refl
counted_on-is f (x ∷ xs) n few = by (f x) (λ m. counted_on-is f xs m)
  where
    by : (b : Bool) → ((m : ℕ) → m + length xs < 2 ^ 64 → counted_on f xs m ≡ fold (λ a y. a + cond (f y) 1 0) m xs)
        → counted_on f xs (counted b n) ≡ fold (λ a y. a + cond (f y) 1 0) (n + cond b 1 0) xs
    by true h = let one : counted true n ≡ n + 1 = counted-is true n (omega (arith, few)) in rw one (h (n + 1) (omega (arith, few)))
    by false h = let none : n + 0 ≡ n = omega arith in rw none (h n (omega (arith, few)))

-- ---- the row of an attempt

abbrev grown_all : Contents → List Placed → AttemptRow → AttemptRow
grown_all p [] r = r
grown_all p (x ∷ xs) r = grown_all p xs (grown p x r)

grown_all-is : (p : Contents) (xs : List Placed) (r : AttemptRow) → grown_all p xs r ≡ record {
  first = r.first;
  last = moment_on (moment_in p.codes) xs r.last;
  unit = latest_on (λ x. unit_by (form_at p.codes x)) xs r.unit;
  asked = r.asked;
  got = counted_on (λ x. is_of_block (form_at p.codes x)) xs r.got;
  damaged = counted_on (λ x. is_damaged p.codes x.entry) xs r.damaged;
  answer = latest_on (λ x. answer_in p x (form_at p.codes x)) xs r.answer;
  why = latest_on (λ x. why_in p x (form_at p.codes x)) xs r.why;
}
grown_all-is p [] r = refl
grown_all-is p (x ∷ xs) r = grown_all-is p xs (grown p x r)

row-is : (p : Contents) (x : Placed) (asked : ℕ) (xs : List Placed)
    → length xs < 2 ^ 64 → grown_all p xs (begun (moment_at x) asked) ≡ row_of p (record { request = x; asked = asked; after = xs })
row-is p x asked xs few =
    let last = moment_from (moment_in p.codes) xs None (moment_at x) in
    let unit = latest_on-is (λ y. unit_by (form_at p.codes y)) xs None in
    let got = counted_on-is (λ y. is_of_block (form_at p.codes y)) xs 0 (omega (arith, few)) in
    let damaged = counted_on-is (λ y. is_damaged p.codes y.entry) xs 0 (omega (arith, few)) in
    let answers = latest_on-is (λ y. answer_in p y (form_at p.codes y)) xs None in
    let whys = latest_on-is (λ y. why_in p y (form_at p.codes y)) xs None in
    grown_all-is p xs (begun (moment_at x) asked) ∙ rw (last, unit, got, damaged, answers, whys) refl

-- ---- the rows of entries

abbrev shown : Option AttemptRow → List AttemptRow
shown None = []
shown (Some r) = r ∷ []

-- the row that a request ends
abbrev ended_at : Option ℕ → Option AttemptRow → List AttemptRow
ended_at None row = []
ended_at (Some asked) row = shown row

-- the rows of attempts that end, and the row of the attempt under way
abbrev ended_on : Contents → Option AttemptRow → List Placed → List AttemptRow
ended_on p row [] = []
ended_on p row (x ∷ xs) = ended_at (asked_by (form_at p.codes x)) row ++ ended_on p (row_with p x row) xs

abbrev row_on : Contents → Option AttemptRow → List Placed → Option AttemptRow
row_on p row [] = row
row_on p row (x ∷ xs) = row_on p (row_with p x row) xs

abbrev rows_on : Contents → Option AttemptRow → List Placed → List AttemptRow
rows_on p row xs = ended_on p row xs ++ shown (row_on p row xs)

before_short : (p : Contents) (xs : List Placed) → length (before_request p.codes xs) ≤ length xs
before_short p [] = omega arith
before_short p (x ∷ xs) = by (asked_by (form_at p.codes x)) (before_short p xs)
  where
    by : (o : Option ℕ) → length (before_request p.codes xs) ≤ length xs → length (up_to x o (before_request p.codes xs)) ≤ length (x ∷ xs)
    by None h = omega (arith, h)
    by (Some asked) h = omega arith

-- that of the attempt under way, and those of the attempts after it
abbrev all_after : Contents → AttemptRow → List Placed → List AttemptRow
all_after p r xs = grown_all p (before_request p.codes xs) r ∷ map (row_of p) (attempts p.codes xs)

rows_some : (p : Contents) (r : AttemptRow) (xs : List Placed) → length xs < 2 ^ 64 → rows_on p (Some r) xs ≡ all_after p r xs
rows_some p r [] few = refl
rows_some p r (x ∷ xs) few = by (asked_by (form_at p.codes x)) (λ s. rows_some p s xs (omega (arith, few)))
  where
    short : length (before_request p.codes xs) < 2 ^ 64
    short = let h = before_short p xs in omega (arith, h, few)

    by : (o : Option ℕ) → ((s : AttemptRow) → rows_on p (Some s) xs ≡ all_after p s xs)
        → (ended_at o (Some r) ++ ended_on p (row_after (moment_at x) o (Some (grown p x r))) xs)
        ++ shown (row_on p (row_after (moment_at x) o (Some (grown p x r))) xs)
        ≡ grown_all p (up_to x o (before_request p.codes xs)) r
        ∷ map (row_of p) (attempt_by x o (before_request p.codes xs) ++ attempts p.codes xs)
    by None h = h (grown p x r)
    by (Some asked) h =
        ap (λ (t : List AttemptRow). r ∷ t) (h (begun (moment_at x) asked)
        ∙ ap (λ (s : AttemptRow). s ∷ map (row_of p) (attempts p.codes xs)) (row-is p x asked (before_request p.codes xs) short))

rows_none : (p : Contents) (xs : List Placed) → length xs < 2 ^ 64 → rows_on p None xs ≡ map (row_of p) (attempts p.codes xs)
rows_none p [] few = refl
rows_none p (x ∷ xs) few = by (asked_by (form_at p.codes x)) (rows_none p xs (omega (arith, few)))
  where
    short : length (before_request p.codes xs) < 2 ^ 64
    short = let h = before_short p xs in omega (arith, h, few)

    by : (o : Option ℕ) → rows_on p None xs ≡ map (row_of p) (attempts p.codes xs)
        → (ended_at o None ++ ended_on p (row_after (moment_at x) o None) xs) ++ shown (row_on p (row_after (moment_at x) o None) xs)
        ≡ map (row_of p) (attempt_by x o (before_request p.codes xs) ++ attempts p.codes xs)
    by None h = h
    by (Some asked) h =
        rows_some p (begun (moment_at x) asked) xs (omega (arith, few))
        ∙ ap (λ (s : AttemptRow). s ∷ map (row_of p) (attempts p.codes xs)) (row-is p x asked (before_request p.codes xs) short)

-- the rows are those of the attempts
rows_are : (p : Contents) (es : List Entry) → length es < 2 ^ 64 → rows_of p es ≡ rows_on p None (placed p es)
rows_are p es few = let long = placed_long p 0 implied_at_first es in sym (rows_none p (placed p es) (omega (arith, long, few)))

-- ---- the last row, and those before it

-- where no attempt is under way, none has ended
none_ended : (p : Contents) (row : Option AttemptRow) (xs : List Placed) → row_on p row xs ≡ None → (row ≡ None) × (ended_on p row xs ≡ [])
none_ended p row [] h = (h, refl)
none_ended p row (x ∷ xs) h = let after = none_ended p (row_with p x row) xs h in by (asked_by (form_at p.codes x)) row after.0 after.1
  where
    by : (o : Option ℕ) (r : Option AttemptRow) → row_after (moment_at x) o (option_map (grown p x) r) ≡ None
        → ended_on p (row_with p x row) xs ≡ [] → (r ≡ None) × (ended_at o r ++ ended_on p (row_with p x row) xs ≡ [])
    by None None e none = (refl, none)
    by None (Some r) e none = absurd (cc e)
    by (Some asked) r e none = absurd (cc e)

ended_of : (rows : List AttemptRow) (r : AttemptRow) → ended_rows (rows ++ r ∷ []) ≡ rows
ended_of [] r = refl
ended_of (s ∷ []) r = refl
ended_of (s ∷ t ∷ rows) r = ap (λ (q : List AttemptRow). s ∷ q) (ended_of (t ∷ rows) r)

last_of : (rows : List AttemptRow) (o : Option AttemptRow) (r : AttemptRow) → last_or o (rows ++ r ∷ []) ≡ Some r
last_of [] o r = refl
last_of (s ∷ rows) o r = last_of rows (Some s) r

ended_is : (rows : List AttemptRow) (o : Option AttemptRow) → (o ≡ None → rows ≡ []) → ended_rows (rows ++ shown o) ≡ rows
ended_is rows None h = ap (λ (q : List AttemptRow). ended_rows (q ++ [])) (h refl) ∙ sym (h refl)
ended_is rows (Some r) h = ended_of rows r

last_is : (rows : List AttemptRow) (o : Option AttemptRow) → (o ≡ None → rows ≡ []) → last_or None (rows ++ shown o) ≡ o
last_is rows None h = ap (λ (q : List AttemptRow). last_or None (q ++ [])) (h refl)
last_is rows (Some r) h = last_of rows None r

ended_now : (p : Contents) (es : List Entry) → length es < 2 ^ 64 → ended_rows (rows_of p es) ≡ ended_on p None (placed p es)
ended_now p es few = ap ended_rows (rows_are p es few)
    ∙ ended_is (ended_on p None (placed p es)) (row_on p None (placed p es)) (λ h. (none_ended p None (placed p es) h).1)

last_now : (p : Contents) (es : List Entry) → length es < 2 ^ 64 → last_or None (rows_of p es) ≡ row_on p None (placed p es)
last_now p es few = ap (last_or None) (rows_are p es few)
    ∙ last_is (ended_on p None (placed p es)) (row_on p None (placed p es)) (λ h. (none_ended p None (placed p es) h).1)

-- ---- one more entry

row_push : (p : Contents) (row : Option AttemptRow) (xs : List Placed) (x : Placed)
    → row_on p row (xs ++ x ∷ []) ≡ row_with p x (row_on p row xs)
row_push p row [] x = refl
row_push p row (y ∷ xs) x = row_push p (row_with p y row) xs x

ended_push : (p : Contents) (row : Option AttemptRow) (xs : List Placed) (x : Placed)
    → ended_on p row (xs ++ x ∷ []) ≡ ended_on p row xs ++ ended_at (asked_by (form_at p.codes x)) (row_on p row xs)
ended_push p row [] x = append-nil (ended_at (asked_by (form_at p.codes x)) row)
ended_push p row (y ∷ xs) x =
    let here = ended_at (asked_by (form_at p.codes y)) row in
    ap (λ (t : List AttemptRow). here ++ t) (ended_push p (row_with p y row) xs x)
    ∙ sym (append_assoc here (ended_on p (row_with p y row) xs) (ended_at (asked_by (form_at p.codes x)) (row_on p (row_with p y row) xs)))

ended_text : (o : Option ℕ) (row : Option AttemptRow) → flat_map ended_line (ended_at o row) ≡ line_before o row
ended_text None row = refl
ended_text (Some asked) None = refl
ended_text (Some asked) (Some r) = append-nil (ended_line r)

place_is : (p : Contents) (b : Blocks) (es : List Entry) (e : Entry) → IsBlocks p b es → place_next b e ≡ place_after p es e
place_is p b es e h =
    ap (λ (n : ℕ). record { number = n; entry = e; before = b.sink }) h.entries
    ∙ ap (λ (k : Implied). record { number = length es; entry = e; before = k }) h.sink

pub blocks_more : (p : Contents) (old new : Blocks) (es : List Entry) (e : Entry)
    → length es + 1 < 2 ^ 64 → StepsOn p e old new → IsBlocks p old es → IsBlocks p new (es ++ e ∷ [])
blocks_more p old new es e few steps h =
    let sum = length-append es (e ∷ []) in
    let row : old.row ≡ row_on p None (placed p es) = h.row ∙ last_now p es (omega (arith, few)) in
    record {
      entries = one_more new.entries old.entries (length es) steps.entries h.entries few ∙ sym sum;
      sink = steps.sink ∙ ap (implies p (seen_of e)) h.sink ∙ sym (implied_push p (items_of es) (seen_of e) implied_at_first)
          ∙ sym (ap (λ (is : List Seen). implied p is implied_at_first) (items_push es e));
      row =
          steps.row
          ∙ ap (λ (x : Placed). row_with p x old.row) (place_is p old es e h)
          ∙ ap (row_with p (place_after p es e)) row
          ∙ sym (row_push p None (placed p es) (place_after p es e))
          ∙ sym (ap (row_on p None) (placed_push p es e))
          ∙ sym (last_now p (es ++ e ∷ []) (omega (arith, few, sum)));
    }

pub text_more : (p : Contents) (b : Blocks) (es : List Entry) (e : Entry) → length es + 1 < 2 ^ 64 → IsBlocks p b es
    → begun_text p (es ++ e ∷ []) ≡ begun_text p es ++ line_before (asked_by (form_at p.codes (place_next b e))) b.row
text_more p b es e few h =
    let sum = length-append es (e ∷ []) in
    let row : row_on p None (placed p es) ≡ b.row = sym (h.row ∙ last_now p es (omega (arith, few))) in
    let o = asked_by (form_at p.codes (place_next b e)) in
    let ended = ended_on p None (placed p es) in
    let rows : ended_rows (rows_of p (es ++ e ∷ [])) ≡ ended ++ ended_at o b.row =
    ended_now p (es ++ e ∷ []) (omega (arith, few, sum))
    ∙ ap (ended_on p None) (placed_push p es e)
    ∙ ended_push p None (placed p es) (place_after p es e)
    ∙ ap (λ (r : Option AttemptRow). ended ++ ended_at o r) row in
    let line : flat_map ended_line (ended ++ ended_at o b.row) ≡ flat_map ended_line ended ++ line_before o b.row =
    flat_map-append ended_line ended (ended_at o b.row) ∙ ap (λ (t : List ℕ). flat_map ended_line ended ++ t) (ended_text o b.row) in
    ap (λ (r : List AttemptRow). columns_text ++ flat_map ended_line r) rows
    ∙ ap (λ (t : List ℕ). columns_text ++ t) line
    ∙ sym (append_assoc columns_text (flat_map ended_line ended) (line_before o b.row))
    ∙ ap (λ (r : List AttemptRow). (columns_text ++ flat_map ended_line r) ++ line_before o b.row)
    (sym (ended_now p es (omega (arith, few))))

-- ---- what an entry changes

-- a row after a word of this form or none, which was recorded at this moment or does not count, and is damaged or not
abbrev grown_by : Contents → Placed → Option Form → Option Moment → Bool → AttemptRow → AttemptRow
grown_by p x o m d r = record {
  first = r.first;
  last = unwrap_or m r.last;
  unit = option_or (unit_by o) r.unit;
  asked = r.asked;
  got = counted (is_of_block o) r.got;
  damaged = counted d r.damaged;
  answer = option_or (answer_in p x o) r.answer;
  why = option_or (why_in p x o) r.why;
}

abbrev row_by : Contents → Placed → Option AttemptRow → Option Form → Option Moment → Bool → Option AttemptRow
row_by p x row o m d = row_after (moment_at x) (asked_by o) (option_map (grown_by p x o m d) row)

row_with-by : (p : Contents) (x : Placed) (row : Option AttemptRow) (o : Option Form) (m : Option Moment) (d : Bool)
    → form_at p.codes x ≡ o → moment_in p.codes x ≡ m → is_damaged p.codes x.entry ≡ d
    → row_with p x row ≡ row_by p x row o m d
row_with-by p x row o m d form moment damaged =
    ap (λ (f : Option Form). row_by p x row f (moment_in p.codes x) (is_damaged p.codes x.entry)) form
    ∙ ap (λ (n : Option Moment). row_by p x row o n (is_damaged p.codes x.entry)) moment
    ∙ ap (row_by p x row o m) damaged

unchanged : (p : Contents) (x : Placed) (row : Option AttemptRow) → row_by p x row None None false ≡ row
unchanged p x None = refl
unchanged p x (Some r) = refl

or_true : (a b : Bool) → (a || (true || b)) ≡ true
or_true true b = refl
or_true false b = refl

and_false : (b : Bus) (t : Bool) → (is_a b && (false && t)) ≡ false
and_false bus.A t = refl
and_false bus.B t = refl

and_false_after : (b : Bus) (t : Bool) → (is_a b && (t && false)) ≡ false
and_false_after bus.A true = refl
and_false_after bus.A false = refl
and_false_after bus.B t = refl

-- its type or its code is ignored
abbrev is_ignored : Contents → ℕ → Bool
is_ignored p w =
    list_any (λ n. n == number_at w 29 3) p.codes.ignored_types
    || (number_at w 29 3 == p.codes.protocol && list_any (λ n. n == number_at w 25 4) p.codes.ignored_codes)

-- a word of another label is free
other_free : (p : Contents) (e : Entry) → has_line p.codes e ≡ false → is_free p.codes e.bus e.word ≡ true
other_free p e other =
    ap (λ (t : Bool). not (is_odd e.word) || (not t || is_ignored p e.word)) other ∙ or_true (not (is_odd e.word)) (is_ignored p e.word)

-- a word that is not free has right parity
not_free_odd : (t rest : Bool) → (not t || rest) ≡ false → t ≡ true
not_free_odd true rest h = refl
not_free_odd false rest h = absurd (cc h)

free_implies : (p : Contents) (e : Entry) (b : Blocks) → is_free p.codes e.bus e.word ≡ true → b.sink ≡ implies p (seen_of e) b.sink
free_implies p e b free = ap (λ (x : Option Form). implies_form p e.bus e.word x b.sink) (sym (free_none p.codes e.bus e.word free))

pub steps_other : (p : Contents) (e : Entry) (old new : Blocks) → has_line p.codes e ≡ false
    → new.entries ≡ min (old.entries + 1) (2 ^ 64 - 1) → new.sink ≡ old.sink → new.row ≡ old.row → StepsOn p e old new
steps_other p e old new other entries sink row =
    let free = other_free p e other in
    let x = place_next old e in
    let moment : moment_in p.codes x ≡ None = ap (λ (t : Bool). cond t (Some (moment_at x)) None) other in
    let whole : is_damaged p.codes e ≡ false =
    ap (λ (t : Bool). is_a e.bus && (t && not (is_odd e.word))) other ∙ and_false e.bus (not (is_odd e.word)) in
    record {
      allowed = inl free;
      entries = entries;
      sink = sink ∙ free_implies p e old free;
      row = row ∙ sym (row_with-by p x old.row None None false (free_none p.codes e.bus e.word free) moment whole ∙ unchanged p x old.row);
    }

pub steps_free : (p : Contents) (e : Entry) (old new : Blocks) → has_line p.codes e ≡ true → is_free p.codes e.bus e.word ≡ true
    → new.entries ≡ min (old.entries + 1) (2 ^ 64 - 1) → new.sink ≡ old.sink
    → new.row ≡ option_map (passed (moment_at (place_next old e)) (is_a e.bus && not (is_odd e.word))) old.row → StepsOn p e old new
steps_free p e old new labelled free entries sink row =
    let x = place_next old e in
    let moment : moment_in p.codes x ≡ Some (moment_at x) = ap (λ (t : Bool). cond t (Some (moment_at x)) None) labelled in
    let damaged : is_damaged p.codes e ≡ (is_a e.bus && not (is_odd e.word)) =
    ap (λ (t : Bool). is_a e.bus && (t && not (is_odd e.word))) labelled in
    record {
      allowed = inl free;
      entries = entries;
      sink = sink ∙ free_implies p e old free;
      row = row
          ∙ sym (row_with-by p x old.row None (Some (moment_at x)) (is_a e.bus && not (is_odd e.word))
          (free_none p.codes e.bus e.word free) moment damaged);
    }

pub steps_form : (p : Contents) (e : Entry) (f : Form) (old new : Blocks) → has_line p.codes e ≡ true → is_free p.codes e.bus e.word ≡ false
    → form_of p.codes e.bus e.word ≡ Some f → AllowsForm (observer_of old.sink) e.bus (Some f)
    → new.entries ≡ min (old.entries + 1) (2 ^ 64 - 1) → new.sink ≡ implies_form p e.bus e.word (Some f) old.sink
    → new.row ≡ row_after (moment_at (place_next old e)) (asked_by (Some f))
    (option_map (noted (moment_at (place_next old e)) f (does p e.bus e.word f old.sink.sink)) old.row)
    → StepsOn p e old new
steps_form p e f old new labelled kept form allows entries sink row =
    let x = place_next old e in
    let moment : moment_in p.codes x ≡ Some (moment_at x) = ap (λ (t : Bool). cond t (Some (moment_at x)) None) labelled in
    let odd = not_free_odd (is_odd e.word) _ kept in
    let whole : is_damaged p.codes e ≡ false =
    ap (λ (t : Bool). is_a e.bus && (has_line p.codes e && not t)) odd ∙ and_false_after e.bus (has_line p.codes e) in
    record {
      allowed = inr (subst (AllowsForm (observer_of old.sink) e.bus) (sym form) allows);
      entries = entries;
      sink = sink ∙ ap (λ (o : Option Form). implies_form p e.bus e.word o old.sink) (sym form);
      row = row ∙ sym (row_with-by p x old.row (Some f) (Some (moment_at x)) false form moment whole);
    }

-- ---- which row ends

pub line_free : (p : Contents) (e : Entry) (row : Option AttemptRow)
    → is_free p.codes e.bus e.word ≡ true → [] ≡ line_before (asked_by (form_of p.codes e.bus e.word)) row
line_free p e row free = ap (λ (o : Option Form). line_before (asked_by o) row) (sym (free_none p.codes e.bus e.word free))

pub line_other : (p : Contents) (e : Entry) (row : Option AttemptRow)
    → has_line p.codes e ≡ false → [] ≡ line_before (asked_by (form_of p.codes e.bus e.word)) row
line_other p e row other = line_free p e row (other_free p e other)

pub line_form : (p : Contents) (e : Entry) (f : Form) (row : Option AttemptRow) → form_of p.codes e.bus e.word ≡ Some f
    → line_before (asked_by (Some f)) row ≡ line_before (asked_by (form_of p.codes e.bus e.word)) row
line_form p e f row form = ap (λ (o : Option Form). line_before (asked_by o) row) (sym form)

-- ---- the end

-- nothing was put
pub puts_nothing : {W : Type 0} (contents : W → Option (List ℕ)) (a b : Sheet W) (text : List ℕ) → b ≡ a → PutsOnTo contents a b text text
puts_nothing contents a b text same = record {
  more = [];
  is = sym (append-nil text);
  says = subst (λ (s : Sheet _). Says contents a s []) (sym same) (says_nothing contents a);
}

pub last_more : (p : Contents) (b : Blocks) (es : List Entry) → IsBlocks p b es → blocks_text p es ≡ begun_text p es ++ last_line b.row
last_more p b es h = ap (λ (r : Option AttemptRow). begun_text p es ++ last_line r) (sym h.row)

pub refused_more : (p : Contents) (b : Blocks) (es : List Entry) (e : Entry)
    → IsBlocks p b es → refused_text p es e ≡ begun_text p es ++ (last_line b.row ++ not_allowed_line b.entries e)
refused_more p b es e h =
    ap (λ (t : List ℕ). t ++ not_allowed_line (length es) e) (last_more p b es h)
    ∙ ap (λ (n : ℕ). (begun_text p es ++ last_line b.row) ++ not_allowed_line n e) (sym h.entries)
    ∙ append_assoc (begun_text p es) (last_line b.row) (not_allowed_line b.entries e)
