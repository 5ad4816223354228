-- Fields of a line: blanks at the ends of a text, words, and what `csv` reads in a text without quotes.
use Rattle.std.proofs.Common.{◌≡◌, ℕ, zero, suc, ◌+◌, ◌-◌, ◌<◌, ◌≤◌, ◌==◌, List, [], ◌∷◌, ◌++◌, length, get_or, take, drop, Some, None, Bool, true, false, ◌&&◌, ◌||◌, if◌then◌else◌, refl, sym, ap, ◌∙◌, arith, append_assoc, append-nil}
use Rattle.std.specs.List.{list_all, list_any}
use Rattle.std.proofs.lemmas.List.{take_more}
use Rattle.std.proofs.lemmas.List.Folds.{list_all-append}
use Rattle.std.proofs.Math.Bool.{and-false, and-true}
use Rattle.csv.specs.Machine.{next_record}
use Rattle.csv.specs.Records.{field_at}
use Rattle.csv.specs.declared.parser.State.{State}
use Rattle.csv.specs.declared.parser.State.TheVariants as st
use Rattle.a429_import.specs.Fields.{csv_config, csv_fields, fields_read, is_blank, is_mark, without_first, without_last, word_before, word_length, words}
use Rattle.a429_import.specs.Piece.{before_first, pieces}

-- ---- the ends of a text

-- a last byte that is not so stays, with all before it
last_stays : (is : ℕ → Bool) (xs : List ℕ) (b : ℕ) → is b ≡ false → without_last is (xs ++ b ∷ []) ≡ xs ++ b ∷ []
last_stays is [] b h = rw h refl
last_stays is (x ∷ xs) b h =
    let none : list_all is ((x ∷ xs) ++ b ∷ []) ≡ false = list_all-append is (x ∷ xs) (b ∷ []) ∙ rw h (and-false (list_all is (x ∷ xs))) in
    ap (λ a. if a then [] else x ∷ without_last is (xs ++ b ∷ [])) none ∙ ap (λ (l : List ℕ). x ∷ l) (last_stays is xs b h)

-- one that is so goes
last_goes : (is : ℕ → Bool) (xs : List ℕ) (b : ℕ) → is b ≡ true → without_last is (xs ++ b ∷ []) ≡ without_last is xs
last_goes is [] b h = rw h refl
last_goes is (x ∷ xs) b h =
    let same : list_all is ((x ∷ xs) ++ b ∷ []) ≡ list_all is (x ∷ xs) =
    list_all-append is (x ∷ xs) (b ∷ []) ∙ rw h (and-true (list_all is (x ∷ xs))) in
    ap (λ a. if a then [] else x ∷ without_last is (xs ++ b ∷ [])) same
    ∙ ap (λ (l : List ℕ). if list_all is (x ∷ xs) then [] else x ∷ l) (last_goes is xs b h)

-- the same of the bytes before a place
pub end_stays : (is : ℕ → Bool) (xs : List ℕ) (end : ℕ) → 0 < end → end ≤ length xs → is (get_or xs (end - 1) 0) ≡ false
    → without_last is (take end xs) ≡ take end xs
end_stays is xs end some inside h =
    let one : end - 1 + 1 ≡ end = omega arith in
    let cut : take end xs ≡ take (end - 1) xs ++ get_or xs (end - 1) 0 ∷ [] =
    ap (λ n. take n xs) (sym one) ∙ take_more xs (end - 1) 0 (omega arith) in
    rw cut (last_stays is (take (end - 1) xs) (get_or xs (end - 1) 0) h)

pub end_goes : (is : ℕ → Bool) (xs : List ℕ) (end : ℕ) → 0 < end → end ≤ length xs → is (get_or xs (end - 1) 0) ≡ true
    → without_last is (take end xs) ≡ without_last is (take (end - 1) xs)
end_goes is xs end some inside h =
    let one : end - 1 + 1 ≡ end = omega arith in
    let cut : take end xs ≡ take (end - 1) xs ++ get_or xs (end - 1) 0 ∷ [] =
    ap (λ n. take n xs) (sym one) ∙ take_more xs (end - 1) 0 (omega arith) in
    rw cut (last_goes is (take (end - 1) xs) (get_or xs (end - 1) 0) h)

-- ---- words

from_first : (x : ℕ) (xs : List ℕ) (b : Bool) → is_blank x ≡ b → words (without_first is_blank xs) ≡ words xs
    → words (if b then without_first is_blank xs else x ∷ xs) ≡ words (x ∷ xs)
from_first x xs true e more = more ∙ sym (ap (λ c. if c then words xs else word_before x xs (words xs)) e)
from_first x xs false e more = refl

words-from : (xs : List ℕ) → words (without_first is_blank xs) ≡ words xs
words-from [] = refl
words-from (x ∷ xs) = from_first x xs (is_blank x) refl (words-from xs)

-- a text that begins with no blank begins with a word
abbrev pub BeginsWithWord : List ℕ → Type 0
BeginsWithWord xs = words xs ≡ take (word_length xs) xs ∷ words (drop (word_length xs) xs)

by_second : (x c : ℕ) (cs : List ℕ) (b : Bool)
    → is_blank x ≡ false → is_blank c ≡ b → (is_blank c ≡ false → BeginsWithWord (c ∷ cs)) → BeginsWithWord (x ∷ c ∷ cs)
by_second x c cs b e f more =
    let all = x ∷ c ∷ cs in
    let first : words all ≡ word_before x (c ∷ cs) (words (c ∷ cs)) =
    ap (λ d. if d then words (c ∷ cs) else word_before x (c ∷ cs) (words (c ∷ cs))) e in
    let long : word_length all ≡ suc (word_length (c ∷ cs)) = ap (λ d. if d then 0 else suc (word_length (c ∷ cs))) e in
    first ∙ goes_on x c cs b f more ∙ sym (ap (λ n. take n all ∷ words (drop n all)) long)
  where
    goes_on : (x c : ℕ) (cs : List ℕ) (b : Bool) → is_blank c ≡ b → (is_blank c ≡ false → BeginsWithWord (c ∷ cs))
        → word_before x (c ∷ cs) (words (c ∷ cs)) ≡ (x ∷ take (word_length (c ∷ cs)) (c ∷ cs))
        ∷ words (drop (word_length (c ∷ cs)) (c ∷ cs))
    goes_on x c cs true f more =
        let none : word_length (c ∷ cs) ≡ 0 = ap (λ d. if d then 0 else suc (word_length cs)) f in
        ap (λ d. if d then (x ∷ []) ∷ words (c ∷ cs) else before_first x (words (c ∷ cs))) f
        ∙ sym (ap (λ n. (x ∷ take n (c ∷ cs)) ∷ words (drop n (c ∷ cs))) none)
    goes_on x c cs false f more =
        ap (λ d. if d then (x ∷ []) ∷ words (c ∷ cs) else before_first x (words (c ∷ cs))) f ∙ ap (before_first x) (more f)

words-first : (x : ℕ) (xs : List ℕ) → is_blank x ≡ false → BeginsWithWord (x ∷ xs)
words-first x [] e = rw e refl
words-first x (c ∷ cs) e = by_second x c cs (is_blank c) e refl (words-first c cs)

-- a first byte is no blank, where all before it were taken away
none_by : (x : ℕ) (xs : List ℕ) (y : ℕ) (ys : List ℕ) (b : Bool)
    → is_blank x ≡ b → (without_first is_blank xs ≡ y ∷ ys → is_blank y ≡ false)
    → (if b then without_first is_blank xs else x ∷ xs) ≡ y ∷ ys → is_blank y ≡ false
none_by x xs y ys true f more h = more h
none_by x xs y ys false f more h = let same : x ≡ y = cc h in ap is_blank (sym same) ∙ f

first_is_none : (xs : List ℕ) (y : ℕ) (ys : List ℕ) → without_first is_blank xs ≡ y ∷ ys → is_blank y ≡ false
first_is_none [] y ys e = absurd (cc e)
first_is_none (x ∷ xs) y ys e = none_by x xs y ys (is_blank x) refl (first_is_none xs y ys) e

-- the first word of a text, after the blanks before it
pub word_here : (text rest : List ℕ) → rest ≡ without_first is_blank text → 0 < length rest
    → words text ≡ take (word_length rest) rest ∷ words (drop (word_length rest) rest)
word_here text [] e some = absurd (omega arith)
word_here text (y ∷ ys) e some = sym (words-from text) ∙ ap words (sym e) ∙ words-first y ys (first_is_none text y ys (sym e))

pub no_word : (text rest : List ℕ) → rest ≡ without_first is_blank text → length rest ≡ 0 → words text ≡ []
no_word text [] e none = sym (words-from text) ∙ ap words (sym e)
no_word text (y ∷ ys) e none = absurd (omega arith)

-- ---- what `csv` reads in a text without quotes and line feeds

-- a byte that is neither
abbrev pub IsPlainByte : Bool → ℕ → Type 0
IsPlainByte quotes c = ((quotes && (c == 34)) ≡ false) × ((c == 10) ≡ false)

abbrev pub IsPlain : Bool → List ℕ → Type 0
IsPlain quotes [] = Unit {0}
IsPlain quotes (c ∷ cs) = IsPlainByte quotes c × IsPlain quotes cs

-- bytes before the first of some pieces
abbrev pub bytes_before : List ℕ → List (List ℕ) → List (List ℕ)
bytes_before p [] = p ∷ []
bytes_before p (q ∷ qs) = (p ++ q) ∷ qs

pub bytes_before-one : (p : List ℕ) (c : ℕ) (qs : List (List ℕ)) → bytes_before p (before_first c qs) ≡ bytes_before (p ++ c ∷ []) qs
bytes_before-one p c [] = refl
bytes_before-one p c (q ∷ qs) = ap (λ (l : List ℕ). l ∷ qs) (sym (append_assoc p (c ∷ []) q))

bytes_before-none : (c : ℕ) (qs : List (List ℕ)) → bytes_before [] (before_first c qs) ≡ before_first c qs
bytes_before-none c [] = refl
bytes_before-none c (q ∷ qs) = refl

some_by : (c : ℕ) (ps : List (List ℕ)) (e : Bool)
    → bytes_before [] (if e then [] ∷ ps else before_first c ps) ≡ (if e then [] ∷ ps else before_first c ps)
some_by c ps true = refl
some_by c ps false = bytes_before-none c ps

pub some_pieces : (b : ℕ) (text : List ℕ) → bytes_before [] (pieces b text) ≡ pieces b text
some_pieces b [] = refl
some_pieces b (c ∷ cs) = some_by c (pieces b cs) (c == b)

-- at the start of a field, or inside one
abbrev pub state_in : Bool → State
state_in true = st.StartField
state_in false = st.InField

abbrev pub ReadsPieces : ℕ → Bool → Bool → List (List ℕ) → List ℕ → List ℕ → Type 0
ReadsPieces b quotes starts fields p text =
    next_record (csv_config b quotes) (state_in starts) fields p text ≡ Some (fields ++ bytes_before p (pieces b text), st.StartRecord, [])

ended : (b : ℕ) (fields : List (List ℕ)) (p cs : List ℕ) → (fields ++ p ∷ []) ++ bytes_before [] (pieces b cs) ≡ fields ++ p ∷ pieces b cs
ended b fields p cs = ap (λ (ps : List (List ℕ)). (fields ++ p ∷ []) ++ ps) (some_pieces b cs) ∙ append_assoc fields (p ∷ []) (pieces b cs)

on_byte : (b : ℕ) (quotes starts : Bool) (fields : List (List ℕ)) (p : List ℕ) (c : ℕ) (cs : List ℕ) (e : Bool)
    → (c == b) ≡ e → IsPlainByte quotes c
    → ((starts : Bool) (fields : List (List ℕ)) (p : List ℕ) → ReadsPieces b quotes starts fields p cs)
    → ReadsPieces b quotes starts fields p (c ∷ cs)
unfolding next_record
on_byte b quotes true fields p c cs true e plain more =
    rw (plain.0, e, append-nil p)
    (more true (fields ++ p ∷ []) [] ∙ ap (λ (l : List (List ℕ)). Some (l, st.StartRecord, [])) (ended b fields p cs))
on_byte b quotes true fields p c cs false e plain more =
    rw (plain.0, e, plain.1, bytes_before-one p c (pieces b cs)) (more false fields (p ++ c ∷ []))
on_byte b quotes false fields p c cs true e plain more =
    rw (e, append-nil p) (more true (fields ++ p ∷ []) [] ∙ ap (λ (l : List (List ℕ)). Some (l, st.StartRecord, [])) (ended b fields p cs))
on_byte b quotes false fields p c cs false e plain more =
    rw (e, plain.1, bytes_before-one p c (pieces b cs)) (more false fields (p ++ c ∷ []))

at_last : (b : ℕ) (quotes starts : Bool) (fields : List (List ℕ)) (p : List ℕ) → ReadsPieces b quotes starts fields p []
unfolding next_record
at_last b quotes true fields p = rw (append-nil p) refl
at_last b quotes false fields p = rw (append-nil p) refl

reads_pieces : (b : ℕ) (quotes starts : Bool) (fields : List (List ℕ)) (p text : List ℕ)
    → IsPlain quotes text → ReadsPieces b quotes starts fields p text
reads_pieces b quotes starts fields p [] h = at_last b quotes starts fields p
reads_pieces b quotes starts fields p (c ∷ cs) h =
    on_byte b quotes starts fields p c cs (c == b) refl h.0 (λ starts fields p. reads_pieces b quotes starts fields p cs h.1)

from_record : (b : ℕ) (quotes : Bool) (c : ℕ) (cs : List ℕ) → (c == 10) ≡ false
    → next_record (csv_config b quotes) st.StartRecord [] [] (c ∷ cs) ≡ next_record (csv_config b quotes) st.StartField [] [] (c ∷ cs)
unfolding next_record
from_record b quotes c cs h = rw h refl

plain_fields : (b : ℕ) (quotes : Bool) (c : ℕ) (cs : List ℕ) → IsPlain quotes (c ∷ cs) → csv_fields b quotes (c ∷ cs) ≡ pieces b (c ∷ cs)
plain_fields b quotes c cs h =
    ap fields_read (from_record b quotes c cs h.0.1 ∙ reads_pieces b quotes true [] [] (c ∷ cs) h) ∙ some_pieces b (c ∷ cs)

-- a test of all bytes says so
neither : (a b r : Bool) → ((a || b) || r) ≡ false → (b ≡ false) × (a ≡ false) × (r ≡ false)
neither true b r e = absurd (cc e)
neither false true r e = absurd (cc e)
neither false false r e = (refl, refl, e)

plain-is : (quotes : Bool) (text : List ℕ) → list_any (is_mark quotes) text ≡ false → IsPlain quotes text
plain-is quotes [] h = tt
plain-is quotes (c ∷ cs) h =
    let parts = neither (c == 10) (quotes && (c == 34)) (list_any (is_mark quotes) cs) h in
    ((parts.0, parts.1), plain-is quotes cs parts.2)

-- a text that has something but blanks
pub cut_is : (b : ℕ) (quotes : Bool) (text : List ℕ)
    → list_all is_blank text ≡ false → list_any (is_mark quotes) text ≡ false → csv_fields b quotes text ≡ pieces b text
cut_is b quotes [] some h = absurd (cc some)
cut_is b quotes (c ∷ cs) some h = plain_fields b quotes c cs (plain-is quotes (c ∷ cs) h)

-- ---- a field of a record

pub no_field : (fields : List (List ℕ)) (i : ℕ) → None ≡ field_at fields i → drop i fields ≡ []
unfolding field_at
no_field [] zero e = refl
no_field [] (suc i) e = refl
no_field (f ∷ fields) zero e = absurd (cc e)
no_field (f ∷ fields) (suc i) e = no_field fields i e

pub field_here : (fields : List (List ℕ)) (i : ℕ) (f : List ℕ) → Some f ≡ field_at fields i → drop i fields ≡ f ∷ drop (i + 1) fields
unfolding field_at
field_here [] i f e = absurd (cc e)
field_here (g ∷ fields) zero f e = let same : g ≡ f = cc e in ap (λ (h : List ℕ). h ∷ fields) same
field_here (g ∷ fields) (suc i) f e = let one : suc i + 1 ≡ suc (i + 1) = omega arith in rw one (field_here fields i f e)

-- ---- there are few fields

before_first-long : (c : ℕ) (ps : List (List ℕ)) → length (before_first c ps) ≤ length ps + 1
before_first-long c [] = omega arith
before_first-long c (p ∷ ps) = omega arith

cut-few : (c : ℕ) (cs : List ℕ) (ps : List (List ℕ)) (e : Bool)
    → length ps ≤ length cs + 1 → length (if e then [] ∷ ps else before_first c ps) ≤ length (c ∷ cs) + 1
cut-few c cs ps true h = omega (arith, h)
cut-few c cs ps false h = let k = before_first-long c ps in omega (arith, h, k)

pub pieces-few : (b : ℕ) (text : List ℕ) → length (pieces b text) ≤ length text + 1
pieces-few b [] = omega arith
pieces-few b (c ∷ cs) = cut-few c cs (pieces b cs) (c == b) (pieces-few b cs)

word-few : (x : ℕ) (xs : List ℕ) (ws : List (List ℕ)) → length ws ≤ length xs → length (word_before x xs ws) ≤ length (x ∷ xs)
word-few x [] ws h = omega (arith, h)
word-few x (c ∷ cs) ws h = by_blank (is_blank c)
  where
    by_blank : (e : Bool) → length (if e then (x ∷ []) ∷ ws else before_first x ws) ≤ length (x ∷ c ∷ cs)
    by_blank true = omega (arith, h)
    by_blank false = let k = before_first-long x ws in omega (arith, h, k)

one-few : (x : ℕ) (xs : List ℕ) (ws : List (List ℕ)) (e : Bool)
    → length ws ≤ length xs → length (if e then ws else word_before x xs ws) ≤ length (x ∷ xs)
one-few x xs ws true h = omega (arith, h)
one-few x xs ws false h = word-few x xs ws h

pub words-few : (text : List ℕ) → length (words text) ≤ length text
words-few [] = omega arith
words-few (x ∷ xs) = one-few x xs (words xs) (is_blank x) (words-few xs)
