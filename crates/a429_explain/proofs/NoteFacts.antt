-- What notes say, one line after the other.
use Rattle.std.proofs.Common.{◌≡◌, ◌<◌, ℕ, zero, suc, ◌+◌, ◌-◌, List, [], ◌∷◌, ◌++◌, sym, ap, refl, ◌∙◌, arith, append_assoc, append-nil, length, get_or}
use Rattle.std.specs.Prelude.{codes}
use Rattle.std.specs.List.{flat_map}
use Rattle.std.proofs.lemmas.Grind.{flat_map-append}
use Rattle.a429_word.specs.Digits.{numeral, hex_text}
use Rattle.a429_cert.specs.Field.{field}
use Rattle.a429_cert.specs.declared.line.CertLine.TheVariants.{Load, Moved}
use Rattle.a429_cert.specs.declared.line.MovedLine.{MovedLine}
use Rattle.a429_ldu.specs.Ldu.{LduValue}
use Rattle.a429_explain.specs.declared.note.Note.{Note}
use Rattle.a429_explain.specs.declared.note.Note.TheVariants as note
use Rattle.a429_explain.specs.Next.{next_line}
use Rattle.a429_explain.specs.declared.note.ShortWord.{ShortWord}
use Rattle.a429_explain.specs.Note.{number_in, line_after, line_of, word_fields, same_fields, likely_lines, last_line, load_head, note_text}

-- ---- notes

-- the last note with more
pub note_grows : (front now more : List ℕ) (last new : Note)
    → front ++ note_text last ≡ now → note_text new ≡ note_text last ++ more → front ++ note_text new ≡ now ++ more
note_grows front now more last new is grows =
    ap (λ (t : List ℕ). front ++ t) grows ∙ sym (append_assoc front (note_text last) more) ∙ ap (λ (t : List ℕ). t ++ more) is

-- one note more
pub notes_more : (notes : List Note) (last more : Note)
    → flat_map note_text (notes ++ last ∷ []) ++ note_text more ≡ (flat_map note_text notes ++ note_text last) ++ note_text more
notes_more notes last more =
    ap (λ (t : List ℕ). t ++ note_text more)
    (flat_map-append note_text notes (last ∷ []) ∙ ap (λ (t : List ℕ). flat_map note_text notes ++ t) (append-nil (note_text last)))

-- the note at a place, whatever would be there past the last
pub item_is : (notes : List Note) (i : ℕ) (other : Note) → i < length notes → get_or notes i other ≡ get_or notes i (get_or notes i other)
item_is [] i other h = absurd (omega arith)
item_is (note ∷ notes) zero other h = refl
item_is (note ∷ notes) (suc i) other h = item_is notes i other (omega (arith, h))

-- ---- steps

-- one likely line more
likely_suc : (m : MovedLine) (n : ℕ) → likely_lines m (suc n) ≡ likely_lines m n ++ line_after (Moved (next_line (last_line m n)))
likely_suc m zero = append-nil (line_after (Moved (next_line m)))
likely_suc m (suc n) =
    ap (λ (t : List ℕ). line_after (Moved (next_line m)) ++ t) (likely_suc (next_line m) n)
    ∙ sym (append_assoc (line_after (Moved (next_line m))) (likely_lines (next_line m) n)
    (line_after (Moved (next_line (last_line (next_line m) n)))))

last_suc : (m : MovedLine) (n : ℕ) → next_line (last_line m n) ≡ last_line m (suc n)
last_suc m zero = refl
last_suc m (suc n) = last_suc (next_line m) n

-- the last line then
pub last_more : (first last line : MovedLine) (n : ℕ) → last ≡ last_line first n → next_line last ≡ line → line ≡ last_line first (n + 1)
last_more first last line n is next =
    let one : n + 1 ≡ suc n = omega arith in
    rw one (sym next ∙ ap next_line is ∙ last_suc first n)

-- and the text
pub moves_more : (front : List ℕ) (first last line : MovedLine) (n : ℕ) → last ≡ last_line first n → next_line last ≡ line
    → front ++ note_text (note.Moves first (n + 1)) ≡ (front ++ note_text (note.Moves first n)) ++ line_after (Moved line)
moves_more front first last line n is next =
    let one : n + 1 ≡ suc n = omega arith in
    let head = line_after (Moved first) in
    let tail = likely_lines first n in
    let more : likely_lines first (suc n) ≡ tail ++ line_after (Moved line) =
    likely_suc first n ∙ ap (λ (m : MovedLine). tail ++ line_after (Moved m)) (ap next_line (sym is) ∙ next) in
    rw one (ap (λ (t : List ℕ). front ++ (head ++ t)) more
    ∙ ap (λ (t : List ℕ). front ++ t) (sym (append_assoc head tail (line_after (Moved line))))
    ∙ sym (append_assoc front (head ++ tail) (line_after (Moved line))))

-- ---- loops that put them

-- some fields, and the first of those that are left
pub same_first : (said all : List ℕ) (w n : ℕ)
    → 0 < n → said ++ same_fields w n ≡ all → (said ++ field (hex_text w)) ++ same_fields w (n - 1) ≡ all
same_first said all w zero some h = absurd (omega arith)
same_first said all w (suc n) some h =
    let one : suc n - 1 ≡ n = omega arith in
    rw one (append_assoc said (field (hex_text w)) (same_fields w n) ∙ h)

-- ---- link data units

-- the same word once more
same_suc : (w n : ℕ) → same_fields w (suc n) ≡ same_fields w n ++ field (hex_text w)
same_suc w zero = append-nil (field (hex_text w))
same_suc w (suc n) = ap (λ (t : List ℕ). field (hex_text w) ++ t) (same_suc w n)
    ∙ sym (append_assoc (field (hex_text w)) (same_fields w n) (field (hex_text w)))

pub words_more : (last w : ShortWord) (n : ℕ)
    → number_in last ≡ number_in w → note_text (note.Words w (n + 1)) ≡ same_fields (number_in last) n ++ field (hex_text (number_in w))
words_more last w n same =
    let one : n + 1 ≡ suc n = omega arith in
    rw (one, same) (same_suc (number_in w) n)

-- and another word after one
pub word_after : (w v : ShortWord) (n : ℕ)
    → n ≡ 1 → note_text (note.Pair w v) ≡ same_fields (number_in w) n ++ field (hex_text (number_in v))
word_after w v n one = rw one (ap (λ (t : List ℕ). t ++ field (hex_text (number_in v))) (sym (append-nil (field (hex_text (number_in w))))))

-- a word alone
pub one_word : (w : ShortWord) → note_text (note.Words w 1) ≡ field (hex_text (number_in w))
one_word w = append-nil (field (hex_text (number_in w)))

joined : (a b c d e : List ℕ) → (a ++ (b ++ (c ++ d))) ++ e ≡ a ++ (b ++ (c ++ (d ++ e)))
joined a b c d e = append_assoc a (b ++ (c ++ d)) e
    ∙ ap (λ (t : List ℕ). a ++ t) (append_assoc b (c ++ d) e ∙ ap (λ (t : List ℕ). b ++ t) (append_assoc c d e))

-- the line of a link data unit, and its words
pub load_whole : (front : List ℕ) (u : LduValue)
    → (front ++ load_head u.gfi u.flags u.check) ++ word_fields u.words ≡ front ++ line_after (Load (line_of u))
unfolding numeral
load_whole front u =
    append_assoc front (load_head u.gfi u.flags u.check) (word_fields u.words)
    ∙ ap (λ (t : List ℕ). front ++ 10 ∷ t)
    (joined (codes "L") (field (numeral 16 1 u.gfi)) (field (numeral 16 1 u.flags)) (field (numeral 16 4 u.check)) (word_fields u.words))

-- its head, byte by byte
pub head_is : (gfi flags check : ℕ) (g f k : List ℕ) → g ≡ hex_text gfi → f ≡ hex_text flags → k ≡ hex_text check
    → 10 ∷ 76 ∷ 32 ∷ get_or g 7 0 ∷ 32 ∷ get_or f 7 0 ∷ 32 ∷ get_or k 4 0 ∷ get_or k 5 0 ∷ get_or k 6 0 ∷ get_or k 7 0 ∷ []
    ≡ load_head gfi flags check
unfolding numeral
head_is gfi flags check g f k of_gfi of_flags of_check = rw (of_gfi, of_flags, of_check) refl
