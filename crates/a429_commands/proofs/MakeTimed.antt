-- Words as entries of a recording, one after the other.
use Rattle.std.proofs.Common.{◌≡◌, ℕ, suc, ◌+◌, ◌*◌, ◌<◌, List, [], ◌∷◌, ◌++◌, length, take, drop, take-append-drop, get_or, refl, sym, ap, ◌∙◌, arith, append-nil, append_assoc}
use Rattle.std.specs.List.{flat_map}
use Rattle.std.proofs.lemmas.Grind.{flat_map-append}
use Rattle.std.proofs.lemmas.List.{take_more, length-take-le}
use Rattle.a429_link.specs.declared.seen.Seen.{Seen}
use Rattle.a429_record.specs.declared.entry.Entry.{Entry}
use Rattle.a429_record.specs.Writing.{header_text, line_text, written_form}
use Rattle.a429_commands.specs.Make.{timed}

abbrev pub entry_at : ℕ → Seen → Entry
entry_at i s = record { time = 1000 * i; bus = s.bus; word = s.word }

timed-last : (k : ℕ) (xs : List Seen) (s : Seen) → timed k (xs ++ s ∷ []) ≡ timed k xs ++ entry_at (k + length xs) s ∷ []
timed-last k [] s = let at : k ≡ k + 0 = omega arith in ap (λ i. entry_at i s ∷ []) at
timed-last k (x ∷ xs) s =
    let at : k + 1 + length xs ≡ k + suc (length xs) = omega arith in
    ap (λ es. entry_at k x ∷ es) (timed-last (k + 1) xs s ∙ ap (λ i. timed (k + 1) xs ++ entry_at i s ∷ []) at)

-- a further word
timed-more : (k : ℕ) (xs : List Seen) (i : ℕ) (s : Seen)
    → i < length xs → s ≡ get_or xs i s → timed k (take (i + 1) xs) ≡ timed k (take i xs) ++ entry_at (k + i) s ∷ []
timed-more k xs i s h found =
    ap (timed k) (take_more xs i s h ∙ ap (λ x. take i xs ++ x ∷ []) (sym found))
    ∙ timed-last k (take i xs) s ∙ ap (λ n. timed k (take i xs) ++ entry_at (k + n) s ∷ []) (length-take-le i xs (omega arith))

-- and its line
pub lines-more : (k : ℕ) (xs : List Seen) (i : ℕ) (s : Seen) → i < length xs → s ≡ get_or xs i s
    → flat_map line_text (timed k (take (i + 1) xs)) ≡ flat_map line_text (timed k (take i xs)) ++ line_text (entry_at (k + i) s)
lines-more k xs i s h found =
    let before = timed k (take i xs) in
    ap (flat_map line_text) (timed-more k xs i s h found) ∙ flat_map-append line_text before (entry_at (k + i) s ∷ [])
    ∙ ap (λ t. flat_map line_text before ++ t) (append-nil (line_text (entry_at (k + i) s)))

-- further words
timed-append : (k : ℕ) (xs ys : List Seen) → timed k (xs ++ ys) ≡ timed k xs ++ timed (k + length xs) ys
timed-append k [] ys = let at : k ≡ k + 0 = omega arith in ap (λ i. timed i ys) at
timed-append k (x ∷ xs) ys =
    let at : k + 1 + length xs ≡ k + suc (length xs) = omega arith in
    ap (λ es. entry_at k x ∷ es) (timed-append (k + 1) xs ys ∙ ap (λ i. timed (k + 1) xs ++ timed i ys) at)

-- and their lines
pub lines-append : (xs ys : List Seen) (n : ℕ)
    → n ≡ length xs → flat_map line_text (timed 0 (xs ++ ys)) ≡ flat_map line_text (timed 0 xs) ++ flat_map line_text (timed n ys)
lines-append xs ys n e =
    ap (flat_map line_text) (timed-append 0 xs ys) ∙ flat_map-append line_text (timed 0 xs) (timed (0 + length xs) ys)
    ∙ ap (λ k. flat_map line_text (timed 0 xs) ++ flat_map line_text (timed k ys)) (omega (arith, e))

-- a recording of some words, and the lines of the rest
pub recording-rest : (words : List Seen) (n : ℕ)
    → written_form (timed 0 (take n words)) ++ flat_map line_text (timed (length (take n words)) (drop n words))
    ≡ written_form (timed 0 words)
recording-rest words n =
    let some = take n words in
    let others = drop n words in
    append_assoc header_text (flat_map line_text (timed 0 some)) (flat_map line_text (timed (length some) others))
    ∙ ap (λ t. header_text ++ t)
    (sym (lines-append some others (length some) refl) ∙ ap (λ ws. flat_map line_text (timed 0 ws)) (take-append-drop n words))
