-- Files and entries, one more at a time.
use Rattle.std.proofs.Common.{◌≡◌, ℕ, suc, ◌+◌, ◌*◌, ◌<◌, ◌≤◌, List, [], ◌∷◌, ◌++◌, length, take, drop, take-append-drop, map, get_or, sym, ap, ◌∙◌, arith, append_assoc, append-nil}
use Rattle.std.specs.List.{flat_map}
use Rattle.std.proofs.lemmas.Grind.{flat_map-append}
use Rattle.std.proofs.lemmas.List.{take_more, length-take-le, map-append}
use Rattle.a429_link.specs.declared.seen.Seen.{Seen}
use Rattle.a429_record.specs.declared.entry.Entry.{Entry}
use Rattle.a429_c.specs.Make.{timed}

abbrev pub entry_at : ℕ → Seen → Entry
entry_at i s = record { time = 1000 * i; bus = s.bus; word = s.word }

timed-last : (k : ℕ) (xs : List Seen) (s : Seen) → timed k (xs ++ s ∷ []) ≡ timed k xs ++ entry_at (k + length xs) s ∷ []
timed-last k [] s = let at : k ≡ k + 0 = omega arith in ap (λ i. entry_at i s ∷ []) at
timed-last k (x ∷ xs) s =
    let at : k + 1 + length xs ≡ k + suc (length xs) = omega arith in
    ap (λ es. entry_at k x ∷ es) (timed-last (k + 1) xs s ∙ ap (λ i. timed (k + 1) xs ++ entry_at i s ∷ []) at)

-- a further word
pub timed-more : (xs : List Seen) (i : ℕ) (s : Seen)
    → i < length xs → s ≡ get_or xs i s → timed 0 (take (i + 1) xs) ≡ timed 0 (take i xs) ++ entry_at i s ∷ []
timed-more xs i s h found =
    let long = length-take-le i xs (omega arith) in
    let place : 0 + length (take i xs) ≡ i = omega (arith, long) in
    ap (timed 0) (take_more xs i s h ∙ ap (λ x. take i xs ++ x ∷ []) (sym found))
    ∙ timed-last 0 (take i xs) s ∙ ap (λ n. timed 0 (take i xs) ++ entry_at n s ∷ []) place

-- a further file, cut from the bytes that are left
pub joined-more : (files : List (List ℕ)) (rest bytes : List ℕ) (n : ℕ)
    → flat_map (λ f. f) files ++ rest ≡ bytes → flat_map (λ f. f) (files ++ take n rest ∷ []) ++ drop n rest ≡ bytes
joined-more files rest bytes n so_far =
    ap (λ t. t ++ drop n rest)
    (flat_map-append (λ f. f) files (take n rest ∷ []) ∙ ap (λ t. flat_map (λ f. f) files ++ t) (append-nil (take n rest)))
    ∙ append_assoc (flat_map (λ f. f) files) (take n rest) (drop n rest)
    ∙ ap (λ t. flat_map (λ f. f) files ++ t) (take-append-drop n rest)
    ∙ so_far

-- and its length
pub lengths-more : (files : List (List ℕ)) (file : List ℕ) (lengths : List ℕ) (i n d : ℕ) → i < length lengths → n ≡ get_or lengths i d
    → length file ≡ n → map length files ≡ take i lengths → map length (files ++ file ∷ []) ≡ take (i + 1) lengths
lengths-more files file lengths i n d h found long so_far =
    map-append length files (file ∷ [])
    ∙ ap (λ ns. ns ++ length file ∷ []) so_far
    ∙ ap (λ m. take i lengths ++ m ∷ []) (long ∙ found)
    ∙ sym (take_more lengths i d h)

-- what holds of the files that were cut, with one file more
pub record CutMore (files : List (List ℕ)) (rest bytes lengths : List ℕ) (i : ℕ) : Type 0 where
  pub joined : flat_map (λ f. f) files ++ rest ≡ bytes
  pub long : map length files ≡ take i lengths

pub cut-more : (files more : List (List ℕ)) (rest left bytes lengths : List ℕ) (i n d : ℕ)
    → i < length lengths → n ≡ get_or lengths i d → n ≤ length rest → more ≡ files ++ take n rest ∷ [] → left ≡ drop n rest
    → flat_map (λ f. f) files ++ rest ≡ bytes → map length files ≡ take i lengths → CutMore more left bytes lengths (i + 1)
cut-more files more rest left bytes lengths i n d h found room file after joined long =
    rw (file, after) (record {
      joined = joined-more files rest bytes n joined;
      long = lengths-more files (take n rest) lengths i n d h found (length-take-le n rest room) long;
    })
