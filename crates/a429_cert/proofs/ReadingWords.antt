-- Words, read one after the other.
use Rattle.std.proofs.Common.{◌≡◌, ◌∙◌, ◌-◌, ◌+◌, ◌<◌, ◌≤◌, ℕ, suc, List, [], ◌∷◌, ◌++◌, length, true, false, ◌==◌, Option, Some, None, refl, sym, ap, arith, append_assoc}
use Rattle.std.specs.Option.{option_map}
use Rattle.std.proofs.lemmas.List.{append-nil}
use Rattle.a429_cert.specs.Reading.{words_at}
use Rattle.a429_cert.specs.Field.{hex_in, with_rest, when, ◌>>=◌}

-- the words that were read, and those that are still to come
abbrev pub with_front : List ℕ → Option (List ℕ) → Option (List ℕ)
with_front front read = option_map (λ words. front ++ words) read

regroup : (front : List ℕ) (word : ℕ) (read : Option (List ℕ))
    → with_front front (read >>= λ words. Some (word ∷ words)) ≡ with_front (front ++ word ∷ []) read
regroup front word (Some words) = ap Some (sym (append_assoc front (word ∷ []) words))
regroup front word None = refl

-- a word more
pub one_more_word : (front : List ℕ) (count i : ℕ) (text : List ℕ) (word : ℕ) (after : List ℕ) (total : Option (List ℕ))
    → i < count → with_rest (hex_in 8) text ≡ Some (word, after)
    → with_front front (words_at (count - i) text) ≡ total → with_front (front ++ word ∷ []) (words_at (count - (i + 1)) after) ≡ total
unfolding words_at
one_more_word front count i text word after total lt h so_far =
    let k : count - i ≡ suc (count - (i + 1)) = omega arith in
    let one : with_front front (words_at (count - i) text) ≡ with_front (front ++ word ∷ []) (words_at (count - (i + 1)) after) =
    rw (k, h) (regroup front word (words_at (count - (i + 1)) after)) in
    sym one ∙ so_far

-- no word
pub stops : (front : List ℕ) (count i : ℕ) (text : List ℕ) (total : Option (List ℕ)) → i < count → with_rest (hex_in 8) text ≡ None
    → with_front front (words_at (count - i) text) ≡ total → None ≡ total
unfolding words_at
stops front count i text total lt h so_far =
    let k : count - i ≡ suc (count - (i + 1)) = omega arith in
    let one : with_front front (words_at (count - i) text) ≡ None = rw (k, h) refl in
    sym one ∙ so_far

-- all words
pub is_done : (front : List ℕ) (count i : ℕ) (text : List ℕ) (total : Option (List ℕ))
    → count ≤ i → with_front front (words_at (count - i) text) ≡ total
    → with_front front (when (length text == 0) []) ≡ total
unfolding words_at
is_done front count i text total le so_far =
    let k : count - i ≡ 0 = omega arith in
    let one : with_front front (words_at (count - i) text) ≡ with_front front (when (length text == 0) []) = rw k refl in
    sym one ∙ so_far

pub ends_well : (front text : List ℕ) (total : Option (List ℕ))
    → (length text == 0) ≡ true → with_front front (when (length text == 0) []) ≡ total → Some front ≡ total
ends_well front text total e h = ap Some (sym (append-nil front)) ∙ rw e at h

pub goes_past : (front text : List ℕ) (total : Option (List ℕ))
    → (length text == 0) ≡ false → with_front front (when (length text == 0) []) ≡ total → None ≡ total
goes_past front text total e h = rw e at h
