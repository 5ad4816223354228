-- Parity and label of the words in a vector.
use Rattle.std.proofs.Common.{◌≡◌, ℕ, zero, suc, ◌+◌, ◌/◌, ◌%◌, ◌^◌, ◌<◌, ◌≤◌, refl, sym, ap, ◌∙◌, arith, bit_and, bit_xor, cond, Bool, true, false, eqb, List, [], ◌∷◌, length, map, replicate, w32, w8, Fits, take, take-add}
use Rattle.std.specs.Int.{bit_at, reverse_bits_onto}
use lib.Lanes.{zip2, sel_l, top, Each1, chunk, put_chunk}
use Rattle.std.proofs.lemmas.Nat.{shr-shr, and_mask, and_le_r}
use Rattle.std.proofs.lemmas.Nat.Bits.{bit_at_xor}
use Rattle.std.proofs.lemmas.Simd.{zip2_splat, zip2_of_maps, splat_is_map, tops_compared, map-map, take_more_put_chunk, length-chunk}
use Rattle.std.proofs.lemmas.List.{map-append}
use Rattle.std.proofs.lemmas.Bool.Decides.{nat_tests}
use Rattle.a429_word.specs.Word.{sum_below, bit, count_of_ones, label_of}
use Rattle.a429_word.specs.Screening.{screened}
use Rattle.a429_word.proofs.WordBits.{sum_below-same, label-masked, reversed_twice}

-- 1 where an odd number of the bits is 1, else 0
abbrev parity : ℕ → ℕ
parity w = count_of_ones w % 2

-- ---- a number that is folded keeps its parity

-- the upper bits folded onto the lower ones
abbrev folded : ℕ → ℕ → ℕ
folded by n = bit_xor n (n / 2 ^ by)

sum_below-add : (a b : ℕ) (f : ℕ → ℕ) → sum_below (a + b) f ≡ sum_below a f + sum_below b (λ j. f (a + j))
unfolding sum_below
sum_below-add a zero f = let e : a + 0 ≡ a = omega arith in rw e (omega arith)
sum_below-add a (suc b) f =
    let e : a + suc b ≡ suc (a + b) = omega arith in
    let low = sum_below-add a b f in
    rw e (omega arith)

sum_below-odd : (k : ℕ) (f g : ℕ → ℕ) → sum_below k (λ j. (f j + g j) % 2) % 2 ≡ (sum_below k f + sum_below k g) % 2
unfolding sum_below
sum_below-odd zero f g = refl
sum_below-odd (suc k) f g = let low = sum_below-odd k f g in omega arith

folded-odd : (k n : ℕ) → sum_below k (bit_at (folded k n)) % 2 ≡ sum_below (k + k) (bit_at n) % 2
folded-odd k n =
    let terms =
    sum_below-same k (bit_at (folded k n)) (λ j. (bit_at n j + bit_at n (k + j)) % 2)
    (λ j h. bit_at_xor n (n / 2 ^ k) j ∙ rw (shr-shr n k j) refl) in
    ap (λ s. s % 2) terms ∙ sum_below-odd k (bit_at n) (λ j. bit_at n (k + j)) ∙ ap (λ s. s % 2) (sym (sum_below-add k k (bit_at n)))

folded_to_a_bit : ℕ → ℕ
folded_to_a_bit n = folded 1 (folded 2 (folded 4 (folded 8 (folded 16 n))))

parity-is : (n : ℕ) → bit_and (folded_to_a_bit n) 1 ≡ parity n
unfolding sum_below folded_to_a_bit
parity-is n =
    let a = folded 16 n in
    let b = folded 8 a in
    let c = folded 4 b in
    let d = folded 2 c in
    let e = folded 1 d in
    let whole : sum_below 32 (bit_at n) % 2 ≡ parity n =
    ap (λ s. s % 2) (sum_below-same 32 (bit_at n) (λ j. bit n (j + 1)) (λ j h. ap (bit_at n) (omega arith))) in
    let one : sum_below 1 (bit_at e) % 2 ≡ e % 2 = omega arith in
    and_mask e 1 ∙ sym one ∙ folded-odd 1 d ∙ folded-odd 2 c ∙ folded-odd 4 b ∙ folded-odd 8 a ∙ folded-odd 16 n ∙ whole

-- ---- lanes, one by one

map-self : (xs : List ℕ) → xs ≡ map (λ x. x) xs
map-self [] = refl
map-self (x ∷ xs) = let e = map-self xs in cc

map-same : {B : Type 0} (f g : ℕ → B) → ((x : ℕ) → f x ≡ g x) → (xs : List ℕ) → map f xs ≡ map g xs
map-same f g e [] = refl
map-same f g e (x ∷ xs) = let h = e x in let t = map-same f g e xs in cc

length-map : {B : Type 0} (f : ℕ → B) (xs : List ℕ) → length (map f xs) ≡ length xs
length-map f [] = refl
length-map f (x ∷ xs) = ap suc (length-map f xs)

select-map : (p : ℕ → Bool) (f g : ℕ → ℕ) (xs : List ℕ) → sel_l (map p xs) (map f xs) (map g xs) ≡ map (λ x. cond (p x) (f x) (g x)) xs
select-map p f g [] = refl
select-map p f g (x ∷ xs) = let t = select-map p f g xs in cc

pub folded-lanes : (xs : List ℕ) (by : ℕ)
    → length xs ≡ 8 → zip2 bit_xor xs (zip2 (λ a b. a / 2 ^ b) xs (replicate 8 by)) ≡ map (folded by) xs
folded-lanes xs by h = zip2_of_maps bit_xor (λ x. x) (λ x. x / 2 ^ by) xs (map-self xs) (zip2_splat (λ a b. a / 2 ^ b) xs 8 by h)

pub parity-lanes : (xs a b c d e : List ℕ)
    → length xs ≡ 8 → a ≡ map (folded 16) xs → b ≡ map (folded 8) a → c ≡ map (folded 4) b → d ≡ map (folded 2) c → e ≡ map (folded 1) d
    → zip2 bit_and e (replicate 8 1) ≡ map parity xs
unfolding folded_to_a_bit
parity-lanes xs a b c d e h ea eb ec ed ee =
    let all : e ≡ map folded_to_a_bit xs = rw (ee, ed, ec, eb, ea) (simp map-map) in
    rw all (zip2_splat bit_and (map folded_to_a_bit xs) 8 1 (length-map folded_to_a_bit xs ∙ h)
    ∙ map-map (λ x. bit_and x 1) folded_to_a_bit xs ∙ map-same _ parity parity-is xs)

-- a vector compared with one number
compared : (xs : List ℕ) (f : ℕ → ℕ) (r : ℕ) → length xs ≡ 8
    → map (top 31) (zip2 (λ a b. cond (eqb a b) 4294967295 0) (map f xs) (replicate 8 r)) ≡ map (λ x. eqb (f x) r) xs
compared xs f r h =
    tops_compared w32 eqb (map f xs) (replicate 8 r) ∙ zip2_splat eqb (map f xs) 8 r (length-map f xs ∙ h) ∙ map-map (λ y. eqb y r) f xs

-- ---- the answers

same_tests : (a b c d : ℕ) → (a ≡ b → c ≡ d) → (c ≡ d → a ≡ b) → eqb a b ≡ eqb c d
same_tests a b c d f g = grind (arith, nat_tests)

-- the lowest byte is a label's, reversed, exactly where the word has this label
label_test : (w label : ℕ) → label < 256 → eqb (bit_and w 255) (reverse_bits_onto 8 label 0) ≡ eqb (label_of w) label
label_test w label h =
    let x = bit_and w 255 in
    let small : x < 256 = omega (arith, and_le_r w 255) in
    same_tests x (reverse_bits_onto 8 label 0) (label_of w) label
    (λ e. sym (label-masked w) ∙ ap (λ n. reverse_bits_onto 8 n 0) e ∙ reversed_twice label h)
    (λ e. sym (reversed_twice x small) ∙ ap (λ n. reverse_bits_onto 8 n 0) (label-masked w ∙ e))

select-same : {ms ns : List Bool} {a b c d : List ℕ} → ms ≡ ns → a ≡ c → b ≡ d → sel_l ms a b ≡ sel_l ns c d
select-same e f g = cc

pub answer-lanes : (xs ps : List ℕ) (r label : ℕ) → length xs ≡ 8 → label < 256 → r ≡ reverse_bits_onto 8 label 0 → ps ≡ map parity xs
    → sel_l (map (top 31) (zip2 (λ a b. cond (eqb a b) 4294967295 0) ps (replicate 8 1)))
    (sel_l (map (top 31) (zip2 (λ a b. cond (eqb a b) 4294967295 0) (zip2 bit_and xs (replicate 8 255)) (replicate 8 r))) (replicate 8 1)
    (replicate 8 2))
    (replicate 8 0)
    ≡ map (screened label) xs
answer-lanes xs ps r label h small er ep =
    let odd : map (top 31) (zip2 (λ a b. cond (eqb a b) 4294967295 0) ps (replicate 8 1)) ≡ map (λ x. eqb (parity x) 1) xs =
    rw ep (compared xs parity 1 h) in
    let labels : zip2 bit_and xs (replicate 8 255) ≡ map (λ x. bit_and x 255) xs = zip2_splat bit_and xs 8 255 h in
    let same : map (top 31) (zip2 (λ a b. cond (eqb a b) 4294967295 0) (zip2 bit_and xs (replicate 8 255)) (replicate 8 r)) ≡ map (λ x.
    eqb (bit_and x 255) r) xs =
    rw labels (compared xs (λ x. bit_and x 255) r h) in
    select-same odd
    (select-same same (splat_is_map xs 8 1 h) (splat_is_map xs 8 2 h) ∙ select-map (λ x. eqb (bit_and x 255) r) (λ _. 1) (λ _. 2) xs)
    (splat_is_map xs 8 0 h)
    ∙ select-map (λ x. eqb (parity x) 1) (λ x. cond (eqb (bit_and x 255) r) 1 2) (λ _. 0) xs
    ∙ map-same (λ x. cond (eqb (parity x) 1) (cond (eqb (bit_and x 255) r) 1 2) 0) (screened label)
    (λ x. ap (λ t. cond (eqb (parity x) 1) (cond t 1 2) 0) (ap (eqb (bit_and x 255)) er ∙ label_test x label small)) xs

screened-lt : (w label : ℕ) → screened label w < 256
screened-lt w label = choices (eqb (parity w) 1) (eqb (label_of w) label)
  where
    choices : (b c : Bool) → cond b (cond c 1 2) 0 < 256
    choices true true = omega arith
    choices true false = omega arith
    choices false c = omega arith

-- the answers fit in bytes
pub answers_fit : (xs : List ℕ) (label : ℕ) → Each1 (Fits w8) (map (screened label) xs)
answers_fit [] label = tt
answers_fit (x ∷ xs) label = (record { fits = screened-lt x label }, answers_fit xs label)

-- one vector more
pub stored-lanes : (label at : ℕ) (words out block : List ℕ) → at + 8 ≤ length words → length out ≡ length words
    → take at out ≡ map (screened label) (take at words) → block ≡ map (screened label) (chunk at 8 words)
    → take (at + 8) (put_chunk at out block) ≡ map (screened label) (take (at + 8) words)
stored-lanes label at words out block room same front is =
    let f = screened label in
    let full : length block ≡ 8 = ap length is ∙ length-map f (chunk at 8 words) ∙ length-chunk at 8 words room in
    take_more_put_chunk at out block (at + 8) (omega arith) (omega arith)
    ∙ rw (front, is) (sym (ap (map f) (take-add at 8 words) ∙ map-append f (take at words) (chunk at 8 words)))
