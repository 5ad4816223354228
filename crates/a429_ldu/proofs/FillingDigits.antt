-- Semi-octets of bytes, place by place, and five of them as a word keeps them.
use Rattle.std.proofs.Common.{◌≡◌, ℕ, zero, suc, ◌+◌, ◌-◌, ◌*◌, ◌/◌, ◌%◌, ◌<◌, ◌≤◌, min, List, [], ◌∷◌, ◌++◌, length, take, drop, get_or, map, refl, sym, ap, ◌∙◌, arith, append_assoc, append-nil, length-drop}
use Rattle.std.proofs.lemmas.List.{get_or_past, get_or-drop, drop-drop, drop_all}
use Rattle.a429_profile.specs.declared.codes.Codes.{Codes}
use Rattle.a429_ldu.specs.declared.forms.Form.TheVariants.{Part}
use Rattle.a429_ldu.specs.Semis.{semis_of_bytes, AreKept}
use Rattle.a429_ldu.specs.Form.{word_number}
use Rattle.a429_ldu.specs.Filling.{fives}
use Rattle.a429_ldu.proofs.CutPieces.{length-semis}

-- ---- a semi-octet at its place

even : (bs : List ℕ) (i : ℕ) → i < length bs → get_or (semis_of_bytes bs) (2 * i) 0 ≡ get_or bs i 0 % 16
even [] i h = absurd (omega arith)
even (b ∷ bs) zero h = refl
even (b ∷ bs) (suc i) h = let e : 2 * suc i ≡ suc (suc (2 * i)) = omega arith in rw e (even bs i (omega arith))

odd : (bs : List ℕ) (i : ℕ) → i < length bs → get_or (semis_of_bytes bs) (suc (2 * i)) 0 ≡ get_or bs i 0 / 16
odd [] i h = absurd (omega arith)
odd (b ∷ bs) zero h = refl
odd (b ∷ bs) (suc i) h = let e : 2 * suc i ≡ suc (suc (2 * i)) = omega arith in rw e (odd bs i (omega arith))

pub low_digit : (bs : List ℕ) (at b : ℕ)
    → at % 2 ≡ 0 → at / 2 < length bs → b ≡ get_or bs (at / 2) 0 → b % 16 ≡ get_or (semis_of_bytes bs) at 0
low_digit bs at b r h e =
    let whole : 2 * (at / 2) ≡ at = omega arith in
    ap (λ n. n % 16) e ∙ sym (even bs (at / 2) h) ∙ ap (λ n. get_or (semis_of_bytes bs) n 0) whole

pub high_digit : (bs : List ℕ) (at b : ℕ)
    → (at % 2 ≡ 0 → ⊥) → at / 2 < length bs → b ≡ get_or bs (at / 2) 0 → b / 16 ≡ get_or (semis_of_bytes bs) at 0
high_digit bs at b r h e =
    let whole : suc (2 * (at / 2)) ≡ at = omega arith in
    ap (λ n. n / 16) e ∙ sym (odd bs (at / 2) h) ∙ ap (λ n. get_or (semis_of_bytes bs) n 0) whole

pub no_digit : (bs : List ℕ) (at : ℕ) → length bs ≤ at / 2 → 0 ≡ get_or (semis_of_bytes bs) at 0
no_digit bs at h = let e = length-semis bs in sym (get_or_past (semis_of_bytes bs) at 0 (omega arith))

-- ---- five from a place on

pub record IsFive (xs ds : List ℕ) (n : ℕ) : Type 0 where
  pub kept : AreKept (record { digits = ds; count = n })
  pub front : take n ds ≡ take 5 xs

abbrev firsts : List ℕ → List ℕ
firsts xs = get_or xs 0 0 ∷ get_or xs 1 0 ∷ get_or xs 2 0 ∷ get_or xs 3 0 ∷ get_or xs 4 0 ∷ []

five : (xs : List ℕ) → 1 ≤ length xs → ((i : ℕ) → i < 5 → get_or xs i 0 < 16) → IsFive xs (firsts xs) (min 5 (length xs))
five [] some small = absurd (omega arith)
five (a ∷ []) some small =
    record { kept = record { semis = (omega arith, omega arith, (small 0 (omega arith), tt)); count = refl; zeros = refl }; front = refl }
five (a ∷ b ∷ []) some small = record {
  kept = record { semis = (omega arith, omega arith, (small 0 (omega arith), (small 1 (omega arith), tt))); count = refl; zeros = refl };
  front = refl;
}
five (a ∷ b ∷ c ∷ []) some small = record {
  kept = record {
    semis = (omega arith, omega arith, (small 0 (omega arith), (small 1 (omega arith), (small 2 (omega arith), tt))));
    count = refl;
    zeros = refl;
  };
  front = refl;
}
five (a ∷ b ∷ c ∷ d ∷ []) some small = record {
  kept = record {
    semis =
        (omega arith, omega arith, (small 0 (omega arith), (small 1 (omega arith), (small 2 (omega arith), (small 3 (omega arith), tt)))));
    count = refl;
    zeros = refl;
  };
  front = refl;
}
five (a ∷ b ∷ c ∷ d ∷ e ∷ rest) some small =
    let five_in : min 5 (length (a ∷ b ∷ c ∷ d ∷ e ∷ rest)) ≡ 5 = omega arith in
    rw five_in (record {
      kept = record {
        semis = (
          omega arith,
          omega arith,
          (small 0 (omega arith), (small 1 (omega arith), (small 2 (omega arith), (small 3 (omega arith), (small 4 (omega arith), tt))))),
        );
        count = refl;
        zeros = refl;
      };
      front = refl;
    })

below_five : (xs : List ℕ) (a b c d e : ℕ)
    → firsts xs ≡ a ∷ b ∷ c ∷ d ∷ e ∷ [] → a < 16 → b < 16 → c < 16 → d < 16 → e < 16 → (i : ℕ) → i < 5 → get_or xs i 0 < 16
below_five xs a b c d e eq ha hb hc hd he zero h = rw (ap (λ ys. get_or ys 0 0) eq) ha
below_five xs a b c d e eq ha hb hc hd he (suc zero) h = rw (ap (λ ys. get_or ys 1 0) eq) hb
below_five xs a b c d e eq ha hb hc hd he (suc (suc zero)) h = rw (ap (λ ys. get_or ys 2 0) eq) hc
below_five xs a b c d e eq ha hb hc hd he (suc (suc (suc zero))) h = rw (ap (λ ys. get_or ys 3 0) eq) hd
below_five xs a b c d e eq ha hb hc hd he (suc (suc (suc (suc zero)))) h = rw (ap (λ ys. get_or ys 4 0) eq) he
below_five xs a b c d e eq ha hb hc hd he (suc (suc (suc (suc (suc i))))) h = absurd (omega arith)

same_firsts : (a b c d e a' b' c' d' e' : ℕ)
    → a ≡ a' → b ≡ b' → c ≡ c' → d ≡ d' → e ≡ e' → a ∷ b ∷ c ∷ d ∷ e ∷ [] ≡ a' ∷ b' ∷ c' ∷ d' ∷ e' ∷ []
same_firsts a b c d e a' b' c' d' e' ea eb ec ed ee = cc

pub five_at : (bs : List ℕ) (at a b c d e n : ℕ)
    → at < 2 * length bs → a ≡ get_or (semis_of_bytes bs) at 0 → b ≡ get_or (semis_of_bytes bs) (at + 1) 0
    → c ≡ get_or (semis_of_bytes bs) (at + 2) 0 → d ≡ get_or (semis_of_bytes bs) (at + 3) 0 → e ≡ get_or (semis_of_bytes bs) (at + 4) 0 →
    a < 16 → b < 16 → c < 16 → d < 16 → e < 16 → n ≡ min 5 (2 * length bs - at)
    → IsFive (drop at (semis_of_bytes bs)) (a ∷ b ∷ c ∷ d ∷ e ∷ []) n
five_at bs at a b c d e n h ea eb ec ed ee ha hb hc hd he en =
    let ss = semis_of_bytes bs in
    let xs = drop at ss in
    let left : length xs ≡ 2 * length bs - at = length-drop at ss ∙ ap (λ l. l - at) (length-semis bs) in
    let here : at + 0 ≡ at = omega arith in
    let same : firsts xs ≡ a ∷ b ∷ c ∷ d ∷ e ∷ [] =
    same_firsts _ _ _ _ _ a b c d e (get_or-drop at ss 0 0 ∙ ap (λ i. get_or ss i 0) here ∙ sym ea) (get_or-drop at ss 1 0 ∙ sym eb)
    (get_or-drop at ss 2 0 ∙ sym ec) (get_or-drop at ss 3 0 ∙ sym ed) (get_or-drop at ss 4 0 ∙ sym ee) in
    let some : 1 ≤ length xs = omega arith in
    rw (← same, en, ← left) (five xs some (below_five xs a b c d e same ha hb hc hd he))

-- ---- a word more

fives_more : (xs : List ℕ) → 1 ≤ length xs → fives xs ≡ take 5 xs ∷ fives (drop 5 xs)
fives_more [] h = absurd (omega arith)
fives_more (a ∷ []) h = refl
fives_more (a ∷ b ∷ []) h = refl
fives_more (a ∷ b ∷ c ∷ []) h = refl
fives_more (a ∷ b ∷ c ∷ d ∷ []) h = refl
fives_more (a ∷ b ∷ c ∷ d ∷ e ∷ rest) h = refl

-- the words of the semi-octets from a place on
abbrev pub words_from : Codes → List ℕ → ℕ → List ℕ
words_from c bs at = map (λ semis. word_number c (Part semis)) (fives (drop at (semis_of_bytes bs)))

pub word_more : (c : Codes) (bs done words semis total : List ℕ) (at word : ℕ)
    → at < 2 * length bs → semis ≡ take 5 (drop at (semis_of_bytes bs)) → word ≡ word_number c (Part semis) → words ≡ done ++ word ∷ []
    → done ++ words_from c bs at ≡ total → words ++ words_from c bs (at + 5) ≡ total
word_more c bs done words semis total at word h es ew eq e =
    let ss = semis_of_bytes bs in
    let left : length (drop at ss) ≡ 2 * length bs - at = length-drop at ss ∙ ap (λ l. l - at) (length-semis bs) in
    let step : words_from c bs at ≡ word ∷ words_from c bs (at + 5) =
    ap (map (λ semis. word_number c (Part semis))) (fives_more (drop at ss) (omega arith))
    ∙ ap (λ n. n ∷ map (λ semis. word_number c (Part semis)) (fives (drop 5 (drop at ss))))
    (ap (λ s. word_number c (Part s)) (sym es) ∙ sym ew)
    ∙ ap (λ xs. word ∷ map (λ semis. word_number c (Part semis)) (fives xs)) (drop-drop 5 at ss) in
    ap (λ ws. ws ++ words_from c bs (at + 5)) eq ∙ append_assoc done (word ∷ []) (words_from c bs (at + 5))
    ∙ ap (λ ws. done ++ ws) (sym step) ∙ e

pub words_end : (c : Codes) (bs done total : List ℕ) (at : ℕ) → 2 * length bs ≤ at → done ++ words_from c bs at ≡ total → done ≡ total
words_end c bs done total at h e =
    let ss = semis_of_bytes bs in
    let all : length ss ≤ at = let two = length-semis bs in omega arith in
    sym (ap (λ xs. done ++ map (λ semis. word_number c (Part semis)) (fives xs)) (drop_all at ss all) ∙ append-nil done) ∙ e
