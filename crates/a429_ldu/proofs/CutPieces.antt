-- Semi-octets in words, bytes in pieces.
use Rattle.std.proofs.Common.{◌≡◌, ◌/◌, ℕ, zero, suc, ◌+◌, ◌-◌, ◌*◌, ◌<◌, ◌≤◌, Bool, true, false, cond, nat_le, List, [], ◌∷◌, ◌++◌, length, take, drop, map, refl, ap, ◌∙◌, arith, append-nil, length-drop, length-take, ◌↔◌}
use Rattle.std.specs.List.{AllByRecursion, concat}
use Rattle.std.proofs.lemmas.Bool.{leb-true, leb-false}
use Rattle.std.proofs.lemmas.List.{take-append-drop}
use Rattle.a429_profile.specs.Profile.{Contents, IsProfile}
use Rattle.a429_ldu.specs.declared.forms.Form.TheVariants.{Part}
use Rattle.a429_ldu.specs.Semis.{semis_of_bytes}
use Rattle.a429_ldu.specs.Form.{word_number}
use Rattle.a429_ldu.specs.Carried.{AreDataWords, CarryBytes}
use Rattle.a429_ldu.specs.Ldu.{count_of}
use Rattle.a429_ldu.specs.Cut.{unit_of, room, pieces, HaveSizes}
use Rattle.a429_ldu.specs.Filling.{data_words, fives}
use Rattle.a429_ldu.proofs.FormFacts.{word_number-is}

abbrev pub AreDigits : List ℕ → Type 0
AreDigits ss = AllByRecursion (λ s. s < 16) ss

abbrev pub AreBytes : List ℕ → Type 0
AreBytes bs = AllByRecursion (λ b. b < 256) bs

digits_of_bytes : (bs : List ℕ) → AreBytes bs → AreDigits (semis_of_bytes bs)
digits_of_bytes [] h = tt
digits_of_bytes (b ∷ bs) h = let small = h.0 in (omega arith, (omega arith, digits_of_bytes bs h.1))

pub length-semis : (bs : List ℕ) → length (semis_of_bytes bs) ≡ 2 * length bs
length-semis [] = refl
length-semis (b ∷ bs) = let e = length-semis bs in omega arith

-- ---- five to a word

concat-fives : (ss : List ℕ) → concat (fives ss) ≡ ss
concat-fives [] = refl
concat-fives (p ∷ []) = refl
concat-fives (p ∷ q ∷ []) = refl
concat-fives (p ∷ q ∷ r ∷ []) = refl
concat-fives (p ∷ q ∷ r ∷ s ∷ []) = refl
concat-fives (p ∷ q ∷ r ∷ s ∷ t ∷ rest) = ap (λ xs. p ∷ q ∷ r ∷ s ∷ t ∷ xs) (concat-fives rest)

data_of : (p : Contents) → IsProfile p → (ss : List ℕ) → AreDigits ss
    → AreDataWords p.codes (map (λ semis. word_number p.codes (Part semis)) (fives ss)) (fives ss)
data_of p is [] h = tt
data_of p is (a ∷ []) h = (word_number-is p is (Part (a ∷ [])) (omega arith, omega arith, h), tt)
data_of p is (a ∷ b ∷ []) h = (word_number-is p is (Part (a ∷ b ∷ [])) (omega arith, omega arith, h), tt)
data_of p is (a ∷ b ∷ c ∷ []) h = (word_number-is p is (Part (a ∷ b ∷ c ∷ [])) (omega arith, omega arith, h), tt)
data_of p is (a ∷ b ∷ c ∷ d ∷ []) h = (word_number-is p is (Part (a ∷ b ∷ c ∷ d ∷ [])) (omega arith, omega arith, h), tt)
data_of p is (a ∷ b ∷ c ∷ d ∷ e ∷ rest) h = (
  word_number-is p is (Part (a ∷ b ∷ c ∷ d ∷ e ∷ [])) (omega arith, omega arith, (h.0, (h.1.0, (h.1.1.0, (h.1.1.1.0, (h.1.1.1.1.0, tt)))))),
  data_of p is rest h.1.1.1.1.1,
)

-- how many words
fives-most : (ss : List ℕ) → length (fives ss) * 5 < length ss + 5
fives-most [] = omega arith
fives-most (p ∷ []) = omega arith
fives-most (p ∷ q ∷ []) = omega arith
fives-most (p ∷ q ∷ r ∷ []) = omega arith
fives-most (p ∷ q ∷ r ∷ s ∷ []) = omega arith
fives-most (p ∷ q ∷ r ∷ s ∷ t ∷ rest) = let most = fives-most rest in omega arith

fives-least : (ss : List ℕ) → length ss ≤ length (fives ss) * 5
fives-least [] = omega arith
fives-least (p ∷ []) = omega arith
fives-least (p ∷ q ∷ []) = omega arith
fives-least (p ∷ q ∷ r ∷ []) = omega arith
fives-least (p ∷ q ∷ r ∷ s ∷ []) = omega arith
fives-least (p ∷ q ∷ r ∷ s ∷ t ∷ rest) = let least = fives-least rest in omega arith

length-words : (p : Contents) (sss : List (List ℕ)) → length (map (λ semis. word_number p.codes (Part semis)) sss) ≡ length sss
length-words p [] = refl
length-words p (ss ∷ sss) = ap suc (length-words p sss)

-- ---- a unit

-- so many semi-octets fill so many words
pub words-most : (p : Contents) (bs : List ℕ) (n : ℕ) → 2 * length bs ≤ 5 * n → length (data_words p.codes bs) ≤ n
words-most p bs n h =
    let e = length-words p (fives (semis_of_bytes bs)) in
    let most = fives-most (semis_of_bytes bs) in
    let two = length-semis bs in
    omega arith

pub words-least : (p : Contents) (bs : List ℕ) → 1 ≤ length bs → 1 ≤ length (data_words p.codes bs)
words-least p bs h =
    let e = length-words p (fives (semis_of_bytes bs)) in
    let least = fives-least (semis_of_bytes bs) in
    let two = length-semis bs in
    omega arith

pub carry : (p : Contents) → IsProfile p → (bs : List ℕ) → AreBytes bs → 1 ≤ length bs → CarryBytes p.codes (data_words p.codes bs) bs
carry p is bs small some = record {
  semis = fives (semis_of_bytes bs);
  words = data_of p is (semis_of_bytes bs) (digits_of_bytes bs small);
  carries = record { some = some; semi_octets = concat-fives (semis_of_bytes bs) };
}

-- what is known of a piece
pub record IsPiece (m : ℕ) (bs : List ℕ) : Type 0 where
  pub small : AreBytes bs
  pub some : 1 ≤ length bs
  pub most : length bs ≤ m

pub room-most : (max_words : ℕ) → max_words ≤ 255 → room max_words ≤ 632
room-most w h = omega arith

room-words : (max_words n : ℕ) → 3 ≤ max_words → n ≤ room max_words → 2 * n ≤ 5 * (max_words - 2)
room-words w n h k = omega arith

pub unit-words : (p : Contents) (bs : List ℕ) (max_words flags : ℕ)
    → 3 ≤ max_words → IsPiece (room max_words) bs → count_of (unit_of p bs flags) ≤ max_words
unit-words p bs w flags h piece = let most = words-most p bs (w - 2) (room-words w (length bs) h piece.most) in omega arith

-- ---- pieces

-- bytes in pieces of at most m, at least one
pub record AreCut (m : ℕ) (bs : List ℕ) (ps : List (List ℕ)) : Type 0 where
  pub each : AllByRecursion (IsPiece m) ps
  pub whole : concat ps ≡ bs
  pub some : 1 ≤ length ps

small-take : (n : ℕ) (bs : List ℕ) → AreBytes bs → AreBytes (take n bs)
small-take zero bs h = tt
small-take (suc n) [] h = tt
small-take (suc n) (b ∷ bs) h = (h.0, small-take n bs h.1)

small-drop : (n : ℕ) (bs : List ℕ) → AreBytes bs → AreBytes (drop n bs)
small-drop zero bs h = h
small-drop (suc n) [] h = tt
small-drop (suc n) (b ∷ bs) h = small-drop n bs h.1

-- one piece more
cut_step : (m : ℕ) (bs : List ℕ) (qs : List (List ℕ)) (t : Bool) → nat_le (length bs) m ≡ t → 1 ≤ m → AreBytes bs → 1 ≤ length bs
    → (m < length bs → AreCut m (drop m bs) qs) → AreCut m bs (cond t (bs ∷ []) (take m bs ∷ qs))
cut_step m bs qs true e hm small some later = record {
  each = (record { small = small; some = some; most = leb-true (length bs) m e }, tt);
  whole = append-nil bs;
  some = omega arith;
}
cut_step m bs qs false e hm small some later =
    let above : m < length bs = leb-false (length bs) m e in
    let rest = later above in
    let front = length-take m bs in
    record {
      each = (record { small = small-take m bs small; some = omega arith; most = omega arith }, rest.each);
      whole = ap (λ xs. take m bs ++ xs) rest.whole ∙ take-append-drop m bs;
      some = omega arith;
    }

pub pieces-cut : (f m : ℕ) (bs : List ℕ) → 1 ≤ m → AreBytes bs → 1 ≤ length bs → length bs ≤ f * m → AreCut m bs (pieces f m bs)
unfolding pieces
pieces-cut zero m bs hm small some most = absurd (omega arith)
pieces-cut (suc f) m bs hm small some most =
    cut_step m bs (pieces f m (drop m bs)) (nat_le (length bs) m) refl hm small some
    (λ above. let left = length-drop m bs in let one : suc f * m ≡ f * m + m = omega arith in
    pieces-cut f m (drop m bs) hm (small-drop m bs small) (omega arith) (omega arith))

-- ---- sizes of pieces

first_size : (size : ℕ) (piece : List ℕ) (ps : List (List ℕ)) → length piece ≡ size → HaveSizes size ps → HaveSizes size (piece ∷ ps)
first_size size piece [] e h = absurd h
first_size size piece (q ∷ qs) e h = (e, h)

size_step : (m : ℕ) (bs : List ℕ) (qs : List (List ℕ)) (t : Bool)
    → nat_le (length bs) m ≡ t → 1 ≤ length bs → (m < length bs → (concat qs ≡ drop m bs) × HaveSizes m qs)
    → (concat (cond t (bs ∷ []) (take m bs ∷ qs)) ≡ bs) × HaveSizes m (cond t (bs ∷ []) (take m bs ∷ qs))
size_step m bs qs true e some later = (append-nil bs, (some, leb-true (length bs) m e))
size_step m bs qs false e some later =
    let above : m < length bs = leb-false (length bs) m e in
    let rest = later above in
    let front = length-take m bs in
    (ap (λ xs. take m bs ++ xs) rest.0 ∙ take-append-drop m bs, first_size m (take m bs) qs (omega arith) rest.1)

pub pieces-sized : (f m : ℕ) (bs : List ℕ)
    → 1 ≤ m → 1 ≤ length bs → length bs ≤ f * m → (concat (pieces f m bs) ≡ bs) × HaveSizes m (pieces f m bs)
unfolding pieces
pieces-sized zero m bs hm some most = absurd (omega arith)
pieces-sized (suc f) m bs hm some most =
    size_step m bs (pieces f m (drop m bs)) (nat_le (length bs) m) refl some
    (λ above. let left = length-drop m bs in let one : suc f * m ≡ f * m + m = omega arith in
    pieces-sized f m (drop m bs) hm (omega arith) (omega arith))

pub room-is : (w n : ℕ) → (n ≤ room w) ↔ (2 * n ≤ 5 * (w - 2))
room-is w n = (λ h. room_to (w - 2) n h, λ h. room_from (w - 2) n h)
  where
    room_to : (k n : ℕ) → n ≤ k * 5 / 2 → 2 * n ≤ 5 * k
    room_to k n h = omega arith

    room_from : (k n : ℕ) → 2 * n ≤ 5 * k → n ≤ k * 5 / 2
    room_from k n h = omega arith
