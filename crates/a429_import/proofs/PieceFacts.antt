-- Fields cut at a byte, piece by piece.
use Rattle.std.proofs.Common.{◌≡◌, ℕ, zero, suc, ◌+◌, ◌-◌, ◌<◌, ◌≤◌, ◌==◌, List, [], ◌∷◌, length, get_or, take, drop, slice_get, Some, None, Bool, true, false, cond, nat_lt, refl, ap, sym, arith, add-one}
use Rattle.std.specs.List.{position, position_or_len}
use Rattle.std.proofs.lemmas.List.{take_rest}
use Rattle.std.proofs.lemmas.List.Quantifiers.{position-Some}
use Rattle.std.proofs.lemmas.List.Sums.{fails_before_first}
use Rattle.std.proofs.lemmas.Bool.Decides.{nat_tests}
use Rattle.a429_import.specs.Piece.{pieces, before_first}

-- a text with none of these bytes is one piece
one_piece : (at : ℕ) (text : List ℕ) → ((k : ℕ) → k < length text → (get_or text k 0 == at) ≡ false) → pieces at text ≡ text ∷ []
one_piece at [] h = refl
one_piece at (c ∷ cs) h = rw (h 0 (omega arith)) (ap (before_first c) (one_piece at cs (λ k inside. h (suc k) (omega arith))))

-- else its first piece ends at the first of them
first_piece : (at : ℕ) (text : List ℕ) (end : ℕ)
    → end < length text → (get_or text end 0 == at) ≡ true → ((k : ℕ) → k < end → (get_or text k 0 == at) ≡ false)
    → pieces at text ≡ take end text ∷ pieces at (drop (suc end) text)
first_piece at [] end inside here before = absurd (omega arith)
first_piece at (c ∷ cs) zero inside here before = rw here refl
first_piece at (c ∷ cs) (suc end) inside here before =
    rw (before 0 (omega arith)) (ap (before_first c) (first_piece at cs end (omega arith) here (λ k h. before (suc k) (omega arith))))

-- where there is none, no byte is one
none_of : {X : Type 0} (p : X → Bool) (xs : List X) → nat_lt (position_or_len p xs) (length xs) ≡ false → (k : ℕ) (d : X) → k < length xs
    → p (get_or xs k d) ≡ false
none_of p xs e k d inside =
    let all : length xs ≤ position_or_len p xs = grind (arith, nat_tests) in
    let before : k < position_or_len p xs = omega arith in
    fails_before_first p xs k d before

not_found : (b : Bool) (n : ℕ) → None ≡ cond b (Some n) None → b ≡ false
not_found true n e = cc e
not_found false n e = refl

pub pieces-one : (at : ℕ) (text : List ℕ) → None ≡ position (λ b. b == at) text → pieces at text ≡ text ∷ []
pieces-one at text e = one_piece at text (λ k inside. none_of (λ b. b == at) text (not_found _ _ e) k 0 inside)

pub pieces-more : (at : ℕ) (text : List ℕ) (end : ℕ)
    → Some end ≡ position (λ b. b == at) text → pieces at text ≡ take end text ∷ pieces at (drop (end + 1) text)
pieces-more at text end e =
    let found = position-Some (λ b. b == at) text end 0 (sym e) in
    rw add-one (first_piece at text end found.0 found.1 found.2)

-- ---- a piece counted from the first

pub alone : (at : ℕ) (text : List ℕ) → None ≡ position (λ b. b == at) text → Some text ≡ slice_get (pieces at text) 0
alone at text e = rw (pieces-one at text e) refl

pub first : (at : ℕ) (text : List ℕ) (end : ℕ)
    → Some end ≡ position (λ b. b == at) text → Some (take end text) ≡ slice_get (pieces at text) 0
first at text end e = rw (pieces-more at text end e) refl

pub none_after : (at : ℕ) (text : List ℕ) (n : ℕ) → None ≡ position (λ b. b == at) text → 0 < n → slice_get (pieces at text) n ≡ None
none_after at text zero e some = absurd (omega arith)
none_after at text (suc n) e some = rw (pieces-one at text e) refl

pub one_on : (at : ℕ) (text : List ℕ) (end i n : ℕ) → Some end ≡ position (λ b. b == at) text → i < n
    → slice_get (pieces at text) (n - i) ≡ slice_get (pieces at (take (length text - (end + 1)) (drop (end + 1) text))) (n - (i + 1))
one_on at text end i n e inside =
    let step : n - i ≡ suc (n - (i + 1)) = omega arith in
    rw (take_rest text (end + 1), step, pieces-more at text end e) refl
