-- A text cut where its pieces begin.
use Rattle.std.proofs.Common.{◌≡◌, ℕ, zero, suc, ◌+◌, ◌-◌, ◌==◌, List, [], ◌∷◌, ◌++◌, take, drop, slice_get, Some, None, Bool, true, false, refl, sym, ap, ◌∙◌, arith, append-nil}
use Rattle.std.proofs.lemmas.List.{drop-drop}
use Rattle.a429_import.specs.Piece.{pieces, pieces_from, starts_from}
use Rattle.a429_import.proofs.FieldsFacts.{bytes_before, bytes_before-one, some_pieces}

-- ---- the pieces between them

take_one : (xs : List ℕ) (m c : ℕ) (cs : List ℕ) → c ∷ cs ≡ drop m xs → take (suc m) xs ≡ take m xs ++ c ∷ []
take_one [] zero c cs e = absurd (cc e)
take_one [] (suc m) c cs e = absurd (cc e)
take_one (x ∷ xs) zero c cs e = let same : x ≡ c = cc e in ap (λ y. y ∷ []) same
take_one (x ∷ xs) (suc m) c cs e = ap (λ (l : List ℕ). x ∷ l) (take_one xs m c cs e)

drop_one : (xs : List ℕ) (m c : ℕ) (cs : List ℕ) → c ∷ cs ≡ drop m xs → cs ≡ drop (suc m) xs
drop_one [] zero c cs e = absurd (cc e)
drop_one [] (suc m) c cs e = absurd (cc e)
drop_one (x ∷ xs) zero c cs e = cc e
drop_one (x ∷ xs) (suc m) c cs e = drop_one xs m c cs e

take_whole : (xs : List ℕ) (m : ℕ) → [] ≡ drop m xs → take m xs ≡ xs
take_whole [] zero e = refl
take_whole [] (suc m) e = refl
take_whole (x ∷ xs) zero e = absurd (cc e)
take_whole (x ∷ xs) (suc m) e = ap (λ (l : List ℕ). x ∷ l) (take_whole xs m e)

-- a piece begins at a place, and m bytes of it were passed
abbrev pub Cuts : ℕ → List ℕ → List ℕ → ℕ → ℕ → Type 0
Cuts at text rest start m =
    pieces_from text start (starts_from at (start + m) rest) ≡ bytes_before (take m (drop start text)) (pieces at rest)

on_byte : (at : ℕ) (text : List ℕ) (c : ℕ) (cs : List ℕ) (start m : ℕ) (e : Bool) → (c == at) ≡ e → c ∷ cs ≡ drop m (drop start text)
    → ((start m : ℕ) → cs ≡ drop m (drop start text) → Cuts at text cs start m) → Cuts at text (c ∷ cs) start m
on_byte at text c cs start m true e is more =
    let here : suc (start + m) - 1 - start ≡ m = omega arith in
    let on : suc (start + m) + 0 ≡ suc (start + m) = omega arith in
    let later : start + suc m ≡ suc (start + m) = omega arith in
    let rest : cs ≡ drop (suc (start + m)) text =
    drop_one (drop start text) m c cs is ∙ drop-drop (suc m) start text ∙ ap (λ n. drop n text) later in
    let all = rw on at (more (suc (start + m)) 0 rest) in
    rw (e, here, append-nil (take m (drop start text))) (ap (λ (l : List (List ℕ)). take m (drop start text) ∷ l) (all ∙ some_pieces at cs))
on_byte at text c cs start m false e is more =
    let later : start + suc m ≡ suc (start + m) = omega arith in
    let all = rw later at (more start (suc m) (drop_one (drop start text) m c cs is)) in
    rw e (all ∙ ap (λ (p : List ℕ). bytes_before p (pieces at cs)) (take_one (drop start text) m c cs is)
    ∙ sym (bytes_before-one (take m (drop start text)) c (pieces at cs)))

cuts : (at : ℕ) (text rest : List ℕ) (start m : ℕ) → rest ≡ drop m (drop start text) → Cuts at text rest start m
cuts at text [] start m is =
    ap (λ (p : List ℕ). p ∷ []) (sym (take_whole (drop start text) m is) ∙ sym (append-nil (take m (drop start text))))
cuts at text (c ∷ cs) start m is = on_byte at text c cs start m (c == at) refl is (λ start m. cuts at text cs start m)

pub from_starts : (at : ℕ) (text : List ℕ) → pieces_from text 0 (starts_from at 0 text) ≡ pieces at text
from_starts at text = cuts at text text 0 0 refl ∙ some_pieces at text

-- ---- one of them

pub piece_between : (text : List ℕ) (start : ℕ) (starts : List ℕ) (k begin next : ℕ)
    → Some begin ≡ slice_get (start ∷ starts) k → Some next ≡ slice_get starts k
    → Some (take (next - 1 - begin) (drop begin text)) ≡ slice_get (pieces_from text start starts) k
piece_between text start [] zero begin next e f = absurd (cc f)
piece_between text start [] (suc k) begin next e f = absurd (cc f)
piece_between text start (s ∷ ss) zero begin next e f =
    let first : begin ≡ start = cc e in
    let second : next ≡ s = cc f in
    rw (first, second) refl
piece_between text start (s ∷ ss) (suc k) begin next e f = piece_between text s ss k begin next e f

pub piece_last : (text : List ℕ) (start : ℕ) (starts : List ℕ) (k begin : ℕ)
    → Some begin ≡ slice_get (start ∷ starts) k → None ≡ slice_get starts k
    → Some (drop begin text) ≡ slice_get (pieces_from text start starts) k
piece_last text start [] zero begin e f = let first : begin ≡ start = cc e in rw first refl
piece_last text start [] (suc k) begin e f = absurd (cc e)
piece_last text start (s ∷ ss) zero begin e f = absurd (cc f)
piece_last text start (s ∷ ss) (suc k) begin e f = piece_last text s ss k begin e f

pub piece_none : (text : List ℕ) (start : ℕ) (starts : List ℕ) (k : ℕ)
    → None ≡ slice_get (start ∷ starts) k → None ≡ slice_get (pieces_from text start starts) k
piece_none text start [] zero e = absurd (cc e)
piece_none text start [] (suc k) e = refl
piece_none text start (s ∷ ss) zero e = absurd (cc e)
piece_none text start (s ∷ ss) (suc k) e = piece_none text s ss k e
