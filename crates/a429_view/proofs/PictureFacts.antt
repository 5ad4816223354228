-- The rows of a picture, one after the other.
use Rattle.std.proofs.Common.{◌≡◌, ◌+◌, ◌*◌, ◌<◌, ◌++◌, ◌∷◌, ◌∙◌, ℕ, List, [], length, take, get_or, sym, ap, arith, append-nil, append_assoc}
use Rattle.std.proofs.lemmas.List.{take_more, length-take-le}
use Rattle.a429_profile.specs.declared.codes.Codes.{Codes}
use Rattle.a429_view.specs.declared.mark.Mark.{Mark}
use Rattle.a429_view.specs.Picture.{row_text, rows_text}

-- one more row at the end
rows-push : (c : Codes) (i : ℕ) (rows : List Mark) (m : Mark)
    → rows_text c i (rows ++ m ∷ []) ≡ rows_text c i rows ++ row_text c (30 * (i + length rows) + 70) m
rows-push c i [] m =
    let n : i ≡ i + length {A = Mark} [] = omega arith in
    append-nil (row_text c (30 * i + 70) m) ∙ ap (λ (k : ℕ). row_text c (30 * k + 70) m) n
rows-push c i (x ∷ rows) m =
    let n : (i + 1) + length rows ≡ i + length (x ∷ rows) = omega arith in
    ap (λ (t : List ℕ). row_text c (30 * i + 70) x ++ t) (rows-push c (i + 1) rows m)
    ∙ sym (append_assoc (row_text c (30 * i + 70) x) (rows_text c (i + 1) rows) (row_text c (30 * ((i + 1) + length rows) + 70) m))
    ∙ ap (λ (k : ℕ). rows_text c i (x ∷ rows) ++ row_text c (30 * k + 70) m) n

-- the rows up to one, and this one
pub rows-more : (c : Codes) (rows : List Mark) (i : ℕ) (m : Mark) → i < length rows → m ≡ get_or rows i m
    → rows_text c 0 (take (i + 1) rows) ≡ rows_text c 0 (take i rows) ++ row_text c (30 * i + 70) m
rows-more c rows i m h found =
    let n : 0 + length (take i rows) ≡ i = (let len = length-take-le i rows (omega arith) in omega (arith, len)) in
    ap (rows_text c 0) (take_more rows i m h ∙ ap (λ (y : Mark). take i rows ++ y ∷ []) (sym found))
    ∙ rows-push c 0 (take i rows) m
    ∙ ap (λ (k : ℕ). rows_text c 0 (take i rows) ++ row_text c (30 * k + 70) m) n
