-- The lines of pieces, one after the other.
use Rattle.std.proofs.Common.{◌≡◌, ℕ, suc, ◌+◌, ◌<◌, List, [], ◌∷◌, ◌++◌, length, take, get_or, sym, ap, ◌∙◌, arith}
use Rattle.std.proofs.lemmas.List.{append_assoc, append-nil, length-take-le, take_more}
use Rattle.a429_profile.specs.declared.codes.Codes.{Codes}
use Rattle.a429_sink.specs.declared.summary.PieceSummary.{PieceSummary}
use Rattle.a429_view.specs.History.{history_text, piece_text}

history_push : (c : Codes) (k : ℕ) (told : List PieceSummary) (t : PieceSummary)
    → history_text c k (told ++ t ∷ []) ≡ history_text c k told ++ piece_text c (k + length told) t
history_push c k [] t = let e : k ≡ k + 0 = omega arith in append-nil (piece_text c k t) ∙ ap (λ (n : ℕ). piece_text c n t) e
history_push c k (x ∷ told) t =
    let e : suc k + length told ≡ k + suc (length told) = omega arith in
    ap (λ (r : List ℕ). piece_text c k x ++ r)
    (history_push c (suc k) told t ∙ ap (λ (n : ℕ). history_text c (suc k) told ++ piece_text c n t) e)
    ∙ sym (append_assoc (piece_text c k x) (history_text c (suc k) told) (piece_text c (k + suc (length told)) t))

-- of one piece more
pub history_more : (c : Codes) (told : List PieceSummary) (n : ℕ) (t : PieceSummary) → n < length told → get_or told n t ≡ t
    → history_text c 1 (take (n + 1) told) ≡ history_text c 1 (take n told) ++ piece_text c (n + 1) t
history_more c told n t inside here =
    let e : 1 + length (take n told) ≡ n + 1 = omega (arith, length-take-le n told (omega (arith, inside))) in
    ap (history_text c 1) (take_more told n t inside ∙ ap (λ (x : PieceSummary). take n told ++ x ∷ []) here)
    ∙ history_push c 1 (take n told) t ∙ ap (λ (k : ℕ). history_text c 1 (take n told) ++ piece_text c k t) e
