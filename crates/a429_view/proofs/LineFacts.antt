-- Texts on a line, one after the other.
use Rattle.std.proofs.Common.{◌≡◌, ℕ, ◌+◌, ◌≤◌, sym, ap, ◌∙◌, arith, List, [], ◌∷◌, ◌++◌, length, take, drop, append_assoc, get_or, refl}
use Rattle.std.proofs.lemmas.List.{length-take-le, take-append-le}
use Rattle.std.proofs.Math.Seq.{take-add, take-append-add, take-append_seam}
use Rattle.a429_view.specs.Line.{Adds}

-- a proof reads as the text does: name ▹ space ▹ number
infixl 60 ◌▹◌
pub ◌▹◌ : {a b c x y : List ℕ} {m n : ℕ} → Adds a b m x → Adds b c n y → Adds a c (m + n) (x ++ y)
◌▹◌ {a} {x = x} {y = y} p q =
    record { added = q.added ∙ ap (λ t. t ++ y) p.added ∙ append_assoc a x y; most = omega (arith, p.most, q.most) }

-- of more bytes at most
pub within : {a b x : List ℕ} {m : ℕ} (n : ℕ) → Adds a b m x → m ≤ n → Adds a b n x
within n p h = record { added = p.added; most = omega (arith, p.most) }

-- the bytes up to a, with the first of some bytes written behind them
pub take-copied : (a count : ℕ) (xs ys rest : List ℕ)
    → a ≤ length xs → count ≤ length ys → take (a + count) (take a xs ++ (ys ++ rest)) ≡ take a xs ++ take count ys
take-copied a count xs ys rest h k =
    ap (λ m. take (m + count) (take a xs ++ (ys ++ rest))) (sym (length-take-le a xs h)) ∙ take-append-add (take a xs) (ys ++ rest) count
    ∙ ap (λ t. take a xs ++ t) (take-append-le count ys rest k)

-- digits written behind the first bytes of a buffer
pub digits-written : (at count start : ℕ) (text old new : List ℕ) → count ≡ length text → start + length text ≡ at + count
    → drop start new ≡ text ++ drop (at + count) old → take start new ≡ take start old
    → take (at + count) new ≡ take at old ++ text
digits-written at count start text old new e from written before =
    let same : start ≡ at = omega (arith, e) in
    let front : take at new ≡ take at old = ap (λ k. take k new) (sym same) ∙ before ∙ ap (λ k. take k old) same in
    let rest : drop at new ≡ text ++ drop (at + count) old = ap (λ k. drop k new) (sym same) ∙ written in
    take-add at count new
    ∙ ap (λ t. t ++ take count (drop at new)) front
    ∙ ap (λ t. take at old ++ take count t) rest
    ∙ ap (λ k. take at old ++ take k (text ++ drop (at + count) old)) e
    ∙ ap (λ t. take at old ++ t) (take-append_seam text (drop (at + count) old))

-- five numbers, one by one
pub five : (xs : List ℕ) → length xs ≡ 5 → xs ≡ get_or xs 0 0 ∷ get_or xs 1 0 ∷ get_or xs 2 0 ∷ get_or xs 3 0 ∷ get_or xs 4 0 ∷ []
five [] h = absurd (omega (arith, h))
five (a ∷ []) h = absurd (omega (arith, h))
five (a ∷ b ∷ []) h = absurd (omega (arith, h))
five (a ∷ b ∷ c ∷ []) h = absurd (omega (arith, h))
five (a ∷ b ∷ c ∷ d ∷ []) h = absurd (omega (arith, h))
five (a ∷ b ∷ c ∷ d ∷ e ∷ []) h = refl
five (a ∷ b ∷ c ∷ d ∷ e ∷ f ∷ xs) h = absurd (omega (arith, h))
