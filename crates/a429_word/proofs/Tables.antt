-- Tables of numbers.
use Rattle.std.proofs.Common.{◌≡◌, ℕ, zero, suc, ◌+◌, ◌<◌, List, [], ◌∷◌, get_or, arith, ap, ◌∙◌}

-- f i, f (i + 1) .., count of them: at written-out numbers it computes to a table's list
abbrev pub tabulated : (ℕ → ℕ) → ℕ → ℕ → List ℕ
tabulated f i zero = []
tabulated f i (suc count) = f i ∷ tabulated f (suc i) count

from_i : (f : ℕ → ℕ) (count i k : ℕ) → k < count → get_or (tabulated f i count) k 0 ≡ f (i + k)
from_i f zero i k h = absurd (omega arith)
from_i f (suc count) i zero h = let e : i ≡ i + 0 = omega arith in ap f e
from_i f (suc count) i (suc k) h = let e : suc i + k ≡ i + suc k = omega arith in from_i f count (suc i) k (omega arith) ∙ ap f e

pub tabulated-at : (f : ℕ → ℕ) (count k : ℕ) → k < count → get_or (tabulated f 0 count) k 0 ≡ f k
tabulated-at f count k h = let e : 0 + k ≡ k = omega arith in from_i f count 0 k h ∙ ap f e
