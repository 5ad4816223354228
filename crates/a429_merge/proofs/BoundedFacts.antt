-- A search for a list of at most so many words that has several.
use Rattle.std.proofs.Common.{ℕ, ◌<◌, List, ◌∷◌, [], ◌++◌, length, slice_index, slice_get, refl}
use Rattle.a429_merge.specs.Order.{words_at}
use Rattle.a429_merge.specs.Bounded.{ArePassed, HasPassed, IsStep}
use Rattle.a429_merge.proofs.OrderFacts.{kept_over, left_count, passes_fewer}

-- a step more
pub step_merged : (lists : List (List ℕ)) (ps qs merged : List ℕ) (i w : ℕ)
    → HasPassed lists ps merged → IsStep lists ps i w qs → HasPassed lists qs (merged ++ w ∷ [])
step_merged lists ps qs merged i w m s j l =
    rw (s.passes j l)
    (kept_over (words_at lists j) (slice_index ps j) w merged (m j l) (slice_get (words_at lists j) (slice_index ps j)) refl)

pub step_fewer : (lists : List (List ℕ)) (ps qs : List ℕ) (i w : ℕ)
    → i < length lists → ArePassed lists ps → IsStep lists ps i w qs → left_count lists qs < left_count lists ps
step_fewer lists ps qs i w l a s = passes_fewer lists ps qs w a.counted s.are.counted s.passes (i, l, s.next)
