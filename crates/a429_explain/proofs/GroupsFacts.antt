-- The start word of a group, and its end.
use Rattle.std.proofs.Common.{◌≡◌, ℕ, suc, ◌+◌, ◌-◌, ◌<◌, List, ◌∷◌, length, take, drop, get_or, drop-cons, slice_range, Option, Some, None, sym, ap, ◌∙◌, arith}
use Rattle.std.specs.Option.{option_or}
use Rattle.a429_explain.specs.declared.attempts.Role.{Role}
use Rattle.a429_explain.specs.declared.groups.Group.{Group}
use Rattle.a429_explain.specs.declared.attempts.StartNumbers.{StartNumbers}
use Rattle.a429_explain.specs.Groups.{group_length, group_from, start_of, first_started}

-- ---- the start word of a group

-- that of the next word, or of those behind it
starts_next : (rs : List Role) (at to : ℕ) (d : Role) → at < to → at < length rs
    → first_started (slice_range rs at to) ≡ option_or (start_of (get_or rs at d)) (first_started (slice_range rs (at + 1) to))
starts_next rs at to d l m =
    let one : at + 1 ≡ suc at = omega arith in
    let more : to - at ≡ suc (to - (at + 1)) = omega arith in
    ap (λ (n : ℕ). first_started (take n (drop at rs))) more
    ∙ ap (λ (xs : List Role). first_started (take (suc (to - (at + 1))) xs))
    (drop-cons rs at d m ∙ ap (λ (n : ℕ). get_or rs at d ∷ drop n rs) (sym one))

pub starts_here : (rs : List Role) (at to : ℕ) (d : Role) (start : StartNumbers)
    → at < to → at < length rs → start_of (get_or rs at d) ≡ Some start → first_started (slice_range rs at to) ≡ Some start
starts_here rs at to d start l m e =
    starts_next rs at to d l m ∙ ap (λ (o : Option StartNumbers). option_or o (first_started (slice_range rs (at + 1) to))) e

pub starts_later : (rs : List Role) (at to : ℕ) (d : Role) → at < to → at < length rs → start_of (get_or rs at d) ≡ None
    → first_started (slice_range rs at to) ≡ first_started (slice_range rs (at + 1) to)
starts_later rs at to d l m e =
    starts_next rs at to d l m ∙ ap (λ (o : Option StartNumbers). option_or o (first_started (slice_range rs (at + 1) to))) e

-- ---- its end

pub group_is : (rs : List Role) (at : ℕ) (g : Group) → g.from ≡ at → g.to ≡ at + group_length (drop at rs) → g ≡ group_from rs at
group_is rs at g from to = ap (λ (n : ℕ). begun n g.to) from ∙ ap (begun at) to
  where
    begun : ℕ → ℕ → Group
    begun from to = record { from = from; to = to }
