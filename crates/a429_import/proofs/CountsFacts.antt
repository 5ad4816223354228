-- Counts of what becomes of lines, one more at a time; and that each line is counted once.
use Rattle.std.proofs.Common.{◌≡◌, ℕ, suc, ◌+◌, max, Bool, true, false, if◌then◌else◌, List, [], ◌∷◌, ◌++◌, length, refl, ◌∙◌, arith}
use Rattle.std.specs.Prelude.{filter}
use Rattle.a429_word.specs.declared.bus.Bus.{Bus}
use Rattle.a429_word.specs.declared.bus.Bus.TheVariants as bus
use Rattle.a429_import.specs.declared.counts.Counts.{Counts}
use Rattle.a429_import.specs.declared.lot.Lot.{Lot}
use Rattle.a429_import.specs.declared.lot.Lot.TheVariants as lot
use Rattle.a429_import.specs.Counts.{AreCounts, is_empty, is_entry, is_heading, is_line_a, is_line_b, is_of_passed_channel, is_on_a, is_on_b, is_passed_row, is_remark, is_skipped, lift_of, most_lift_of, is_repeated}

-- ---- one more

-- the most of some lifts, and one more
most-last : (lots : List Lot) (l : Lot) → most_lift_of (lots ++ l ∷ []) ≡ max (most_lift_of lots) (lift_of l)
most-last [] l = omega arith
most-last (x ∷ lots) l = let more = most-last lots l in omega (arith, more)

pub most_lift-more : (lots : List Lot) (l : Lot) (most lift new : ℕ)
    → lift ≡ lift_of l → most ≡ most_lift_of lots → new ≡ max most lift → new ≡ most_lift_of (lots ++ l ∷ [])
most_lift-more lots l most lift new e m is = omega (arith, most-last lots l, e, m, is)

-- ---- each line is counted once

abbrev pub OncePerLine : List Lot → Type 0
OncePerLine lots =
    length (filter is_entry lots) + length (filter is_skipped lots) + length (filter is_empty lots) + length (filter is_remark lots)
    + length (filter is_heading lots) + length (filter is_passed_row lots) + length (filter is_of_passed_channel lots)
    + length (filter is_repeated lots) ≡ length lots

once : (lots : List Lot) → OncePerLine lots
once [] = refl
once (lot.Skipped ∷ lots) = let h = once lots in omega (arith, h)
once (lot.Empty ∷ lots) = let h = once lots in omega (arith, h)
once (lot.Comment ∷ lots) = let h = once lots in omega (arith, h)
once (lot.Heading ∷ lots) = let h = once lots in omega (arith, h)
once (lot.RowPassed ∷ lots) = let h = once lots in omega (arith, h)
once (lot.ChannelPassed ∷ lots) = let h = once lots in omega (arith, h)
once (lot.Repeated ∷ lots) = let h = once lots in omega (arith, h)
once (lot.Written e is_cut v mend ∷ lots) = let h = once lots in omega (arith, h)

pub add_up : (n : Counts) (lots : List Lot) → AreCounts n lots
    → n.entries + n.skipped + n.empty + n.comments + n.headings + n.passed_rows + n.of_passed_channels + n.repeats ≡ n.lines
add_up n lots h =
    let all = once lots in
    rw (h.entries, h.skipped, h.empty, h.comments, h.headings, h.passed_rows, h.of_passed_channels, h.repeats, h.lines) all

-- and each entry is on one line
abbrev pub OnOne : List Lot → Type 0
OnOne lots = length (filter is_on_a lots) + length (filter is_on_b lots) ≡ length (filter is_entry lots)

-- one more that passes, or does not
abbrev pub one_if : Bool → ℕ → ℕ
one_if true n = n + 1
one_if false n = n

one_if-is : (b : Bool) (l : Lot) (lots : List Lot) → length (if b then l ∷ lots else lots) ≡ one_if b (length lots)
one_if-is true l lots = omega arith
one_if-is false l lots = refl

with_bus : (b : Bus) (x y z : ℕ) → x + y ≡ z → one_if (is_line_a b) x + one_if (is_line_b b) y ≡ z + 1
with_bus bus.A x y z h = omega (arith, h)
with_bus bus.B x y z h = omega (arith, h)

on_one : (lots : List Lot) → OnOne lots
on_one [] = refl
on_one (lot.Skipped ∷ lots) = on_one lots
on_one (lot.Empty ∷ lots) = on_one lots
on_one (lot.Comment ∷ lots) = on_one lots
on_one (lot.Heading ∷ lots) = on_one lots
on_one (lot.RowPassed ∷ lots) = on_one lots
on_one (lot.ChannelPassed ∷ lots) = on_one lots
on_one (lot.Repeated ∷ lots) = on_one lots
on_one (lot.Written e is_cut v mend ∷ lots) =
    let both = with_bus e.bus (length (filter is_on_a lots)) (length (filter is_on_b lots)) (length (filter is_entry lots)) (on_one lots) in
    let more : length (filter is_entry lots) + 1 ≡ suc (length (filter is_entry lots)) = omega arith in
    rw (
      one_if-is (is_line_a e.bus) (lot.Written e is_cut v mend) (filter is_on_a lots),
      one_if-is (is_line_b e.bus) (lot.Written e is_cut v mend) (filter is_on_b lots),
    ) (both ∙ more)

pub lines_add_up : (n : Counts) (lots : List Lot) → AreCounts n lots → n.on_a + n.on_b ≡ n.entries
lines_add_up n lots h = let all = on_one lots in rw (h.on_a, h.on_b, h.entries) all
