-- What becomes of the lines of an export, counted, and the lines that say it (profile).
use Rattle.std.specs.Prelude.{◌≡◌, ℕ, ◌==◌, ◌&&◌, Bool, true, false, if◌then◌else◌, List, [], ◌∷◌, ◌++◌, length, filter, max, codes}
use Rattle.std.specs.Fmt.{decimal}
use Rattle.a429_word.specs.declared.bus.Bus.{Bus}
use Rattle.a429_word.specs.declared.bus.Bus.TheVariants as bus
use Rattle.a429_import.specs.declared.counts.Counts.{Counts}
use Rattle.a429_import.specs.declared.lot.Lot.{Lot}
use Rattle.a429_import.specs.declared.lot.Lot.TheVariants as lot
use Rattle.a429_import.specs.declared.order.Fall.{Fall}
use Rattle.a429_import.specs.declared.order.Fall.TheVariants as fall
use Rattle.a429_import.specs.declared.parity.Verdict.{Verdict}
use Rattle.a429_import.specs.declared.parity.Verdict.TheVariants as verdict
use Rattle.a429_import.specs.declared.turning.Turning.{Turning}

-- ---- some of the lines

abbrev pub is_skipped : Lot → Bool
is_skipped lot.Skipped = true
is_skipped _ = false

abbrev pub is_empty : Lot → Bool
is_empty lot.Empty = true
is_empty _ = false

abbrev pub is_remark : Lot → Bool
is_remark lot.Comment = true
is_remark _ = false

abbrev pub is_heading : Lot → Bool
is_heading lot.Heading = true
is_heading _ = false

abbrev pub is_passed_row : Lot → Bool
is_passed_row lot.RowPassed = true
is_passed_row _ = false

abbrev pub is_of_passed_channel : Lot → Bool
is_of_passed_channel lot.ChannelPassed = true
is_of_passed_channel _ = false

abbrev pub is_repeated : Lot → Bool
is_repeated lot.Repeated = true
is_repeated _ = false

abbrev pub is_entry : Lot → Bool
is_entry (lot.Written e is_cut v mend) = true
is_entry _ = false

abbrev pub is_line_a : Bus → Bool
is_line_a bus.A = true
is_line_a bus.B = false

abbrev pub is_on_a : Lot → Bool
is_on_a (lot.Written e is_cut v mend) = is_line_a e.bus
is_on_a _ = false

abbrev pub is_line_b : Bus → Bool
is_line_b bus.A = false
is_line_b bus.B = true

abbrev pub is_on_b : Lot → Bool
is_on_b (lot.Written e is_cut v mend) = is_line_b e.bus
is_on_b _ = false

-- something of its time was cut off
abbrev pub is_cut_time : Lot → Bool
is_cut_time (lot.Written e is_cut v mend) = is_cut
is_cut_time _ = false

-- the clock begins again at it
abbrev pub is_wrap : Lot → Bool
is_wrap (lot.Written e is_cut v mend) = mend.wraps
is_wrap _ = false

-- the clock was set back before it
abbrev pub is_set_back : Fall → Bool
is_set_back (fall.Reset by) = true
is_set_back _ = false

abbrev pub is_reset : Lot → Bool
is_reset (lot.Written e is_cut v mend) = is_set_back mend.fall
is_reset _ = false

-- its time was below the latest, and became that
abbrev pub is_raised : Fall → Bool
is_raised (fall.Lifted by) = true
is_raised _ = false

abbrev pub is_lifted : Lot → Bool
is_lifted (lot.Written e is_cut v mend) = is_raised mend.fall
is_lifted _ = false

-- by how many microseconds, or 0
abbrev pub raise_of : Fall → ℕ
raise_of (fall.Lifted by) = by
raise_of _ = 0

abbrev pub lift_of : Lot → ℕ
lift_of (lot.Written e is_cut v mend) = raise_of mend.fall
lift_of _ = 0

abbrev pub most_lift_of : List Lot → ℕ
most_lift_of [] = 0
most_lift_of (l ∷ lots) = max (lift_of l) (most_lift_of lots)

-- its bit 32 was made so that the parity is good, or wrong
abbrev pub says_good : Verdict → Bool
says_good verdict.Good = true
says_good _ = false

abbrev pub is_made_good : Lot → Bool
is_made_good (lot.Written e is_cut v mend) = says_good v
is_made_good _ = false

abbrev pub says_bad : Verdict → Bool
says_bad verdict.Bad = true
says_bad _ = false

abbrev pub is_made_bad : Lot → Bool
is_made_bad (lot.Written e is_cut v mend) = says_bad v
is_made_bad _ = false

-- ---- counts of these

-- the counts are those of lines of which this becomes
pub record AreCounts (n : Counts) (lots : List Lot) : Type 0 where
  pub lines : n.lines ≡ length lots
  pub entries : n.entries ≡ length (filter is_entry lots)
  pub on_a : n.on_a ≡ length (filter is_on_a lots)
  pub on_b : n.on_b ≡ length (filter is_on_b lots)
  pub skipped : n.skipped ≡ length (filter is_skipped lots)
  pub empty : n.empty ≡ length (filter is_empty lots)
  pub comments : n.comments ≡ length (filter is_remark lots)
  pub headings : n.headings ≡ length (filter is_heading lots)
  pub passed_rows : n.passed_rows ≡ length (filter is_passed_row lots)
  pub of_passed_channels : n.of_passed_channels ≡ length (filter is_of_passed_channel lots)
  pub repeats : n.repeats ≡ length (filter is_repeated lots)
  pub cut_times : n.cut_times ≡ length (filter is_cut_time lots)
  pub wraps : n.wraps ≡ length (filter is_wrap lots)
  pub resets : n.resets ≡ length (filter is_reset lots)
  pub lifted : n.lifted ≡ length (filter is_lifted lots)
  pub most_lift : n.most_lift ≡ most_lift_of lots
  pub made_good : n.made_good ≡ length (filter is_made_good lots)
  pub made_bad : n.made_bad ≡ length (filter is_made_bad lots)

-- ---- the lines

abbrev pub count_line : List ℕ → ℕ → List ℕ
count_line name count = name ++ decimal count ++ codes "\n"

-- a line only where there are some
abbrev pub some_line : List ℕ → ℕ → List ℕ
some_line name count = if count == 0 then [] else count_line name count

-- where words are turned, each is
abbrev pub turned_line : List ℕ → Bool → ℕ → List ℕ
turned_line name true count = some_line name count
turned_line name false count = []

abbrev pub lifted_text : ℕ → ℕ → List ℕ
lifted_text count most = codes "times lifted " ++ decimal count ++ codes " by at most " ++ decimal most ++ codes "\n"

abbrev pub lifted_line : ℕ → ℕ → List ℕ
lifted_line count most = if count == 0 then [] else lifted_text count most

abbrev pub made_text : ℕ → ℕ → List ℕ
made_text good bad = codes "bit 32 made: good " ++ decimal good ++ codes " bad " ++ decimal bad ++ codes "\n"

abbrev pub made_line : ℕ → ℕ → List ℕ
made_line good bad = if (good == 0) && (bad == 0) then [] else made_text good bad

-- the lines of the counts; a count that is mostly 0 has a line only where it is not
abbrev pub counts_text : Turning → Counts → List ℕ
counts_text t n =
    count_line (codes "entries ") n.entries
    ++ count_line (codes "on A ") n.on_a
    ++ count_line (codes "on B ") n.on_b
    ++ count_line (codes "lines ") n.lines
    ++ some_line (codes "lines skipped ") n.skipped
    ++ some_line (codes "empty lines ") n.empty
    ++ some_line (codes "comments ") n.comments
    ++ some_line (codes "lines up to the header ") n.headings
    ++ some_line (codes "rows passed over ") n.passed_rows
    ++ some_line (codes "rows of other channels ") n.of_passed_channels
    ++ some_line (codes "repeats left out ") n.repeats
    ++ some_line (codes "wraps undone ") n.wraps
    ++ some_line (codes "resets joined ") n.resets
    ++ some_line (codes "times cut to microseconds ") n.cut_times
    ++ turned_line (codes "words with bytes reversed ") t.bytes n.entries
    ++ turned_line (codes "words with labels reversed ") t.label n.entries
    ++ lifted_line n.lifted n.most_lift
    ++ made_line n.made_good n.made_bad
