-- What becomes of the entries of a recording, counted, and the lines that say it (profile).
use Rattle.std.specs.Prelude.{◌≡◌, ℕ, zero, suc, ◌<◌, Bool, true, false, ◌==◌, if◌then◌else◌, List, [], ◌∷◌, ◌++◌, length, filter, get_or, codes, Option, Some, None}
use Rattle.std.specs.Fmt.{decimal}
use Rattle.a429_word.specs.Digits.{numeral}
use Rattle.a429_side.specs.declared.lot.Lot.{Lot}
use Rattle.a429_side.specs.declared.lot.Lot.TheVariants.{Elsewhere, Kept, OfNone, OfOther, Renamed}
use Rattle.a429_side.specs.declared.lot.Side.{Side}
use Rattle.a429_side.specs.declared.counts.Counts.{Counts}
use Rattle.a429_side.specs.declared.counts.DestinationCount.{DestinationCount}

-- ---- some of the entries

abbrev pub is_written : Lot → Bool
is_written Kept = true
is_written Renamed = true
is_written OfNone = true
is_written OfOther = false
is_written (Elsewhere d r) = false

abbrev pub is_of_other : Lot → Bool
is_of_other OfOther = true
is_of_other _ = false

abbrev pub is_of_none : Lot → Bool
is_of_none OfNone = true
is_of_none _ = false

abbrev pub is_renamed : Lot → Bool
is_renamed Renamed = true
is_renamed _ = false

-- left out, as a word of this destination
abbrev pub is_at : ℕ → Lot → Bool
is_at d (Elsewhere e r) = e == d
is_at d _ = false

abbrev pub is_a_request : Lot → Bool
is_a_request (Elsewhere e r) = r
is_a_request _ = false

-- ---- counts of these

-- how many words there are, and how many of them are requests
abbrev pub IsDestinationCount : DestinationCount → List Lot → Type 0
IsDestinationCount h lots = (h.words ≡ length lots) × (h.requests ≡ length (filter is_a_request lots))

abbrev pub no_words : DestinationCount
no_words = record { words = 0; requests = 0 }

-- the words left out of each destination
pub record AreDestinations (counts : List DestinationCount) (lots : List Lot) : Type 0 where
  pub code_count : length counts ≡ 256
  pub each : (d : ℕ) → d < 256 → IsDestinationCount (get_or counts d no_words) (filter (is_at d) lots)

-- the counts are those of entries of which this becomes
pub record AreCounts (n : Counts) (lots : List Lot) : Type 0 where
  pub entries : n.entries ≡ length lots
  pub kept : n.kept ≡ length (filter is_written lots)
  pub of_other : n.of_other ≡ length (filter is_of_other lots)
  pub of_none : n.of_none ≡ length (filter is_of_none lots)
  pub renamed : n.renamed ≡ length (filter is_renamed lots)
  pub destinations : AreDestinations n.destinations lots

-- ---- the lines

abbrev pub count_line : List ℕ → ℕ → List ℕ
count_line name count = name ++ decimal count ++ codes "\n"

-- two hexadecimal digits
abbrev pub hex_pair : ℕ → List ℕ
hex_pair code = numeral 16 2 code

-- the line of a destination of which there are words
abbrev pub destination_line : ℕ → DestinationCount → List ℕ
destination_line code h = if h.words == 0 then [] else codes "destination " ++ hex_pair code ++ codes " requests " ++ decimal h.requests ++ codes " words " ++ decimal h.words ++ codes "\n"

-- the lines of the destinations below n, rising
unfoldable pub destination_lines : ℕ → List DestinationCount → List ℕ
destination_lines zero counts = []
destination_lines (suc n) counts = destination_lines n counts ++ destination_line n (get_or counts n no_words)

-- the line of the clear answers, where a code was given for them
abbrev pub renamed_line : Option ℕ → ℕ → List ℕ
renamed_line None count = []
renamed_line (Some code) count = count_line (codes "clear answers renamed ") count

abbrev pub counts_text : Side → Counts → List ℕ
counts_text s n =
    count_line (codes "entries ") n.entries
    ++ count_line (codes "kept ") n.kept
    ++ count_line (codes "other direction ") n.of_other
    ++ count_line (codes "no direction ") n.of_none
    ++ destination_lines 256 n.destinations
    ++ renamed_line s.answer n.renamed
