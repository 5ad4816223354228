-- The recording of a run without loss (profile).
use Rattle.std.specs.Prelude.{◌≡◌, ◌≤◌, ◌<◌, ℕ, List, All, None}
use Rattle.std.specs.List.{AllByRecursion}
use Rattle.a429_profile.specs.Profile.{Contents}
use Rattle.a429_link.specs.declared.seen.Seen.{Seen}
use Rattle.a429_link.specs.Clean.{without_free, clean_words, first_refused}

-- files that cross: the number of the first, how many words a link data unit has at most, and the bytes of each
pub record Crossing : Type 0 where
  pub first : ℕ
  pub max_words : ℕ
  pub files : List (List ℕ)

-- these numbers are in their ranges, and none of the files is refused: each has bytes, and not too many
pub record CanCross (x : Crossing) : Type 0 where
  pub byte : x.first ≤ 255
  pub least : 3 ≤ x.max_words
  pub most : x.max_words ≤ 255
  pub bytes : AllByRecursion (All (λ b. b < 256)) x.files
  pub cut : first_refused x.max_words 0 x.files ≡ None

-- the words that are not free are those of files that cross without loss: each of their link data units is asked for,
-- cleared, sent and acknowledged once
pub record IsWithoutLoss (p : Contents) (items : List Seen) : Type 0 where
  pub crossing : Crossing
  pub can : CanCross crossing
  pub words : without_free p.codes items ≡ clean_words p crossing.max_words crossing.first crossing.files
