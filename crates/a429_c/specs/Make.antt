-- The recording of a transfer of files without loss (profile).
use Rattle.std.specs.Prelude.{◌≡◌, ◌≤◌, ◌+◌, ◌*◌, ℕ, List, [], ◌∷◌, length, map}
use Rattle.std.specs.List.{flat_map}
use Rattle.a429_profile.specs.Profile.{Contents}
use Rattle.a429_link.specs.declared.seen.Seen.{Seen}
use Rattle.a429_link.specs.Clean.{clean_words, CarriesFiles}
use Rattle.a429_record.specs.declared.entry.Entry.{Entry}
use Rattle.a429_record.specs.Recording.{most_entries}
use Rattle.a429_record.specs.Writing.{written_form}
use Rattle.a429_c.specs.Input.{IsProfileOf}

-- words as entries of a recording, a thousandth of a second apart, the first at i of these
abbrev pub timed : ℕ → List Seen → List Entry
timed i [] = []
timed i (s ∷ items) = record { time = 1000 * i; bus = s.bus; word = s.word } ∷ timed (i + 1) items

-- the bytes of files, one after the other, and how long each is
pub record AreFiles (bytes lengths : List ℕ) (files : List (List ℕ)) : Type 0 where
  pub joined : flat_map (λ f. f) files ≡ bytes
  pub long : map length files ≡ lengths

-- under a profile that was read, the text records a run that carries the files: the first has number 1, and a link data unit has at most 255 words
pub record RecordsUnder (p : Contents) (files : List (List ℕ)) (text : List ℕ) : Type 0 where
  pub carries : CarriesFiles p 255 1 files
  pub room : length (clean_words p 255 1 files) ≤ most_entries
  pub is : text ≡ written_form (timed 0 (clean_words p 255 1 files))

-- the same by the profile that these bytes are the text of, and of the files that these bytes and lengths are
pub record IsRecordingOf (profile bytes lengths text : List ℕ) : Type 0 where
  pub contents : Contents
  pub files : List (List ℕ)
  pub is_profile : IsProfileOf profile contents
  pub are_files : AreFiles bytes lengths files
  pub records : RecordsUnder contents files text
