-- The link data unit of a group of which no attempt was recorded whole (profile): the data words of the last attempt
-- that recorded any, and filler words after them.
use Rattle.std.specs.Prelude.{ℕ, zero, suc, ◌-◌, ◌%◌, ◌==◌, Bool, true, false, ◌||◌, if◌then◌else◌, Option, Some, None, unwrap_or, List, [], ◌∷◌, ◌++◌, length}
use Rattle.std.specs.Option.{option_or}
use Rattle.a429_profile.specs.declared.codes.Codes.{Codes}
use Rattle.a429_profile.specs.Profile.{Contents}
use Rattle.a429_ldu.specs.declared.forms.Form.{Form}
use Rattle.a429_ldu.specs.declared.forms.Form.TheVariants.{Rts, Sot, Part, Eot}
use Rattle.a429_ldu.specs.Form.{form_of, word_number}
use Rattle.a429_ldu.specs.Carried.{semis_of_words, bytes_in}
use Rattle.a429_ldu.specs.CheckWord.{check_of}
use Rattle.a429_ldu.specs.Ldu.{LduValue}
use Rattle.a429_link.specs.declared.seen.Seen.{Seen}
use Rattle.a429_explain.specs.Whole.{ends_with, nothing_yet, unit_made, first_whole}

-- ---- what was recorded

-- an end word is one of these words
abbrev pub is_end : Option Form → Bool
is_end (Some (Eot flags check)) = true
is_end _ = false

abbrev pub has_end : Codes → List Seen → Bool
has_end c [] = false
has_end c (i ∷ items) = is_end (form_of c i.bus i.word) || has_end c items

-- the general format identifier of the first start word, or 0
abbrev pub gfi_of : Option Form → Option ℕ
gfi_of (Some (Sot gfi file ldu)) = Some gfi
gfi_of _ = None

abbrev pub first_gfi : Codes → List Seen → ℕ
first_gfi c [] = 0
first_gfi c (i ∷ items) = unwrap_or (gfi_of (form_of c i.bus i.word)) (first_gfi c items)

-- the data words of the last attempt that recorded any, and whether the next one is the first of its attempt
pub record Last : Type 0 where
  pub begins : Bool
  pub words : List ℕ

abbrev pub none_yet : Last
none_yet = record { begins = true; words = [] }

-- with one more word of this form; an attempt begins at each request
abbrev pub last_with : Option Form → ℕ → Last → Last
last_with (Some (Rts n)) word l = record { begins = true; words = l.words }
last_with (Some (Part semis)) word l = record { begins = false; words = (if l.begins then [] else l.words) ++ word ∷ [] }
last_with _ word l = l

-- those of these words, of which so much was recorded before them
abbrev pub last_data : Codes → List Seen → Last → List ℕ
last_data c [] l = l.words
last_data c (i ∷ items) l = last_data c items (last_with (form_of c i.bus i.word) i.word l)

-- ---- what is added

-- the semi-octets of data words are odd in number
abbrev pub are_odd : Codes → List ℕ → Bool
are_odd c words = length (unwrap_or (semis_of_words c words) []) % 2 == 1

-- the semi-octets of a filler word that so many more follow: two zeros, but in the last one a single zero, where all
-- others are odd in number
abbrev pub zeros : Bool → ℕ → List ℕ
zeros true zero = 0 ∷ []
zeros _ _ = 0 ∷ 0 ∷ []

-- so many filler words
abbrev pub fillers : Codes → Bool → ℕ → List ℕ
fillers c odd zero = []
fillers c odd (suc n) = word_number c (Part (zeros odd n)) ∷ fillers c odd n

-- data words, and filler words up to as many as a block of so many words has between its start and its end word
abbrev pub filled_up : Codes → ℕ → List ℕ → List ℕ
filled_up c wants words = words ++ fillers c (are_odd c words) (wants - 2 - length words)

-- the link data unit of data words: flags 0 and the check word of their bytes. None where they carry none, or are not
-- as many as such a block has
abbrev pub unit_filled : Contents → ℕ → ℕ → List ℕ → Option LduValue
unit_filled p wants gfi words = unit_made p wants (ends_with (Some gfi) 0 (check_of p.check (bytes_in p.codes words))) words

-- that of a group whose requests ask for so many words; none where an end word was recorded
abbrev pub filled : Contents → ℕ → List Seen → Option LduValue
filled p wants items = if has_end p.codes items then None else unit_filled p wants (first_gfi p.codes items) (filled_up p.codes wants (last_data p.codes items none_yet))

-- the link data unit of a group: that of its first whole attempt, or else the filled one
abbrev pub group_unit : Contents → ℕ → List Seen → Option LduValue
group_unit p wants items = option_or (first_whole p wants items nothing_yet) (filled p wants items)
