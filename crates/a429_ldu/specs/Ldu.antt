-- Link data units (ARINC 429 Part 3; their lengths are this project's choice, profile).
use Rattle.std.specs.Prelude.{ℕ, ◌+◌, ◌-◌, ◌≤◌, ◌≡◌, ◌≢◌, ◌==◌, Bool, true, List, [], ◌∷◌, ◌++◌, length, Some}
use Rattle.std.specs.Int.{bit_at}
use Rattle.a429_profile.specs.declared.codes.Codes.{Codes}
use Rattle.a429_profile.specs.Profile.{Contents}
use Rattle.a429_ldu.specs.declared.forms.Form.TheVariants.{Sot, Eot}
use Rattle.a429_ldu.specs.declared.fault.LduFault.{LduFault}
use Rattle.a429_ldu.specs.declared.fault.LduFault.TheVariants.{Count, NotBytes, CheckWrong, OutOfMemory}
use Rattle.a429_ldu.specs.Form.{word_number}
use Rattle.a429_ldu.specs.Carried.{CarryBytes, bytes_carried, bytes_in}
use Rattle.a429_ldu.specs.CheckWord.{check_of}

-- what a link data unit says: its general format identifier, its flags, its check word and its data words
pub record LduValue : Type 0 where
  pub gfi : ℕ
  pub flags : ℕ
  pub check : ℕ
  pub words : List ℕ

-- the one with these
abbrev pub ldu_of : ℕ → ℕ → ℕ → List ℕ → LduValue
ldu_of gfi flags check words = record { gfi = gfi; flags = flags; check = check; words = words }

-- how many words its block has: a start word, the data words and an end word
abbrev pub count_of : LduValue → ℕ
count_of u = length u.words + 2

-- its block under a file number and a number of its own
abbrev pub block_of : Codes → LduValue → ℕ → ℕ → List ℕ
block_of c u file ldu = word_number c (Sot u.gfi file ldu) ∷ u.words ++ word_number c (Eot u.flags u.check) ∷ []

-- the most data words that it has, and the most bytes: 255 words in all (profile)
abbrev pub most_data_words : ℕ
most_data_words = 253

abbrev pub most_unit_bytes : ℕ
most_unit_bytes = 632

-- data words of one link data unit
abbrev pub HasLength : List ℕ → Type 0
HasLength words = (1 ≤ length words) × (length words ≤ most_data_words)

-- bytes of one link data unit
abbrev pub HasUnitBytes : List ℕ → Type 0
HasUnitBytes bytes = (1 ≤ length bytes) × (length bytes ≤ most_unit_bytes)

-- a link data unit of a profile
pub record IsLdu (p : Contents) (u : LduValue) : Type 0 where
  pub gfi : u.gfi ≤ 15
  pub flags : u.flags ≤ 15
  pub check : u.check ≤ 65535
  pub length : HasLength u.words
  pub bytes : List ℕ
  pub carries : bytes_carried p.codes u.words ≡ Some bytes
  -- the check word is that of its bytes, unless the profile compares none
  pub checked : p.check.compare ≡ true → u.check ≡ check_of p.check bytes

-- data words and a check word make none, and this is the first reason
abbrev pub IsFirstLduFault : Contents → ℕ → List ℕ → LduFault → Type 0
IsFirstLduFault p check words Count = ¬ HasLength words
IsFirstLduFault p check words NotBytes = HasLength words × ((bytes : List ℕ) → ¬ CarryBytes p.codes words bytes)
IsFirstLduFault p check words CheckWrong = HasLength words × (bytes : List ℕ) × CarryBytes p.codes words bytes × (p.check.compare ≡ true) × (check ≢ check_of p.check bytes)
IsFirstLduFault p check words OutOfMemory = ⊥

-- the bytes of a link data unit
abbrev pub bytes_of : Codes → LduValue → List ℕ
bytes_of c u = bytes_in c u.words

-- flags, whose lowest bit is bit 25 of the end word, say that a file ends
abbrev pub is_final : Codes → ℕ → Bool
is_final c flags = bit_at flags (c.final_bit - 25) == 1
