-- Data words that are filled up with others, so that they make a block (profile).
use Rattle.std.specs.Prelude.{◌≡◌, ◌⊎◌, ◌<◌, ℕ, zero, suc, ◌-◌, ◌/◌, ◌%◌, List, [], ◌∷◌, ◌++◌, length, replicate, Option, Some, IfSome}
use Rattle.a429_profile.specs.declared.codes.Codes.{Codes}
use Rattle.a429_profile.specs.Profile.{Contents}
use Rattle.a429_ldu.specs.declared.forms.Form.TheVariants.{Part}
use Rattle.a429_ldu.specs.Semis.{AreSemis}
use Rattle.a429_ldu.specs.Form.{word_number}
use Rattle.a429_ldu.specs.Carried.{bytes_carried}
use Rattle.a429_ldu.specs.CheckWord.{check_of}
use Rattle.a429_link.specs.Run.{IsSubsequenceOf}
use Rattle.a429_merge.specs.Order.{HasEach}

-- data words carry bytes, with this check word where one is wanted
pub record Fits (p : Contents) (wanted : Option ℕ) (words : List ℕ) : Type 0 where
  pub bytes : List ℕ
  pub carried : bytes_carried p.codes words ≡ Some bytes
  pub check : IfSome wanted (λ k. check_of p.check bytes ≡ k)

-- so many data words that fit, and have these in their order
pub record IsFilled (p : Contents) (count : ℕ) (wanted : Option ℕ) (recorded words : List ℕ) : Type 0 where
  pub long : length words ≡ count
  pub kept : IsSubsequenceOf recorded words
  pub fits : Fits p wanted words

-- so many data words that fit, and have those of each attempt in their order
pub record AreDataOf (p : Contents) (count : ℕ) (wanted : Option ℕ) (attempts : List (List ℕ)) (words : List ℕ) : Type 0 where
  pub long : length words ≡ count
  pub each : HasEach words attempts
  pub fits : Fits p wanted words

-- so many semi-octets of a number, four bits each, the lowest first
abbrev pub semis_of_number : ℕ → ℕ → List ℕ
semis_of_number zero n = []
semis_of_number (suc k) n = n % 16 ∷ semis_of_number k (n / 16)

-- the data word with these semi-octets
abbrev pub data_word : Codes → List ℕ → ℕ
data_word c semis = word_number c (Part semis)

-- no data word before the others makes them fit
abbrev pub HasNoFreeWord : Contents → Option ℕ → List ℕ → Type 0
HasNoFreeWord p wanted rest = (semis : List ℕ) → AreSemis semis → ¬ Fits p wanted (data_word p.codes semis ∷ rest)

-- one with two semi-octets 0
abbrev pub filler : Codes → ℕ
filler c = data_word c (0 ∷ 0 ∷ [])

-- recorded words, and fillers up to one fewer than so many words: one more word comes before them
abbrev pub rest_filled : Codes → ℕ → List ℕ → List ℕ
rest_filled c count recorded = recorded ++ replicate (count - 1 - length recorded) (filler c)

-- a data word before the others makes them fit
pub record HasFreeWord (p : Contents) (wanted : Option ℕ) (rest : List ℕ) : Type 0 where
  pub semis : List ℕ
  pub are : AreSemis semis
  pub fits : Fits p wanted (data_word p.codes semis ∷ rest)

-- recorded words are filled up to so many that fit: as they are, or with a free word before them and fillers after them
abbrev pub CanBeFilled : Contents → ℕ → Option ℕ → List ℕ → Type 0
CanBeFilled p count wanted recorded = ((length recorded ≡ count) × Fits p wanted recorded) ⊎ ((length recorded < count) × HasFreeWord p wanted (rest_filled p.codes count recorded))

-- two data words of one semi-octet each, and so of one byte together, have the recorded ones in their order, and fit
pub record HasOneByte (p : Contents) (wanted : Option ℕ) (recorded : List ℕ) : Type 0 where
  pub low : ℕ
  pub is_low : low < 16
  pub high : ℕ
  pub is_high : high < 16
  pub kept : IsSubsequenceOf recorded (data_word p.codes (low ∷ []) ∷ data_word p.codes (high ∷ []) ∷ [])
  pub fits : Fits p wanted (data_word p.codes (low ∷ []) ∷ data_word p.codes (high ∷ []) ∷ [])

-- recorded words are completed to so many that fit: filled up, or, where two are wanted, to two of one byte together
abbrev pub CanBeCompleted : Contents → ℕ → Option ℕ → List ℕ → Type 0
CanBeCompleted p count wanted recorded = CanBeFilled p count wanted recorded ⊎ ((count ≡ 2) × (length recorded < 2) × HasOneByte p wanted recorded)
