-- The bytes that data words carry (ARINC 429 Part 3; the order of the semi-octets is this project's choice, profile).
use Rattle.std.specs.Prelude.{ℕ, ◌+◌, ◌*◌, ◌≤◌, ◌≡◌, Option, Some, None, option_map, option_and_then, List, [], ◌∷◌, ◌++◌, length, unwrap_or}
use Rattle.std.specs.List.{concat}
use Rattle.std.specs.Option.{option_to_list}
use Rattle.a429_word.specs.declared.bus.Bus.TheVariants as bus
use Rattle.a429_profile.specs.declared.codes.Codes.{Codes}
use Rattle.a429_ldu.specs.declared.forms.Form.{Form}
use Rattle.a429_ldu.specs.declared.forms.Form.TheVariants.{Part}
use Rattle.a429_ldu.specs.Semis.{semis_of_bytes}
use Rattle.a429_ldu.specs.Form.{IsForm, form_of}

-- semi-octets, joined in order, are those of bytes, of which there is at least one
pub record Carries (semis : List (List ℕ)) (bytes : List ℕ) : Type 0 where
  pub some : 1 ≤ length bytes
  pub semi_octets : concat semis ≡ semis_of_bytes bytes

-- each word is the data word of bus A with these semi-octets
abbrev pub AreDataWords : Codes → List ℕ → List (List ℕ) → Type 0
AreDataWords c [] [] = Unit {0}
AreDataWords c (w ∷ ws) (s ∷ ss) = IsForm c bus.A w (Part s) × AreDataWords c ws ss
AreDataWords c _ _ = ⊥

-- words carry bytes
pub record CarryBytes (c : Codes) (ws : List ℕ) (bytes : List ℕ) : Type 0 where
  pub semis : List (List ℕ)
  pub words : AreDataWords c ws semis
  pub carries : Carries semis bytes

-- ---- the same, computed; that it is the same is proved for the codes of each profile

abbrev pub semis_in : Option Form → Option (List ℕ)
semis_in (Some (Part semis)) = Some semis
semis_in _ = None

abbrev pub joined_to : Option (List ℕ) → Option (List ℕ) → Option (List ℕ)
joined_to (Some xs) (Some ys) = Some (xs ++ ys)
joined_to _ _ = None

-- the semi-octets of data words
abbrev pub semis_of_words : Codes → List ℕ → Option (List ℕ)
semis_of_words c [] = Some []
semis_of_words c (w ∷ ws) = joined_to (semis_in (form_of c bus.A w)) (semis_of_words c ws)

-- how many they are; 0 where a word is no data word of bus A
abbrev pub semis_in_words : Codes → List ℕ → ℕ
semis_in_words c words = length (unwrap_or (semis_of_words c words) [])

-- the semi-octets of bytes, and one that waits for its byte
abbrev pub semis_held : List ℕ → Option ℕ → List ℕ
semis_held bytes low = semis_of_bytes bytes ++ option_to_list low

-- each word is a data word of bus A, and with their semi-octets the bytes and the semi-octet that were held become these
abbrev pub AddSemis : Codes → List ℕ → List ℕ → List ℕ → Type 0
AddSemis c words old new = joined_to (Some old) (semis_of_words c words) ≡ Some new

-- how many semi-octets that is
abbrev pub semis_count : ℕ → Option ℕ → ℕ
semis_count bytes low = 2 * bytes + length (option_to_list low)

-- the bytes of semi-octets
abbrev pub paired : List ℕ → Option (List ℕ)
paired [] = Some []
paired (low ∷ []) = None
paired (low ∷ high ∷ rest) = option_map (λ bytes. (low + 16 * high) ∷ bytes) (paired rest)

abbrev pub if_some : Option (List ℕ) → Option (List ℕ)
if_some (Some (b ∷ bs)) = Some (b ∷ bs)
if_some _ = None

-- none where a word is no data word of bus A, or the semi-octets are odd in number, or there are none
abbrev pub bytes_carried : Codes → List ℕ → Option (List ℕ)
bytes_carried c ws = if_some (option_and_then paired (semis_of_words c ws))

-- the bytes that data words carry, none where they carry none
abbrev pub bytes_in : Codes → List ℕ → List ℕ
bytes_in c words = unwrap_or (bytes_carried c words) []
