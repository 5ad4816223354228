-- What `upgrade` writes of a certificate, and what it answers (profile).
use Rattle.std.specs.Prelude.{◌≡◌, ◌++◌, ◌||◌, ℕ, List, [], ◌∷◌, length, take, drop, codes, Bool, true, false, if◌then◌else◌, Option, Some, None, IfSome}
use Rattle.std.specs.Str.{bytes_eq}
use Rattle.std.specs.Io.KnownBytes.{Consumes}
use Rattle.a429_word.specs.declared.tally.Tally.{Tally}
use Rattle.a429_word.specs.Tally.{unread}
use Rattle.a429_cert.specs.declared.version.Version.TheVariants.{One, Two}
use Rattle.a429_cert.specs.Version.{version_line}
use Rattle.a429_commands.specs.declared.fault.RunFault.TheVariants as run
use Rattle.a429_commands.specs.Ends.{PromiseOfFile}

-- ---- a certificate of version 2

-- the first line of a certificate of each version, with its line feed
abbrev pub version_one_line : List ℕ
version_one_line = version_line One ++ 10 ∷ []

abbrev pub version_two_line : List ℕ
version_two_line = version_line Two ++ 10 ∷ []

-- whether a text is such a line
abbrev pub is_version_line : List ℕ → Bool
is_version_line text = bytes_eq text version_one_line || bytes_eq text version_two_line

-- a certificate as one of version 2: after the first line all bytes are as they are; none where it begins with no such line
abbrev pub upgraded : List ℕ → Option (List ℕ)
upgraded bytes = if is_version_line (take 16 bytes) then Some (version_two_line ++ drop 16 bytes) else None

-- ---- what is written, reported and answered

abbrev pub upgrade_text : Option (List ℕ) → List ℕ
upgrade_text (Some new) = codes "UPGRADED\n"
upgrade_text None = codes "NO version\n"

abbrev pub upgrade_status : Option (List ℕ) → ℕ
upgrade_status (Some new) = 0
upgrade_status None = 2

-- ---- what is read

-- this holds of the bytes, where they are known, and else of some
abbrev pub OfKnown : Option (List ℕ) → (List ℕ → Type 0) → Type 0
OfKnown known Holds = (bytes : List ℕ) × IfSome known (λ xs. xs ≡ bytes) × Holds bytes

-- this holds of the bytes that are still in a reader; where they are not known, of some bytes
abbrev pub OfUnread : {R : Type 0} → (R → Option (List ℕ)) → Tally R → (List ℕ → Type 0) → Type 0
OfUnread remaining rec Holds = OfKnown (unread remaining rec) Holds

-- whether a certificate begins with the line of a version: then the line was read, and what comes after it is still to come
abbrev pub TakesVersion : Option (List ℕ) → Option (List ℕ) → Bool → Type 0
TakesVersion old new true = (line : List ℕ) × (is_version_line line ≡ true) × (length line ≡ 16) × Consumes old new line
TakesVersion old new false = IfSome old (λ bytes. upgraded bytes ≡ None)

-- ---- how it ends

-- the certificate is one of which this is the upgraded one, or which has none; its reader has not failed; and this is the answer
pub record TellsUpgrade (cert : Option (List ℕ)) (failed : Bool) (new : Option (List ℕ)) (status : ℕ) (text : List ℕ) : Type 0 where
  pub of : OfKnown cert (λ bytes. new ≡ upgraded bytes)
  pub works : failed ≡ false
  pub status_is : status ≡ upgrade_status new
  pub text_is : text ≡ upgrade_text new

-- the new certificate is written first, if there is one, and then it is reported; a certificate that is not read to its end breaks it off
abbrev pub of_upgrade : Option (List ℕ) → Bool → PromiseOfFile
of_upgrade cert failed = record {
  after = λ new. record {
    says = TellsUpgrade cert failed new;
    stops = λ e text. ⊥;
    begins = λ text. (status : ℕ) × TellsUpgrade cert failed new status text;
    refuses = λ e. (new ≡ None) × (e ≡ run.Device) × (failed ≡ true);
  };
  breaks = λ text. OfKnown cert (λ bytes. upgraded bytes ≡ Some text);
  other = failed ≡ true;
}
