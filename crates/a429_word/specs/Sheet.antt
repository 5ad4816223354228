-- What a sheet of output says: what was put on it, and what the output has of that (profile).
use Rattle.std.specs.Prelude.{◌≡◌, ℕ, List, ◌++◌, Option, Bool, true, false}
use Rattle.std.specs.Io.KnownBytes.{Appends, Keeps}
use Rattle.a429_word.specs.declared.sheet.Sheet.{Sheet}
use Rattle.a429_word.specs.declared.tally.Tally.{Tally}
use Rattle.a429_word.specs.Tally.{inner_of, has_failed, AppendsPrefix, Puts, PutsFront}
use Rattle.a429_word.specs.Page.{paged}

-- the bytes that the output has
abbrev pub written : {W : Type 0} → (W → Option (List ℕ)) → Sheet W → Option (List ℕ)
written contents s = contents (inner_of s.out.now)

-- and then those that wait on the page: all that was put
abbrev pub all_put : {W : Type 0} → (W → Option (List ℕ)) → Sheet W → Option (List ℕ)
all_put contents s = paged contents s.out.now s.page.now

-- nothing waits: the output has all that was put
abbrev pub IsWritten : {W : Type 0} → (W → Option (List ℕ)) → Sheet W → Type 0
IsWritten contents s = Keeps (all_put contents s) (written contents s)

-- the sheet has failed: its output has
abbrev pub sheet_failed : {W : Type 0} → Sheet W → Bool
sheet_failed s = has_failed s.out.now

-- a text was put on a sheet
pub record IsPut {W : Type 0} (contents : W → Option (List ℕ)) (old new : Sheet W) (text : List ℕ) : Type 0 where
  -- it is a sheet of the same output and the same page
  pub same_out : new.out.ghost_name ≡ old.out.ghost_name
  pub same_page : new.page.ghost_name ≡ old.page.ghost_name
  -- where it has not failed, the text comes after all that was put before
  pub all : sheet_failed new ≡ false → Appends (all_put contents old) (all_put contents new) text
  -- and in any case the output has gained a prefix, at most, of what waited and of the text
  pub prefix : AppendsPrefix (written contents old) (written contents new) (old.page.now ++ text)
  -- where it had failed before, nothing was written
  pub stays : sheet_failed old ≡ true → new.out.now ≡ old.out.now

-- a sheet says this text: the same, as one fact, so that a search does not open it
pub data Says {W : Type 0} (contents : W → Option (List ℕ)) (old new : Sheet W) (text : List ℕ) : Type 0 where
  said : IsPut contents old new text → Says contents old new text

-- a sheet says some text that is such
abbrev pub SaysSome : {W : Type 0} → (W → Option (List ℕ)) → Sheet W → Sheet W → (List ℕ → Type 0) → Type 0
SaysSome contents old new IsSuch = (text : List ℕ) × IsSuch text × Says contents old new text

-- a text was written to an output: all of it where the output has not failed, and in any case a prefix of it, at most; nothing where it had
-- failed before
pub record Writes {W : Type 0} (contents : W → Option (List ℕ)) (old new : Tally W) (text : List ℕ) : Type 0 where
  pub all : has_failed new ≡ false → Puts contents old new text
  pub prefix : PutsFront contents old new text
  pub stays : has_failed old ≡ true → new ≡ old
