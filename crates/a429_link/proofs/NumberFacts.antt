-- The number of a link data unit, and the one that comes next.
use Rattle.std.proofs.Common.{◌≡◌, ℕ, ◌+◌, ◌%◌, ◌≤◌, min, Bool, true, false, eqb, refl, ap, ◌∙◌, arith, eq-eqb}
use Rattle.std.proofs.lemmas.Bool.{and_from, and_left, and_right, ne_eqb}
use Rattle.a429_profile.specs.declared.codes.Codes.{Codes}
use Rattle.a429_link.specs.declared.number.UnitNumber.{UnitNumber}
use Rattle.a429_link.specs.Number.{begins_file, files_past, first_number, is_number, next_number}

-- a number that may be loaded is below the one that stops the counting
pub next_ldu : (l : ℕ) → l ≤ 255 → min (l + 1) 256 ≡ l + 1
next_ldu l h = omega arith

pub number_same : (n : UnitNumber) → is_number n n ≡ true
number_same n = and_from (eqb n.file n.file) (eqb n.ldu n.ldu) (eq-eqb n.file n.file refl) (eq-eqb n.ldu n.ldu refl)

-- the number that comes next is another
pub next_other : (c : Codes) (n : UnitNumber) (final : Bool) → n.ldu ≤ 255 → is_number n (next_number c n final) ≡ false
next_other c n true h = and_left _ _ (ne_eqb n.file ((n.file + 1) % 256) (λ e. omega arith))
next_other c n false h = and_right _ _ (ne_eqb n.ldu (min (n.ldu + 1) 256) (λ e. omega arith))

-- its file's number is a byte
pub next_byte : (c : Codes) (n : UnitNumber) (final : Bool) → n.file ≤ 255 → (next_number c n final).file ≤ 255
next_byte c n true h = omega arith
next_byte c n false h = h

-- a file that is 1 to 128 past is another
pub other_file : (file d : ℕ) → 1 ≤ d → d ≤ 128 → file ≡ (file + d) % 256 → ⊥
other_file file d low high e = omega arith

-- the next file is one past
past_next : (file : ℕ) → file ≤ 255 → files_past ((file + 1) % 256) file ≡ 1
past_next file h = omega arith

pub next_begins : (c : Codes) (n : UnitNumber) → n.file ≤ 255 → begins_file c n (first_number c ((n.file + 1) % 256)) ≡ true
next_begins c n h = rw (eq-eqb c.first_ldu c.first_ldu refl) (rw (past_next n.file h) refl)

-- two numbers are the same by their parts
pub number_from : (m n : UnitNumber) → m.file ≡ n.file → m.ldu ≡ n.ldu → m ≡ n
number_from m n f l = ap (λ (x : ℕ). of x m.ldu) f ∙ ap (λ (x : ℕ). of n.file x) l
  where
    of : ℕ → ℕ → UnitNumber
    of file ldu = record { file = file; ldu = ldu }
