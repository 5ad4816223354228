-- Shelves of the sink, and how far the source is past what the sink accepted last.
use Rattle.std.proofs.Common.{◌≡◌, ◌⊎◌, ℕ, suc, ◌+◌, ◌*◌, ◌%◌, ◌≤◌, Bool, true, false, cond, eqb, List, [], ◌∷◌, ◌++◌, length, Option, Some, None, refl, sym, ap, ◌∙◌, subst, inl, inr, arith, length-append, eqb-true}
use Rattle.std.proofs.lemmas.Bool.{and_left, and_right, ne_eqb}
use Rattle.a429_link.proofs.Subsequence.{sub_lost, sub_push}
use Rattle.a429_link.specs.Run.{IsNear, IsSubsequenceOf, newest}
use Rattle.a429_link.specs.Sink.{emptied, Number, Received, is_same, is_same_file, put, received_for}
use Rattle.a429_link.specs.declared.file.FileBytes.{FileBytes}
use Rattle.a429_profile.specs.declared.codes.Codes.{Codes}
use Rattle.a429_link.specs.declared.number.UnitNumber.{UnitNumber}
use Rattle.a429_link.specs.Number.{first_number, next_number}
use Rattle.a429_link.proofs.NumberFacts.{next_ldu, other_file}

-- ---- shelves

-- a link data unit that is put on both
pub put_both : (file : ℕ) (bytes : List ℕ) (t : Bool) (a b : Received)
    → IsSubsequenceOf a.files b.files → a.open_bytes ≡ b.open_bytes → IsSubsequenceOf (put file bytes t a).files (put file bytes t b).files
put_both file bytes true a b h e =
    subst (λ x. IsSubsequenceOf (a.files ++ record { number = file; bytes = a.open_bytes ++ bytes } ∷ [])
    (b.files ++ record { number = file; bytes = x ++ bytes } ∷ [])) e (sub_push _ a.files b.files h)
put_both file bytes false a b h e = h

-- one that is put on the second
pub put_second : (file : ℕ) (bytes : List ℕ) (t : Bool) (xs : List FileBytes) (b : Received)
    → IsSubsequenceOf xs b.files → IsSubsequenceOf xs (put file bytes t b).files
put_second file bytes true xs b h = sub_lost _ xs b.files h
put_second file bytes false xs b h = h

pub put_open : (file : ℕ) (bytes : List ℕ) (t : Bool) (a b : Received)
    → a.open_bytes ≡ b.open_bytes → (put file bytes t a).open_bytes ≡ (put file bytes t b).open_bytes
put_open file bytes true a b e = refl
put_open file bytes false a b e = ap (λ x. x ++ bytes) e

pub put_closed : (file : ℕ) (bytes : List ℕ) (t : Bool) (s : Received) → t ≡ true → (put file bytes t s).open_bytes ≡ []
put_closed file bytes true s e = refl
put_closed file bytes false s e = absurd (cc e)

pub put_room : (file : ℕ) (bytes : List ℕ) (t : Bool) (s : Received)
    → length (put file bytes t s).open_bytes ≤ length s.open_bytes + length bytes
put_room file bytes true s = omega arith
put_room file bytes false s = omega (arith, length-append s.open_bytes bytes)

pub newest_push : (x : FileBytes) (xs : List FileBytes) → newest (xs ++ x ∷ []) ≡ x ∷ []
newest_push x [] = refl
newest_push x (y ∷ []) = refl
newest_push x (y ∷ (z ∷ zs)) = newest_push x (z ∷ zs)

-- what is settled once the link data unit is acknowledged
pub put_settled : (file : ℕ) (bytes : List ℕ) (t : Bool) (a b : Received) (fs : List FileBytes) → IsSubsequenceOf fs a.files
    → a.open_bytes ≡ b.open_bytes → IsSubsequenceOf (cond t (fs ++ newest (put file bytes t b).files) fs) (put file bytes t a).files
put_settled file bytes true a b fs h e =
    let z : FileBytes = record { number = file; bytes = b.open_bytes ++ bytes } in
    let same = ap (λ x. a.files ++ record { number = file; bytes = x ++ bytes } ∷ []) e in
    subst (λ l. IsSubsequenceOf (fs ++ l) (put file bytes true a).files) (sym (newest_push z b.files))
    (subst (λ l. IsSubsequenceOf (fs ++ z ∷ []) l) (sym same) (sub_push z fs a.files h))
put_settled file bytes false a b fs h e = h

pub received_for_files : (last : Option Number) (file : ℕ) (s : Received) → (received_for last file s).files ≡ s.files
received_for_files last file s = by_file (is_same_file last file)
  where
    by_file : (t : Bool) → (cond t s (emptied s)).files ≡ s.files
    by_file true = refl
    by_file false = refl

pub received_for_nothing : (last : Option Number) (file : ℕ) (s : Received) → s.open_bytes ≡ [] → (received_for last file s).open_bytes ≡ []
received_for_nothing last file s e = by_file (is_same_file last file)
  where
    by_file : (t : Bool) → (cond t s (emptied s)).open_bytes ≡ []
    by_file true = e
    by_file false = refl

-- ---- how far the source is past what was accepted last

-- it is later in the same file, or in a file that is as many past as were given up, and one
abbrev pub Past : Option Number → UnitNumber → ℕ → Type 0
Past None n g = Unit {0}
Past (Some last) n g = ((n.file ≡ last.number.file) × (suc last.number.ldu ≤ n.ldu))
    ⊎ ((d : ℕ) × (1 ≤ d) × (d ≤ suc g) × (n.file ≡ (last.number.file + d) % 256))

pub past_new : (last : Option Number) (n : UnitNumber) (g : ℕ) → g ≤ 127 → Past last n g → is_same last n ≡ false
past_new None n g l h = refl
past_new (Some last) n g l (inl h) = and_right _ _ (ne_eqb last.number.ldu n.ldu (λ e. omega (arith, h.1)))
past_new (Some last) n g l (inr (d, a, b, e)) =
    and_left _ _ (ne_eqb last.number.file n.file (λ q. other_file last.number.file d a (omega arith) (q ∙ e)))

pub past_given_up : (c : Codes) (last : Option Number) (n : UnitNumber) (g : ℕ)
    → Past last n g → Past last (first_number c ((n.file + 1) % 256)) (suc g)
past_given_up c None n g h = tt
past_given_up c (Some last) n g (inl (e, q)) = inr (1, omega arith, omega arith, ap (λ x. (x + 1) % 256) e)
past_given_up c (Some last) n g (inr (d, a, b, e)) = inr (suc d, omega arith, omega arith, omega arith)

-- what the sink has of a file that is given up is not of the next one
pub past_emptied : (last : Option Number) (n : UnitNumber) (g : ℕ) (s : Received)
    → g ≤ 126 → Past last n g → (received_for last ((n.file + 1) % 256) s).open_bytes ≡ []
past_emptied None n g s l h = refl
past_emptied (Some last) n g s l h = by_file (eqb last.number.file ((n.file + 1) % 256)) refl
  where
    far : Past (Some last) n g → last.number.file ≡ (n.file + 1) % 256 → ⊥
    far (inl (e, q)) r = other_file last.number.file 1 (omega arith) (omega arith) (r ∙ ap (λ x. (x + 1) % 256) e)
    far (inr (d, a, b, e)) r = omega arith

    by_file : (t : Bool) → eqb last.number.file ((n.file + 1) % 256) ≡ t → (cond t s (emptied s)).open_bytes ≡ []
    by_file true e = absurd (far h (eqb-true last.number.file ((n.file + 1) % 256) e))
    by_file false e = refl

-- at the link data unit behind the one accepted last
pub past_next : (c : Codes) (n : UnitNumber) (t : Bool) → n.ldu ≤ 255 → Past (Some (record { number = n; final = t })) (next_number c n t) 0
past_next c n true l = inr (1, omega arith, omega arith, refl)
past_next c n false l = inl (refl, omega (arith, next_ldu n.ldu l))

-- the number accepted last is one of a file's 255, and the file that is not whole has at most the bytes of those up to it
pub record LastFits (first : ℕ) (last : Number) (bytes : List ℕ) : Type 0 where
  pub byte : last.number.file ≤ 255
  pub room : last.number.ldu ≤ first + 254
  pub most : length bytes + 632 * first ≤ 632 * (last.number.ldu + 1)

abbrev pub Fits : ℕ → Option Number → List ℕ → Type 0
Fits first None bytes = bytes ≡ []
Fits first (Some last) bytes = LastFits first last bytes

pub fits_bytes : (first : ℕ) (last : Option Number) (bytes : List ℕ) → Fits first last bytes → length bytes ≤ 161160
fits_bytes first None bytes h = omega (arith, ap length h)
fits_bytes first (Some last) bytes h = let room = h.room in let most = h.most in omega arith

pub past_near : (first : ℕ) (last : Option Number) (bytes : List ℕ) (n : UnitNumber) (g : ℕ)
    → g ≤ 127 → Fits first last bytes → n.file ≤ 255 → Past last n g → IsNear last n
past_near first None bytes n g l f byte h = tt
past_near first (Some last) bytes n g l f byte (inl (e, q)) = omega arith
past_near first (Some last) bytes n g l f byte (inr (d, a, b, e)) = let low = f.byte in omega arith

-- the bytes of the file that the next link data unit is put on
pub room_for : (first : ℕ) (last : Option Number) (n : UnitNumber) (g : ℕ) (s : Received) → g ≤ 127 → Past last n g → first ≤ n.ldu
    → Fits first last s.open_bytes → length (received_for last n.file s).open_bytes + 632 * first ≤ 632 * n.ldu
room_for first None n g s l h low f = omega arith
room_for first (Some last) n g s l h low f = by_file (eqb last.number.file n.file) refl
  where
    later : Past (Some last) n g → last.number.file ≡ n.file → suc last.number.ldu ≤ n.ldu
    later (inl (e, q)) r = q
    later (inr (d, a, b, e)) r = absurd (other_file last.number.file d a (omega arith) (r ∙ e))

    by_file : (t : Bool) → eqb last.number.file n.file ≡ t → length (cond t s (emptied s)).open_bytes + 632 * first ≤ 632 * n.ldu
    by_file true e = let most = f.most in omega (arith, later h (eqb-true last.number.file n.file e))
    by_file false e = omega arith
