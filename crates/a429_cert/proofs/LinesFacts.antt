-- The lines of a text, one after the other.
use Rattle.std.proofs.Common.{◌≡◌, ◌⊎◌, inl, inr, ℕ, zero, suc, ◌+◌, ◌≤◌, ◌<◌, ◌==◌, List, [], ◌∷◌, ◌++◌, append-nil, length, take, drop, Bool, true, false, Option, Some, None, IfNone, slice_get, refl, sym, ap, ◌∙◌, subst, arith}
use Rattle.std.proofs.lemmas.List.{drop-drop, length-drop}
use Rattle.std.proofs.lemmas.Bool.{false_from_ne_true}
use Rattle.memchr.specs.Find.{is_byte, Passes, IsFirstByte}
use Rattle.a429_record.specs.Ends.{HasNoEnd}
use Rattle.a429_record.proofs.LinesFacts.{no_end}
use Rattle.a429_cert.specs.Lines.{certificate_lines}

-- ---- where a line ends

-- the line before the first line feed of some bytes, whatever comes behind them
pub first_line : (bs z : List ℕ) (n : ℕ)
    → n < length bs → ((k : ℕ) → 0 ≤ k → k < n → Passes (is_byte 10) bs k → ⊥) → Passes (is_byte 10) bs n
    → certificate_lines (bs ++ z) ≡ Some (take n bs) ∷ certificate_lines (drop (suc n) bs ++ z)
first_line [] z n h before here = absurd (omega arith)
first_line (b ∷ bs) z zero h before here = rw here refl
first_line (b ∷ bs) z (suc n) h before here =
    let other : (b == 10) ≡ false = false_from_ne_true (b == 10) (before 0 (omega arith) (omega arith)) in
    rw (other, first_line bs z n (omega arith) (λ k least below. before (suc k) (omega arith) (omega arith)) here) refl

longer : (b : ℕ) (bs : List ℕ) → (b == 10) ≡ false → (bs ≡ []) ⊎ (certificate_lines bs ≡ None ∷ []) → certificate_lines (b ∷ bs) ≡ None ∷ []
longer b bs other (inl none) = rw (other, none) refl
longer b bs other (inr line) = rw (other, line) refl

-- a text without a line feed
pub no_line : (bs : List ℕ) → HasNoEnd bs → (bs ≡ []) ⊎ (certificate_lines bs ≡ None ∷ [])
no_line [] h = inl refl
no_line (b ∷ bs) h = inr (longer b bs h.0 (no_line bs h.1))

-- ---- the line that ends there

-- a text with a line feed there begins with the line before it
pub record BeginsAt (bs : List ℕ) (n : ℕ) : Type 0 where
  pub inside : n < length bs
  pub lines : certificate_lines bs ≡ Some (take n bs) ∷ certificate_lines (drop (suc n) bs)

pub ends_at : (bs : List ℕ) (r : Option ℕ) (n : ℕ) → IsFirstByte (is_byte 10) bs r → r ≡ Some n → BeginsAt bs n
ends_at bs r n h e =
    let found = subst (IsFirstByte (is_byte 10) bs) e h in
    record {
      inside = found.0.high;
      lines = ap certificate_lines (sym (append-nil bs)) ∙ first_line bs [] n found.0.high found.0.before found.1
          ∙ ap (λ (l : List ℕ). Some (take n bs) ∷ certificate_lines l) (append-nil (drop (suc n) bs));
    }

-- no line ends there
pub not_ended : (bs : List ℕ) (r : Option ℕ) → IsFirstByte (is_byte 10) bs r → r ≡ None → HasNoEnd bs
not_ended bs r h e = subst (λ (o : Option ℕ). IfNone o (HasNoEnd bs)) e (no_end bs r h)

pub unended : (bs : List ℕ) (r : Option ℕ) (empty : Bool)
    → IsFirstByte (is_byte 10) bs r → r ≡ None → empty ≡ (length bs == 0) → empty ≡ false → certificate_lines bs ≡ None ∷ []
unended bs r empty h e is not = only (no_line bs (not_ended bs r h e))
  where
    only : (bs ≡ []) ⊎ (certificate_lines bs ≡ None ∷ []) → certificate_lines bs ≡ None ∷ []
    only (inl none) = let all : (length bs == 0) ≡ true = rw none refl in absurd (cc (all, is, not))
    only (inr line) = line

-- ---- what the reader gives

pub given_line : (bs old : List ℕ) (n : ℕ) (front : List ℕ)
    → bs ≡ old → BeginsAt bs n → front ≡ take n bs → Some (Some front) ≡ slice_get (certificate_lines old) 0
given_line bs old n front e at f = rw (← e, at.lines, f) refl

pub left_lines : (bs old : List ℕ) (n : ℕ) (back : List ℕ)
    → bs ≡ old → BeginsAt bs n → back ≡ drop n bs → certificate_lines (drop 1 back) ≡ drop 1 (certificate_lines old)
left_lines bs old n back e at f = let next : n + 1 ≡ suc n = omega arith in rw (← e, at.lines, f, drop-drop 1 n bs, next) refl

pub left_shorter : (bs old : List ℕ) (n : ℕ) (back left : List ℕ)
    → bs ≡ old → BeginsAt bs n → back ≡ drop n bs → left ≡ drop 1 back → length left < length old
left_shorter bs old n back left e at f g =
    omega (arith, at.inside, ap length e, ap length f, ap length g, length-drop n bs, length-drop 1 back)

pub given_unended : (bs old : List ℕ) → bs ≡ old → certificate_lines bs ≡ None ∷ [] → Some None ≡ slice_get (certificate_lines old) 0
given_unended bs old e u = rw (← e, u) refl

pub left_none : (bs old : List ℕ) → bs ≡ old → certificate_lines bs ≡ None ∷ [] → [] ≡ drop 1 (certificate_lines old)
left_none bs old e u = rw (← e, u) refl
