-- The list of parts, and how it is read.
use Rattle.std.proofs.Common.{◌≡◌, ◌∙◌, ◌≤◌, ◌<◌, ◌^◌, ◌+◌, ◌++◌, ◌∷◌, inl, inr, ℕ, zero, suc, List, [], length, take, drop, get_or, refl, sym, ap, subst, arith, append_assoc, append-nil}
use Rattle.std.specs.Prelude.{codes}
use Rattle.std.specs.List.{AllByRecursion}
use Rattle.std.specs.Fmt.{decimal}
use Rattle.std.specs.Str.Parse.{digits_value, AllDigits}
use Rattle.std.proofs.lemmas.Fmt.{decimal_is_IsNumeral, decimal_injective, decimal-digits_value, decimal_nonempty, decimal_digit, first_decimal, length-decimal-le}
use Rattle.std.proofs.lemmas.List.{append_cancel_left, length-append, take-append-drop}
use Rattle.std.proofs.lemmas.Str.Parse.{IsNumeralModel, numerals_by_value, tells_digits}
use Rattle.a429_record.specs.Recording.{most_entries}
use Rattle.a429_commands.specs.PartList.{part_line, part_lines, all_entries, ArePartSizes, BeginsWithNoDigit, ListsParts}

pub own : IsNumeralModel (AllDigits 10) (digits_value 10)
own = numerals_by_value (AllDigits 10) tells_digits

-- ---- numbers

-- digits end where no digit comes
pub one_split : (ds es a b : List ℕ)
    → AllDigits 10 ds → AllDigits 10 es → BeginsWithNoDigit a → BeginsWithNoDigit b → ds ++ a ≡ es ++ b → (ds ≡ es) × (a ≡ b)
one_split [] [] a b p q na nb e = (refl, e)
one_split [] (c ∷ es) a b p q na nb e = absurd (subst BeginsWithNoDigit e na q.0)
one_split (c ∷ ds) [] a b p q na nb e = absurd (subst BeginsWithNoDigit (sym e) nb p.0)
one_split (c ∷ ds) (d ∷ es) a b p q na nb e =
    let head : c ≡ d = cc in
    let tail : ds ++ a ≡ es ++ b = cc in
    let rest = one_split ds es a b p.1 q.1 na nb tail in
    (rw (head, rest.0) refl, rest.1)

-- a number is found as it was written
pub one_number : (n m : ℕ) (a b : List ℕ)
    → n < 10 ^ 19 → m < 10 ^ 19 → BeginsWithNoDigit a → BeginsWithNoDigit b → decimal n ++ a ≡ decimal m ++ b → (n ≡ m) × (a ≡ b)
one_number n m a b small few na nb e =
    let n_fits : n < 2 ^ 64 = omega (arith, small) in
    let m_fits : m < 2 ^ 64 = omega (arith, few) in
    let split = one_split (decimal n) (decimal m) a b (decimal_is_IsNumeral n n_fits).0.1 (decimal_is_IsNumeral m m_fits).0.1 na nb e in
    (decimal_injective n m n_fits m_fits split.0, split.1)

abbrev pub IsPlain : List ℕ → Type 0
IsPlain ds = (0 < length ds) × (length ds ≤ 19) × (get_or ds 0 0 ≡ 48 → length ds ≡ 1)

-- digits without leading zeros are what their value is written as
pub is_written : (text : List ℕ) (len n : ℕ) → AllDigits 10 (take len text) → IsPlain (take len text) → n ≡ digits_value 10 (take len text)
    → n < 10 ^ 19 → text ≡ decimal n ++ drop len text
is_written text len n digits plain value small =
    let ds = take len text in
    let written : decimal (digits_value 10 ds) ≡ ds = decimal-digits_value own ds digits plain.0 plain.2 (omega (arith, small, value)) in
    rw (value, written) (sym (take-append-drop len text))

-- what a number is written as are digits without leading zeros
decimal_plain : (n : ℕ) → n < 10 ^ 19 → IsPlain (decimal n)
decimal_plain zero small = subst IsPlain (sym (decimal_digit 0 (omega arith))) (omega arith, omega arith, λ e. refl)
decimal_plain (suc n) small =
    let fits : suc n < 2 ^ 64 = omega (arith, small) in (
      decimal_nonempty (suc n) fits,
      length-decimal-le 19 (suc n) (omega arith) small fits,
      λ e. absurd (omega (arith, e, first_decimal (suc n) (omega arith) fits)),
    )

-- where the first digits are no number, none is written there
pub not_written : (text : List ℕ) (len n : ℕ) (rest : List ℕ) → AllDigits 10 (take len text) → BeginsWithNoDigit (drop len text)
    → (IsPlain (take len text) → ⊥) → n < 10 ^ 19 → BeginsWithNoDigit rest → text ≡ decimal n ++ rest → ⊥
not_written text len n rest digits ends refuses small none e =
    let fits : n < 2 ^ 64 = omega (arith, small) in
    let split =
    one_split (take len text) (decimal n) (drop len text) rest digits (decimal_is_IsNumeral n fits).0.1 ends none
    (take-append-drop len text ∙ e) in
    refuses (subst IsPlain (sym split.0) (decimal_plain n small))

-- ---- a line

abbrev pub after_count : ℕ → List ℕ → List ℕ
after_count from rest = codes " from " ++ (decimal from ++ (codes "\n" ++ rest))

-- a line, field by field
pub fields : (k from n : ℕ) (rest : List ℕ)
    → part_line k from n ++ rest ≡ codes "part "
    ++ (decimal k ++ (codes " entries " ++ (decimal n ++ (codes " from " ++ (decimal from ++ (codes "\n" ++ rest))))))
fields k from n rest = simp append_assoc

-- two lines of one part have the same number of entries
pub one_line : (k from n m : ℕ) (a b : List ℕ)
    → n ≤ most_entries → m ≤ most_entries → part_line k from n ++ a ≡ part_line k from m ++ b → (n ≡ m) × (a ≡ b)
one_line k from n m a b few small e =
    let whole = sym (fields k from n a) ∙ e ∙ fields k from m b in
    let part = append_cancel_left (decimal k) _ _ (append_cancel_left (codes "part ") _ _ whole) in
    let number =
    one_number n m _ _ (omega (arith, few)) (omega (arith, small)) (λ d. absurd (omega (arith, d))) (λ d. absurd (omega (arith, d)))
    (append_cancel_left (codes " entries ") _ _ part) in (
      number.0,
      append_cancel_left (codes "\n") _ _ (append_cancel_left (decimal from) _ _ (append_cancel_left (codes " from ") _ _ number.1)),
    )

-- what comes after its fields, where a line is there
pub after_part : (text after rest : List ℕ) (k from n : ℕ) → text ≡ part_line k from n ++ rest
    → text ≡ codes "part " ++ (decimal k ++ after) → after ≡ codes " entries " ++ (decimal n ++ after_count from rest)
after_part text after rest k from n e h =
    append_cancel_left (decimal k) _ _ (append_cancel_left (codes "part ") _ _ (sym h ∙ e ∙ fields k from n rest))

pub after_entries : (text after rest : List ℕ) (from n m : ℕ)
    → text ≡ codes " entries " ++ (decimal n ++ after_count from rest) → text ≡ codes " entries " ++ (decimal m ++ after)
    → n ≤ most_entries → m < 10 ^ 19 → BeginsWithNoDigit after → (m ≡ n) × (after ≡ after_count from rest)
after_entries text after rest from n m e h few small none =
    one_number m n after (after_count from rest) small (omega (arith, few)) none (λ d. absurd (omega (arith, d)))
    (append_cancel_left (codes " entries ") _ _ (sym h ∙ e))

pub after_before : (text after rest : List ℕ) (from : ℕ)
    → text ≡ after_count from rest → text ≡ codes " from " ++ (decimal from ++ after) → after ≡ codes "\n" ++ rest
after_before text after rest from e h = append_cancel_left (decimal from) _ _ (append_cancel_left (codes " from ") _ _ (sym h ∙ e))

-- ---- lines

abbrev pub AreFew : List ℕ → Type 0
AreFew counts = AllByRecursion (λ n. n ≤ most_entries) counts

-- a line more
pub lines_more : (k from n : ℕ) (counts : List ℕ)
    → part_lines k from (counts ++ (n ∷ [])) ≡ part_lines k from counts ++ part_line (k + length counts) (from + all_entries counts) n
lines_more k from n [] =
    let a : k + 0 ≡ k = omega arith in let b : from + 0 ≡ from = omega arith in rw (a, b) (append-nil (part_line k from n))
lines_more k from n (m ∷ counts) =
    let a : suc k + length counts ≡ k + length (m ∷ counts) = omega arith in
    let b : from + m + all_entries counts ≡ from + all_entries (m ∷ counts) = omega arith in
    let rest = lines_more (suc k) (from + m) n counts in
    ap (λ (t : List ℕ). part_line k from m ++ t) (rest ∙ rw (a, b) refl)
    ∙ sym (append_assoc (part_line k from m) (part_lines (suc k) (from + m) counts)
    (part_line (k + length (m ∷ counts)) (from + all_entries (m ∷ counts)) n))

pub entries_more : (n : ℕ) (counts : List ℕ) → all_entries (counts ++ (n ∷ [])) ≡ all_entries counts + n
entries_more n [] = omega arith
entries_more n (m ∷ counts) = let rest = entries_more n counts in omega (arith, rest)

pub few_more : (n : ℕ) (counts : List ℕ) → AreFew counts → n ≤ most_entries → AreFew (counts ++ (n ∷ []))
few_more n [] h few = (few, tt)
few_more n (m ∷ counts) h few = (h.0, few_more n counts h.1 few)

cons_is : (x y : ℕ) (xs ys : List ℕ) → x ≡ y → xs ≡ ys → x ∷ xs ≡ y ∷ ys
cons_is x y xs ys p q = rw (p, q) refl

-- lines that begin with those of some parts are those of these parts and more
pub lines_once : (k from : ℕ) (counts all rest : List ℕ)
    → AreFew counts → AreFew all → part_lines k from all ≡ part_lines k from counts ++ rest
    → (more : List ℕ) × (all ≡ counts ++ more) × (rest ≡ part_lines (k + length counts) (from + all_entries counts) more) × AreFew more
lines_once k from [] all rest p q e =
    let a : k + 0 ≡ k = omega arith in let b : from + 0 ≡ from = omega arith in (all, refl, rw (a, b) (sym e), q)
lines_once k from (n ∷ counts) [] rest p q e = absurd (cc e)
lines_once k from (n ∷ counts) (m ∷ all) rest p q e =
    let here =
    one_line k from m n (part_lines (suc k) (from + m) all) (part_lines (suc k) (from + n) counts ++ rest) q.0 p.0
    (e ∙ append_assoc (part_line k from n) (part_lines (suc k) (from + n) counts) rest) in
    let later =
    lines_once (suc k) (from + n) counts all rest p.1 q.1
    (subst (λ (j : ℕ). part_lines (suc k) (from + j) all ≡ part_lines (suc k) (from + n) counts ++ rest) here.0 here.1) in
    let a : suc k + length counts ≡ k + length (n ∷ counts) = omega arith in
    let b : from + n + all_entries counts ≡ from + all_entries (n ∷ counts) = omega arith in
    (later.0, cons_is m n all (counts ++ later.0) here.0 later.1, later.2 ∙ rw (a, b) refl, later.3)

all_sizes : (counts : List ℕ) → AllByRecursion (λ n. (1 ≤ n) × (n ≤ most_entries)) counts → AreFew counts
all_sizes [] h = tt
all_sizes (n ∷ counts) h = (h.0.1, all_sizes counts h.1)

pub sizes_few : (counts : List ℕ) → ArePartSizes counts → AreFew counts
sizes_few counts (inl e) = subst AreFew (sym e) (omega arith, tt)
sizes_few counts (inr h) = all_sizes counts h.1

entries_append : (counts more : List ℕ) → all_entries (counts ++ more) ≡ all_entries counts + all_entries more
entries_append [] more = omega arith
entries_append (n ∷ counts) more = let rest = entries_append counts more in omega (arith, rest)

-- ---- a list that is read

-- the lines of these parts were read, and the rest of the text is left
pub record IsReadTo (text counts rest : List ℕ) (number from : ℕ) : Type 0 where
  pub spelled : text ≡ part_lines 1 0 counts ++ rest
  pub few : AreFew counts
  pub numbered : number ≡ 1 + length counts
  pub before : from ≡ all_entries counts

pub read_on : (text counts rest after : List ℕ) (number from n : ℕ) → IsReadTo text counts rest number from
    → rest ≡ part_line number from n ++ after → n ≤ most_entries → IsReadTo text (counts ++ (n ∷ [])) after (number + 1) (from + n)
read_on text counts rest after number from n h e few =
    let before : from ≡ 0 + all_entries counts = omega (arith, h.before) in
    let more : part_lines 1 0 (counts ++ (n ∷ [])) ≡ part_lines 1 0 counts ++ part_line number from n =
    lines_more 1 0 n counts ∙ rw (h.numbered, before) refl in
    record {
      spelled = h.spelled ∙ ap (λ (t : List ℕ). part_lines 1 0 counts ++ t) e
          ∙ sym (append_assoc (part_lines 1 0 counts) (part_line number from n) after) ∙ ap (λ (t : List ℕ). t ++ after) (sym more);
      few = few_more n counts h.few few;
      numbered = omega (arith, h.numbered, length-append counts (n ∷ []));
      before = omega (arith, h.before, entries_more n counts);
    }

-- a list has these parts and more
begun : (text counts rest all : List ℕ) (number from : ℕ) → IsReadTo text counts rest number from → ListsParts text all
    → (more : List ℕ) × (all ≡ counts ++ more) × (rest ≡ part_lines number from more) × AreFew more
begun text counts rest all number from h l =
    let found = lines_once 1 0 counts all rest h.few (sizes_few all l.sizes) (sym l.spelled ∙ h.spelled) in
    let before : 0 + all_entries counts ≡ from = omega (arith, h.before) in
    (found.0, found.1, found.2 ∙ rw (← h.numbered, before) refl, found.3)

pub no_line : (text counts rest : List ℕ) (number from : ℕ) → IsReadTo text counts rest number from → 0 < length rest
    → ((n : ℕ) (after : List ℕ) → n ≤ most_entries → rest ≡ part_line number from n ++ after → ⊥)
    → (all : List ℕ) → ListsParts text all → ⊥
no_line text counts rest number from h some none all l = let b = begun text counts rest all number from h l in by b.0 b.2 b.3
  where
    by : (more : List ℕ) → rest ≡ part_lines number from more → AreFew more → ⊥
    by [] e few = let n : length rest ≡ 0 = ap (λ (t : List ℕ). length t) e in absurd (omega (arith, some, n))
    by (n ∷ more) e few = none n (part_lines (suc number) (from + n) more) few.0 e

pub too_many : (text counts rest : List ℕ) (number from : ℕ)
    → IsReadTo text counts rest number from → 10 ^ 19 ≤ from → (all : List ℕ) → ListsParts text all → ⊥
too_many text counts rest number from h many all l =
    let b = begun text counts rest all number from h l in
    let sum : all_entries all ≡ all_entries counts + all_entries b.0 = ap all_entries b.1 ∙ entries_append counts b.0 in
    absurd (omega (arith, many, sum, h.before, l.few))

pub no_sizes : (text counts rest : List ℕ) (number from : ℕ)
    → IsReadTo text counts rest number from → rest ≡ [] → (ArePartSizes counts → ⊥) → (all : List ℕ) → ListsParts text all → ⊥
no_sizes text counts rest number from h none refuses all l =
    let b = begun text counts rest all number from h l in by b.0 b.1 (sym none ∙ b.2)
  where
    by : (more : List ℕ) → all ≡ counts ++ more → [] ≡ part_lines number from more → ⊥
    by [] e f = refuses (subst ArePartSizes (e ∙ append-nil counts) l.sizes)
    by (n ∷ more) e f = absurd (cc f)

-- ---- what is left

pub shorter : (rest after : List ℕ) (k from n : ℕ) → rest ≡ part_line k from n ++ after → length after < length rest
shorter rest after k from n e =
    let all : length rest ≡ length (part_line k from n) + length after =
    ap (λ (t : List ℕ). length t) e ∙ length-append (part_line k from n) after in
    let some : 1 ≤ length (part_line k from n) = omega arith in
    omega (arith, all, some)
