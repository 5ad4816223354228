-- Plain rows at the front of bytes.
use Rattle.std.proofs.Common.{◌≡◌, ◌∙◌, ℕ, zero, suc, ◌+◌, ◌-◌, ◌^◌, ◌<◌, ◌≤◌, List, [], ◌∷◌, ◌++◌, length, get_or, take, drop, refl, ap, arith, Some, inl, inr, sym, subst, append_assoc, length-drop, take-add}
use Rattle.std.proofs.lemmas.List.{append-nil, length-take-le, take_all, take-append-drop}
use Rattle.std.specs.Str.Parse.{digits_value, AllDigits}
use Rattle.a429_word.specs.declared.bus.Bus.{Bus}
use Rattle.a429_record.specs.declared.entry.Entry.{Entry}
use Rattle.a429_record.specs.Ends.{HasNoEnd}
use Rattle.a429_record.specs.Row.{time_in, bus_in, word_in}
use Rattle.a429_record.specs.Line.{line_entries}
use Rattle.a429_record.specs.Plain.{IsFront, IsPlainRow, IsLineEnd}
use Rattle.a429_record.proofs.RowDigits.{time_in-is}
use Rattle.a429_record.proofs.LinePlain.{digits_high, whole, time_plain, bus_plain, word_plain, plain_line, high_ends}
use Rattle.a429_record.proofs.LinesFacts.{HasNoEnd-append}

-- the first eight of some bytes, one by one
pub eight : (xs : List ℕ) → 8 ≤ length xs
    → take 8 xs ≡ get_or xs 0 0 ∷ get_or xs 1 0 ∷ get_or xs 2 0 ∷ get_or xs 3 0 ∷ get_or xs 4 0 ∷ get_or xs 5 0 ∷ get_or xs 6 0
    ∷ get_or xs 7 0 ∷ []
eight (a ∷ b ∷ c ∷ d ∷ e ∷ f ∷ g ∷ h ∷ xs) long = refl
eight [] long = absurd (omega arith)
eight (a ∷ []) long = absurd (omega arith)
eight (a ∷ b ∷ []) long = absurd (omega arith)
eight (a ∷ b ∷ c ∷ []) long = absurd (omega arith)
eight (a ∷ b ∷ c ∷ d ∷ []) long = absurd (omega arith)
eight (a ∷ b ∷ c ∷ d ∷ e ∷ []) long = absurd (omega arith)
eight (a ∷ b ∷ c ∷ d ∷ e ∷ f ∷ []) long = absurd (omega arith)
eight (a ∷ b ∷ c ∷ d ∷ e ∷ f ∷ g ∷ []) long = absurd (omega arith)

-- a bus and a word, each after a comma, at the front of some bytes
pub following : (r : List ℕ)
    → 11 ≤ length r → get_or r 0 0 ≡ 44 → get_or r 2 0 ≡ 44 → take 11 r ≡ 44 ∷ (take 1 (drop 1 r) ++ (44 ∷ take 8 (drop 3 r)))
following (x ∷ y ∷ z ∷ r) long a b = rw (a, b) refl
following [] long a b = absurd (omega arith)
following (x ∷ []) long a b = absurd (omega arith)
following (x ∷ y ∷ []) long a b = absurd (omega arith)

-- the fields of a row, where each of them is one
pub is_front : (bytes : List ℕ) (n : ℕ) (time : ℕ) (bus : Bus) → 1 ≤ n → n ≤ 19 → n + 11 ≤ length bytes
    → AllDigits 10 (take n bytes) → time ≡ digits_value 10 (take n bytes) → time < 2 ^ 64
    → get_or (drop n bytes) 0 0 ≡ 44 → get_or (drop n bytes) 2 0 ≡ 44
    → Some bus ≡ bus_in (take 1 (drop 1 (drop n bytes)))
    → IsFront (take (n + 11) bytes) time bus (take 8 (drop 3 (drop n bytes)))
is_front bytes n time bus least most inside digits number small first second letter =
    let rest = drop n bytes in
    let long : 11 ≤ length rest = simp length-drop (omega arith) in
    let size = length-take-le n bytes (omega arith) in
    record {
      digits = take n bytes;
      letter = take 1 (drop 1 rest);
      layout = take-add n 11 bytes ∙ ap (λ (r : List ℕ). take n bytes ++ r) (following rest long first second);
      timed = sym (time_in-is (take n bytes) time (omega (arith, size)) (omega (arith, size)) digits number small);
      heard = sym letter;
      eight = length-take-le 8 (drop 3 rest) (omega (arith, length-drop 3 rest, long));
    }

-- ---- lines of a plain row

pub no_end : (row : List ℕ) (e : Entry) → IsPlainRow row e → HasNoEnd row
no_end row e h =
    let (st, sx, sw) = whole (time_in h.time) (bus_in h.bus) (word_in h.word) e h.says in
    let time = high_ends h.time (digits_high 10 h.time (omega arith) (time_plain h.time st).1) in
    let bus = high_ends h.bus (bus_plain h.bus sx).1 in
    let word = high_ends h.word (digits_high 16 h.word (omega arith) (word_plain h.word sw).1) in
    rw h.layout (HasNoEnd-append h.time _ time (refl, HasNoEnd-append h.bus _ bus (refl, word)))

-- the entry of a row is that of its line
pub row_line : (row tail : List ℕ) (e : Entry) → IsPlainRow row e → IsLineEnd tail → line_entries (row ++ tail) ≡ Some e ∷ []
row_line row tail e h end =
    let together : row ++ tail ≡ h.time ++ (44 ∷ (h.bus ++ (44 ∷ (h.word ++ tail)))) =
    ap (λ (r : List ℕ). r ++ tail) h.layout ∙ simp append_assoc in
    rw together (plain_line h.time h.bus h.word tail e h.says end)

pub row_alone : (row : List ℕ) (e : Entry) → IsPlainRow row e → line_entries row ≡ Some e ∷ []
row_alone row e h = rw append-nil at (row_line row [] e h (inl refl))

-- a row and a carriage return
next : (bytes : List ℕ) (n : ℕ) → n < length bytes → get_or (drop n bytes) 0 0 ≡ 13 → take (suc n) bytes ≡ take n bytes ++ (13 ∷ [])
next [] n inside h = absurd (omega arith)
next (b ∷ bs) zero inside h = rw h refl
next (b ∷ bs) (suc n) inside h = ap (λ (r : List ℕ). b ∷ r) (next bs n (omega arith) h)

pub with_return : (bytes : List ℕ) (n : ℕ) → n < length bytes → get_or (take (length bytes - n) (drop n bytes)) 0 0 ≡ 13
    → take (n + 1) bytes ≡ take n bytes ++ (13 ∷ [])
with_return bytes n inside h =
    let rest : take (length bytes - n) (drop n bytes) ≡ drop n bytes =
    take_all (length bytes - n) (drop n bytes) (simp length-drop (omega arith)) in
    let e : n + 1 ≡ suc n = omega arith in
    rw e (next bytes n inside (rw rest at h))

pub return_line : (bytes : List ℕ) (n : ℕ) (e : Entry) → take (n + 1) bytes ≡ take n bytes ++ (13 ∷ []) → IsPlainRow (take n bytes) e
    → line_entries (take (n + 1) bytes) ≡ Some e ∷ []
return_line bytes n e more h =
    subst (λ (l : List ℕ). line_entries l ≡ Some e ∷ []) (sym more) (row_line (take n bytes) (13 ∷ []) e h (inr refl))

pub return_no_end : (bytes : List ℕ) (n : ℕ) (e : Entry)
    → take (n + 1) bytes ≡ take n bytes ++ (13 ∷ []) → IsPlainRow (take n bytes) e → HasNoEnd (take (n + 1) bytes)
return_no_end bytes n e more h = rw more (HasNoEnd-append (take n bytes) (13 ∷ []) (no_end (take n bytes) e h) (refl, tt))

-- a line that is a row and what may stand behind it
pub whole_line : (line : List ℕ) (n : ℕ) (e : Entry)
    → IsPlainRow (take n line) e → IsLineEnd (take (length line - n) (drop n line)) → line_entries line ≡ Some e ∷ []
whole_line line n e h end =
    let rest : take (length line - n) (drop n line) ≡ drop n line =
    take_all (length line - n) (drop n line) (simp length-drop (omega arith)) in
    rw take-append-drop at (row_line (take n line) (drop n line) e h (rw rest at end))
