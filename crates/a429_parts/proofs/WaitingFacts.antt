-- Entries that wait, as lines and as entries.
use Rattle.std.proofs.Common.{◌≡◌, ◌∙◌, ◌+◌, ◌-◌, ◌<◌, ◌≤◌, ◌^◌, ◌==◌, ℕ, zero, suc, List, [], ◌∷◌, ◌++◌, ◌⊎◌, map, length, take, drop, get_or, min, true, Option, Some, None, MatchOption, inl, inr, refl, sym, ap, subst, arith, append_assoc, eqb-true}
use Rattle.std.specs.List.{flat_map}
use Rattle.std.proofs.lemmas.Bool.{false≢true}
use Rattle.std.proofs.lemmas.List.{append-nil, get_or_at, get_or-append_right, length-append, length-take-le, take-take, take_at, drop_at, take_more, take_all, drop_all, take_min, drop_min}
use Rattle.std.proofs.lemmas.List.Concat.{flat_map-append}
use Rattle.a429_word.specs.declared.bus.Bus.TheVariants.{A}
use Rattle.memchr.specs.Find.{is_byte, IsLastByte}
use Rattle.a429_record.specs.declared.entry.Entry.{Entry}
use Rattle.a429_record.specs.Ends.{HasNoEnd}
use Rattle.a429_record.specs.WholeRecordings.{AreEntries}
use Rattle.a429_record.specs.Writing.{line_text}
use Rattle.a429_record.proofs.WrittenIsReadBack.{rows-back, body, body-end, line-is}
use Rattle.a429_record.proofs.WritingTexts.{flat_map-rest}
use Rattle.a429_parts.specs.declared.waiting.Cut.{Cut}
use Rattle.a429_parts.specs.declared.waiting.LineEnd.{LineEnd}
use Rattle.a429_parts.specs.Waiting.{somes, entries_of, size_of, AreWritten, IsLineEnd}

-- ---- lines are read back

somes-back : (es : List Entry) → somes (map Some es) ≡ es
somes-back [] = refl
somes-back (e ∷ es) = ap (λ (l : List Entry). e ∷ l) (somes-back es)

-- what is written of entries, they are read from
written_back : (es : List Entry) → AreEntries es → entries_of (flat_map line_text es) ≡ es
written_back es h = ap somes (rows-back es h) ∙ somes-back es

-- lines that were written of these entries
pub record AreOf (lines : List ℕ) (es : List Entry) : Type 0 where
  pub written : AreWritten lines
  pub entries : entries_of lines ≡ es

are_of : (lines : List ℕ) (es : List Entry) → AreEntries es → lines ≡ flat_map line_text es → AreOf lines es
are_of lines es h is =
    let back : entries_of lines ≡ es = ap entries_of is ∙ written_back es h in
    record {
      written = (is ∙ ap (flat_map line_text) (sym back), subst AreEntries (sym back) h);
      entries = back;
    }

are_append : (xs ys : List Entry) → AreEntries xs → AreEntries ys → AreEntries (xs ++ ys)
are_append [] ys h k = k
are_append (x ∷ xs) ys h k = (h.0, h.1, are_append xs ys h.2 k)

are_take : (n : ℕ) (es : List Entry) → AreEntries es → AreEntries (take n es)
are_take zero es h = tt
are_take (suc n) [] h = tt
are_take (suc n) (e ∷ es) h = (h.0, h.1, are_take n es h.2)

are_drop : (n : ℕ) (es : List Entry) → AreEntries es → AreEntries (drop n es)
are_drop zero es h = h
are_drop (suc n) [] h = tt
are_drop (suc n) (e ∷ es) h = are_drop n es h.2

-- one more line
pushed : (lines line after : List ℕ) (e : Entry)
    → AreWritten lines → e.time < 2 ^ 64 → e.word < 2 ^ 32 → line ≡ line_text e → after ≡ lines ++ line
    → AreOf after (entries_of lines ++ e ∷ [])
pushed lines line after e h ht hw is more =
    let es = entries_of lines in
    let all : after ≡ flat_map line_text (es ++ e ∷ []) =
    more ∙ ap (λ (t : List ℕ). t ++ line) h.0 ∙ ap (λ (t : List ℕ). flat_map line_text es ++ t) (is ∙ sym (append-nil (line_text e)))
    ∙ sym (flat_map-append line_text es (e ∷ [])) in
    are_of after (es ++ e ∷ []) (are_append es (e ∷ []) h.1 (ht, hw, tt)) all

-- entries, lines and entries, one more of which is a line
pub line_pushed : (before : List Entry) (lines line new : List ℕ) (after : List Entry) (e : Entry)
    → AreWritten lines → e.time < 2 ^ 64 → e.word < 2 ^ 32 → line ≡ line_text e → after ≡ [] → new ≡ lines ++ line
    → AreWritten new × (before ++ (entries_of new ++ after) ≡ (before ++ (entries_of lines ++ after)) ++ e ∷ [])
line_pushed before lines line new after e h ht hw is none more =
    let of = pushed lines line new e h ht hw is more in (
      of.written,
      rw (none, of.entries, append-nil (entries_of lines ++ e ∷ []), append-nil (entries_of lines))
          (sym (append_assoc before (entries_of lines) (e ∷ []))),
    )

-- the same, where it is an entry after them
pub entry_pushed : (before : List Entry) (lines : List ℕ) (after new : List Entry) (e : Entry) → new ≡ after ++ e ∷ []
    → before ++ (entries_of lines ++ new) ≡ (before ++ (entries_of lines ++ after)) ++ e ∷ []
entry_pushed before lines after new e more =
    ap (λ (l : List Entry). before ++ (entries_of lines ++ l)) more
    ∙ ap (λ (l : List Entry). before ++ l) (sym (append_assoc (entries_of lines) after (e ∷ [])))
    ∙ sym (append_assoc before (entries_of lines ++ after) (e ∷ []))

-- ---- the last of some lines

-- no lines, or bytes that end in a line feed
abbrev IsEnded : List ℕ → Type 0
IsEnded bs = (bs ≡ []) ⊎ ((q : List ℕ) × (bs ≡ q ++ 10 ∷ []))

longer : (e : Entry) (rest : List ℕ) → IsEnded rest → IsEnded (line_text e ++ rest)
longer e rest (inl none) = inr (body e, line-is e rest ∙ ap (λ (t : List ℕ). body e ++ 10 ∷ t) none)
longer e rest (inr (q, is)) =
    inr (line_text e ++ q, ap (λ (t : List ℕ). line_text e ++ t) is ∙ sym (append_assoc (line_text e) q (10 ∷ [])))

ended : (es : List Entry) → IsEnded (flat_map line_text es)
ended [] = inl refl
ended (e ∷ es) = longer e (flat_map line_text es) (ended es)

-- a line feed is nowhere
none_at : (bs : List ℕ) (k : ℕ) → HasNoEnd bs → (get_or bs k 0 == 10) ≡ true → ⊥
none_at [] k h e = absurd (false≢true e)
none_at (b ∷ bs) zero h e = false≢true (sym h.0 ∙ e)
none_at (b ∷ bs) (suc k) h e = none_at bs k h.1 e

-- the line feed before the last line is where those before it end
last_end : (bs line : List ℕ) (r : Option ℕ) → IsEnded bs → HasNoEnd line → IsLastByte (is_byte 10) (bs ++ line) r
    → MatchOption r (length bs ≡ 0) (λ n. n + 1 ≡ length bs)
last_end bs line None (inl none) h last = ap length none
last_end bs line None (inr (q, is)) h last =
    let size : length bs ≡ length q + 1 = ap length is ∙ length-append q (10 ∷ []) in
    let there : get_or (bs ++ line) (length q) 0 ≡ 10 =
    ap (λ (t : List ℕ). get_or t (length q) 0) (ap (λ (t : List ℕ). t ++ line) is ∙ append_assoc q (10 ∷ []) line)
    ∙ get_or_at q 10 line 0 (length q) refl in
    absurd (last (length q) (omega arith) (omega (arith, size, length-append bs line)) (ap (λ (b : ℕ). b == 10) there))
last_end bs line (Some n) (inl none) h last =
    absurd (none_at line n h (ap (λ (t : List ℕ). get_or (t ++ line) n 0 == 10) (sym none) ∙ last.1))
last_end bs line (Some n) (inr (q, is)) h last =
    let size : length bs ≡ length q + 1 = ap length is ∙ length-append q (10 ∷ []) in
    let there : get_or (bs ++ line) (length q) 0 ≡ 10 =
    ap (λ (t : List ℕ). get_or t (length q) 0) (ap (λ (t : List ℕ). t ++ line) is ∙ append_assoc q (10 ∷ []) line)
    ∙ get_or_at q 10 line 0 (length q) refl in
    let before : n < length q → ⊥ =
    λ less. last.0.after (length q) (omega arith) (omega (arith, size, length-append bs line)) (ap (λ (b : ℕ). b == 10) there) in
    let after : length q < n → ⊥ = λ less.
    none_at line (n - length bs) h
    (ap (λ (b : ℕ). b == 10) (sym (get_or-append_right bs line (length bs) n 0 refl (omega (arith, size)))) ∙ last.1) in
    omega (arith, size, before, after)

-- (for lists that are too short)
some_entry : Entry
some_entry = record { time = 0; bus = A; word = 0 }

time_at : (es : List Entry) (n : ℕ) → n < length es → AreEntries es → (get_or es n some_entry).time < 2 ^ 64
time_at [] n below h = absurd (omega arith)
time_at (e ∷ es) zero below h = h.0
time_at (e ∷ es) (suc n) below h = time_at es n (omega arith) h.2

-- lines in two, after so many of them
parted : (lines : List ℕ) (n : ℕ) → AreWritten lines
    → lines ≡ flat_map line_text (take n (entries_of lines)) ++ flat_map line_text (drop n (entries_of lines))
parted lines n h = h.0 ∙ sym (flat_map-rest line_text (entries_of lines) n)

-- the first of them have no more bytes than all
pub size_within : (lines : List ℕ) (n : ℕ) → AreWritten lines → size_of n (entries_of lines) ≤ length lines
size_within lines n h =
    omega (
      arith,
      ap length (parted lines n h),
      length-append (flat_map line_text (take n (entries_of lines))) (flat_map line_text (drop n (entries_of lines))),
    )

-- where one more than so many of the lines end, and the last of these, without its line feed
record HasLine (lines : List ℕ) (n : ℕ) : Type 0 where
  some : 1 ≤ size_of (n + 1) (entries_of lines)
  within : size_of (n + 1) (entries_of lines) ≤ length lines
  line : List ℕ
  one : HasNoEnd line
  is : take (size_of (n + 1) (entries_of lines) - 1) lines ≡ flat_map line_text (take n (entries_of lines)) ++ line

has_line : (lines : List ℕ) (n : ℕ) → AreWritten lines → n < length (entries_of lines) → HasLine lines n
has_line lines n h below =
    let es = entries_of lines in
    let e = get_or es n some_entry in
    let bs = flat_map line_text (take n es) in
    let rest = flat_map line_text (drop (n + 1) es) in
    let all : flat_map line_text (take (n + 1) es) ≡ (bs ++ body e) ++ 10 ∷ [] =
    ap (flat_map line_text) (take_more es n some_entry below) ∙ flat_map-append line_text (take n es) (e ∷ [])
    ∙ ap (λ (t : List ℕ). bs ++ t) (line-is e []) ∙ sym (append_assoc bs (body e) (10 ∷ [])) in
    let size : size_of (n + 1) es ≡ length (bs ++ body e) + 1 = ap length all ∙ length-append (bs ++ body e) (10 ∷ []) in
    let lines_are : lines ≡ (bs ++ body e) ++ 10 ∷ rest =
    parted lines (n + 1) h ∙ ap (λ (t : List ℕ). t ++ rest) all ∙ append_assoc (bs ++ body e) (10 ∷ []) rest in
    record {
      some = omega (arith, size);
      within = size_within lines (n + 1) h;
      line = body e;
      one = body-end e (time_at es n below h.1);
      is = ap (take (size_of (n + 1) es - 1)) lines_are ∙ take_at (bs ++ body e) (10 ∷ rest) (size_of (n + 1) es - 1) (omega (arith, size));
    }

-- where all but the last lines end, so many
before_last : (lines : List ℕ) (i start : ℕ)
    → i < length (entries_of lines) → start ≡ size_of (length (entries_of lines) - i) (entries_of lines)
    → start ≡ size_of (length (entries_of lines) - (i + 1) + 1) (entries_of lines)
before_last lines i start below is =
    let es = entries_of lines in
    let e : length es - (i + 1) + 1 ≡ length es - i = omega arith in
    is ∙ ap (λ (k : ℕ). size_of k es) (sym e)

-- one more line is there
pub last_within : (lines : List ℕ) (i start : ℕ)
    → AreWritten lines → i < length (entries_of lines) → start ≡ size_of (length (entries_of lines) - i) (entries_of lines)
    → (1 ≤ start) × (start ≤ length lines)
last_within lines i start h below is =
    let l = has_line lines (length (entries_of lines) - (i + 1)) h (omega arith) in
    let size = before_last lines i start below is in
    (omega (arith, size, l.some), omega (arith, size, l.within))

-- where it begins
pub last_begins : (lines : List ℕ) (i start : ℕ) (r : Option ℕ)
    → AreWritten lines → i < length (entries_of lines) → start ≡ size_of (length (entries_of lines) - i) (entries_of lines)
    → IsLastByte (is_byte 10) (take (start - 1) lines) r
    → MatchOption r (size_of (length (entries_of lines) - (i + 1)) (entries_of lines) ≡ 0)
    (λ k. k + 1 ≡ size_of (length (entries_of lines) - (i + 1)) (entries_of lines))
last_begins lines i start r h below is last =
    let es = entries_of lines in
    let n = length es - (i + 1) in
    let l = has_line lines n h (omega arith) in
    let text : take (start - 1) lines ≡ flat_map line_text (take n es) ++ l.line =
    ap (λ (k : ℕ). take (k - 1) lines) (before_last lines i start below is) ∙ l.is in
    last_end (flat_map line_text (take n es)) l.line r (ended (take n es)) l.one
    (subst (λ (t : List ℕ). IsLastByte (is_byte 10) t r) text last)

-- ---- entries, lines and entries, in two

taken : {X : Type 0} (xs ys : List X) (n : ℕ) → take n (xs ++ ys) ≡ take n xs ++ take (n - length xs) ys
taken {X} [] ys n = let e : n - 0 ≡ n = omega arith in rw (e, take_all {A = X} n [] (omega arith)) refl
taken (x ∷ xs) ys zero = let e : 0 - suc (length xs) ≡ 0 = omega arith in rw e refl
taken (x ∷ xs) ys (suc n) = let e : suc n - suc (length xs) ≡ n - length xs = omega arith in rw (e, taken xs ys n) refl

dropped : {X : Type 0} (xs ys : List X) (n : ℕ) → drop n (xs ++ ys) ≡ drop n xs ++ drop (n - length xs) ys
dropped {X} [] ys n = let e : n - 0 ≡ n = omega arith in rw (e, drop_all {X = X} n [] (omega arith)) refl
dropped (x ∷ xs) ys zero = let e : 0 - suc (length xs) ≡ 0 = omega arith in rw e refl
dropped (x ∷ xs) ys (suc n) = let e : suc n - suc (length xs) ≡ n - length xs = omega arith in rw (e, dropped xs ys n) refl

-- the first of some lines, and the rest
lines_taken : (lines : List ℕ) (n : ℕ) → AreWritten lines
    → AreOf (take (size_of n (entries_of lines)) lines) (take n (entries_of lines))
lines_taken lines n h =
    let es = entries_of lines in
    are_of (take (size_of n es) lines) (take n es) (are_take n es h.1)
    (ap (take (size_of n es)) (parted lines n h)
    ∙ take_at (flat_map line_text (take n es)) (flat_map line_text (drop n es)) (size_of n es) refl)

lines_dropped : (lines : List ℕ) (n : ℕ) → AreWritten lines
    → AreOf (drop (size_of n (entries_of lines)) lines) (drop n (entries_of lines))
lines_dropped lines n h =
    let es = entries_of lines in
    are_of (drop (size_of n es) lines) (drop n es) (are_drop n es h.1)
    (ap (drop (size_of n es)) (parted lines n h)
    ∙ drop_at (flat_map line_text (take n es)) (flat_map line_text (drop n es)) (size_of n es) refl)

-- the end of some lines is the same, where one more line is there
pub end_stays : (lines line new : List ℕ) (e : Entry) (end : LineEnd)
    → AreWritten lines → e.time < 2 ^ 64 → e.word < 2 ^ 32 → line ≡ line_text e → new ≡ lines ++ line → IsLineEnd lines end
    → IsLineEnd new end
end_stays lines line new e end h ht hw text more is =
    let es = entries_of lines in
    let all : entries_of new ≡ es ++ e ∷ [] = (pushed lines line new e h ht hw text more).entries in
    let none : end.lines - length es ≡ 0 = omega (arith, is.0) in
    let same : take end.lines (es ++ e ∷ []) ≡ take end.lines es = taken es (e ∷ []) end.lines ∙ rw none (append-nil (take end.lines es)) in (
      omega (arith, is.0, ap length all, length-append es (e ∷ [])),
      is.1 ∙ sym (ap (λ (l : List Entry). length (flat_map line_text l)) (ap (take end.lines) all ∙ same)),
    )

-- the lines before an end
pub record AreBefore (lines : List ℕ) (end : LineEnd) : Type 0 where
  pub within : end.bytes ≤ length lines
  pub front : AreOf (take end.bytes lines) (take end.lines (entries_of lines))
  pub count : length (entries_of (take end.bytes lines)) ≡ end.lines

pub are_before : (lines : List ℕ) (end : LineEnd) → AreWritten lines → IsLineEnd lines end → AreBefore lines end
are_before lines end h is =
    let es = entries_of lines in
    let of : AreOf (take end.bytes lines) (take end.lines es) =
    subst (λ (k : ℕ). AreOf (take k lines) (take end.lines es)) (sym is.1) (lines_taken lines end.lines h) in
    record {
      within = omega (arith, is.1, size_within lines end.lines h);
      front = of;
      count = ap length of.entries ∙ length-take-le end.lines es is.0;
    }

-- where some of them end, which are looked for from that end
pub before_end : (lines : List ℕ) (end : LineEnd) (count at : ℕ) → AreWritten lines → IsLineEnd lines end → count ≤ end.lines
    → at ≡ size_of (length (entries_of (take end.bytes lines)) - (end.lines - count)) (entries_of (take end.bytes lines))
    → at ≡ size_of count (entries_of lines)
before_end lines end count at h is few at_is =
    let es = entries_of lines in
    let b = are_before lines end h is in
    let n : length (entries_of (take end.bytes lines)) - (end.lines - count) ≡ count = omega (arith, b.count, few) in
    at_is ∙ rw (n, b.front.entries) (ap (λ (l : List Entry). length (flat_map line_text l)) (take-take count end.lines es few))

-- where the first of entries, lines and entries end, so many of all of them
pub record IsEnd (before : List Entry) (lines : List ℕ) (after : List Entry) (size : ℕ) (cut : Cut) : Type 0 where
  pub before_is : cut.before ≡ min size (length before)
  pub lines_is : cut.lines ≡ size_of (size - length before) (entries_of lines)
  pub after_is : cut.after ≡ size - length before - length (entries_of lines)

-- the same, said of lists that are equal to these
pub is_end : (b : List Entry) (l : List ℕ) (before : List Entry) (lines : List ℕ) (after : List Entry) (size : ℕ) (cut : Cut)
    → b ≡ before → l ≡ lines → cut.before ≡ min size (length b) → cut.lines ≡ size_of (size - length b) (entries_of l)
    → cut.after ≡ size - length b - length (entries_of l) → IsEnd before lines after size cut
is_end b l before lines after size cut be le bis lis ais = record {
  before_is = rw be at bis;
  lines_is = rw (be, le) at lis;
  after_is = rw (be, le) at ais;
}

-- the first of them
pub all_taken : (before : List Entry) (lines : List ℕ) (after : List Entry) (size : ℕ) (cut : Cut)
    → AreWritten lines → IsEnd before lines after size cut
    → AreWritten (take cut.lines lines)
    × (take cut.before before ++ (entries_of (take cut.lines lines) ++ take cut.after after)
    ≡ take size (before ++ (entries_of lines ++ after)))
all_taken before lines after size cut h end =
    let es = entries_of lines in
    let n = size - length before in
    let of : AreOf (take cut.lines lines) (take n es) =
    subst (λ (k : ℕ). AreOf (take k lines) (take n es)) (sym end.lines_is) (lines_taken lines n h) in
    let front : take cut.before before ≡ take size before = ap (λ (k : ℕ). take k before) end.before_is ∙ take_min size before in (
      of.written,
      rw (front, of.entries, end.after_is)
          (sym (taken before (es ++ after) size ∙ ap (λ (l : List Entry). take size before ++ l) (taken es after n))),
    )

-- the rest
all_dropped : (before : List Entry) (lines : List ℕ) (after : List Entry) (size : ℕ) (cut : Cut)
    → AreWritten lines → IsEnd before lines after size cut
    → AreWritten (drop cut.lines lines)
    × (drop cut.before before ++ (entries_of (drop cut.lines lines) ++ drop cut.after after)
    ≡ drop size (before ++ (entries_of lines ++ after)))
all_dropped before lines after size cut h end =
    let es = entries_of lines in
    let n = size - length before in
    let of : AreOf (drop cut.lines lines) (drop n es) =
    subst (λ (k : ℕ). AreOf (drop k lines) (drop n es)) (sym end.lines_is) (lines_dropped lines n h) in
    let front : drop cut.before before ≡ drop size before = ap (λ (k : ℕ). drop k before) end.before_is ∙ drop_min size before in (
      of.written,
      rw (front, of.entries, end.after_is)
          (sym (dropped before (es ++ after) size ∙ ap (λ (l : List Entry). drop size before ++ l) (dropped es after n))),
    )

-- a list without elements, as a test of its length says
pub none_in : {X : Type 0} (xs : List X) (n : ℕ) → n ≡ length xs → (n == 0) ≡ true → xs ≡ []
none_in [] n size h = refl
none_in (x ∷ xs) n size h = absurd (omega (arith, size, eqb-true n 0 h))

-- what is left, where it has been dropped
pub left : (before : List Entry) (lines : List ℕ) (after : List Entry) (size : ℕ) (cut : Cut) (b : List Entry) (l : List ℕ) (a : List Entry)
    → AreWritten lines → IsEnd before lines after size cut
    → b ≡ drop cut.before before → l ≡ drop cut.lines lines → a ≡ drop cut.after after
    → AreWritten l × (b ++ (entries_of l ++ a) ≡ drop size (before ++ (entries_of lines ++ after)))
left before lines after size cut b l a h end be le ae =
    let rest = all_dropped before lines after size cut h end in
    (subst AreWritten (sym le) rest.0, rw (be, le, ae) rest.1)

-- the entries after the lines, where only they are left
pub alone : (b : List Entry) (l : List ℕ) (a x y : List Entry)
    → b ≡ [] → l ≡ [] → x ++ y ≡ a → x ++ (entries_of l ++ y) ≡ b ++ (entries_of l ++ a)
alone b l a x y be le all = rw (be, le) all
