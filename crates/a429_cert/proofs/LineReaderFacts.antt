-- The lines of bytes that were read and of those behind them.
use Rattle.std.proofs.Common.{◌≡◌, ◌⊎◌, inl, inr, ℕ, suc, ◌+◌, ◌-◌, ◌≤◌, ◌<◌, ◌==◌, ◌∙◌, List, [], ◌∷◌, ◌++◌, length, take, drop, true, false, nat_le, nat_lt, not, if◌then◌else◌, Option, Some, None, IsSome, option_map, slice_get, refl, sym, ap, subst, arith, append-nil, append_assoc}
use Rattle.std.proofs.lemmas.List.{drop-drop, drop-take, take-take, length-take, length-drop}
use borrow.Rule.Slice.PartMut.{put_mid}
use Rattle.std.proofs.lemmas.Bool.Decides.{nat_tests}
use Rattle.a429_word.proofs.TallySlices.{take-put_mid_within}
use Rattle.std.specs.Io.KnownBytes.{Consumes, Keeps, IsAtEnd, prepend_known}
use Rattle.std.proofs.lemmas.Option.{same_Some}
use Rattle.memchr.specs.Find.{is_byte, IsFirstByte}
use Rattle.a429_cert.specs.Lines.{certificate_lines, begun_with}
use Rattle.a429_cert.specs.CutLines.{BeginsWith, GivesLine, IsFirstLine, IsLeftAfter, cut}
use Rattle.a429_record.specs.Ends.{HasNoEnd}
use Rattle.a429_cert.proofs.LinesFacts.{first_line, no_line}

-- ---- places in the buffer

-- a line that begins where what is ahead began, and ends before a line feed there
pub held_now : (buffer : List ℕ) (next filled len : ℕ) → len < length (take (filled - next) (drop next buffer))
    → take (next + (len + 1) - 1 - next) (drop next buffer) ≡ take len (take (filled - next) (drop next buffer))
held_now buffer next filled len h =
    let all = drop next buffer in
    let inside : len ≤ filled - next = omega (arith, length-take (filled - next) all) in
    let same : next + (len + 1) - 1 - next ≡ len = omega arith in
    ap (λ k. take k all) same ∙ sym (take-take len (filled - next) all inside)

-- what is ahead past so many bytes
pub ahead_past : (buffer : List ℕ) (next filled len : ℕ) → len ≤ length (take (filled - next) (drop next buffer))
    → drop len (take (filled - next) (drop next buffer)) ≡ take (filled - (next + len)) (drop (next + len) buffer)
ahead_past buffer next filled len h =
    let all = drop next buffer in
    let some : len ≤ filled - next = omega (arith, h, length-take (filled - next) all) in
    let both : filled - next ≡ len + (filled - (next + len)) = omega (arith, some) in
    ap (λ k. drop len (take k all)) both ∙ drop-take len (filled - (next + len)) all
    ∙ ap (take (filled - (next + len))) (drop-drop len next buffer)

-- what is then ahead
pub ahead_now : (buffer : List ℕ) (next filled len : ℕ) → len < length (take (filled - next) (drop next buffer))
    → drop (suc len) (take (filled - next) (drop next buffer)) ≡ take (filled - (next + (len + 1))) (drop (next + (len + 1)) buffer)
ahead_now buffer next filled len h =
    let all = drop next buffer in
    let some : len < filled - next = omega (arith, length-take (filled - next) all) in
    let both : filled - next ≡ suc len + (filled - (next + (len + 1))) = omega arith in
    let there : next + suc len ≡ next + (len + 1) = omega arith in
    ap (λ k. drop (suc len) (take k all)) both ∙ drop-take (suc len) (filled - (next + (len + 1))) all
    ∙ ap (take (filled - (next + (len + 1)))) (drop-drop (suc len) next buffer ∙ ap (λ k. drop k buffer) there)

-- the line that a search finds
pub line_taken : (buffer : List ℕ) (next filled len : ℕ) (r : Option ℕ) (z : List ℕ)
    → IsFirstByte (is_byte 10) (take (filled - next) (drop next buffer)) r → r ≡ Some len
    → certificate_lines (take (filled - next) (drop next buffer) ++ z)
    ≡ (if nat_lt next (next + (len + 1)) then Some (take (next + (len + 1) - 1 - next) (drop next buffer)) else None)
    ∷ certificate_lines (take (filled - (next + (len + 1))) (drop (next + (len + 1)) buffer) ++ z)
line_taken buffer next filled len r z h e =
    let ahead = take (filled - next) (drop next buffer) in
    let found = subst (IsFirstByte (is_byte 10) ahead) e h in
    let longer : nat_lt next (next + (len + 1)) ≡ true = grind (arith, nat_tests) in
    rw (longer, held_now buffer next filled len found.0.high, ← ahead_now buffer next filled len found.0.high)
    (first_line ahead z len found.0.high found.0.before found.1)

-- ---- bytes that are read

-- they stand behind what was ahead
pub read_behind : (buffer got : List ℕ) (k next filled n : ℕ)
    → next ≡ 0 → length (take (filled - next) (drop next buffer)) ≡ filled → n ≤ length got
    → take (filled + n - next) (drop next (put_mid filled k buffer got)) ≡ take (filled - next) (drop next buffer) ++ take n got
read_behind buffer got k next filled n none whole few =
    let inside : filled ≤ length buffer = omega (arith, whole, length-take (filled - next) (drop next buffer), length-drop next buffer) in
    let all : filled + n - next ≡ filled + n = omega arith in
    let old : filled - next ≡ filled = omega arith in
    rw (all, old, none) (take-put_mid_within filled k n buffer got inside few)

pub grown : (a b : Option (List ℕ)) (before ahead new got : List ℕ)
    → ahead ≡ before → new ≡ ahead ++ got → Consumes a b got → Keeps (prepend_known before a) (prepend_known new b)
grown None b before ahead new got e f h = tt
grown (Some x) None before ahead new got e f h = absurd h
grown (Some x) (Some y) before ahead new got e f h = rw (f, h, e) (append_assoc before got y)

-- where none are read, that stays
pub none_behind : (buffer got : List ℕ) (k next filled : ℕ) → next ≡ 0 → length (take (filled - next) (drop next buffer)) ≡ filled
    → take (filled - next) (drop next (put_mid filled k buffer got)) ≡ take (filled - next) (drop next buffer)
none_behind buffer got k next filled none whole =
    let same : filled - next ≡ filled + 0 - next = omega arith in
    ap (λ n. take n (drop next (put_mid filled k buffer got))) same ∙ read_behind buffer got k next filled 0 none whole (omega arith)
    ∙ append-nil (take (filled - next) (drop next buffer))

-- a read that fails takes nothing
pub none_lost : (a b : Option (List ℕ)) (before new : List ℕ)
    → new ≡ before → Keeps a b → Keeps (prepend_known before a) (prepend_known new b)
none_lost None b before new e h = tt
none_lost (Some x) None before new e h = absurd h
none_lost (Some x) (Some y) before new e h = rw (e, h) refl

-- nothing was read
pub none_grown : (got new ahead before : List ℕ) (n : ℕ) → nat_lt 0 n ≡ false → new ≡ ahead ++ take n got → ahead ≡ before → new ≡ before
none_grown got new ahead before n none e f =
    let zero : n ≡ 0 = grind (arith, nat_tests) in
    e ∙ rw zero (append-nil ahead) ∙ f

-- ---- lines that are handed out

left_after : (line : Option (List ℕ)) (old new : List ℕ)
    → IsSome line → certificate_lines old ≡ line ∷ certificate_lines new → IsLeftAfter line old new
left_after (Some text) old new some e = sym (ap (drop 1) e)
left_after None old new some e = absurd (cc some)

-- the first line of known bytes
pub ended_given : (a k : Option (List ℕ)) (ahead left : List ℕ) (line : Option (List ℕ)) → Keeps a (prepend_known ahead k)
    → BeginsWith ahead line left → IsSome line → cut line ≡ line → GivesLine a (prepend_known left k) line true
ended_given None k ahead left line h f some short = tt
ended_given (Some x) None ahead left line h f some short = absurd h
ended_given (Some x) (Some z) ahead left line h f some short =
    let e : certificate_lines x ≡ line ∷ certificate_lines (left ++ z) = ap certificate_lines (sym h) ∙ f z in
    (rw e (ap Some short), left_after line x (left ++ z) some e)

-- ---- lines whose line feed was not read

-- a line has at least so many bytes, or no end
abbrev IsAsLong : ℕ → Option (List ℕ) → Type 0
IsAsLong n None = Unit {0}
IsAsLong n (Some text) = n ≤ length text

-- bytes without a line feed are the front of a line
record Opens (n : ℕ) (lines : List (Option (List ℕ))) : Type 0 where
  line : Option (List ℕ)
  first : slice_get lines 0 ≡ Some line
  long : IsAsLong n line

longer_by : (b n : ℕ) (line : Option (List ℕ)) → IsAsLong n line → IsAsLong (suc n) (option_map (λ text. b ∷ text) line)
longer_by b n None h = tt
longer_by b n (Some text) h = omega (arith, h)

begun_first : (b n : ℕ) (lines : List (Option (List ℕ))) → Opens n lines → Opens (suc n) (begun_with b lines)
begun_first b n [] h = absurd (cc h.first)
begun_first b n (line ∷ lines) h =
    let same : line ≡ h.line = same_Some line h.line h.first in
    record { line = option_map (λ text. b ∷ text) line; first = refl; long = longer_by b n line (subst (IsAsLong n) (sym same) h.long) }

begun_one : (b : ℕ) (lines : List (Option (List ℕ))) → Opens 1 (begun_with b lines)
begun_one b [] = record { line = None; first = refl; long = tt }
begun_one b (None ∷ lines) = record { line = None; first = refl; long = tt }
begun_one b (Some text ∷ lines) = record { line = Some (b ∷ text); first = refl; long = omega arith }

opens : (b : ℕ) (bs z : List ℕ) → HasNoEnd (b ∷ bs) → Opens (suc (length bs)) (certificate_lines ((b ∷ bs) ++ z))
opens b [] z h =
    let other : (b == 10) ≡ false = h.0 in
    rw other (begun_one b (certificate_lines z))
opens b (c ∷ cs) z h =
    let other : (b == 10) ≡ false = h.0 in
    rw other (begun_first b (suc (length cs)) (certificate_lines ((c ∷ cs) ++ z)) (opens c cs z h.1))

cut_long : (n : ℕ) (line : Option (List ℕ)) → 2288 ≤ n → IsAsLong n line → cut line ≡ None
cut_long n None h long = refl
cut_long n (Some text) h long =
    let short : nat_le (length text) 2287 ≡ false = grind (arith, nat_tests, h, long) in
    rw short refl

cut_first : (lines : List (Option (List ℕ))) (n : ℕ) → 2288 ≤ n → Opens n lines → option_map cut (slice_get lines 0) ≡ Some None
cut_first lines n h o = rw o.first (ap Some (cut_long n o.line h o.long))

-- what was read has no line feed, and no more is read
open_first : (b : ℕ) (bs z : List ℕ)
    → HasNoEnd (b ∷ bs) → (2288 ≤ length (b ∷ bs)) ⊎ (z ≡ []) → option_map cut (slice_get (certificate_lines ((b ∷ bs) ++ z)) 0) ≡ Some None
open_first b bs z h (inl long) = cut_first (certificate_lines ((b ∷ bs) ++ z)) (suc (length bs)) long (opens b bs z h)
open_first b bs z h (inr none) = rw (none, append-nil bs) (by (no_line (b ∷ bs) h))
  where
    by : ((b ∷ bs) ≡ []) ⊎ (certificate_lines (b ∷ bs) ≡ None ∷ []) → option_map cut (slice_get (certificate_lines (b ∷ bs)) 0) ≡ Some None
    by (inl e) = absurd (cc e)
    by (inr e) = rw e refl

open_of : (ahead z x : List ℕ)
    → ahead ++ z ≡ x → HasNoEnd ahead → (2288 ≤ length ahead) ⊎ (z ≡ []) → IsFirstLine (not (length ahead == 0)) x (ahead ++ z) None
open_of [] z x e h (inl long) = absurd (omega (arith, long))
open_of [] z x e h (inr none) = let all : x ≡ [] = sym e ∙ none in ap certificate_lines all
open_of (b ∷ bs) z x e h end =
    let some : (length (b ∷ bs) == 0) ≡ false = grind (arith, nat_tests) in
    rw some (subst (λ (l : List ℕ). option_map cut (slice_get (certificate_lines l) 0) ≡ Some None) e (open_first b bs z h end), e)

pub open_given : (a b k : Option (List ℕ)) (before ahead : List ℕ) (line : Option (List ℕ))
    → Keeps a b → Keeps b (prepend_known ahead k) → ahead ≡ before → HasNoEnd before → line ≡ None
    → (2288 ≤ length ahead) ⊎ IsAtEnd k → GivesLine a (prepend_known ahead k) line (not (length ahead == 0))
open_given None b k before ahead line h g e free none end = tt
open_given (Some x) None k before ahead line h g e free none end = absurd h
open_given (Some x) (Some y) None before ahead line h g e free none end = absurd g
open_given (Some x) (Some y) (Some z) before ahead line h g e free none end =
    rw none (open_of ahead z x (g ∙ h) (subst HasNoEnd (sym e) free) end)
