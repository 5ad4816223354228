-- The lines of the words inside a block, as one text.
use Rattle.std.proofs.Common.{◌≡◌, ◌∙◌, ◌≤◌, ◌+◌, ◌-◌, ℕ, zero, suc, List, [], ◌∷◌, ◌++◌, length, take, drop, refl, sym, ap, arith, append_assoc, append-nil}
use Rattle.std.proofs.Math.Seq.{take-append_seam, drop-append_seam}
use Rattle.std.proofs.lemmas.List.{length-append}
use Rattle.a429_cert.specs.declared.line.CertLine.{CertLine}
use Rattle.a429_cert.specs.Line.{spelling}
use Rattle.a429_cert.specs.Likely.{sent_line, taken_line, values_below}
use Rattle.a429_cert.specs.BlockText.{word_lines, block_lines, start_of}

-- ---- the text

-- some words, and those after them
pub lines_split : (k a b : ℕ) → block_lines k (a + b) ≡ block_lines k a ++ block_lines (k + a) b
lines_split k zero b =
    let same : k + zero ≡ k = omega arith in
    let none : zero + b ≡ b = omega arith in
    rw (same, none) refl
lines_split k (suc a) b =
    let next : k + suc a ≡ suc k + a = omega arith in
    let sum : suc a + b ≡ suc (a + b) = omega arith in
    rw (next, sum) (ap (λ (t : List ℕ). word_lines k ++ t) (lines_split (suc k) a b)
    ∙ sym (append_assoc (word_lines k) (block_lines (suc k) a) (block_lines (suc k + a) b)))

-- one word more
pub word_more : (k : ℕ) (none one two : List ℕ) (sent taken : CertLine) → none ≡ block_lines 0 k → sent ≡ sent_line k → taken ≡ taken_line k
    → one ≡ none ++ 10 ∷ spelling sent → two ≡ one ++ 10 ∷ spelling taken → two ≡ block_lines 0 (k + 1)
word_more k none one two sent taken before s t first second =
    let here : 0 + k ≡ k = omega arith in
    let first_text = 10 ∷ spelling (sent_line k) in
    let second_text = 10 ∷ spelling (taken_line k) in
    let both : two ≡ (block_lines 0 k ++ first_text) ++ second_text = rw (second, first, before, s, t) refl in
    both
    ∙ append_assoc (block_lines 0 k) first_text second_text
    ∙ ap (λ (t : List ℕ). block_lines 0 k ++ t) (sym (append-nil (word_lines k)))
    ∙ ap (λ (j : ℕ). block_lines 0 k ++ block_lines j 1) (sym here)
    ∙ sym (lines_split 0 k 1)

-- and where it begins
pub start_more : (k : ℕ) (old new text : List ℕ)
    → old ≡ values_below start_of k → new ≡ old ++ length text ∷ [] → text ≡ block_lines 0 k → new ≡ values_below start_of (k + 1)
start_more k old new text before more is =
    let one : k + 1 ≡ suc k = omega arith in
    rw (one, more, before, is) refl

-- ---- a part of it

pub lines_between : (place words from to : ℕ) (text : List ℕ)
    → place + words ≤ 254 → text ≡ block_lines 0 254 → from ≡ start_of place → to ≡ start_of (place + words)
    → take (to - from) (drop from text) ≡ block_lines place words
lines_between place words from to text few is start end =
    let here : 0 + place ≡ place = omega arith in
    let rest = 254 - (place + words) in
    let all : place + (words + rest) ≡ 254 = omega (arith, few) in
    let inside = block_lines place words in
    let after = block_lines (place + words) rest in
    let whole : text ≡ block_lines 0 place ++ (inside ++ after) =
    is ∙ ap (block_lines 0) (sym all) ∙ lines_split 0 place (words + rest)
    ∙ ap (λ (j : ℕ). block_lines 0 place ++ block_lines j (words + rest)) here
    ∙ ap (λ (t : List ℕ). block_lines 0 place ++ t) (lines_split place words rest) in
    let size : to - from ≡ length inside = omega (
      arith,
      start,
      end,
      ap length (lines_split 0 place words ∙ ap (λ (j : ℕ). block_lines 0 place ++ block_lines j words) here),
      length-append (block_lines 0 place) inside,
    ) in
    rw (size, start, whole, drop-append_seam (block_lines 0 place) (inside ++ after)) (take-append_seam inside after)

pub starts_ordered : (place words from to : ℕ) → from ≡ start_of place → to ≡ start_of (place + words) → from ≤ to
starts_ordered place words from to start end =
    let here : 0 + place ≡ place = omega arith in
    let inside = block_lines place words in
    omega (
      arith,
      start,
      end,
      ap length (lines_split 0 place words ∙ ap (λ (j : ℕ). block_lines 0 place ++ block_lines j words) here),
      length-append (block_lines 0 place) inside,
    )

pub ends_inside : (end to : ℕ) (text : List ℕ) → end ≤ 254 → text ≡ block_lines 0 254 → to ≡ start_of end → to ≤ length text
ends_inside end to text few is here =
    let all : end + (254 - end) ≡ 254 = omega (arith, few) in
    let whole : text ≡ block_lines 0 end ++ block_lines (0 + end) (254 - end) =
    is ∙ ap (block_lines 0) (sym all) ∙ lines_split 0 end (254 - end) in
    omega (arith, here, ap length whole, length-append (block_lines 0 end) (block_lines (0 + end) (254 - end)))
