-- A text in pieces, and its lines.
use Rattle.std.specs.Option.{IfSome, IfNone}
use Rattle.memchr.specs.Find.{is_byte, Passes, IsFirstByte}
use Rattle.std.proofs.Common.{◌≡◌, ◌∙◌, ◌+◌, ◌-◌, ◌<◌, ◌≤◌, ℕ, length, take, drop, get_or, arith, List, [], ◌∷◌, ◌++◌, Option, Some, None, inl, inr, refl, sym, ap, subst, append_assoc, zero, suc, ◌==◌, eqb-true, slice_index}
use borrow.Rule.Slice.PartMut.{put_mid}
use Rattle.a429_word.proofs.TallySlices.{take-put_mid_within}
use Rattle.std.proofs.lemmas.List.{append-nil, length-drop, length-take-le, drop-drop, drop-take, drop_more, take-append-drop, take_all}
use Rattle.std.proofs.Math.Seq.{take-append_seam}
use Rattle.std.specs.Io.KnownBytes.{Consumes, IsAtEnd, prepend_known}
use Rattle.std.proofs.KnownBytes.{Consumes-trans}
use Rattle.std.proofs.lemmas.Bool.{false_from_ne_true}
use Rattle.a429_record.specs.Ends.{HasNoEnd}
use Rattle.a429_record.specs.Recording.{recording_lines, with_first}
use Rattle.a429_record.specs.Handed.{Loses, IsLineHanded}

pub HasNoEnd-append : (xs ys : List ℕ) → HasNoEnd xs → HasNoEnd ys → HasNoEnd (xs ++ ys)
HasNoEnd-append [] ys p q = q
HasNoEnd-append (x ∷ xs) ys p q = (p.0, HasNoEnd-append xs ys p.1 q)

-- ---- the first line feed, as a search gives it

none_passes : (bs : List ℕ) (n : ℕ) → ((k : ℕ) → 0 ≤ k → k < n → Passes (is_byte 10) bs k → ⊥) → HasNoEnd (take n bs)
none_passes bs zero h = tt
none_passes [] (suc n) h = tt
none_passes (b ∷ bs) (suc n) h = (
  false_from_ne_true (b == 10) (h 0 (omega arith) (omega arith)),
  none_passes bs n (λ k least below. h (suc k) (omega arith) (omega arith)),
)

pub end_found : (bs : List ℕ) (r : Option ℕ)
    → IsFirstByte (is_byte 10) bs r → IfSome r (λ n. (n < length bs) × HasNoEnd (take n bs) × (slice_index bs n ≡ 10))
end_found bs (Some n) h = (h.0.high, none_passes bs n h.0.before, eqb-true _ _ h.1)
end_found bs None h = tt

pub no_end : (bs : List ℕ) (r : Option ℕ) → IsFirstByte (is_byte 10) bs r → IfNone r (HasNoEnd bs)
no_end bs (Some n) h = tt
no_end bs None h = rw (take_all (length bs) bs (omega arith)) at (none_passes bs (length bs) h)

-- ---- the first line of known bytes

pub lines_of-ended : (line rest : List ℕ) → HasNoEnd line → recording_lines (line ++ (10 ∷ rest)) ≡ line ∷ recording_lines rest
lines_of-ended [] rest h = refl
lines_of-ended (x ∷ xs) rest h = rw h.0 (ap (with_first x) (lines_of-ended xs rest h.1))

pub lines_of-last : (x : ℕ) (xs : List ℕ) → HasNoEnd (x ∷ xs) → recording_lines (x ∷ xs) ≡ (x ∷ xs) ∷ []
lines_of-last x [] h = rw h.0 refl
lines_of-last x (y ∷ ys) h = rw h.0 (ap (with_first x) (lines_of-last y ys h.1))

-- the bytes so far and a line feed are the first line
pub takes_ended : (a b : Option (List ℕ)) (line : List ℕ) → HasNoEnd line → Consumes a b (line ++ (10 ∷ [])) → Loses (IsLineHanded line) a b
takes_ended None b line h p = tt
takes_ended (Some a) None line h p = absurd p
takes_ended (Some a) (Some b) line h p = (line ++ (10 ∷ []), p, (h, inl refl))

-- the bytes so far are the last line, where there are any
pub takes_last : (a b : Option (List ℕ)) (line : List ℕ)
    → 0 < length line → HasNoEnd line → Consumes a b line → IsAtEnd b → Loses (IsLineHanded line) a b
takes_last None b line some h p q = tt
takes_last (Some a) None line some h p q = absurd p
takes_last (Some a) (Some b) line some h p q = (line, p, (h, inr (some, refl, q)))

-- a line that is lost was the first
pub line_first : (line taken rest xs : List ℕ)
    → IsLineHanded line taken rest → xs ≡ taken ++ rest → recording_lines xs ≡ line ∷ recording_lines rest
line_first line taken rest xs (one, inl e) is =
    ap recording_lines (is ∙ ap (λ (l : List ℕ). l ++ rest) e ∙ append_assoc line (10 ∷ []) rest) ∙ lines_of-ended line rest one
line_first [] taken rest xs (one, inr (some, e, last)) is = absurd (omega arith)
line_first (x ∷ line) taken rest xs (one, inr (some, e, last)) is =
    let all : xs ≡ x ∷ line = rw (e, last) at is ∙ append-nil (x ∷ line) in rw last (ap recording_lines all ∙ lines_of-last x line one)

-- ---- the bytes that were read

-- the bytes between two places, cut the other way
pub ahead_slice : (xs : List ℕ) (at filled : ℕ) → at ≤ filled → take (filled - at) (drop at xs) ≡ drop at (take filled xs)
ahead_slice xs at filled h =
    let e : at + (filled - at) ≡ filled = omega arith in
    sym (ap (λ (n : ℕ). drop at (take n xs)) (sym e) ∙ drop-take at (filled - at) xs)

pub gives : (k : Option (List ℕ)) (ahead part rest : List ℕ)
    → ahead ≡ part ++ rest → Consumes (prepend_known ahead k) (prepend_known rest k) part
gives None ahead part rest e = tt
gives (Some z) ahead part rest e = ap (λ (l : List ℕ). l ++ z) e ∙ append_assoc part rest z

-- a part of the bytes that were read is given behind those given before
pub given : (a k : Option (List ℕ)) (ahead part rest line : List ℕ) → Consumes a (prepend_known ahead k) line → ahead ≡ part ++ rest
    → Consumes a (prepend_known rest k) (line ++ part)
given a k ahead part rest line h e = Consumes-trans a (prepend_known ahead k) (prepend_known rest k) line part h (gives k ahead part rest e)

pub split_end : (xs : List ℕ) (n : ℕ) → n < length xs → get_or xs n 0 ≡ 10 → xs ≡ (take n xs ++ (10 ∷ [])) ++ drop (n + 1) xs
split_end xs n h e =
    sym (append_assoc (take n xs) (10 ∷ []) (drop (n + 1) xs)
    ∙ ap (λ (l : List ℕ). take n xs ++ l) (sym (drop_more xs n 0 h ∙ ap (λ (b : ℕ). b ∷ drop (n + 1) xs) e)) ∙ take-append-drop n xs)

-- a front of the bytes that were read, and what is behind it
pub ahead_taken : (buffer : List ℕ) (at filled n : ℕ) (part rest : List ℕ)
    → at ≤ filled → filled ≤ length buffer → n ≤ filled - at → part ≡ take n (take (filled - at) (drop at buffer))
    → drop at (take filled buffer) ≡ take n (part ++ rest) ++ drop (at + n) (take filled buffer)
ahead_taken buffer at filled n part rest ordered inside few is =
    let all = drop at (take filled buffer) in
    let here : length (take (filled - at) (drop at buffer)) ≡ filled - at =
    length-take-le (filled - at) (drop at buffer) (omega (arith, length-drop at buffer)) in
    let size : length part ≡ n = ap length is ∙ length-take-le n (take (filled - at) (drop at buffer)) (omega (arith, here)) in
    let front : take n (part ++ rest) ≡ part = subst (λ (k : ℕ). take k (part ++ rest) ≡ part) size (take-append_seam part rest) in
    let first : part ≡ take n all = is ∙ ap (take n) (ahead_slice buffer at filled ordered) in
    let following : drop (at + n) (take filled buffer) ≡ drop n all = sym (drop-drop n at (take filled buffer)) in
    rw (front, following) (first_rest part all n first)
  where
    first_rest : (part all : List ℕ) (n : ℕ) → part ≡ take n all → all ≡ part ++ drop n all
    first_rest part all n e = sym (ap (λ (l : List ℕ). l ++ drop n all) e ∙ take-append-drop n all)

-- a part of them is put behind those that were given before
pub part_given : (a k : Option (List ℕ)) (ahead rest bytes part : List ℕ) (at m n : ℕ)
    → at ≤ length bytes → n ≤ length part → Consumes a (prepend_known ahead k) (take at bytes)
    → ahead ≡ take n part ++ rest → Consumes a (prepend_known rest k) (take (at + n) (put_mid at m bytes part))
part_given a k ahead rest bytes part at m n inside few gone cut =
    rw (take-put_mid_within at m n bytes part inside few) (given a k ahead (take n part) rest (take at bytes) gone cut)

pub take_most : (n : ℕ) (xs : List ℕ) → length (take n xs) ≤ n
take_most zero xs = omega arith
take_most (suc n) [] = omega arith
take_most (suc n) (x ∷ xs) = let h = take_most n xs in omega (arith, h)
