-- A slice of which a part, from a on, was written.
use Rattle.std.proofs.Common.{◌≡◌, ℕ, ◌+◌, ◌≤◌, sym, ap, ◌∙◌, arith, List, ◌++◌, length, take, drop, length-append}
use Rattle.std.proofs.lemmas.List.{length-take-le, take-append-le}
use Rattle.std.proofs.Math.Seq.{take-append-add}
use borrow.Rule.Slice.PartMut.{put_mid}

-- up to the part's element n it is what stood before the part, and then the part's first n elements
pub take-put_mid_within : (a k n : ℕ) (xs ys : List ℕ)
    → a ≤ length xs → n ≤ length ys → take (a + n) (put_mid a k xs ys) ≡ take a xs ++ take n ys
take-put_mid_within a k n xs ys h few =
    let rest = ys ++ drop k (drop a xs) in
    let front : a ≡ length (take a xs) = sym (length-take-le a xs h) in
    ap (λ m. take (m + n) (take a xs ++ rest)) front ∙ take-append-add (take a xs) rest n
    ∙ ap (λ t. take a xs ++ t) (take-append-le n ys (drop k (drop a xs)) few)

-- and it is no shorter
pub length-put_mid_within : (a k n : ℕ) (xs ys : List ℕ) → a ≤ length xs → n ≤ length ys → a + n ≤ length (put_mid a k xs ys)
length-put_mid_within a k n xs ys h few =
    omega (arith, length-append (take a xs) (ys ++ drop k (drop a xs)), length-append ys (drop k (drop a xs)), length-take-le a xs h)
