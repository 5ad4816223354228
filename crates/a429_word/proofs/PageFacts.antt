-- Bytes on a page, and what was put of them.
use Rattle.std.proofs.Common.{◌≡◌, ℕ, ◌+◌, ◌≤◌, sym, ap, ◌∙◌, arith, List, [], ◌++◌, length, take, length-append, append_assoc, append-nil, Option, Some, None, Result, Ok, Err}
use Rattle.std.specs.Prelude.{OnOk, OnErr}
use Rattle.std.proofs.lemmas.List.{length-take-le, take-take, take-append-le}
use Rattle.std.proofs.Math.Seq.{take-append-add, take-append_seam, take-length}
use Rattle.std.specs.Io.KnownBytes.{Appends, Keeps, append_known}
use Rattle.a429_word.specs.Tally.{AppendsPrefix}

-- the bytes up to a, with ys written behind them
take-written : (a n : ℕ) (xs ys rest : List ℕ) → a ≤ length xs → length ys ≡ n → take (a + n) (take a xs ++ (ys ++ rest)) ≡ take a xs ++ ys
take-written a n xs ys rest h size =
    ap (λ m. take (m + n) (take a xs ++ (ys ++ rest))) (sym (length-take-le a xs h)) ∙ take-append-add (take a xs) (ys ++ rest) n
    ∙ ap (λ t. take a xs ++ t) (ap (λ m. take m (ys ++ rest)) (sym size) ∙ take-append_seam ys rest)

-- and where all of it is put back in place of the first len bytes
pub take-refilled : (a n len : ℕ) (xs ys rest tail : List ℕ)
    → a + n ≤ len → a ≤ length xs → length ys ≡ n → take (a + n) (take len ((take a xs ++ (ys ++ rest)) ++ tail)) ≡ take a xs ++ ys
take-refilled a n len xs ys rest tail room h size =
    let long : a + n ≤ length (take a xs ++ (ys ++ rest)) =
    omega (arith, size, length-take-le a xs h, length-append (take a xs) (ys ++ rest), length-append ys rest) in
    take-take (a + n) len ((take a xs ++ (ys ++ rest)) ++ tail) room ∙ take-append-le (a + n) (take a xs ++ (ys ++ rest)) tail long
    ∙ take-written a n xs ys rest h size

-- the same, of the first of what is written
pub take-begun : (a count n len : ℕ) (xs ys rest tail : List ℕ) → count ≤ n → a + n ≤ len → a ≤ length xs → length ys ≡ n
    → take (a + count) (take len ((take a xs ++ (ys ++ rest)) ++ tail)) ≡ take a xs ++ take count ys
take-begun a count n len xs ys rest tail few room h size =
    let whole = take len ((take a xs ++ (ys ++ rest)) ++ tail) in
    sym (take-take (a + count) (a + n) whole (omega (arith, few)))
    ∙ ap (take (a + count)) (take-refilled a n len xs ys rest tail room h size)
    ∙ ap (λ m. take (m + count) (take a xs ++ ys)) (sym (length-take-le a xs h))
    ∙ take-append-add (take a xs) ys count

-- a front of what follows the whole page
pub AppendsPrefix-behind : (a b c : Option (List ℕ)) (page bytes : List ℕ)
    → Keeps (append_known a page) b → AppendsPrefix b c bytes → AppendsPrefix a c (page ++ bytes)
AppendsPrefix-behind a b c page bytes put front = (
  length page + front.0,
  omega (arith, length-append page bytes, front.1),
  rw (take-append-add page bytes front.0) (joined a b c page (take front.0 bytes) put front.2),
)
  where
    joined : (a b c : Option (List ℕ)) (xs ys : List ℕ) → Keeps (append_known a xs) b → Appends b c ys → Appends a c (xs ++ ys)
    joined None b c xs ys put more = tt
    joined (Some z) None c xs ys put more = absurd put
    joined (Some z) (Some y) None xs ys put more = absurd more
    joined (Some z) (Some y) (Some c) xs ys put more = more ∙ ap (λ t. t ++ ys) put ∙ append_assoc z xs ys

-- nothing is a prefix of anything
pub AppendsPrefix-none : (a b : Option (List ℕ)) (text : List ℕ) → Keeps a b → AppendsPrefix a b text
AppendsPrefix-none a b text h = (0, omega arith, nothing a b h)
  where
    nothing : (a b : Option (List ℕ)) → Keeps a b → Appends a b []
    nothing None b h = tt
    nothing (Some x) None h = absurd h
    nothing (Some x) (Some y) h = h ∙ sym (append-nil x)

-- all of a text is a prefix of it
pub AppendsPrefix-whole : (a b : Option (List ℕ)) (text : List ℕ) → Appends a b text → AppendsPrefix a b text
AppendsPrefix-whole a b text h = (length text, omega arith, rw (take-length text) h)

-- a prefix of a text is one of a longer text
pub AppendsPrefix-longer : (a b : Option (List ℕ)) (text more : List ℕ) → AppendsPrefix a b text → AppendsPrefix a b (text ++ more)
AppendsPrefix-longer a b text more h = (h.0, omega (arith, h.1, length-append text more), rw (take-append-le h.0 text more h.1) h.2)

-- whether all was written or not, a prefix was
pub AppendsPrefix-either : {T E : Type 0} (a b : Option (List ℕ)) (r : Result T E) (text : List ℕ)
    → OnOk r (Appends a b text) → OnErr r (AppendsPrefix a b text) → AppendsPrefix a b text
AppendsPrefix-either a b (Ok x) text ok err = AppendsPrefix-whole a b text ok
AppendsPrefix-either a b (Err e) text ok err = err
