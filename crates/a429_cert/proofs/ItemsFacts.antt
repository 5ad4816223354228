-- The words of entries.
use Rattle.std.proofs.Common.{◌≡◌, suc, List, [], ◌∷◌, ◌++◌, length, refl, ap}
use Rattle.a429_record.specs.declared.entry.Entry.{Entry}
use Rattle.a429_link.specs.declared.seen.Seen.{Seen}
use Rattle.a429_cert.specs.Explained.{items_of, seen_of}

pub length-items_of : (es : List Entry) → length (items_of es) ≡ length es
length-items_of [] = refl
length-items_of (e ∷ es) = ap suc (length-items_of es)

pub items_append : (xs ys : List Entry) → items_of (xs ++ ys) ≡ items_of xs ++ items_of ys
items_append [] ys = refl
items_append (x ∷ xs) ys = ap (λ (is : List Seen). seen_of x ∷ is) (items_append xs ys)

pub items_push : (es : List Entry) (e : Entry) → items_of (es ++ e ∷ []) ≡ items_of es ++ seen_of e ∷ []
items_push es e = items_append es (e ∷ [])
