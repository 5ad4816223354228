-- What a sheet says, one text after the other.
use Rattle.std.proofs.Common.{◌≡◌, ℕ, ◌+◌, ◌≤◌, sym, ap, ◌∙◌, arith, subst, refl, inl, inr, List, [], ◌++◌, length, take, length-append, append_assoc, append-nil, Option, Some, None, Bool, true, false, Result, Ok, Err}
use Rattle.std.specs.Prelude.{OnOk, IsErr}
use Rattle.std.proofs.lemmas.Bool.{cases_Bool, false_from_ne_true}
use Rattle.std.proofs.lemmas.List.{length-take-le}
use Rattle.std.proofs.Math.Seq.{take-append-add}
use Rattle.std.proofs.KnownBytes.{Appends-trans, Appends-nil, Appends-kept, Keeps-refl}
use Rattle.std.specs.Io.KnownBytes.{Appends, Keeps, append_known}
use Rattle.a429_word.specs.declared.sheet.Sheet.{Sheet}
use Rattle.a429_word.specs.declared.tally.Tally.{Tally}
use Rattle.a429_word.specs.Tally.{inner_of, AppendsPrefix, Puts, PutsFront}
use Rattle.a429_word.specs.Sheet.{written, all_put, IsWritten, sheet_failed, IsPut, Says, said, Writes}
use Rattle.a429_word.proofs.PageFacts.{AppendsPrefix-none, AppendsPrefix-longer}

-- where all of the first text was put, a prefix of what waits then and of the second is one of both texts
prefix_of_both : (a b c : Option (List ℕ)) (page mid x y : List ℕ) → AppendsPrefix a b (page ++ x)
    → Appends (append_known a page) (append_known b mid) x → AppendsPrefix b c (mid ++ y) → AppendsPrefix a c (page ++ (x ++ y))
prefix_of_both None b c page mid x y p all q = (0, omega arith, tt)
prefix_of_both (Some xs) None c page mid x y p all q = absurd all
prefix_of_both (Some xs) (Some ys) None page mid x y p all q = absurd q.2
prefix_of_both (Some xs) (Some ys) (Some zs) page mid x y p all q =
    let n = p.0 in
    let m = q.0 in
    let size : length ys ≡ length xs + n =
    ap length p.2 ∙ omega (arith, length-append xs (take n (page ++ x)), length-take-le n (page ++ x) p.1) in
    let sum : length ys + length mid ≡ length xs + (length page + length x) =
    omega (arith, ap length all, length-append ys mid, length-append (xs ++ page) x, length-append xs page) in
    let within : n + m ≤ length (page ++ (x ++ y)) =
    omega (arith, q.1, length-append mid y, length-append page (x ++ y), length-append x y, size, sum) in
    let whole : ys ++ (mid ++ y) ≡ xs ++ (page ++ (x ++ y)) =
    sym (append_assoc ys mid y) ∙ ap (λ t. t ++ y) all ∙ append_assoc (xs ++ page) x y ∙ append_assoc xs page (x ++ y) in
    let count : length ys + m ≡ length xs + (n + m) = omega (arith, size) in
    let bytes : zs ≡ xs ++ take (n + m) (page ++ (x ++ y)) = q.2 ∙ sym (take-append-add ys (mid ++ y) m)
    ∙ ap (λ k. take k (ys ++ (mid ++ y))) count ∙ ap (take (length xs + (n + m))) whole ∙ take-append-add xs (page ++ (x ++ y)) (n + m) in
    (n + m, within, bytes)

-- where nothing more was written, it is still one
prefix_that_stays : (a b c : Option (List ℕ)) (page x y : List ℕ)
    → AppendsPrefix a b (page ++ x) → Keeps b c → AppendsPrefix a c (page ++ (x ++ y))
prefix_that_stays a b c page x y p kept =
    rw (← append_assoc page x y) (AppendsPrefix-longer a c (page ++ x) y (p.0, p.1, Appends-kept a b c _ p.2 kept))

-- one text, and then another
put_both : {W : Type 0} {contents : W → Option (List ℕ)} {a b c : Sheet W} {x y : List ℕ} → IsPut contents a b x → IsPut contents b c y
    → IsPut contents a c (x ++ y)
put_both {contents} {a} {b} {c} {x} {y} p q =
    record {
      same_out = q.same_out ∙ p.same_out;
      same_page = q.same_page ∙ p.same_page;
      all = all;
      prefix = prefix;
      stays = λ failed. let first = p.stays failed in q.stays (cc (failed, first)) ∙ first;
    }
  where
    works : sheet_failed c ≡ false → sheet_failed b ≡ false
    works h = false_from_ne_true _ (λ failed. let same = q.stays failed in absurd (cc (h, failed, same)))

    all : sheet_failed c ≡ false → Appends (all_put contents a) (all_put contents c) (x ++ y)
    all h = Appends-trans _ _ _ x y (p.all (works h)) (q.all h)

    kept : sheet_failed b ≡ true → Keeps (written contents b) (written contents c)
    kept failed = subst (λ out. Keeps (written contents b) (contents (inner_of out))) (sym (q.stays failed)) (Keeps-refl _)

    prefix : AppendsPrefix (written contents a) (written contents c) (a.page.now ++ (x ++ y))
    prefix = elim (cases_Bool (sheet_failed b)) [
      | inl failed ↦ prefix_that_stays (written contents a) (written contents b) (written contents c) a.page.now x y p.prefix (kept failed)
      | inr working ↦
          prefix_of_both (written contents a) (written contents b) (written contents c) a.page.now b.page.now x y p.prefix
          (p.all working) q.prefix
    ]

-- nothing was put
put_nothing : {W : Type 0} (contents : W → Option (List ℕ)) (a : Sheet W) → IsPut contents a a []
put_nothing contents a = record {
  same_out = refl;
  same_page = refl;
  all = λ _. Appends-nil _;
  prefix = AppendsPrefix-none _ _ _ (Keeps-refl _);
  stays = λ _. refl;
}

-- what holds at Ok holds where the output has not failed
pub at_ok_where_it_works : {T E P : Type 0} (r : Result T E) (failed : Bool) → OnOk r P → (IsErr r → failed ≡ true) → failed ≡ false → P
at_ok_where_it_works (Ok x) failed ok err works = ok
at_ok_where_it_works (Err e) failed ok err works = absurd (cc (works, err refl))

-- what was put on a sheet, begun with an empty page, is what the output has, once it is finished
whole_of : {W : Type 0} {contents : W → Option (List ℕ)} {start last done : Sheet W} {text : List ℕ} → start.page.now ≡ []
    → IsPut contents start last text → IsPut contents last done [] → sheet_failed done ≡ false → IsWritten contents done
    → Puts contents start.out.now done.out.now text
whole_of {contents} {start} {last} {done} {text} empty says rest works whole =
    let all = (put_both says rest).all works in
    let from_empty : Appends (append_known (written contents start) []) (all_put contents done) (text ++ []) =
    subst (λ p. Appends (append_known (written contents start) p) (all_put contents done) (text ++ [])) empty all in
    plain (written contents start) (all_put contents done) (written contents done) text from_empty whole
  where
    plain : (a b c : Option (List ℕ)) (text : List ℕ) → Appends (append_known a []) b (text ++ []) → Keeps b c → Appends a c text
    plain None b c text p q = tt
    plain (Some x) None c text p q = absurd p
    plain (Some x) (Some y) None text p q = absurd q
    plain (Some x) (Some y) (Some z) text p q = q ∙ p ∙ ap (λ t. t ++ (text ++ [])) (append-nil x) ∙ ap (λ t. x ++ t) (append-nil text)

-- whatever happened, the output has a prefix of it, at most
prefix_of : {W : Type 0} {contents : W → Option (List ℕ)} {start last done : Sheet W} {text : List ℕ} → start.page.now ≡ []
    → IsPut contents start last text → IsPut contents last done [] → PutsFront contents start.out.now done.out.now text
prefix_of {contents} {start} {last} {done} {text} empty says rest =
    subst (AppendsPrefix (written contents start) (written contents done)) (ap (λ p. p ++ (text ++ [])) empty ∙ append-nil text)
    (put_both says rest).prefix

-- ---- the same of `Says`

pub says_both : {W : Type 0} {contents : W → Option (List ℕ)} {a b c : Sheet W} {x y : List ℕ} → Says contents a b x → Says contents b c y
    → Says contents a c (x ++ y)
says_both (said p) (said q) = said (put_both p q)

-- a proof reads as the text does: name ▹ space ▹ number
infixl 60 ◌▹◌
pub ◌▹◌ : {W : Type 0} {contents : W → Option (List ℕ)} {a b c : Sheet W} {x y : List ℕ} → Says contents a b x → Says contents b c y
    → Says contents a c (x ++ y)
p ▹ q = says_both p q

pub says_nothing : {W : Type 0} (contents : W → Option (List ℕ)) (a : Sheet W) → Says contents a a []
says_nothing contents a = said (put_nothing contents a)

-- a sheet that has failed says any text: so a writer may stop early
pub says_after_failure : {W : Type 0} (contents : W → Option (List ℕ)) (a : Sheet W) (text : List ℕ) → sheet_failed a ≡ true
    → Says contents a a text
says_after_failure contents a text failed = said (record {
  same_out = refl;
  same_page = refl;
  all = λ works. absurd (cc (failed, works));
  prefix = AppendsPrefix-none _ _ _ (Keeps-refl _);
  stays = λ _. refl;
})

-- it is a sheet of the same output and the same page
pub says_same_out : {W : Type 0} {contents : W → Option (List ℕ)} {a b : Sheet W} {x : List ℕ} → Says contents a b x
    → b.out.ghost_name ≡ a.out.ghost_name
says_same_out (said p) = p.same_out

-- if it has not failed, it had not before, and the text comes after all that was put
pub says_works : {W : Type 0} {contents : W → Option (List ℕ)} {a b : Sheet W} {x : List ℕ} → Says contents a b x → sheet_failed b ≡ false
    → sheet_failed a ≡ false
says_works (said p) works = false_from_ne_true _ (λ failed. let same = p.stays failed in absurd (cc (works, failed, same)))

-- what is put on a sheet, begun with an empty page, is what is written to its output, once the sheet is finished
pub writes : {W : Type 0} {contents : W → Option (List ℕ)} {start last done : Sheet W} {text : List ℕ} {old : Tally W} → start.page.now ≡ []
    → start.out.now ≡ old → Says contents start last text → Says contents last done []
    → (sheet_failed done ≡ false → IsWritten contents done) → Writes contents old done.out.now text
writes {contents} {done} {text} empty same (said says) (said rest) whole =
    subst (λ old. Writes contents old done.out.now text) same
    (record {
      all = λ works. whole_of empty says rest works (whole works);
      prefix = prefix_of empty says rest;
      stays = λ failed. (put_both says rest).stays failed;
    })
