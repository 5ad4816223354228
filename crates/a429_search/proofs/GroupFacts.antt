-- A group with one more attempt.
use Rattle.std.proofs.Common.{◌≡◌, ℕ, Bool, true, false, List, [], Vec, Global, Option, Some, None, IfSome, refl, sym, subst, ◌∙◌}
use Rattle.std.specs.Prelude.{SomeIndex}
use Rattle.std.specs.Option.{option_or}
use Rattle.a429_profile.specs.Profile.{Contents}
use Rattle.a429_ldu.specs.Ldu.{LduValue}
use Rattle.a429_link.specs.Run.{IsSubsequenceOf}
use Rattle.a429_search.specs.declared.attempts.Attempt.{Attempt}
use Rattle.a429_search.specs.declared.attempts.StartWord.{StartWord}
use Rattle.a429_merge.specs.declared.pieces.EndWord.{EndWord}
use Rattle.a429_merge.specs.declared.pieces.GroupPieces.{GroupPieces}
use Rattle.a429_merge.specs.Block.{MayBeUnitOf}
use Rattle.a429_merge.specs.Order.{HasEach, lists_of, words_at}
use Rattle.a429_merge.proofs.OrderFacts.{inside_lists}
use Rattle.a429_merge.proofs.SubsequenceFacts.{sub_trans}
use Rattle.a429_search.specs.Recorded.{Agree, MayBeOf, gfi_of}

gfi_is : (u : LduValue) (o : Option StartWord) → IfSome o (λ s. u.gfi ≡ s.gfi) → IfSome (gfi_of o) (λ n. u.gfi ≡ n)
gfi_is u None h = tt
gfi_is u (Some s) h = h

-- what is known of one of two is known of the first that is there
pub first_of : {X : Type 0} (Holds : X → Type 0) (x y : Option X) → IfSome x Holds → IfSome y Holds → IfSome (option_or x y) Holds
first_of Holds None y h k = k
first_of Holds (Some v) y h k = h

pub with_attempt : (p : Contents) (u : LduValue) (old new : GroupPieces) (a : Attempt) {gfi : Option ℕ}
    → new.count ≡ old.count → new.gfi ≡ option_or old.gfi gfi → gfi ≡ gfi_of a.start → new.end ≡ option_or old.end a.end
    → (HasEach u.words (lists_of old.attempts.items) → IsSubsequenceOf a.words.items u.words
    → HasEach u.words (lists_of new.attempts.items))
    → MayBeUnitOf p old u → MayBeOf p a u → MayBeUnitOf p new u
with_attempt p u old new a count gfi said end each is may =
    let IsGfi : Option ℕ → Type 0 = λ o. IfSome o (λ n. u.gfi ≡ n) in
    let IsEnd : Option EndWord → Type 0 = λ o. IfSome o (λ e. (u.flags ≡ e.flags) × (u.check ≡ e.check)) in
    record {
      unit = is.unit;
      count = is.count ∙ sym count;
      gfi = subst IsGfi (sym gfi) (first_of (λ n. u.gfi ≡ n) old.gfi _ is.gfi (subst IsGfi (sym said) (gfi_is u a.start may.gfi)));
      end = subst IsEnd (sym end) (first_of (λ e. (u.flags ≡ e.flags) × (u.check ≡ e.check)) old.end a.end is.end may.end);
      each = each is.each may.words;
    }

-- ---- and the other way round

-- where two agree, what is known of the first that is there is known of each
both_of : {X : Type 0} (Same : X → X → Type 0) (Holds : X → Type 0) (x y : Option X) → ((v w : X) → Same v w → Holds v → Holds w)
    → IfSome x (λ v. IfSome y (λ w. Same v w)) → IfSome (option_or x y) Holds → IfSome x Holds × IfSome y Holds
both_of Same Holds None y pass same h = (tt, h)
both_of Same Holds (Some v) None pass same h = (h, tt)
both_of Same Holds (Some v) (Some w) pass same h = (h, pass v w same h)

is_gfi : (u : LduValue) (o : Option StartWord) → IfSome (gfi_of o) (λ n. u.gfi ≡ n) → IfSome o (λ s. u.gfi ≡ s.gfi)
is_gfi u None h = tt
is_gfi u (Some s) h = h

-- of what an attempt recorded that begins a group
pub of_attempt : (p : Contents) (u : LduValue) (g : GroupPieces) (a : Attempt) → g.count ≡ a.count → g.gfi ≡ gfi_of a.start → g.end ≡ a.end
    → (HasEach u.words (lists_of g.attempts.items) → IsSubsequenceOf a.words.items u.words) → MayBeUnitOf p g u → MayBeOf p a u
of_attempt p u g a count gfi end each is = record {
  unit = is.unit;
  count = is.count ∙ count;
  gfi = is_gfi u a.start (subst (λ (o : Option ℕ). IfSome o (λ n. u.gfi ≡ n)) gfi is.gfi);
  end = subst (λ (o : Option EndWord). IfSome o (λ e. (u.flags ≡ e.flags) × (u.check ≡ e.check))) end is.end;
  words = each is.each;
}

-- of the group without the attempt, and of the attempt
pub without_attempt : (p : Contents) (u : LduValue) (old new : GroupPieces) (a : Attempt) {gfi : Option ℕ}
    → new.count ≡ old.count → new.gfi ≡ option_or old.gfi gfi → gfi ≡ gfi_of a.start → new.end ≡ option_or old.end a.end
    → (HasEach u.words (lists_of new.attempts.items)
    → HasEach u.words (lists_of old.attempts.items) × IsSubsequenceOf a.words.items u.words)
    → Agree old a → MayBeUnitOf p new u → MayBeUnitOf p old u × MayBeOf p a u
without_attempt p u old new a {gfi} count gfis said end each agree is =
    let IsGfi : Option ℕ → Type 0 = λ o. IfSome o (λ n. u.gfi ≡ n) in
    let IsEnd : Option EndWord → Type 0 = λ o. IfSome o (λ e. (u.flags ≡ e.flags) × (u.check ≡ e.check)) in
    let both = each is.each in
    let gfi_agree = subst (λ (o : Option ℕ). IfSome old.gfi (λ m. IfSome o (λ n. m ≡ n))) (sym said) agree.gfi in
    let g = both_of (λ m n. m ≡ n) (λ n. u.gfi ≡ n) old.gfi gfi (λ v w same h. h ∙ same) gfi_agree (subst IsGfi gfis is.gfi) in
    let e =
    both_of (λ e f. (e.flags ≡ f.flags) × (e.check ≡ f.check)) (λ e. (u.flags ≡ e.flags) × (u.check ≡ e.check)) old.end a.end
    (λ v w same h. (h.0 ∙ same.0, h.1 ∙ same.1)) agree.end (subst IsEnd end is.end) in (
      record { unit = is.unit; count = is.count ∙ count; gfi = g.0; end = e.0; each = both.0 },
      record {
        unit = is.unit;
        count = is.count ∙ count ∙ agree.count;
        gfi = is_gfi u a.start (subst IsGfi said g.1);
        end = e.1;
        words = both.1;
      },
    )

-- a list that one of these has, what has each of them has
pub in_lists : (xs : List ℕ) (lists : List (Vec ℕ Global)) → SomeIndex lists (λ i. IsSubsequenceOf xs (words_at (lists_of lists) i))
    → SomeIndex (lists_of lists) (λ i. IsSubsequenceOf xs (words_at (lists_of lists) i))
in_lists xs lists (i, inside, has) = (i, inside_lists lists i inside, has)

-- the words of an attempt that are new, or some list's own
pub of_new : (b : Bool) (xs zs : List ℕ) (lists : List (List ℕ)) → HasEach zs lists → (b ≡ true → IsSubsequenceOf xs zs)
    → (b ≡ false → SomeIndex lists (λ i. IsSubsequenceOf xs (words_at lists i))) → IsSubsequenceOf xs zs
of_new true xs zs lists each new old = new refl
of_new false xs zs lists each new old =
    let has = old refl in
    sub_trans xs (words_at lists has.0) zs has.2 (each has.0 [] has.1)
