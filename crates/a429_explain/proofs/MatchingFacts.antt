-- The words of a block, one after the other.
use Rattle.std.proofs.Common.{◌≡◌, ℕ, suc, ◌+◌, ◌-◌, ◌<◌, Bool, false, refl, sym, ap, ◌∙◌, arith, zero, List, [], ◌∷◌, ◌++◌, ◌≤◌, length, take, drop, get_or, slice_get, slice_range, Option, Some, None, option_and_then, IsSome, length-drop}
use Rattle.std.proofs.Math.Seq.{take-suc}
use Rattle.std.proofs.lemmas.List.{get_or-drop}
use Rattle.std.proofs.lemmas.Option.{slice_get_within, get_or_from_slice_get}
use Rattle.a429_profile.specs.declared.codes.Codes.{Codes}
use Rattle.a429_ldu.specs.declared.forms.Form.{Form}
use Rattle.a429_ldu.specs.declared.forms.Form.TheVariants.{Rts, Cts, Ack, Nak, Sot, Part, Eot}
use Rattle.a429_ldu.specs.Form.{form_of}
use Rattle.a429_ldu.specs.Ldu.{LduValue, count_of}
use Rattle.a429_link.specs.declared.seen.Seen.{Seen}
use Rattle.a429_record.specs.declared.entry.Entry.{Entry}
use Rattle.a429_cert.specs.Explained.{seen_of, items_of}
use Rattle.a429_link.specs.declared.number.UnitNumber.{UnitNumber}
use Rattle.a429_explain.specs.declared.attempts.Role.{Role}
use Rattle.a429_explain.specs.Attempts.{role_of}
use Rattle.a429_explain.specs.Matching.{is_word, passed_with, passing_as, passing_by, passing, passed_after}
use Rattle.a429_explain.proofs.AttemptsFacts.{IsRole}

passed_one : (is : ℕ → Bool) (k n : ℕ) → is k ≡ false → passed_with is k (suc n) ≡ passed_with is (suc k) n
passed_one is k n e = rw e refl

-- a word of the block that is another one is passed
pub passed_on : (is : ℕ → Bool) (k n : ℕ) → k < n → is k ≡ false → passed_with is k (n - k) ≡ passed_with is (k + 1) (n - (k + 1))
passed_on is k n l e =
    let more : n - k ≡ suc (n - (k + 1)) = omega arith in
    let one : k + 1 ≡ suc k = omega arith in
    ap (passed_with is k) more ∙ passed_one is k (n - (k + 1)) e ∙ ap (λ (j : ℕ). passed_with is j (n - (k + 1))) (sym one)

after_all : (c : Codes) (u : LduValue) (place : UnitNumber) (xs ys : List Seen) (o : Option ℕ)
    → passed_after c u place (xs ++ ys) o ≡ passed_after c u place ys (passed_after c u place xs o)
after_all c u place [] ys o = refl
after_all c u place (x ∷ xs) ys o = after_all c u place xs ys (option_and_then (passing c u place x) o)

pub get_item : (es : List Entry) (n : ℕ) (d : Entry) → get_or (items_of es) n (seen_of d) ≡ seen_of (get_or es n d)
get_item [] n d = refl
get_item (e ∷ es) zero d = refl
get_item (e ∷ es) (suc n) d = get_item es n d

range_push : (xs : List Seen) (a n : ℕ) (d : Seen)
    → a ≤ n → n < length xs → slice_range xs a (n + 1) ≡ slice_range xs a n ++ get_or xs n d ∷ []
range_push xs a n d m l =
    let more : (n + 1) - a ≡ suc (n - a) = omega arith in
    let back : a + (n - a) ≡ n = omega arith in
    let long : length (drop a xs) ≡ length xs - a = length-drop a xs in
    let inside : n - a < length (drop a xs) = omega (arith, long) in
    ap (λ (k : ℕ). take k (drop a xs)) more ∙ take-suc (drop a xs) (n - a) d inside
    ∙ ap (λ (x : Seen). take (n - a) (drop a xs) ++ x ∷ []) (get_or-drop a xs (n - a) d ∙ ap (λ (k : ℕ). get_or xs k d) back)

-- with the next word
pub passed_next : (c : Codes) (u : LduValue) (place : UnitNumber) (items : List Seen) (a n : ℕ) (i : Seen) (passed : ℕ)
    → a ≤ n → slice_get items n ≡ Some i → passed_after c u place (slice_range items a n) (Some 0) ≡ Some passed
    → passed_after c u place (slice_range items a (n + 1)) (Some 0) ≡ passing c u place i passed
passed_next c u place items a n i passed m e h =
    ap (λ (xs : List Seen). passed_after c u place xs (Some 0)) (range_push items a n i m (slice_get_within items n i e))
    ∙ after_all c u place (slice_range items a n) (get_or items n i ∷ []) (Some 0)
    ∙ ap (λ (o : Option ℕ). option_and_then (passing c u place (get_or items n i)) o) h
    ∙ ap (λ (x : Seen). passing c u place x passed) (get_or_from_slice_get items n i i e)

-- before the first
pub passed_none : (c : Codes) (u : LduValue) (place : UnitNumber) (items : List Seen) (a : ℕ)
    → passed_after c u place (slice_range items a a) (Some 0) ≡ Some 0
passed_none c u place items a =
    let none : a - a ≡ 0 = omega arith in ap (λ (k : ℕ). passed_after c u place (take k (drop a items)) (Some 0)) none

-- the role of a word tells how many are passed
by_role : (o : Option Form) (more : List (Option Form)) (matched : Option ℕ) (passed : ℕ)
    → passing_by (role_of o more) matched passed ≡ passing_as o matched passed
by_role (Some (Rts n)) more matched passed = refl
by_role (Some (Cts n)) more matched passed = refl
by_role (Some (Ack f l)) more matched passed = refl
by_role (Some (Nak b)) more matched passed = refl
by_role (Some (Sot g f l)) more matched passed = refl
by_role (Some (Part s)) more matched passed = refl
by_role (Some (Eot f k)) more matched passed = refl
by_role None more matched passed = refl

pub passed_by : (c : Codes) (u : LduValue) (place : UnitNumber) (items : List Seen) (a n : ℕ) (i : Seen) (role : Role) (passed : ℕ)
    (r : Option ℕ)
    → a ≤ n → slice_get items n ≡ Some i → IsRole role (form_of c i.bus i.word)
    → passed_after c u place (slice_range items a n) (Some 0) ≡ Some passed
    → r ≡ passing_by role (passed_with (is_word c u place i.word) passed (count_of u - passed)) passed
    → passed_after c u place (slice_range items a (n + 1)) (Some 0) ≡ r
passed_by c u place items a n i role passed r m at k h e =
    let matched = passed_with (is_word c u place i.word) passed (count_of u - passed) in
    passed_next c u place items a n i passed m at h
    ∙ sym (by_role (form_of c i.bus i.word) k.more matched passed)
    ∙ ap (λ (q : Role). passing_by q matched passed) (sym k.is)
    ∙ sym e

pub no_some : (o : Option ℕ) → o ≡ None → IsSome o → ⊥
no_some None e h = cc h
no_some (Some k) e h = cc e
