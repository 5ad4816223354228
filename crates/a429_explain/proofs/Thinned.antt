-- Free words change nothing of what is found in a recording.
use Rattle.std.proofs.Common.{◌≡◌, ℕ, ◌+◌, ◌-◌, Bool, true, false, cond, List, [], ◌∷◌, Option, Some, None, option_and_then, refl, sym, ap, ◌∙◌}
use Rattle.std.specs.Option.{option_or}
use Rattle.a429_word.specs.declared.bus.Bus.{Bus}
use Rattle.a429_profile.specs.declared.codes.Codes.{Codes}
use Rattle.a429_profile.specs.Profile.{Contents}
use Rattle.a429_ldu.specs.declared.forms.Form.{Form}
use Rattle.a429_ldu.specs.declared.forms.Form.TheVariants.{Rts, Sot}
use Rattle.a429_ldu.specs.declared.sight.Sight.TheVariants as sight
use Rattle.a429_ldu.specs.Form.{form_of, is_free}
use Rattle.a429_ldu.specs.Sight.{sight_of, sight_in}
use Rattle.a429_ldu.specs.Ldu.{LduValue, count_of}
use Rattle.a429_ldu.proofs.FormFree.{free_none}
use Rattle.a429_link.specs.declared.seen.Seen.{Seen}
use Rattle.a429_link.specs.Clean.{without_free}
use Rattle.a429_link.specs.declared.number.UnitNumber.{UnitNumber}
use Rattle.a429_explain.specs.Attempts.{attempt_start, next_start}
use Rattle.a429_explain.specs.Decoded.{forms_of}
use Rattle.a429_explain.specs.Matching.{is_word, passed_with, passing_as, passed_after}
use Rattle.a429_explain.specs.Whole.{Recorded, gathered_with, ended_by, first_whole, wanted, is_other, other_request}

-- ---- the first whole attempt

pub first_whole-thin : (p : Contents) (count : ℕ) (items : List Seen) (r : Recorded)
    → first_whole p count (without_free p.codes items) r ≡ first_whole p count items r
first_whole-thin p count [] r = refl
first_whole-thin p count (i ∷ items) r = by (is_free p.codes i.bus i.word) refl (first_whole-thin p count items)
  where
    none : (o : Option Form)
        → o ≡ None → option_or (ended_by p count o r) (first_whole p count items (gathered_with o i.word r)) ≡ first_whole p count items r
    none None e = refl
    none (Some x) e = absurd (cc e)

    by : (t : Bool) → is_free p.codes i.bus i.word ≡ t
        → ((s : Recorded) → first_whole p count (without_free p.codes items) s ≡ first_whole p count items s)
        → first_whole p count (cond t (without_free p.codes items) (i ∷ without_free p.codes items)) r ≡ first_whole p count (i ∷ items) r
    by true e more = more r ∙ sym (none (form_of p.codes i.bus i.word) (free_none p.codes i.bus i.word e))
    by false e more =
        ap (option_or (ended_by p count (form_of p.codes i.bus i.word) r)) (more (gathered_with (form_of p.codes i.bus i.word) i.word r))

-- ---- the words of the block

-- how many are passed with a word of this form
abbrev passes : Codes → LduValue → UnitNumber → ℕ → Option Form → ℕ → Option ℕ
passes c u place word x k = passing_as x (passed_with (is_word c u place word) k (count_of u - k)) k

passes-none : (c : Codes) (u : LduValue) (place : UnitNumber) (word : ℕ) (x : Option Form) (o : Option ℕ)
    → x ≡ None → option_and_then (passes c u place word x) o ≡ o
passes-none c u place word None None e = refl
passes-none c u place word None (Some k) e = refl
passes-none c u place word (Some x) o e = absurd (cc e)

pub passed_after-thin : (c : Codes) (u : LduValue) (place : UnitNumber) (items : List Seen) (o : Option ℕ)
    → passed_after c u place (without_free c items) o ≡ passed_after c u place items o
passed_after-thin c u place [] o = refl
passed_after-thin c u place (i ∷ items) o = by (is_free c i.bus i.word) refl (passed_after-thin c u place items)
  where
    by : (t : Bool)
        → is_free c i.bus i.word ≡ t → ((q : Option ℕ) → passed_after c u place (without_free c items) q ≡ passed_after c u place items q)
        → passed_after c u place (cond t (without_free c items) (i ∷ without_free c items)) o ≡ passed_after c u place (i ∷ items) o
    by true e more = more o
        ∙ sym (ap (passed_after c u place items) (passes-none c u place i.word (form_of c i.bus i.word) o (free_none c i.bus i.word e)))
    by false e more = more (option_and_then (passes c u place i.word (form_of c i.bus i.word)) o)

-- ---- the next start word

pub next_start-cons : (o : Option Form) (xs ys : List (Option Form))
    → next_start xs ≡ next_start ys → next_start (o ∷ xs) ≡ next_start (o ∷ ys)
next_start-cons (Some (Sot g f l)) xs ys e = refl
next_start-cons _ xs ys e = e

next_start-none : (o : Option Form) (xs : List (Option Form)) → o ≡ None → next_start (o ∷ xs) ≡ next_start xs
next_start-none None xs e = refl
next_start-none (Some x) xs e = absurd (cc e)

pub next_start-thin : (c : Codes) (items : List Seen) → next_start (forms_of c (without_free c items)) ≡ next_start (forms_of c items)
next_start-thin c [] = refl
next_start-thin c (i ∷ items) = by (is_free c i.bus i.word) refl (next_start-thin c items)
  where
    by : (t : Bool) → is_free c i.bus i.word ≡ t → next_start (forms_of c (without_free c items)) ≡ next_start (forms_of c items)
        → next_start (forms_of c (cond t (without_free c items) (i ∷ without_free c items))) ≡ next_start (forms_of c (i ∷ items))
    by true e more = more ∙ sym (next_start-none (form_of c i.bus i.word) (forms_of c items) (free_none c i.bus i.word e))
    by false e more = next_start-cons (form_of c i.bus i.word) (forms_of c (without_free c items)) (forms_of c items) more

-- ---- the start word of an attempt

attempt_start-cons : (o : Option Form) (xs ys : List (Option Form))
    → attempt_start xs ≡ attempt_start ys → attempt_start (o ∷ xs) ≡ attempt_start (o ∷ ys)
attempt_start-cons (Some (Sot g f l)) xs ys e = refl
attempt_start-cons (Some (Rts n)) xs ys e = refl
attempt_start-cons _ xs ys e = e

attempt_start-none : (o : Option Form) (xs : List (Option Form)) → o ≡ None → attempt_start (o ∷ xs) ≡ attempt_start xs
attempt_start-none None xs e = refl
attempt_start-none (Some x) xs e = absurd (cc e)

pub attempt_start-thin : (c : Codes) (items : List Seen)
    → attempt_start (forms_of c (without_free c items)) ≡ attempt_start (forms_of c items)
attempt_start-thin c [] = refl
attempt_start-thin c (i ∷ items) = by (is_free c i.bus i.word) refl (attempt_start-thin c items)
  where
    by : (t : Bool) → is_free c i.bus i.word ≡ t → attempt_start (forms_of c (without_free c items)) ≡ attempt_start (forms_of c items)
        → attempt_start (forms_of c (cond t (without_free c items) (i ∷ without_free c items))) ≡ attempt_start (forms_of c (i ∷ items))
    by true e more = more ∙ sym (attempt_start-none (form_of c i.bus i.word) (forms_of c items) (free_none c i.bus i.word e))
    by false e more = attempt_start-cons (form_of c i.bus i.word) (forms_of c (without_free c items)) (forms_of c items) more

-- ---- requests

-- a free word is none
pub free_sight : (c : Codes) (b : Bus) (w : ℕ) → is_free c b w ≡ true → wanted (sight_of c b w) ≡ None
free_sight c b w e = ap (λ (t : Bool). wanted (cond t sight.Free (sight_in (form_of c b w)))) e

-- none is of another count among the words, if none is among those that are not free
pub other_request-thin : (c : Codes) (count : ℕ) (items : List Seen) (j k : ℕ)
    → other_request c count (without_free c items) j ≡ None → other_request c count items k ≡ None
other_request-thin c count [] j k h = refl
other_request-thin c count (i ∷ items) j k h = by (is_free c i.bus i.word) refl h (other_request-thin c count items)
  where
    none : (w : Option ℕ) → w ≡ None → other_request c count items (k + 1) ≡ None
        → cond (is_other count w) (Some k) (other_request c count items (k + 1)) ≡ None
    none None e h = h
    none (Some n) e h = absurd (cc e)

    kept : (b : Bool) → cond b (Some j) (other_request c count (without_free c items) (j + 1)) ≡ None
        → ((m n : ℕ) → other_request c count (without_free c items) m ≡ None → other_request c count items n ≡ None)
        → cond b (Some k) (other_request c count items (k + 1)) ≡ None
    kept true h more = absurd (cc h)
    kept false h more = more (j + 1) (k + 1) h

    by : (t : Bool) → is_free c i.bus i.word ≡ t → other_request c count (cond t (without_free c items) (i ∷ without_free c items)) j ≡ None
        → ((m n : ℕ) → other_request c count (without_free c items) m ≡ None → other_request c count items n ≡ None)
        → other_request c count (i ∷ items) k ≡ None
    by true e h more = none (wanted (sight_of c i.bus i.word)) (free_sight c i.bus i.word e) (more j (k + 1) h)
    by false e h more = kept (is_other count (wanted (sight_of c i.bus i.word))) h more
