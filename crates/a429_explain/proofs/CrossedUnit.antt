-- The group of a link data unit that crosses without loss gives this unit.
use Rattle.std.proofs.Common.{◌≡◌, ℕ, ◌+◌, ◌-◌, ◌≤◌, ◌<◌, Bool, true, false, cond, List, [], ◌∷◌, ◌++◌, length, drop, slice_get, slice_range, Option, Some, None, IsSome, option_and_then, refl, sym, ap, ◌∙◌, subst, arith}
use Rattle.std.proofs.lemmas.List.{take-append-drop, take-take}
use Rattle.std.specs.Option.{option_or}
use Rattle.a429_word.specs.declared.bus.Bus.TheVariants as bus
use Rattle.a429_profile.specs.declared.codes.Codes.{Codes}
use Rattle.a429_profile.specs.Profile.{Contents, IsProfile}
use Rattle.a429_ldu.specs.declared.forms.Form.TheVariants.{Rts}
use Rattle.a429_ldu.specs.Form.{form_of, is_free, word_number}
use Rattle.a429_ldu.specs.Sight.{sight_of}
use Rattle.a429_ldu.specs.Ldu.{LduValue, count_of}
use Rattle.a429_link.specs.declared.seen.Seen.{Seen}
use Rattle.a429_link.specs.Clean.{without_free}
use Rattle.a429_link.specs.Carry.{on_a}
use Rattle.a429_link.specs.declared.number.UnitNumber.{UnitNumber}
use Rattle.a429_explain.specs.Matching.{passing, passed_after}
use Rattle.a429_explain.specs.Decoded.{sight_at}
use Rattle.a429_explain.specs.Whole.{nothing_yet, first_whole, wanted, other_request}
use Rattle.a429_explain.specs.Filled.{filled, group_unit}
use Rattle.a429_explain.specs.Block.{HasCrossed}
use Rattle.a429_explain.specs.Guess.{decoded}
use Rattle.a429_explain.proofs.Thinned.{first_whole-thin, passed_after-thin, other_request-thin, free_sight}
use Rattle.a429_explain.proofs.CleanBlock.{HasForms, has_forms, formed_sight, block_others, block_whole, block_passed}
use Rattle.a429_explain.proofs.WholeFacts.{has_item, range_next}

-- ---- its first word

-- a request is not free
pub request_kept : (c : Codes) (i : Seen) (count : ℕ) → wanted (sight_of c i.bus i.word) ≡ Some count → is_free c i.bus i.word ≡ false
request_kept c i count e = by (is_free c i.bus i.word) refl
  where
    by : (t : Bool) → is_free c i.bus i.word ≡ t → is_free c i.bus i.word ≡ false
    by true f = absurd (let none = free_sight c i.bus i.word f in cc (none, e))
    by false f = f

-- the first request that is recorded wants as many words as the first that is not free
pub head_wants : (c : Codes) (n : ℕ) → form_of c bus.A (word_number c (Rts n)) ≡ Some (Rts n) → (i : Seen) (items tail : List Seen)
    → without_free c (i ∷ items) ≡ on_a (word_number c (Rts n)) ∷ tail → (count : ℕ) → wanted (sight_of c i.bus i.word) ≡ Some count
    → count ≡ n
head_wants c n f i items tail e count w =
    let kept : cond false (without_free c items) (i ∷ without_free c items) ≡ on_a (word_number c (Rts n)) ∷ tail =
    subst (λ (t : Bool). cond t (without_free c items) (i ∷ without_free c items) ≡ on_a (word_number c (Rts n)) ∷ tail)
    (request_kept c i count w) e in
    let same : i ≡ on_a (word_number c (Rts n)) = cc kept in
    let both : Some count ≡ Some n =
    sym w ∙ ap (λ (x : Seen). wanted (sight_of c x.bus x.word)) same ∙ ap wanted (formed_sight c bus.A (word_number c (Rts n)) (Rts n) f) in
    cc both

-- ---- the words before one that is matched are matched

matched_before : (c : Codes) (u : LduValue) (place : UnitNumber) (xs : List Seen) (o : Option ℕ)
    → IsSome (passed_after c u place xs o) → IsSome o
matched_before c u place [] o h = h
matched_before c u place (x ∷ xs) o h = by o (matched_before c u place xs (option_and_then (passing c u place x) o) h)
  where
    by : (o : Option ℕ) → IsSome (option_and_then (passing c u place x) o) → IsSome o
    by None h = h
    by (Some k) h = refl

matched_front : (c : Codes) (u : LduValue) (place : UnitNumber) (xs ys : List Seen) (o : Option ℕ)
    → IsSome (passed_after c u place (xs ++ ys) o) → IsSome (passed_after c u place xs o)
matched_front c u place [] ys o h = matched_before c u place ys o h
matched_front c u place (x ∷ xs) ys o h = matched_front c u place xs ys (option_and_then (passing c u place x) o) h

range_front : (xs : List Seen) (from mid to : ℕ)
    → mid ≤ to → slice_range xs from to ≡ slice_range xs from mid ++ drop (mid - from) (slice_range xs from to)
range_front xs from mid to l =
    let less : mid - from ≤ to - from = omega arith in
    sym (take-append-drop (mid - from) (slice_range xs from to))
    ∙ ap (λ (ys : List Seen). ys ++ drop (mid - from) (slice_range xs from to)) (take-take (mid - from) (to - from) (drop from xs) less)

-- ---- what the group gives

pub record GivesUnit (p : Contents) (items : List Seen) (from to count : ℕ) (place : UnitNumber) (u : LduValue) : Type 0 where
  pub others : other_request p.codes count (slice_range items from to) from ≡ None
  pub is : group_unit p count (slice_range items from to) ≡ Some u
  pub matched : (i : ℕ) → i < to → IsSome (passed_after p.codes u place (slice_range items from (i + 1)) (Some 0))

pub crossed_gives : (p : Contents) → IsProfile p → (items : List Seen) (from to count : ℕ) (place : UnitNumber) (u : LduValue) → from < to
    → to ≤ length items → wanted (sight_at p.codes (slice_get items from)) ≡ Some count
    → HasCrossed (decoded p items) (record { group = record { from = from; to = to }; count = count }) place u
    → GivesUnit p items from to count place u
crossed_gives p is items from to count place u l m w h =
    let group = slice_range items from to in
    let forms : HasForms p place u = has_forms p is place u h.unit h.file h.ldu in
    let here = has_item items from (omega arith) in
    let asks : wanted (sight_of p.codes here.item.bus here.item.word) ≡ Some count =
    ap (λ (o : Option Seen). wanted (sight_at p.codes o)) (sym here.is) ∙ w in
    let begins = ap (without_free p.codes) (sym (range_next items from to here.item l here.is)) ∙ h.words in
    let same : count ≡ count_of u =
    head_wants p.codes (count_of u) forms.request here.item (slice_range items (from + 1) to) _ begins count asks in
    let passed : passed_after p.codes u place group (Some 0) ≡ Some (count_of u) = sym (passed_after-thin p.codes u place group (Some 0))
    ∙ ap (λ (xs : List Seen). passed_after p.codes u place xs (Some 0)) h.words ∙ block_passed p u place h.ldu forms in
    record {
      others =
          subst (λ (n : ℕ). other_request p.codes n group from ≡ None) (sym same)
          (other_request-thin p.codes (count_of u) group from from
          (ap (λ (xs : List Seen). other_request p.codes (count_of u) xs from) h.words ∙ block_others p place u forms from));
      is =
          ap (λ (o : Option LduValue). option_or o (filled p count group))
          (subst (λ (n : ℕ). first_whole p n group nothing_yet ≡ Some u) (sym same) (sym (first_whole-thin p (count_of u) group nothing_yet)
          ∙ ap (λ (xs : List Seen). first_whole p (count_of u) xs nothing_yet) h.words ∙ block_whole p is place u h.unit forms));
      matched =
          λ i k. matched_front p.codes u place (slice_range items from (i + 1)) (drop ((i + 1) - from) group) (Some 0)
          (subst (λ (xs : List Seen). IsSome (passed_after p.codes u place xs (Some 0))) (range_front items from (i + 1) to (omega arith))
          (subst IsSome (sym passed) refl));
    }
