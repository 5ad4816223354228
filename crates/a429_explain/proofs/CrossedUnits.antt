-- The groups of a recording without loss, one after the other.
use Rattle.std.proofs.Common.{◌≡◌, ℕ, zero, suc, ◌+◌, ◌-◌, ◌≤◌, ◌<◌, Bool, true, false, cond, List, [], ◌∷◌, length, take, drop, slice_get, Option, Some, None, refl, sym, ap, ◌∙◌, subst, arith, eq-eqb}
use Rattle.std.proofs.lemmas.List.{drop-drop}
use Rattle.a429_word.specs.declared.bus.Bus.TheVariants as bus
use Rattle.a429_profile.specs.declared.codes.Codes.{Codes}
use Rattle.a429_profile.specs.Profile.{Contents, IsProfile}
use Rattle.a429_profile.proofs.ProfileRanges.{in_range}
use Rattle.a429_ldu.specs.declared.forms.Form.TheVariants.{Rts}
use Rattle.a429_ldu.specs.Form.{is_free, word_number}
use Rattle.a429_ldu.specs.Sight.{sight_of}
use Rattle.a429_ldu.specs.Ldu.{LduValue, count_of}
use Rattle.a429_link.specs.declared.seen.Seen.{Seen}
use Rattle.a429_link.specs.Clean.{clean_blocks, AllFit, without_free}
use Rattle.a429_link.specs.Carry.{on_a}
use Rattle.a429_link.specs.Number.{number_after, first_number}
use Rattle.a429_explain.specs.declared.attempts.Role.{Role}
use Rattle.a429_explain.specs.declared.groups.Request.{Request}
use Rattle.a429_link.specs.declared.number.UnitNumber.{UnitNumber}
use Rattle.a429_explain.specs.Attempts.{roles}
use Rattle.a429_explain.specs.Decoded.{forms_of, sight_at}
use Rattle.a429_explain.specs.Groups.{group_length, first_started, group_start, ends_its_group, is_settled}
use Rattle.a429_explain.specs.declared.plan.Plan.{Plan}
use Rattle.a429_explain.specs.Plan.{place_from, give_ups_from, place_after, plain}
use Rattle.a429_explain.specs.Block.{HasCrossed}
use Rattle.a429_explain.specs.Guess.{decoded, request_at, place_at_group, place_past, plain_plans, HaveCrossed}
use Rattle.a429_explain.specs.Whole.{wanted}
use Rattle.a429_explain.proofs.CleanBlock.{formed_sight}
use Rattle.a429_explain.proofs.CleanGroups.{unit_has_forms, unit_parts, start_numbers}
use Rattle.a429_explain.proofs.PlainPlans.{plain_past, plain_group}
use Rattle.a429_explain.proofs.WholeFacts.{has_item, drop_next}
use Rattle.a429_explain.proofs.CrossedUnit.{request_kept}
use Rattle.a429_link.proofs.NumberFacts.{next_byte}

-- ---- where the planner has come to

-- the link data units that are still to cross from this entry on, the first of them with these numbers
pub record IsLeft (p : Contents) (items : List Seen) (place : UnitNumber) (at : ℕ) : Type 0 where
  pub rest : List LduValue
  pub file : place.file ≤ 255
  pub words : without_free p.codes (drop at items) ≡ clean_blocks p.codes place rest
  pub fit : AllFit p place rest

abbrev pub left_all : (p : Contents) (items : List Seen) (first : ℕ) (us : List LduValue)
    → first ≤ 255 → HaveCrossed (decoded p items) first us → IsLeft p items (first_number p.codes first) 0
left_all p items first us f h = record { rest = us; file = f; words = h.words; fit = h.fit }

-- ---- a word that is no request

-- what begins a recording without loss is a request
first_wants : (p : Contents) → IsProfile p → (place : UnitNumber) → place.file ≤ 255 → (rest : List LduValue) → AllFit p place rest
    → (i : Seen) (xs : List Seen) → wanted (sight_of p.codes i.bus i.word) ≡ None → i ∷ xs ≡ clean_blocks p.codes place rest → ⊥
first_wants p is place f [] h i xs w e = cc e
first_wants p is place f (u ∷ us) h i xs w e =
    let said = unit_has_forms p is place u f h.1 h.0 in
    let rts = on_a (word_number p.codes (Rts (count_of u))) in
    let same : i ≡ rts = cc e in
    let asks : wanted (sight_of p.codes i.bus i.word) ≡ Some (count_of u) = ap (λ (x : Seen). wanted (sight_of p.codes x.bus x.word)) same
    ∙ ap wanted (formed_sight p.codes bus.A (word_number p.codes (Rts (count_of u))) (Rts (count_of u)) said.request) in
    cc (w, asks)

pub passed_free : (p : Contents) → IsProfile p → (place : UnitNumber) → place.file ≤ 255 → (rest : List LduValue) → AllFit p place rest
    → (i : Seen) (xs : List Seen) → wanted (sight_of p.codes i.bus i.word) ≡ None
    → without_free p.codes (i ∷ xs) ≡ clean_blocks p.codes place rest → without_free p.codes xs ≡ clean_blocks p.codes place rest
passed_free p is place f rest h i xs w e = by (is_free p.codes i.bus i.word) e
  where
    by : (t : Bool) → cond t (without_free p.codes xs) (i ∷ without_free p.codes xs) ≡ clean_blocks p.codes place rest
        → without_free p.codes xs ≡ clean_blocks p.codes place rest
    by true e = e
    by false e = absurd (first_wants p is place f rest h i (without_free p.codes xs) w e)

abbrev pub left_free : (p : Contents) → IsProfile p → (items : List Seen) (place : UnitNumber) (at : ℕ) → at < length items
    → wanted (sight_at p.codes (slice_get items at)) ≡ None → IsLeft p items place at → IsLeft p items place (at + 1)
left_free p is items place at l w h =
    let here = has_item items at l in
    let none : wanted (sight_of p.codes here.item.bus here.item.word) ≡ None =
    ap (λ (o : Option Seen). wanted (sight_at p.codes o)) (sym here.is) ∙ w in
    record {
      rest = h.rest;
      file = h.file;
      words =
          passed_free p is place h.file h.rest h.fit here.item (drop (at + 1) items) none
          (ap (without_free p.codes) (sym (drop_next items at here.item here.is)) ∙ h.words);
      fit = h.fit;
    }

-- no plan is for that word
pub plans_free : (c : Codes) (items : List Seen) (us : List LduValue) (at : ℕ)
    → at < length items → wanted (sight_at c (slice_get items at)) ≡ None
    → plain_plans c at us (drop at items) ≡ plain_plans c (at + 1) us (drop (at + 1) items)
plans_free c items us at l w =
    let here = has_item items at l in
    let none : wanted (sight_of c here.item.bus here.item.word) ≡ None =
    ap (λ (o : Option Seen). wanted (sight_at c o)) (sym here.is) ∙ w in
    ap (plain_plans c at us) (drop_next items at here.item here.is) ∙ plain_past c at us here.item (drop (at + 1) items) none

-- ---- a group

roles-drop : (c : Codes) (items : List Seen) (n : ℕ) → drop n (roles (forms_of c items)) ≡ roles (forms_of c (drop n items))
roles-drop c items zero = refl
roles-drop c [] (suc n) = refl
roles-drop c (i ∷ items) (suc n) = roles-drop c items n

get_dropped : (rs : List Role) (n k : ℕ) → slice_get rs (n + k) ≡ slice_get (drop n rs) k
get_dropped rs zero k = let none : 0 + k ≡ k = omega arith in ap (λ (m : ℕ). slice_get rs m) none
get_dropped [] (suc n) k = refl
get_dropped (r ∷ rs) (suc n) k =
    let one : suc n + k ≡ suc (n + k) = omega arith in ap (λ (m : ℕ). slice_get (r ∷ rs) m) one ∙ get_dropped rs n k

-- the group is that of the next link data unit
pub record IsNext (p : Contents) (items : List Seen) (rs : List Role) (rest : List LduValue) (place : UnitNumber)
    (r : Request) : Type 0 where
  pub unit : LduValue
  pub more : List LduValue
  pub plans : plain_plans p.codes r.group.from rest (drop r.group.from items) ≡ plain r.group.from unit
      ∷ plain_plans p.codes r.group.to more (drop r.group.to items)
  pub file : place.file ≤ 255
  pub crossed : HasCrossed (decoded p items) r place unit
  pub start : group_start rs r.group ≡ Some (start_numbers place)
  pub settled : is_settled rs r.group ≡ true
  pub words : without_free p.codes (drop r.group.to items) ≡ clean_blocks p.codes (number_after p.codes place unit) more
  pub fit : AllFit p (number_after p.codes place unit) more

next_is : (p : Contents) → IsProfile p → (items : List Seen) (place : UnitNumber) (at to count : ℕ) (rest : List LduValue) (i : Seen)
    (xs : List Seen) → to ≡ at + group_length (roles (forms_of p.codes (i ∷ xs))) → place.file ≤ 255 → AllFit p place rest
    → drop at items ≡ i ∷ xs → is_free p.codes i.bus i.word ≡ false → wanted (sight_of p.codes i.bus i.word) ≡ Some count
    → without_free p.codes (i ∷ xs) ≡ clean_blocks p.codes place rest
    → IsNext p items (roles (forms_of p.codes items)) rest place (record { group = record { from = at; to = to }; count = count })
next_is p is items place at to count [] i xs t f h list kept w e =
    absurd (let none : i ∷ without_free p.codes xs ≡ [] =
    sym (ap (λ (b : Bool). cond b (without_free p.codes xs) (i ∷ without_free p.codes xs)) kept) ∙ e in cc none)
next_is p is items place at to count (u ∷ more) i xs t f h list kept w e =
    let n = group_length (roles (forms_of p.codes (i ∷ xs))) in
    let found = unit_parts p is place u more i xs f h kept e in
    let parts = found.parts in
    let low = (in_range p is).first_ldu in
    let room = h.1 in
    let some = parts.some in
    let long : to - at ≡ n = omega arith in
    let last : to - 1 ≡ at + (n - 1) = omega arith in
    let one : suc (n - 1) ≡ n = omega arith in
    let follows : drop (n - 1) xs ≡ drop to items =
    ap (λ (m : ℕ). drop m (i ∷ xs)) one ∙ ap (drop n) (sym list) ∙ drop-drop n at items ∙ ap (λ (m : ℕ). drop m items) (sym t) in
    let plans =
    plain_group p place u more at (n - 1) count i xs (unit_has_forms p is place u f h.1 h.0) kept w
    (ap (λ (m : ℕ). without_free p.codes (take m (i ∷ xs))) one ∙ parts.group_is) in
    let ends : at + suc (n - 1) ≡ to = ap (λ (m : ℕ). at + m) one ∙ sym t in
    let said : drop at (roles (forms_of p.codes items)) ≡ roles (forms_of p.codes (i ∷ xs)) =
    roles-drop p.codes items at ∙ ap (λ (ys : List Seen). roles (forms_of p.codes ys)) list in
    record {
      unit = u;
      more = more;
      plans = ap (plain_plans p.codes at (u ∷ more)) list ∙ plans
          ∙ ap (λ (m : ℕ). plain at u ∷ plain_plans p.codes m more (drop (n - 1) xs)) ends
          ∙ ap (λ (ys : List Seen). plain at u ∷ plain_plans p.codes to more ys) follows;
      file = f;
      crossed = record {
        unit = h.0;
        file = f;
        ldu = omega arith;
        words = ap (λ (m : ℕ). without_free p.codes (take m (drop at items))) long
            ∙ ap (λ (ys : List Seen). without_free p.codes (take n ys)) list ∙ parts.group_is;
      };
      start = ap (λ (m : ℕ). first_started (take m (drop at (roles (forms_of p.codes items))))) long
          ∙ ap (λ (ys : List Role). first_started (take n ys)) said ∙ found.start;
      settled = ap (λ (m : ℕ). ends_its_group (slice_get (roles (forms_of p.codes items)) m)) last
          ∙ ap ends_its_group (get_dropped (roles (forms_of p.codes items)) at (n - 1))
          ∙ ap (λ (ys : List Role). ends_its_group (slice_get ys (n - 1))) said ∙ parts.settled;
      words = ap (λ (m : ℕ). without_free p.codes (drop m items)) t ∙ ap (without_free p.codes) (sym (drop-drop n at items))
          ∙ ap (λ (ys : List Seen). without_free p.codes (drop n ys)) list ∙ parts.rest_is;
      fit = h.2;
    }

pub next_group : (p : Contents) → IsProfile p → (items : List Seen) (place : UnitNumber) (at count : ℕ) → at < length items
    → wanted (sight_at p.codes (slice_get items at)) ≡ Some count → (h : IsLeft p items place at)
    → IsNext p items (roles (forms_of p.codes items)) h.rest place (request_at (roles (forms_of p.codes items)) at count)
next_group p is items place at count l w h =
    let here = has_item items at l in
    let asks : wanted (sight_of p.codes here.item.bus here.item.word) ≡ Some count =
    ap (λ (o : Option Seen). wanted (sight_at p.codes o)) (sym here.is) ∙ w in
    let kept = request_kept p.codes here.item count asks in
    let list : drop at items ≡ here.item ∷ drop (at + 1) items = drop_next items at here.item here.is in
    let goes : group_length (drop at (roles (forms_of p.codes items)))
    ≡ group_length (roles (forms_of p.codes (here.item ∷ drop (at + 1) items))) =
    ap group_length (roles-drop p.codes items at) ∙ ap (λ (ys : List Seen). group_length (roles (forms_of p.codes ys))) list in
    next_is p is items place at (at + group_length (drop at (roles (forms_of p.codes items)))) count h.rest here.item (drop (at + 1) items)
    (ap (λ (n : ℕ). at + n) goes) h.file h.fit list kept asks (ap (without_free p.codes) (sym list) ∙ h.words)

-- a group without loss begins and ends under the numbers that the source comes to it with, and no file is given up
no_more : (place : UnitNumber) → place.file ≤ 255 → give_ups_from place (Some (start_numbers place)) ≡ 0
no_more place l = omega arith

same_place : (c : Codes) (place : UnitNumber) → place_from c place (Some (start_numbers place)) ≡ place
same_place c place = ap (λ (b : Bool). cond b place (first_number c place.file)) (eq-eqb place.file place.file refl)

pub next_place : (p : Contents) (items : List Seen) (rs : List Role) (rest : List LduValue) (place : UnitNumber) (r : Request)
    → IsNext p items rs rest place r → place_at_group p.codes rs r.group place ≡ place
next_place p items rs rest place r h = ap (place_from p.codes place) h.start ∙ same_place p.codes place

pub next_plan : (p : Contents) (items : List Seen) (rs : List Role) (rest : List LduValue) (place : UnitNumber) (r : Request) (plan : Plan)
    (h : IsNext p items rs rest place r)
    → plan.at ≡ r.group.from → plan.give_ups ≡ give_ups_from place (group_start rs r.group) → plan.unit ≡ h.unit
    → plan ≡ plain r.group.from h.unit
next_plan p items rs rest place r plan h here gives same = ap (λ (n : ℕ). planned n plan.give_ups plan.unit) here
    ∙ ap (λ (n : ℕ). planned r.group.from n plan.unit) (gives ∙ ap (give_ups_from place) h.start ∙ no_more place h.file)
    ∙ ap (planned r.group.from 0) same
  where
    planned : ℕ → ℕ → LduValue → Plan
    planned at n u = record { at = at; give_ups = n; unit = u }

pub next_number_is : (p : Contents) (items : List Seen) (rs : List Role) (rest : List LduValue) (place : UnitNumber) (r : Request)
    (u : LduValue) (h : IsNext p items rs rest place r)
    → u ≡ h.unit → place_past p.codes rs r.group place u ≡ number_after p.codes place h.unit
next_number_is p items rs rest place r u h same =
    ap (place_after p.codes (place_at_group p.codes rs r.group place) u) h.settled
    ∙ ap (λ (n : UnitNumber). number_after p.codes n u) (next_place p items rs rest place r h)
    ∙ ap (number_after p.codes place) same

-- the link data units after it are left
abbrev pub left_group : (p : Contents) (items : List Seen) (rs : List Role) (rest : List LduValue) (place next : UnitNumber) (r : Request)
    (h : IsNext p items rs rest place r) → next ≡ number_after p.codes place h.unit → IsLeft p items next r.group.to
left_group p items rs rest place next r h after = record {
  rest = h.more;
  file = subst (λ (n : UnitNumber). n.file ≤ 255) (sym after) (next_byte p.codes place _ h.file);
  words = h.words ∙ ap (λ (n : UnitNumber). clean_blocks p.codes n h.more) (sym after);
  fit = subst (λ (n : UnitNumber). AllFit p n h.more) (sym after) h.fit;
}
