-- Searches through the words of a group, one word after the other.
use Rattle.std.proofs.Common.{◌≡◌, ◌≢◌, ℕ, zero, suc, ◌+◌, ◌-◌, ◌≤◌, ◌<◌, Bool, true, false, cond, not, ◌&&◌, List, [], ◌∷◌, length, take, drop, get_or, slice_get, slice_range, Option, Some, None, is_some, refl, sym, ap, ◌∙◌, subst, arith, eq-eqb}
use Rattle.std.proofs.lemmas.Bool.{ne_eqb, and_right}
use Rattle.std.proofs.lemmas.List.{drop_more}
use Rattle.std.proofs.lemmas.Option.{slice_get_within, get_or_from_slice_get}
use Rattle.std.specs.Option.{option_or}
use Rattle.a429_profile.specs.declared.codes.Codes.{Codes}
use Rattle.a429_profile.specs.Profile.{Contents, IsProfile}
use Rattle.a429_ldu.specs.declared.forms.Form.{Form}
use Rattle.a429_ldu.specs.declared.forms.Form.TheVariants.{Rts, Cts, Ack, Nak, Sot, Part, Eot}
use Rattle.a429_ldu.specs.declared.fault.LduFault.{LduFault}
use Rattle.a429_ldu.specs.declared.fault.LduFault.TheVariants.{Count, NotBytes, CheckWrong, OutOfMemory}
use Rattle.a429_ldu.specs.Form.{form_of}
use Rattle.a429_ldu.specs.Sight.{sight_of}
use Rattle.a429_ldu.specs.Carried.{bytes_carried, bytes_in}
use Rattle.a429_ldu.specs.Ldu.{LduValue, IsLdu, IsFirstLduFault}
use Rattle.a429_ldu.proofs.CarriedFacts.{carried_of, carries_of}
use Rattle.a429_ldu.specs.CheckWord.{agrees}
use Rattle.a429_link.specs.declared.seen.Seen.{Seen}
use Rattle.a429_ldu.specs.declared.sight.Sight.{Sight}
use Rattle.a429_ldu.specs.declared.sight.Sight.TheVariants as sight
use Rattle.a429_explain.specs.declared.verdict.Doubt.TheVariants.{NotOneBlock}
use Rattle.a429_explain.specs.Stop.{IsDoubtOf, IsDoubtAt}
use Rattle.a429_explain.specs.declared.decoded.DecodedWord.{DecodedWord}
use Rattle.a429_explain.specs.declared.attempts.Role.{Role}
use Rattle.a429_explain.specs.Attempts.{role_of, roles}
use Rattle.a429_explain.specs.Decoded.{sight_at, IsHeardAt, forms_of}
use Rattle.a429_explain.specs.Whole.{ends_with, Recorded, gathered_with, is_whole, is_of_attempt, unit_made, ended_by, first_whole, wanted, is_other, other_request}
use Rattle.a429_explain.proofs.AttemptsFacts.{role_here}
use Rattle.a429_explain.proofs.CleanBlock.{made_of}

-- ---- the next word

pub record HasItem (items : List Seen) (n : ℕ) : Type 0 where
  pub item : Seen
  pub is : slice_get items n ≡ Some item

pub has_item : (items : List Seen) (n : ℕ) → n < length items → HasItem items n
has_item [] n l = absurd (omega arith)
has_item (x ∷ xs) zero l = record { item = x; is = refl }
has_item (x ∷ xs) (suc n) l = let more = has_item xs n (omega arith) in record { item = more.item; is = more.is }

pub drop_next : (xs : List Seen) (n : ℕ) (i : Seen) → slice_get xs n ≡ Some i → drop n xs ≡ i ∷ drop (n + 1) xs
drop_next xs n i e =
    drop_more xs n i (slice_get_within xs n i e) ∙ ap (λ (x : Seen). x ∷ drop (n + 1) xs) (get_or_from_slice_get xs n i i e)

pub range_next : (xs : List Seen) (at to : ℕ) (i : Seen)
    → at < to → slice_get xs at ≡ Some i → slice_range xs at to ≡ i ∷ slice_range xs (at + 1) to
range_next xs at to i l e =
    let more : to - at ≡ suc (to - (at + 1)) = omega arith in
    ap (λ (k : ℕ). take k (drop at xs)) more ∙ ap (take (suc (to - (at + 1)))) (drop_next xs at i e)

-- ---- requests of another count

other_next : (c : Codes) (count : ℕ) (items : List Seen) (at to : ℕ) (t : Bool)
    → at < to → at < length items → is_other count (wanted (sight_at c (slice_get items at))) ≡ t
    → other_request c count (slice_range items at to) at ≡ cond t (Some at) (other_request c count (slice_range items (at + 1) to) (at + 1))
other_next c count items at to t l m e =
    let here = has_item items at m in
    let same : is_other count (wanted (sight_of c here.item.bus here.item.word)) ≡ t =
    ap (λ (o : Option Seen). is_other count (wanted (sight_at c o))) (sym here.is) ∙ e in
    ap (λ (xs : List Seen). other_request c count xs at) (range_next items at to here.item l here.is)
    ∙ ap (λ (b : Bool). cond b (Some at) (other_request c count (slice_range items (at + 1) to) (at + 1))) same

pub other_here : (c : Codes) (count : ℕ) (items : List Seen) (at to w : ℕ) → at < to → at < length items
    → Some w ≡ wanted (sight_at c (slice_get items at)) → w ≢ count → other_request c count (slice_range items at to) at ≡ Some at
other_here c count items at to w l m e n = other_next c count items at to true l m (ap (is_other count) (sym e) ∙ ap not (ne_eqb w count n))

pub other_same : (c : Codes) (count : ℕ) (items : List Seen) (at to w : ℕ)
    → at < to → at < length items → Some w ≡ wanted (sight_at c (slice_get items at)) → w ≡ count
    → other_request c count (slice_range items at to) at ≡ other_request c count (slice_range items (at + 1) to) (at + 1)
other_same c count items at to w l m e n =
    other_next c count items at to false l m (ap (is_other count) (sym e) ∙ ap not (eq-eqb w count n))

pub other_none : (c : Codes) (count : ℕ) (items : List Seen) (at to : ℕ)
    → at < to → at < length items → None ≡ wanted (sight_at c (slice_get items at))
    → other_request c count (slice_range items at to) at ≡ other_request c count (slice_range items (at + 1) to) (at + 1)
other_none c count items at to l m e = other_next c count items at to false l m (ap (is_other count) (sym e))

-- a request can be doubted
pub request_doubt : (c : Codes) (items : List Seen) (n wants : ℕ)
    → Some wants ≡ wanted (sight_at c (slice_get items n)) → IsDoubtAt c items n NotOneBlock
request_doubt c items n wants = by (sight_at c (slice_get items n))
  where
    by : (s : Sight) → Some wants ≡ wanted s → IsDoubtOf s NotOneBlock
    by (sight.Form (Rts n)) e = tt
    by (sight.Form (Cts n)) e = absurd (cc e)
    by (sight.Form (Ack f l)) e = absurd (cc e)
    by (sight.Form (Nak b)) e = absurd (cc e)
    by (sight.Form (Sot g f l)) e = absurd (cc e)
    by (sight.Form (Part s)) e = absurd (cc e)
    by (sight.Form (Eot f k)) e = absurd (cc e)
    by sight.Free e = absurd (cc e)
    by sight.NoForm e = absurd (cc e)

-- ---- the first whole attempt

pub unit_is_made : (p : Contents) → IsProfile p → (count : ℕ) (start : Option ℕ) (gfi flags check : ℕ) (words : List ℕ) (u : LduValue)
    → start ≡ Some gfi → u ≡ record { gfi = gfi; flags = flags; check = check; words = words } → IsLdu p u → length words + 2 ≡ count
    → Some u ≡ unit_made p count (ends_with start flags check) words
unit_is_made p is count start gfi flags check words u s e h n =
    let v : LduValue = record { gfi = gfi; flags = flags; check = check; words = words } in
    ap (λ (x : LduValue). Some x) e ∙ sym (made_of p is count v (subst (IsLdu p) e h) n)
    ∙ ap (λ (o : Option ℕ). unit_made p count (ends_with o flags check) words) (sym s)

not_whole : (p : Contents) → IsProfile p → (count : ℕ) (words : List ℕ) (check : ℕ) (f : LduFault) → count ≤ 255 → length words + 2 ≡ count
    → IsFirstLduFault p check words f → is_whole p count words check ≡ false
not_whole p is count [] check Count l n h = and_right _ _ refl
not_whole p is count (w ∷ ws) check Count l n h = absurd (h (omega arith, omega arith))
not_whole p is count words check NotBytes l n h = and_right _ _ (by (bytes_carried p.codes words) refl)
  where
    by : (o : Option (List ℕ)) → bytes_carried p.codes words ≡ o → (is_some o && agrees p.check (bytes_in p.codes words) check) ≡ false
    by None e = refl
    by (Some bytes) e = absurd (h.1 bytes (carries_of p is words bytes e))
not_whole p is count words check CheckWrong l n h =
    let carried = carried_of p is words h.1 h.2 in
    rw carried (rw h.3 (rw (ne_eqb _ _ h.4) (and_right _ _ refl)))
not_whole p is count words check OutOfMemory l n h = absurd h

pub unit_not_made : (p : Contents)
    → IsProfile p → (count : ℕ) (start : Option ℕ) (gfi flags check : ℕ) (words : List ℕ) (f : LduFault) → count ≤ 255 → start ≡ Some gfi
    → length words + 2 ≡ count → IsFirstLduFault p check words f → None ≡ unit_made p count (ends_with start flags check) words
unit_not_made p is count start gfi flags check words f l s n h =
    let v : LduValue = record { gfi = gfi; flags = flags; check = check; words = words } in
    sym (ap (λ (o : Option ℕ). unit_made p count (ends_with o flags check) words) s
    ∙ ap (λ (t : Bool). cond t (Some v) None) (not_whole p is count words check f l n h))

-- the search goes on behind a word
pub whole_next : (p : Contents) (count : ℕ) (items : List Seen) (at to : ℕ) (w : DecodedWord) (r : Recorded)
    → at < to → IsHeardAt p.codes items at w
    → first_whole p count (slice_range items at to) r
    ≡ option_or (ended_by p count w.form r) (first_whole p count (slice_range items (at + 1) to) (gathered_with w.form w.word r))
whole_next p count items at to w r l k =
    ap (λ (xs : List Seen). first_whole p count xs r) (range_next items at to k.item l k.is)
    ∙ ap (λ (x : Option Form).
    option_or (ended_by p count x r) (first_whole p count (slice_range items (at + 1) to) (gathered_with x k.item.word r))) k.form_is
    ∙ ap (λ (v : ℕ). option_or (ended_by p count w.form r) (first_whole p count (slice_range items (at + 1) to) (gathered_with w.form v r)))
    k.word_is

pub whole_here : (p : Contents) (count : ℕ) (items : List Seen) (at to : ℕ) (w : DecodedWord) (r : Recorded) (u : LduValue)
    → at < to → IsHeardAt p.codes items at w → Some u ≡ ended_by p count w.form r → first_whole p count (slice_range items at to) r ≡ Some u
whole_here p count items at to w r u l k e =
    whole_next p count items at to w r l k
    ∙ ap (λ (x : Option LduValue). option_or x (first_whole p count (slice_range items (at + 1) to) (gathered_with w.form w.word r)))
    (sym e)

pub whole_on : (p : Contents) (count : ℕ) (items : List Seen) (at to : ℕ) (w : DecodedWord) (r s : Recorded)
    → at < to → IsHeardAt p.codes items at w → None ≡ ended_by p count w.form r → s ≡ gathered_with w.form w.word r
    → first_whole p count (slice_range items at to) r ≡ first_whole p count (slice_range items (at + 1) to) s
whole_on p count items at to w r s l k e g =
    whole_next p count items at to w r l k
    ∙ ap (λ (x : Option LduValue). option_or x (first_whole p count (slice_range items (at + 1) to) (gathered_with w.form w.word r)))
    (sym e)
    ∙ ap (first_whole p count (slice_range items (at + 1) to)) (sym g)

-- a free word and an answer are passed over
pass_over : (p : Contents) (count : ℕ) (o : Option Form) (more : List (Option Form)) (word : ℕ) (items : List Seen) (r : Recorded)
    → is_of_attempt (role_of o more) ≡ false
    → option_or (ended_by p count o r) (first_whole p count items (gathered_with o word r)) ≡ first_whole p count items r
pass_over p count (Some (Cts n)) more word items r e = refl
pass_over p count (Some (Ack f l)) more word items r e = refl
pass_over p count (Some (Nak b)) more word items r e = refl
pass_over p count None more word items r e = refl
pass_over p count (Some (Rts n)) more word items r e = absurd (cc e)
pass_over p count (Some (Sot g f l)) more word items r e = absurd (cc e)
pass_over p count (Some (Part s)) more word items r e = absurd (cc e)
pass_over p count (Some (Eot f k)) more word items r e = absurd (cc e)

pub whole_past : (p : Contents) (count : ℕ) (items : List Seen) (rs : List Role) (at to : ℕ) (d : Role) (r : Recorded)
    → at < to → at < length items → rs ≡ roles (forms_of p.codes items) → is_of_attempt (get_or rs at d) ≡ false
    → first_whole p count (slice_range items at to) r ≡ first_whole p count (slice_range items (at + 1) to) r
whole_past p count items rs at to d r l m all e =
    let here = has_item items at m in
    let form = form_of p.codes here.item.bus here.item.word in
    let role = role_here p.codes items rs at d here.item all here.is in
    ap (λ (xs : List Seen). first_whole p count xs r) (range_next items at to here.item l here.is)
    ∙ pass_over p count form role.more here.item.word (slice_range items (at + 1) to) r (ap is_of_attempt (sym role.is) ∙ e)
