-- Of a word one thing is shown.
use Rattle.std.proofs.Common.{◌≡◌, ℕ, zero, suc, ◌*◌, ◌^◌, ◌<◌, ◌⊎◌, inl, inr, ℤ, pos, negsuc, neg_ℤ, ◌*ℤ◌, Bool, true, false, Option, Some, None, refl, sym, ap, ◌∙◌, arith, subst}
use Rattle.std.specs.List.{find}
use Rattle.std.specs.Borrow.{Bor}
use Rattle.std.proofs.Math.Nat.{mul-pos}
use Rattle.std.proofs.Math.IntN.{pos-*ℤ-pos, negsuc-*ℤ-pos}
use Rattle.std.proofs.lemmas.Nat.{pow_pos}
use Rattle.std.proofs.lemmas.Bool.{cases_order}
use Rattle.a429_word.specs.Word.{label_of, sdi_of, ssm_of, HasOddParity}
use Rattle.a429_word.specs.Bnr.{raw_of}
use Rattle.a429_word.specs.Bcd.{IsFirstBad}
use Rattle.a429_word.specs.declared.fixed.Fixed.{Fixed}
use Rattle.a429_word.proofs.Powers.{pow-10_pos}
use Rattle.a429_word.proofs.FixedOneSpelling.{cancel}
use Rattle.a429_profile.specs.declared.entry.Kind.{Kind}
use Rattle.a429_profile.specs.declared.entry.Kind.TheVariants.{Bnr, Bcd, Discrete}
use Rattle.a429_profile.specs.declared.entry.LabelEntry.{LabelEntry}
use Rattle.a429_profile.specs.declared.shown.Sense.{Sense}
use Rattle.a429_profile.specs.declared.shown.Sense.TheVariants.{Normal, Test, NoValue}
use Rattle.a429_profile.specs.declared.shown.Status.{Status}
use Rattle.a429_profile.specs.declared.shown.Shown.{Shown}
use Rattle.a429_profile.specs.declared.shown.Shown.TheVariants as shown
use Rattle.a429_profile.specs.Profile.{Contents, is_for}
use Rattle.a429_profile.specs.Value.{natural}
use Rattle.a429_profile.specs.Shown.{sense_of, HasValue, IsBnrValue, IsValue, IsBadPlace, IsDiscrete, IsEntryOf, IsShown, ShowSame, same_parity, same_no_entry, same_status, same_digit, same_value, same_bits}

-- ---- numbers

not_minus : (m n : ℕ) → 0 < n → pos m ≡ neg_ℤ (pos n) → ⊥
not_minus m zero some h = omega arith
not_minus m (suc n) some h = cc

same_minus : (m n : ℕ) → neg_ℤ (pos m) ≡ neg_ℤ (pos n) → m ≡ n
same_minus zero zero h = refl
same_minus zero (suc n) h = absurd (cc)
same_minus (suc m) zero h = absurd (cc)
same_minus (suc m) (suc n) h = ap suc (ap below h)
  where
    below : ℤ → ℕ
    below (pos n) = 0
    below (negsuc n) = n

some_times : (b k : ℕ) → 0 < k → 0 < suc b * k
some_times b k some = mul-pos (omega arith) some

-- a factor above zero is dropped
same_times : (x y : ℤ) (k : ℕ) → 0 < k → x *ℤ pos k ≡ y *ℤ pos k → x ≡ y
same_times (pos a) (pos b) k some h = ap pos (cancel a b k some (ap natural (sym (pos-*ℤ-pos a k) ∙ h ∙ pos-*ℤ-pos b k)))
same_times (pos a) (negsuc b) k some h =
    absurd (not_minus (a * k) (suc b * k) (some_times b k some) (sym (pos-*ℤ-pos a k) ∙ h ∙ negsuc-*ℤ-pos b k))
same_times (negsuc a) (pos b) k some h =
    absurd (not_minus (b * k) (suc a * k) (some_times a k some) (sym (pos-*ℤ-pos b k) ∙ sym h ∙ negsuc-*ℤ-pos a k))
same_times (negsuc a) (negsuc b) k some h =
    ap (λ n. neg_ℤ (pos n))
    (cancel (suc a) (suc b) k some (same_minus (suc a * k) (suc b * k) (sym (negsuc-*ℤ-pos a k) ∙ h ∙ negsuc-*ℤ-pos b k)))

-- ---- values and places

over : ℤ → ℕ → Fixed
over n d = record { number = n; decimals = d }

made : (v w : Fixed) → v.number ≡ w.number → v.decimals ≡ w.decimals → v ≡ w
unfolding over
made v w number decimals = ap (λ n. over n v.decimals) number ∙ ap (over w.number) decimals

one_bnr : (w bits range decimals : ℕ) (u v : Fixed) → IsBnrValue w bits range decimals u → IsBnrValue w bits range decimals v → u ≡ v
one_bnr w bits range decimals u v h k =
    let places : u.decimals ≡ v.decimals = h.1 ∙ sym k.1 in
    let units : 0 < 2 ^ bits * 10 ^ decimals = mul-pos (pow_pos bits) (pow-10_pos decimals) in
    let number : u.number ≡ v.number =
    same_times u.number v.number (2 ^ bits * 10 ^ decimals) units
    (h.0 ∙ ap (λ d. raw_of w bits *ℤ pos (range * 10 ^ d)) places ∙ sym k.0) in
    made u v number places

one_value : (kind : Kind) (w : ℕ) (u v : Fixed) → IsValue kind w u → IsValue kind w v → u ≡ v
one_value (Bnr bits range decimals) w u v h k = one_bnr w bits range decimals u v h k
one_value (Bcd digits decimals) w u v h k = made u v (h.1 ∙ sym k.1) (h.2 ∙ sym k.2)
one_value (Discrete flags) w u v h k = absurd h

not_before : (w digits a b : ℕ) → IsFirstBad w digits a → IsFirstBad w digits b → a < b → ⊥
not_before w digits a b h k lt =
    let good = k.before a h.least (omega arith) in
    let bad = h.above in
    omega arith

one_first : (w digits a b : ℕ) → IsFirstBad w digits a → IsFirstBad w digits b → a ≡ b
one_first w digits a b h k = by (cases_order a b)
  where
    by : (a ≡ b) ⊎ ((a < b) ⊎ (b < a)) → a ≡ b
    by (inl e) = e
    by (inr (inl lt)) = absurd (not_before w digits a b h k lt)
    by (inr (inr lt)) = absurd (not_before w digits b a k h lt)

one_place : (kind : Kind) (w a b : ℕ) → IsBadPlace kind w a → IsBadPlace kind w b → a ≡ b
one_place (Bnr bits range decimals) w a b h k = absurd h
one_place (Bcd digits decimals) w a b h k = one_first w digits a b h k
one_place (Discrete flags) w a b h k = absurd h

-- a value has no bad digit
no_bad_place : (kind : Kind) (w a : ℕ) (v : Fixed) → IsBadPlace kind w a → IsValue kind w v → ⊥
no_bad_place (Bnr bits range decimals) w a v h k = h
no_bad_place (Bcd digits decimals) w a v h k =
    let good = k.0 a h.least h.most in
    let bad = h.above in
    omega arith
no_bad_place (Discrete flags) w a v h k = h

no_bad_bits : (kind : Kind) (w a : ℕ) → IsBadPlace kind w a → IsDiscrete kind → ⊥
no_bad_bits (Bnr bits range decimals) w a h k = h
no_bad_bits (Bcd digits decimals) w a h k = k
no_bad_bits (Discrete flags) w a h k = h

no_value_bits : (kind : Kind) (w : ℕ) (v : Fixed) → IsValue kind w v → IsDiscrete kind → ⊥
no_value_bits (Bnr bits range decimals) w v h k = k
no_value_bits (Bcd digits decimals) w v h k = k
no_value_bits (Discrete flags) w v h k = h

-- ---- senses and entries

apart_senses : (x : Sense) (status : Status) → x ≡ Test → x ≡ NoValue status → ⊥
apart_senses x status h k = cc

apart_normal : (x : Sense) (status : Status) → x ≡ Normal → x ≡ NoValue status → ⊥
apart_normal x status h k = cc

apart_tests : (x : Sense) → x ≡ Test → x ≡ Normal → ⊥
apart_tests x h k = cc

no_value : (kind : Kind) (w : ℕ) (b : Bool) (status : Status) → HasValue kind w b → sense_of kind (ssm_of w) ≡ NoValue status → ⊥
no_value kind w true status h k = apart_senses (sense_of kind (ssm_of w)) status h k
no_value kind w false status h k = apart_normal (sense_of kind (ssm_of w)) status h k

one_test : (kind : Kind) (w : ℕ) (a b : Bool) → HasValue kind w a → HasValue kind w b → a ≡ b
one_test kind w true true h k = refl
one_test kind w true false h k = absurd (apart_tests (sense_of kind (ssm_of w)) h k)
one_test kind w false true h k = absurd (apart_tests (sense_of kind (ssm_of w)) k h)
one_test kind w false false h k = refl

status_in : (x : Sense) (a b : Status) → x ≡ NoValue a → x ≡ NoValue b → a ≡ b
status_in x a b h k = cc

found_twice : (o : Option LabelEntry) (e f : LabelEntry) → o ≡ Some e → o ≡ Some f → e ≡ f
found_twice o e f h k = cc

one_entry : (p : Contents) (w : ℕ) (e f : LabelEntry) → IsEntryOf p w e → IsEntryOf p w f → e ≡ f
one_entry p w e f h k = found_twice (find (is_for (label_of w) (sdi_of w)) p.labels) e f h.1 k.1

none_and_some : (o : Option LabelEntry) (e : LabelEntry) → o ≡ None → o ≡ Some e → ⊥
none_and_some o e h k = cc

no_entry : (p : Contents) (w : ℕ) (e : LabelEntry) → find (is_for (label_of w) (sdi_of w)) p.labels ≡ None → IsEntryOf p w e → ⊥
no_entry p w e h k = none_and_some (find (is_for (label_of w) (sdi_of w)) p.labels) e h k.1

-- ---- two showings of one entry

module _ (w : ℕ) (e f : Bor LabelEntry) (same : e.now ≡ f.now) where
  statuses : (a b : Status) → a ≡ b → ShowSame (shown.Status e a) (shown.Status f b)
  statuses a b is = subst (λ x. ShowSame (shown.Status e a) (shown.Status f x)) is (same_status same)

  places : (a b : ℕ) → a ≡ b → ShowSame (shown.BadDigit e a) (shown.BadDigit f b)
  places a b is = subst (λ x. ShowSame (shown.BadDigit e a) (shown.BadDigit f x)) is (same_digit same)

  values : (u v : Fixed) (a b : Bool) → u ≡ v → a ≡ b → ShowSame (shown.Value e u a) (shown.Value f v b)
  values u v a b is too =
      subst (λ x. ShowSame (shown.Value e u a) (shown.Value f x b)) is
      (subst (λ x. ShowSame (shown.Value e u a) (shown.Value f u x)) too (same_value same))

  fields : (m n : ℕ) (a b : Bool) → m ≡ n → a ≡ b → ShowSame (shown.Bits e m a) (shown.Bits f n b)
  fields m n a b is too =
      subst (λ x. ShowSame (shown.Bits e m a) (shown.Bits f x b)) is
      (subst (λ x. ShowSame (shown.Bits e m a) (shown.Bits f m x)) too (same_bits same))

-- ---- what is shown of one word, twice

module _ (p : Contents) (w : ℕ) where
  -- what an entry shows is said of the kind of the entry that another showing has
  of_entry : (P : Kind → Type 0) (e f : LabelEntry) → IsEntryOf p w e → IsEntryOf p w f → P f.kind → P e.kind
  of_entry P e f h k is = subst (λ (x : LabelEntry). P x.kind) (sym (one_entry p w e f h k)) is

  one_parity : (t : Shown) → (HasOddParity w → ⊥) → IsShown p w t → ShowSame shown.BadParity t
  one_parity shown.BadParity h k = same_parity
  one_parity shown.NoEntry h k = absurd (h k.0)
  one_parity (shown.Status f status) h k = absurd (h k.0.0)
  one_parity (shown.BadDigit f place) h k = absurd (h k.0.0)
  one_parity (shown.Value f v is_test) h k = absurd (h k.0.0)
  one_parity (shown.Bits f field is_test) h k = absurd (h k.0.0)

  one_none : (t : Shown) → IsShown p w shown.NoEntry → IsShown p w t → ShowSame shown.NoEntry t
  one_none shown.BadParity h k = absurd (k h.0)
  one_none shown.NoEntry h k = same_no_entry
  one_none (shown.Status f status) h k = absurd (no_entry p w f.now h.1 k.0)
  one_none (shown.BadDigit f place) h k = absurd (no_entry p w f.now h.1 k.0)
  one_none (shown.Value f v is_test) h k = absurd (no_entry p w f.now h.1 k.0)
  one_none (shown.Bits f field is_test) h k = absurd (no_entry p w f.now h.1 k.0)

  one_status : (e : Bor LabelEntry) (status : Status) (t : Shown)
      → IsShown p w (shown.Status e status) → IsShown p w t → ShowSame (shown.Status e status) t
  one_status e status shown.BadParity h k = absurd (k h.0.0)
  one_status e status shown.NoEntry h k = absurd (no_entry p w e.now k.1 h.0)
  one_status e status (shown.Status f other) h k =
      statuses w e f (one_entry p w e.now f.now h.0 k.0) status other
      (status_in (sense_of e.now.kind (ssm_of w)) status other h.1
      (of_entry (λ x. sense_of x (ssm_of w) ≡ NoValue other) e.now f.now h.0 k.0 k.1))
  one_status e status (shown.BadDigit f place) h k =
      absurd (no_value e.now.kind w k.1.0 status (of_entry (λ x. HasValue x w k.1.0) e.now f.now h.0 k.0 k.1.1) h.1)
  one_status e status (shown.Value f v is_test) h k =
      absurd (no_value e.now.kind w is_test status (of_entry (λ x. HasValue x w is_test) e.now f.now h.0 k.0 k.1) h.1)
  one_status e status (shown.Bits f field is_test) h k =
      absurd (no_value e.now.kind w is_test status (of_entry (λ x. HasValue x w is_test) e.now f.now h.0 k.0 k.1) h.1)

  one_digit : (e : Bor LabelEntry) (place : ℕ) (t : Shown)
      → IsShown p w (shown.BadDigit e place) → IsShown p w t → ShowSame (shown.BadDigit e place) t
  one_digit e place shown.BadParity h k = absurd (k h.0.0)
  one_digit e place shown.NoEntry h k = absurd (no_entry p w e.now k.1 h.0)
  one_digit e place (shown.Status f status) h k =
      absurd (no_value e.now.kind w h.1.0 status h.1.1 (of_entry (λ x. sense_of x (ssm_of w) ≡ NoValue status) e.now f.now h.0 k.0 k.1))
  one_digit e place (shown.BadDigit f other) h k =
      places w e f (one_entry p w e.now f.now h.0 k.0) place other
      (one_place e.now.kind w place other h.2 (of_entry (λ x. IsBadPlace x w other) e.now f.now h.0 k.0 k.2))
  one_digit e place (shown.Value f v is_test) h k =
      absurd (no_bad_place e.now.kind w place v h.2 (of_entry (λ x. IsValue x w v) e.now f.now h.0 k.0 k.2))
  one_digit e place (shown.Bits f field is_test) h k =
      absurd (no_bad_bits e.now.kind w place h.2 (of_entry IsDiscrete e.now f.now h.0 k.0 k.2))

  one_number : (e : Bor LabelEntry) (u : Fixed) (is_test : Bool) (t : Shown)
      → IsShown p w (shown.Value e u is_test) → IsShown p w t → ShowSame (shown.Value e u is_test) t
  one_number e u is_test shown.BadParity h k = absurd (k h.0.0)
  one_number e u is_test shown.NoEntry h k = absurd (no_entry p w e.now k.1 h.0)
  one_number e u is_test (shown.Status f status) h k =
      absurd (no_value e.now.kind w is_test status h.1 (of_entry (λ x. sense_of x (ssm_of w) ≡ NoValue status) e.now f.now h.0 k.0 k.1))
  one_number e u is_test (shown.BadDigit f place) h k =
      absurd (no_bad_place e.now.kind w place u (of_entry (λ x. IsBadPlace x w place) e.now f.now h.0 k.0 k.2) h.2)
  one_number e u is_test (shown.Value f v other) h k =
      values w e f (one_entry p w e.now f.now h.0 k.0) u v is_test other
      (one_value e.now.kind w u v h.2 (of_entry (λ x. IsValue x w v) e.now f.now h.0 k.0 k.2))
      (one_test e.now.kind w is_test other h.1 (of_entry (λ x. HasValue x w other) e.now f.now h.0 k.0 k.1))
  one_number e u is_test (shown.Bits f field other) h k =
      absurd (no_value_bits e.now.kind w u h.2 (of_entry IsDiscrete e.now f.now h.0 k.0 k.2))

  one_field : (e : Bor LabelEntry) (field : ℕ) (is_test : Bool) (t : Shown)
      → IsShown p w (shown.Bits e field is_test) → IsShown p w t → ShowSame (shown.Bits e field is_test) t
  one_field e field is_test shown.BadParity h k = absurd (k h.0.0)
  one_field e field is_test shown.NoEntry h k = absurd (no_entry p w e.now k.1 h.0)
  one_field e field is_test (shown.Status f status) h k =
      absurd (no_value e.now.kind w is_test status h.1 (of_entry (λ x. sense_of x (ssm_of w) ≡ NoValue status) e.now f.now h.0 k.0 k.1))
  one_field e field is_test (shown.BadDigit f place) h k =
      absurd (no_bad_bits e.now.kind w place (of_entry (λ x. IsBadPlace x w place) e.now f.now h.0 k.0 k.2) h.2)
  one_field e field is_test (shown.Value f v other) h k =
      absurd (no_value_bits e.now.kind w v (of_entry (λ x. IsValue x w v) e.now f.now h.0 k.0 k.2) h.2)
  one_field e field is_test (shown.Bits f other is_too) h k =
      fields w e f (one_entry p w e.now f.now h.0 k.0) field other is_test is_too (h.3 ∙ sym k.3)
      (one_test e.now.kind w is_test is_too h.1 (of_entry (λ x. HasValue x w is_too) e.now f.now h.0 k.0 k.1))

pub one_shown : (p : Contents) (w : ℕ) (s t : Shown) → IsShown p w s → IsShown p w t → ShowSame s t
one_shown p w shown.BadParity t h k = one_parity p w t h k
one_shown p w shown.NoEntry t h k = one_none p w t h k
one_shown p w (shown.Status e status) t h k = one_status p w e status t h k
one_shown p w (shown.BadDigit e place) t h k = one_digit p w e place t h k
one_shown p w (shown.Value e v is_test) t h k = one_number p w e v is_test t h k
one_shown p w (shown.Bits e field is_test) t h k = one_field p w e field is_test t h k
