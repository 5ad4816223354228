-- The word of a label and fields.
use Rattle.std.proofs.Common.{◌≡◌, ℕ, ◌+◌, ◌-◌, ◌*◌, ◌/◌, ◌%◌, ◌^◌, ◌<◌, ◌≤◌, refl, sym, ap, ◌∙◌, arith}
use Rattle.std.specs.Int.{reverse_bits_onto}
use Rattle.a429_word.specs.Word.{sum_below, label_of, sdi_of, field_of, ssm_of, count_of_ones, HasOddParity}
use Rattle.a429_word.proofs.WordBits.{number_at-is, number_at-lt, label-is, reversed_twice}
use Rattle.a429_word.proofs.WordMade.{same_from_fields, odd_made, reversed-lt}
use Rattle.a429_ldu.specs.Form.{Fields, fields_of, label_bits, joined_fields, with_parity_bit}
use Rattle.a429_ldu.proofs.FormTests.{AreSmall, alike}

pub small_fields : (w : ℕ) → AreSmall (fields_of w)
small_fields w =
    record { kind = number_at-lt w 28 3; upper = number_at-lt w 24 4; middle = number_at-lt w 16 8; lower = number_at-lt w 8 8 }

-- ---- label and fields of a word that is put together

pub label_bits-reversed : (l : ℕ) → label_bits l ≡ reverse_bits_onto 8 l 0
unfolding sum_below reverse_bits_onto
label_bits-reversed l = omega arith

pub label_bits-lt : (l : ℕ) → label_bits l < 256
label_bits-lt l = let small = reversed-lt l in let e = label_bits-reversed l in omega arith

label_read : (w l : ℕ) → l < 256 → w % 256 ≡ label_bits l → label_of w ≡ l
label_read w l h e = sym (label-is w) ∙ ap (λ x. reverse_bits_onto 8 x 0) (e ∙ label_bits-reversed l) ∙ reversed_twice l h

-- the sum of a word's parts
abbrev IsPut : ℕ → ℕ → ℕ → Fields → Type 0
IsPut w t b f = w ≡ b + f.lower * 256 + f.middle * 65536 + f.upper * 16777216 + f.kind * 268435456 + t * 2147483648

put_low : (w t b k u m l : ℕ) → b < 256 → w ≡ b + l * 256 + m * 65536 + u * 16777216 + k * 268435456 + t * 2147483648 → w % 256 ≡ b
put_low w t b k u m l hb e = omega arith

put_lower : (w t b k u m l : ℕ)
    → b < 256 → l < 256 → w ≡ b + l * 256 + m * 65536 + u * 16777216 + k * 268435456 + t * 2147483648 → w / 256 % 256 ≡ l
put_lower w t b k u m l hb hl e = omega arith

put_middle : (w t b k u m l : ℕ)
    → b < 256 → l < 256 → m < 256 → w ≡ b + l * 256 + m * 65536 + u * 16777216 + k * 268435456 + t * 2147483648 → w / 65536 % 256 ≡ m
put_middle w t b k u m l hb hl hm e = omega arith

put_upper : (w t b k u m l : ℕ) → b < 256 → l < 256 → m < 256 → u < 16
    → w ≡ b + l * 256 + m * 65536 + u * 16777216 + k * 268435456 + t * 2147483648 → w / 16777216 % 16 ≡ u
put_upper w t b k u m l hb hl hm hu e = omega arith

put_kind : (w t b k u m l : ℕ) → b < 256 → l < 256 → m < 256 → u < 16 → k < 8
    → w ≡ b + l * 256 + m * 65536 + u * 16777216 + k * 268435456 + t * 2147483648 → w / 268435456 % 8 ≡ k
put_kind w t b k u m l hb hl hm hu hk e = omega arith

fields_read : (w t b : ℕ) (f : Fields) → b < 256 → AreSmall f → IsPut w t b f → fields_of w ≡ f
fields_read w t b f hb small e =
    alike _ f.kind _ f.upper _ f.middle _ f.lower
    (number_at-is w 28 3 ∙ put_kind w t b f.kind f.upper f.middle f.lower hb small.lower small.middle small.upper small.kind e)
    (number_at-is w 24 4 ∙ put_upper w t b f.kind f.upper f.middle f.lower hb small.lower small.middle small.upper e)
    (number_at-is w 16 8 ∙ put_middle w t b f.kind f.upper f.middle f.lower hb small.lower small.middle e)
    (number_at-is w 8 8 ∙ put_lower w t b f.kind f.upper f.middle f.lower hb small.lower e)

-- ---- a word that is put together has its label, its fields and odd parity

pub record HasPut (w l : ℕ) (f : Fields) : Type 0 where
  pub label : label_of w ≡ l
  pub fields : fields_of w ≡ f
  pub parity : HasOddParity w
  pub word : w < 2 ^ 32

joined-lt : (b k u m l : ℕ)
    → b < 256 → l < 256 → m < 256 → u < 16 → k < 8 → b + l * 256 + m * 65536 + u * 16777216 + k * 268435456 < 2147483648
joined-lt b k u m l hb hl hm hu hk = omega arith

below_top : (n t : ℕ) → n < 2147483648 → t ≤ 1 → n + t * 2147483648 < 4294967296
below_top n t h ht = omega arith

pub put : (l : ℕ) (f : Fields) → l < 256 → AreSmall f → HasPut (with_parity_bit (joined_fields l f)) l f
put l f hl small =
    let b = label_bits l in
    let hb : b < 256 = label_bits-lt l in
    let n = joined_fields l f in
    let t = 1 - count_of_ones n % 2 in
    let below : n < 2147483648 = joined-lt b f.kind f.upper f.middle f.lower hb small.lower small.middle small.upper small.kind in
    let one : t ≤ 1 = omega arith in
    record {
      label = label_read (with_parity_bit n) l hl (put_low (with_parity_bit n) t b f.kind f.upper f.middle f.lower hb refl);
      fields = fields_read (with_parity_bit n) t b f hb small refl;
      parity = odd_made n (with_parity_bit n) below refl;
      word = below_top n t below one;
    }

-- ---- label, fields and odd parity make the word

sdi_from : (w l : ℕ) → w / 256 % 256 ≡ l → w / 256 % 4 ≡ l % 4
sdi_from w l e = omega arith

ssm_from : (w k : ℕ) → w / 268435456 % 8 ≡ k → w / 536870912 % 4 ≡ k / 2
ssm_from w k e = omega arith

field_from : (w k u m l : ℕ) → w / 268435456 % 8 ≡ k → w / 16777216 % 16 ≡ u → w / 65536 % 256 ≡ m → w / 256 % 256 ≡ l
    → w / 1024 % 524288 ≡ k % 2 * 262144 + u * 16384 + m * 64 + l / 4
field_from w k u m l ek eu em el = omega arith

sdi_is : (w : ℕ) → sdi_of w ≡ (fields_of w).lower % 4
sdi_is w = number_at-is w 8 2 ∙ sdi_from w _ (sym (number_at-is w 8 8))

ssm_is : (w : ℕ) → ssm_of w ≡ (fields_of w).kind / 2
ssm_is w = number_at-is w 29 2 ∙ ssm_from w _ (sym (number_at-is w 28 3))

abbrev field_in : Fields → ℕ
field_in f = f.kind % 2 * 262144 + f.upper * 16384 + f.middle * 64 + f.lower / 4

field_is : (w : ℕ) → field_of w ≡ field_in (fields_of w)
field_is w = number_at-is w 10 19
    ∙ field_from w _ _ _ _ (sym (number_at-is w 28 3)) (sym (number_at-is w 24 4)) (sym (number_at-is w 16 8)) (sym (number_at-is w 8 8))

pub one_put : (v w l : ℕ) (f : Fields) → HasPut v l f → HasPut w l f → v ≡ w
one_put v w l f h k =
    let fields = h.fields ∙ sym k.fields in
    same_from_fields v w h.word k.word h.parity k.parity (h.label ∙ sym k.label)
    (sdi_is v ∙ ap (λ g. g.lower % 4) fields ∙ sym (sdi_is w))
    (field_is v ∙ ap field_in fields ∙ sym (field_is w))
    (ssm_is v ∙ ap (λ g. g.kind / 2) fields ∙ sym (ssm_is w))
