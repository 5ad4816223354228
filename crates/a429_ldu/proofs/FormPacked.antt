-- The numbers of a transfer word as shifts and masks read them, and put them together.
use Rattle.std.proofs.Common.{◌≡◌, ℕ, suc, ◌+◌, ◌*◌, ◌/◌, ◌%◌, ◌^◌, ◌<◌, ◌≤◌, refl, sym, ap, ◌∙◌, arith, bit_and, bit_or}
use Rattle.std.proofs.lemmas.Nat.{and_mask}
use Rattle.a429_word.specs.Word.{number_at, sdi_of, field_of, ssm_of}
use Rattle.a429_word.proofs.WordBits.{number_at-is, masked_from}
use Rattle.a429_word.proofs.WordMade.{or_below}
use Rattle.a429_ldu.specs.Form.{Fields, fields_of}
use Rattle.a429_ldu.proofs.FormTests.{alike}

-- ---- read

pub fields_masked : (w v : ℕ) → v ≡ w → fields_of w ≡ record {
  kind = bit_and (v / 268435456) 7;
  upper = bit_and (v / 16777216) 15;
  middle = bit_and (v / 65536) 255;
  lower = bit_and (v / 256) 255;
}
fields_masked w v e =
    ap fields_of (sym e) ∙ alike _ _ _ _ _ _ _ _ (sym (masked_from v 29 28 3 refl)) (sym (masked_from v 25 24 4 refl))
    (sym (masked_from v 17 16 8 refl)) (sym (masked_from v 9 8 8 refl))

upper_in : (v : ℕ) → v / 16777216 % 16 ≡ v / 256 % 1048576 / 65536
upper_in v = omega arith

middle_in : (v : ℕ) → v / 65536 % 256 ≡ v / 256 % 1048576 / 256 % 256
middle_in v = omega arith

lower_in : (v : ℕ) → v / 256 % 256 ≡ v / 256 % 1048576 % 256
lower_in v = omega arith

-- all but the type, read as one number of 20 bits
pub fields_joined : (w v k : ℕ) (f : Fields) → v ≡ w → fields_of w ≡ f → f.kind ≡ k →
    let n = bit_and (v / 256) 1048575 in
    fields_of w ≡ record { kind = k; upper = n / 65536; middle = n / 256 % 256; lower = n % 256 }
fields_joined w v k f e fields kind =
    let n : bit_and (v / 256) 1048575 ≡ v / 256 % 1048576 = and_mask (v / 256) 20 in
    ap fields_of (sym e) ∙ alike _ _ _ _ _ _ _ _
    (ap (λ u. number_at u 29 3) e ∙ ap (λ g. g.kind) fields ∙ kind)
    (number_at-is v 24 4 ∙ upper_in v ∙ sym (ap (λ m. m / 65536) n))
    (number_at-is v 16 8 ∙ middle_in v ∙ sym (ap (λ m. m / 256 % 256) n))
    (number_at-is v 8 8 ∙ lower_in v ∙ sym (ap (λ m. m % 256) n))

-- ---- put together

summed : (k u m l : ℕ) → k < 2 → u < 16 → m < 256 → l < 64 →
    bit_or (bit_or (bit_or (k * 262144 % 4294967296) (u * 16384 % 4294967296)) (m * 64 % 4294967296)) l ≡ k * 262144 + u * 16384 + m * 64
    + l
summed k u m l hk hu hm hl =
    let ek : k * 262144 % 4294967296 ≡ k * 262144 = omega arith in
    let eu : u * 16384 % 4294967296 ≡ u * 16384 = omega arith in
    let em : m * 64 % 4294967296 ≡ m * 64 = omega arith in
    let e1 = or_below (k * 262144) k 18 (u * 16384) refl (omega arith) in
    let e2 = or_below (k * 262144 + u * 16384) (k * 16 + u) 14 (m * 64) (omega arith) (omega arith) in
    let e3 = or_below (k * 262144 + u * 16384 + m * 64) (k * 4096 + u * 256 + m) 6 l (omega arith) (omega arith) in
    rw (ek, eu, em, e1, e2) e3

-- a data field of shifts and ors, from a type, two bytes and what is between them
pub field_put : (kind upper middle lower k u m l : ℕ)
    → upper ≤ 15 → middle < 256 → lower < 256 → k ≡ bit_and kind 1 → u ≡ upper → m ≡ middle → l ≡ lower / 4 →
    bit_or (bit_or (bit_or (k * 262144 % 4294967296) (u * 16384 % 4294967296)) (m * 64 % 4294967296)) l ≡ kind % 2 * 262144 + upper * 16384
    + middle * 64 + lower / 4
field_put kind upper middle lower k u m l hu hm hl ek eu em el =
    rw (ek, eu, em, el, and_mask kind 1) (summed (kind % 2) upper middle (lower / 4) (omega arith) (omega arith) hm (omega arith))

pub field_room : (kind upper middle lower : ℕ)
    → upper ≤ 15 → middle < 256 → lower < 256 → kind % 2 * 262144 + upper * 16384 + middle * 64 + lower / 4 < 524288
field_room kind upper middle lower hu hm hl = omega arith

read_back : (w first count n : ℕ) → number_at w (suc first) count ≡ n → w / 2 ^ first % 2 ^ count ≡ n
read_back w first count n e = sym (number_at-is w first count) ∙ e

kind_put : (x f k u m l : ℕ) → k ≤ 7 → u ≤ 15 → m < 256 → l < 256 → f ≡ k % 2 * 262144 + u * 16384 + m * 64 + l / 4 → x / 1024 % 524288 ≡ f
    → x / 536870912 % 4 ≡ k / 2 → x / 268435456 % 8 ≡ k
kind_put x f k u m l hk hu hm hl ef e1 e2 = omega arith

upper_put : (x f k u m l : ℕ)
    → u ≤ 15 → m < 256 → l < 256 → f ≡ k % 2 * 262144 + u * 16384 + m * 64 + l / 4 → x / 1024 % 524288 ≡ f → x / 16777216 % 16 ≡ u
upper_put x f k u m l hu hm hl ef e1 = omega arith

middle_put : (x f k u m l : ℕ)
    → m < 256 → l < 256 → f ≡ k % 2 * 262144 + u * 16384 + m * 64 + l / 4 → x / 1024 % 524288 ≡ f → x / 65536 % 256 ≡ m
middle_put x f k u m l hm hl ef e1 = omega arith

lower_put : (x f k u m l : ℕ)
    → l < 256 → f ≡ k % 2 * 262144 + u * 16384 + m * 64 + l / 4 → x / 1024 % 524288 ≡ f → x / 256 % 4 ≡ l % 4 → x / 256 % 256 ≡ l
lower_put x f k u m l hl ef e1 e0 = omega arith

-- SDI, data field and SSM are the four numbers
pub fields_put : (w f k u m l s d : ℕ) → k ≤ 7 → u ≤ 15 → m < 256 → l < 256 → f ≡ k % 2 * 262144 + u * 16384 + m * 64 + l / 4
    → d ≡ bit_and l 3 → s ≡ k / 2 → sdi_of w ≡ d → field_of w ≡ f → ssm_of w ≡ s →
    fields_of w ≡ record { kind = k; upper = u; middle = m; lower = l }
fields_put w f k u m l s d hk hu hm hl ef ed es sdi field ssm =
    let e0 : w / 256 % 4 ≡ l % 4 = read_back w 8 2 (l % 4) (sdi ∙ ed ∙ and_mask l 2) in
    let e1 : w / 1024 % 524288 ≡ f = read_back w 10 19 f field in
    let e2 : w / 536870912 % 4 ≡ k / 2 = read_back w 29 2 (k / 2) (ssm ∙ es) in
    alike _ k _ u _ m _ l
    (number_at-is w 28 3 ∙ kind_put w f k u m l hk hu hm hl ef e1 e2)
    (number_at-is w 24 4 ∙ upper_put w f k u m l hu hm hl ef e1)
    (number_at-is w 16 8 ∙ middle_put w f k u m l hm hl ef e1)
    (number_at-is w 8 8 ∙ lower_put w f k u m l hl ef e1 e0)
