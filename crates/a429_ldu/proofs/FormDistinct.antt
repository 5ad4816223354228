-- The types and codes of a profile differ, and are none of the ignored ones.
use Rattle.std.proofs.Common.{◌≡◌, ℕ, List, [], ◌∷◌, ◌++◌, length, slice_index, false, nat_eq, arith}
use Rattle.std.specs.List.{IsDistinct, AllByRecursion}
use Rattle.a429_profile.specs.declared.codes.Codes.{Codes}
use Rattle.a429_profile.specs.Profile.{Contents, IsProfile}
use Rattle.a429_profile.proofs.ProfileRanges.{in_range}
use Rattle.a429_profile.proofs.ClashNumbers.{types_differ, codes_differ, partial_codes_differ}

-- a number is none of some others
abbrev pub IsNone : ℕ → List ℕ → Type 0
IsNone n ms = AllByRecursion (λ m. nat_eq n m ≡ false) ms

pub record AreDistinct (c : Codes) : Type 0 where
  pub full_partial : nat_eq c.full c.partial ≡ false
  pub full_protocol : nat_eq c.full c.protocol ≡ false
  pub full_sot : nat_eq c.full c.sot ≡ false
  pub full_eot : nat_eq c.full c.eot ≡ false
  pub partial_protocol : nat_eq c.partial c.protocol ≡ false
  pub partial_sot : nat_eq c.partial c.sot ≡ false
  pub partial_eot : nat_eq c.partial c.eot ≡ false
  pub protocol_sot : nat_eq c.protocol c.sot ≡ false
  pub protocol_eot : nat_eq c.protocol c.eot ≡ false
  pub sot_eot : nat_eq c.sot c.eot ≡ false
  pub full_kept : IsNone c.full c.ignored_types
  pub partial_kept : IsNone c.partial c.ignored_types
  pub protocol_kept : IsNone c.protocol c.ignored_types
  pub sot_kept : IsNone c.sot c.ignored_types
  pub eot_kept : IsNone c.eot c.ignored_types
  pub cts_ack : nat_eq c.cts c.ack ≡ false
  pub cts_nak : nat_eq c.cts c.nak ≡ false
  pub ack_nak : nat_eq c.ack c.nak ≡ false
  pub rts_kept : IsNone c.rts c.ignored_codes
  pub cts_kept : IsNone c.cts c.ignored_codes
  pub ack_kept : IsNone c.ack c.ignored_codes
  pub nak_kept : IsNone c.nak c.ignored_codes
  pub one_two : nat_eq (slice_index c.partial_codes 0) (slice_index c.partial_codes 1) ≡ false
  pub one_three : nat_eq (slice_index c.partial_codes 0) (slice_index c.partial_codes 2) ≡ false
  pub one_four : nat_eq (slice_index c.partial_codes 0) (slice_index c.partial_codes 3) ≡ false
  pub two_three : nat_eq (slice_index c.partial_codes 1) (slice_index c.partial_codes 2) ≡ false
  pub two_four : nat_eq (slice_index c.partial_codes 1) (slice_index c.partial_codes 3) ≡ false
  pub three_four : nat_eq (slice_index c.partial_codes 2) (slice_index c.partial_codes 3) ≡ false

record FourDiffer (ks : List ℕ) : Type 0 where
  one_two : nat_eq (slice_index ks 0) (slice_index ks 1) ≡ false
  one_three : nat_eq (slice_index ks 0) (slice_index ks 2) ≡ false
  one_four : nat_eq (slice_index ks 0) (slice_index ks 3) ≡ false
  two_three : nat_eq (slice_index ks 1) (slice_index ks 2) ≡ false
  two_four : nat_eq (slice_index ks 1) (slice_index ks 3) ≡ false
  three_four : nat_eq (slice_index ks 2) (slice_index ks 3) ≡ false

four_differ : (ks : List ℕ) → length ks ≡ 4 → IsDistinct nat_eq ks → FourDiffer ks
unfolding IsDistinct
four_differ (a ∷ b ∷ c ∷ d ∷ []) h e =
    record { one_two = e.0.0; one_three = e.0.1.0; one_four = e.0.1.1.0; two_three = e.1.0.0; two_four = e.1.0.1.0; three_four = e.1.1.0.0 }
four_differ _ h e = absurd (omega arith)

distinct_of : (c : Codes)
    → FourDiffer c.partial_codes → IsDistinct nat_eq ((c.full ∷ c.partial ∷ c.protocol ∷ c.sot ∷ c.eot ∷ []) ++ c.ignored_types)
    → IsDistinct nat_eq ((c.rts ∷ c.cts ∷ c.ack ∷ c.nak ∷ []) ++ c.ignored_codes) → AreDistinct c
unfolding IsDistinct
distinct_of c four types codes = record {
  full_partial = types.0.0;
  full_protocol = types.0.1.0;
  full_sot = types.0.1.1.0;
  full_eot = types.0.1.1.1.0;
  partial_protocol = types.1.0.0;
  partial_sot = types.1.0.1.0;
  partial_eot = types.1.0.1.1.0;
  protocol_sot = types.1.1.0.0;
  protocol_eot = types.1.1.0.1.0;
  sot_eot = types.1.1.1.0.0;
  full_kept = types.0.1.1.1.1;
  partial_kept = types.1.0.1.1.1;
  protocol_kept = types.1.1.0.1.1;
  sot_kept = types.1.1.1.0.1;
  eot_kept = types.1.1.1.1.0;
  cts_ack = codes.1.0.0;
  cts_nak = codes.1.0.1.0;
  ack_nak = codes.1.1.0.0;
  rts_kept = codes.0.1.1.1;
  cts_kept = codes.1.0.1.1;
  ack_kept = codes.1.1.0.1;
  nak_kept = codes.1.1.1.0;
  one_two = four.one_two;
  one_three = four.one_three;
  one_four = four.one_four;
  two_three = four.two_three;
  two_four = four.two_four;
  three_four = four.three_four;
}

pub distinct : (p : Contents) → IsProfile p → AreDistinct p.codes
distinct p is =
    distinct_of p.codes (four_differ p.codes.partial_codes (in_range p is).partial_count (partial_codes_differ p is)) (types_differ p is)
    (codes_differ p is)
