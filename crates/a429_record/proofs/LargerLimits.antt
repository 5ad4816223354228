-- What bytes stand for under a larger limit.
use Rattle.std.proofs.Common.{◌≡◌, ◌==◌, ◌+◌, ◌≤◌, ℕ, List, [], ◌∷◌, map, drop, false, Option, Some, None, inl, inr, nat_lt, refl, ap, arith}
use Rattle.std.proofs.lemmas.Bool.{cases_Bool}
use Rattle.std.proofs.lemmas.Bool.Decides.{nat_tests}
use Rattle.a429_record.specs.declared.entry.Entry.{Entry}
use Rattle.a429_record.specs.Row.{Row, is_header, entry_in}
use Rattle.a429_record.specs.Binary.{is_binary, piece_entries}
use Rattle.a429_record.specs.Recording.{Recording, row_stands_for, entries_stand_for, all_rows_stand_for, stands_within, rows_of, with_entry, IsTooMany}

row-larger : (n last : ℕ) (o : Option Entry) (short long : Entry → Recording) → ((x : Entry) → (IsTooMany (short x) → ⊥) → long x ≡ short x)
    → (IsTooMany (row_stands_for n last o short) → ⊥) → row_stands_for n last o long ≡ row_stands_for n last o short
row-larger n last None short long h few = refl
row-larger n last (Some x) short long h few = elim (cases_Bool (nat_lt x.time last)) [
  | inl back ↦ rw back refl
  | inr kept ↦ rw kept (ap (with_entry x) (h x (rw kept at few)))
]

entries-larger : (m k n last : ℕ) (rows : List (Option Entry)) → n ≤ m → m ≤ k → (IsTooMany (entries_stand_for m n last rows) → ⊥)
    → entries_stand_for k n last rows ≡ entries_stand_for m n last rows
entries-larger m k n last [] under more few = refl
entries-larger m k n last (r ∷ rows) under more few = elim (cases_Bool (n == m)) [
  | inl full ↦ absurd (few (rw full refl))
  | inr room ↦
      let below : n + 1 ≤ m = grind (arith, nat_tests) in
      let room' : (n == k) ≡ false = grind (arith, nat_tests) in
      rw (room, room') (row-larger n last r (λ x. entries_stand_for m (n + 1) x.time rows) (λ x. entries_stand_for k (n + 1) x.time rows)
      (λ x. entries-larger m k (n + 1) x.time rows below more) (rw room at few))
]

rows-larger : (m k : ℕ) (rows : List Row)
    → m ≤ k → (IsTooMany (all_rows_stand_for m rows) → ⊥) → all_rows_stand_for k rows ≡ all_rows_stand_for m rows
rows-larger m k [] more few = refl
rows-larger m k (r ∷ rows) more few = elim (cases_Bool (is_header r)) [
  | inl first ↦ rw first (entries-larger m k 0 0 (map entry_in rows) (omega arith) more (rw first at few))
  | inr other ↦ rw other refl
]

-- where there are not too many, a larger limit changes nothing
pub larger : (m k : ℕ) (bytes : List ℕ) → m ≤ k → (IsTooMany (stands_within m bytes) → ⊥) → stands_within k bytes ≡ stands_within m bytes
larger m k bytes more few = elim (cases_Bool (is_binary bytes)) [
  | inl binary ↦ rw binary (entries-larger m k 0 0 (piece_entries (drop 8 bytes)) (omega arith) more (rw binary at few))
  | inr text ↦ rw text (rows-larger m k (rows_of bytes) more (rw text at few))
]
