-- The link data units of a file: each is one of the profile, their bytes are the file, and only the last is final.
use Rattle.std.proofs.Common.{◌≡◌, ℕ, zero, suc, ◌+◌, ◌-◌, ◌*◌, ◌%◌, ◌^◌, ◌<◌, ◌≤◌, true, false, ◌==◌, List, [], ◌∷◌, ◌++◌, length, take, drop, map, All, nat_le, cond, unwrap_or, Bool, inl, inr, get_or, append_assoc, length-append, length-drop, refl, sym, ap, ◌∙◌, arith}
use Rattle.std.specs.Int.{bit_at}
use Rattle.std.specs.List.{AllByRecursion, concat}
use Rattle.std.proofs.lemmas.Bool.{lt-leb, le-leb, cases_lt}
use Rattle.std.proofs.lemmas.List.{get_or_default}
use Rattle.std.proofs.lemmas.List.Elements.{All-from_recursion, recursion_from_All}
use Rattle.a429_profile.specs.declared.codes.Codes.{Codes}
use Rattle.a429_profile.specs.declared.codes.Check.{Check}
use Rattle.a429_profile.specs.Profile.{Contents, IsProfile, AreInRange}
use Rattle.a429_ldu.specs.CheckWord.{check_of}
use Rattle.a429_profile.proofs.ProfileRanges.{in_range}
use Rattle.a429_ldu.specs.Ldu.{LduValue, IsLdu, count_of, is_final, bytes_of}
use Rattle.a429_ldu.specs.Cut.{unit_of, room, pieces, final_flag, units_in, units_of, OnlyLastIsFinal}
use Rattle.a429_ldu.specs.Filling.{data_words}
use Rattle.a429_ldu.proofs.CarriedFacts.{carried_of}
use Rattle.a429_ldu.proofs.CheckWordFacts.{check_of-lt}
use Rattle.a429_ldu.proofs.CutPieces.{IsPiece, carry, room-most, unit-words, words-least, words-most, pieces-cut}

-- ---- flags

record IsFlag (k : ℕ) : Type 0 where
  small : 2 ^ k ≤ 15
  set : (bit_at (2 ^ k) k == 1) ≡ true
  unset : (bit_at 0 k == 1) ≡ false

flag : (k : ℕ) → k ≤ 3 → IsFlag k
flag zero h = record { small = omega arith; set = refl; unset = refl }
flag (suc zero) h = record { small = omega arith; set = refl; unset = refl }
flag (suc (suc zero)) h = record { small = omega arith; set = refl; unset = refl }
flag (suc (suc (suc zero))) h = record { small = omega arith; set = refl; unset = refl }
flag (suc (suc (suc (suc k)))) h = absurd (omega arith)

final : (p : Contents) → IsProfile p → IsFlag (p.codes.final_bit - 25)
final p is = let r = in_range p is in flag (p.codes.final_bit - 25) (omega (arith, r.final_high))

-- as a body computes it
pub record HasFlag (p : Contents) (c : Codes) : Type 0 where
  pub low : 25 ≤ c.final_bit
  pub high : c.final_bit - 25 < 8
  pub value : 1 * 2 ^ (c.final_bit - 25) % 256 ≡ final_flag p.codes
  pub range : 1 * 2 ^ (c.final_bit - 25) % 256 ≤ 15

small_power : (n : ℕ) → n ≤ 15 → 1 * n % 256 ≡ n
small_power n h = omega arith

pub flag_made : (p : Contents) → IsProfile p → (c : Codes) → c ≡ p.codes → HasFlag p c
flag_made p is c e =
    rw e (record { low = r.final_low; high = omega (arith, r.final_high); value = same; range = let small = f.small in omega arith })
  where
    r : AreInRange p
    r = in_range p is

    f : IsFlag (p.codes.final_bit - 25)
    f = final p is

    same : 1 * 2 ^ (p.codes.final_bit - 25) % 256 ≡ final_flag p.codes
    same = small_power (2 ^ (p.codes.final_bit - 25)) f.small

-- ---- unit by unit

wider : (m n : ℕ) (bs : List ℕ) → m ≤ n → IsPiece m bs → IsPiece n bs
wider m n bs h piece = record { small = piece.small; some = piece.some; most = let most = piece.most in omega arith }

-- the unit of a piece is one of the profile
unit-sound : (p : Contents)
    → IsProfile p → (bs : List ℕ) (flags : ℕ) → flags ≤ 15 → check_of p.check bs ≤ 65535 → IsPiece 632 bs → IsLdu p (unit_of p bs flags)
unit-sound p is bs flags hf hc piece = record {
  gfi = omega arith;
  flags = hf;
  check = hc;
  length = (words-least p bs piece.some, words-most p bs 253 (let most = piece.most in omega arith));
  bytes = bs;
  carries = carried_of p is (data_words p.codes bs) bs (carry p is bs piece.small piece.some);
  checked = λ _. refl;
}

pub unit : (p : Contents)
    → IsProfile p → (m : ℕ) (bs : List ℕ) (flags : ℕ) → m ≤ 632 → flags ≤ 15 → IsPiece m bs → IsLdu p (unit_of p bs flags)
unit p is m bs flags hm hf piece =
    let r = in_range p is in unit-sound p is bs flags hf (check_of-lt p.check bs r.xor) (wider m 632 bs hm piece)

unit_bytes : (p : Contents) → IsProfile p → (m : ℕ) (bs : List ℕ) (flags : ℕ) → IsPiece m bs → bytes_of p.codes (unit_of p bs flags) ≡ bs
unit_bytes p is m bs flags piece =
    ap (λ o. unwrap_or o []) (carried_of p is (unit_of p bs flags).words bs (carry p is bs piece.small piece.some))

units-sound : (p : Contents)
    → IsProfile p → (m : ℕ) (ps : List (List ℕ)) → m ≤ 632 → AllByRecursion (IsPiece m) ps → AllByRecursion (IsLdu p) (units_in p ps)
units-sound p is m [] hm h = tt
units-sound p is m (piece ∷ []) hm h = (unit p is m piece (final_flag p.codes) hm (final p is).small h.0, tt)
units-sound p is m (piece ∷ next ∷ rest) hm h = (unit p is m piece 0 hm (omega arith) h.0, units-sound p is m (next ∷ rest) hm h.1)

units-words : (p : Contents) (max_words : ℕ) (ps : List (List ℕ))
    → 3 ≤ max_words → AllByRecursion (IsPiece (room max_words)) ps → AllByRecursion (λ u. count_of u ≤ max_words) (units_in p ps)
units-words p w [] hw h = tt
units-words p w (piece ∷ []) hw h = (unit-words p piece w (final_flag p.codes) hw h.0, tt)
units-words p w (piece ∷ next ∷ rest) hw h = (unit-words p piece w 0 hw h.0, units-words p w (next ∷ rest) hw h.1)

units-bytes : (p : Contents) → IsProfile p → (m : ℕ) (ps : List (List ℕ)) → AllByRecursion (IsPiece m) ps
    → concat (map (bytes_of p.codes) (units_in p ps)) ≡ concat ps
units-bytes p is m [] h = refl
units-bytes p is m (piece ∷ []) h = ap (λ bs. bs ++ []) (unit_bytes p is m piece (final_flag p.codes) h.0)
units-bytes p is m (piece ∷ next ∷ rest) h =
    ap (λ bs. bs ++ concat (map (bytes_of p.codes) (units_in p (next ∷ rest)))) (unit_bytes p is m piece 0 h.0)
    ∙ ap (λ bs. piece ++ bs) (units-bytes p is m (next ∷ rest) h.1)

last_of : (p : Contents) (u : LduValue) (piece : List ℕ) (rest : List (List ℕ)) → is_final p.codes u.flags ≡ false
    → OnlyLastIsFinal p.codes (units_in p (piece ∷ rest)) → OnlyLastIsFinal p.codes (u ∷ units_in p (piece ∷ rest))
last_of p u piece [] e h = (e, h)
last_of p u piece (next ∷ rest) e h = (e, h)

units-last : (p : Contents) → IsProfile p → (ps : List (List ℕ)) → 1 ≤ length ps → OnlyLastIsFinal p.codes (units_in p ps)
units-last p is [] h = absurd (omega arith)
units-last p is (piece ∷ []) h = (final p is).set
units-last p is (piece ∷ next ∷ rest) h =
    last_of p (unit_of p piece 0) next rest (final p is).unset (units-last p is (next ∷ rest) (omega arith))

-- ---- the units of a file

some_pieces : (f size : ℕ) (bs : List ℕ) → 1 ≤ f → 1 ≤ length (pieces f size bs)
unfolding pieces
some_pieces zero size bs h = absurd (omega arith)
some_pieces (suc f) size bs h = by_test (nat_le (length bs) size)
  where
    by_test : (t : Bool) → 1 ≤ length (cond t (bs ∷ []) (take size bs ∷ pieces f size (drop size bs)))
    by_test true = omega arith
    by_test false = omega arith

-- of those of any bytes only the last is final
pub units_last : (p : Contents) → IsProfile p → (max_words : ℕ) (bytes : List ℕ) → OnlyLastIsFinal p.codes (units_of p max_words bytes)
units_last p is w bytes = units-last p is (pieces 255 (room w) bytes) (some_pieces 255 (room w) bytes (omega arith))

pub record AreUnits (p : Contents) (max_words : ℕ) (bytes : List ℕ) (us : List LduValue) : Type 0 where
  pub sound : All (IsLdu p) us
  pub fits : All (λ u. count_of u ≤ max_words) us
  pub joined : concat (map (bytes_of p.codes) us) ≡ bytes
  pub last : OnlyLastIsFinal p.codes us

-- bytes as a body knows them
pub all_small : (bs : List ℕ) → ((i : ℕ) → get_or bs i 0 < 256) → All (λ b. b < 256) bs
all_small bs h k d room = rw (get_or_default bs k d 0 room) (h k)

room-some : (max_words : ℕ) → 3 ≤ max_words → 1 ≤ room max_words
room-some w h = omega arith

pub units : (p : Contents) → IsProfile p → (max_words : ℕ) (bytes : List ℕ) → 3 ≤ max_words → max_words ≤ 255 → All (λ b. b < 256) bytes
    → 1 ≤ length bytes → length bytes ≤ 255 * room max_words → AreUnits p max_words bytes (units_of p max_words bytes)
units p is w bytes hw ww small some most =
    let cut = pieces-cut 255 (room w) bytes (room-some w hw) (recursion_from_All (λ b. b < 256) bytes small) some most in
    let ps = pieces 255 (room w) bytes in
    record {
      sound = All-from_recursion (IsLdu p) (units_in p ps) (units-sound p is (room w) ps (room-most w ww) cut.each);
      fits = All-from_recursion (λ u. count_of u ≤ w) (units_in p ps) (units-words p w ps hw cut.each);
      joined = units-bytes p is (room w) ps cut.each ∙ cut.whole;
      last = units_last p is w bytes;
    }

-- ---- unit after unit

pub unit_made : (p : Contents) (bs : List ℕ) (flags check : ℕ) (words : List ℕ) (k : Check)
    → k ≡ p.check → check ≡ check_of k bs → words ≡ data_words p.codes bs
    → ◌≡◌ {A = LduValue} (record { gfi = 0; flags = flags; check = check; words = words }) (unit_of p bs flags)
unit_made p bs flags check words k ek ec ew = rw (ec, ek, ew) refl

-- what is still to come, after so many units
abbrev pub rest_of : Contents → ℕ → ℕ → List ℕ → List LduValue
rest_of p size count rest = units_in p (pieces (255 - count) size rest)

one_more : (p : Contents) (piece : List ℕ) (ps : List (List ℕ))
    → 1 ≤ length ps → units_in p (piece ∷ ps) ≡ unit_of p piece 0 ∷ units_in p ps
one_more p piece [] h = absurd (omega arith)
one_more p piece (q ∷ qs) h = refl

units_more : (p : Contents) (f g size : ℕ) (bs : List ℕ) → f ≡ suc g → 1 ≤ g → size < length bs
    → units_in p (pieces f size bs) ≡ unit_of p (take size bs) 0 ∷ units_in p (pieces g size (drop size bs))
unfolding pieces
units_more p f g size bs ef hg h =
    ap (λ n. units_in p (pieces n size bs)) ef
    ∙ ap (λ t. units_in p (cond t (bs ∷ []) (take size bs ∷ pieces g size (drop size bs)))) (lt-leb (length bs) size h)
    ∙ one_more p (take size bs) (pieces g size (drop size bs)) (some_pieces g size (drop size bs) hg)

units_end : (p : Contents) (f g size : ℕ) (bs : List ℕ)
    → f ≡ suc g → length bs ≤ size → units_in p (pieces f size bs) ≡ unit_of p bs (final_flag p.codes) ∷ []
unfolding pieces
units_end p f g size bs ef h =
    ap (λ n. units_in p (pieces n size bs)) ef
    ∙ ap (λ t. units_in p (cond t (bs ∷ []) (take size bs ∷ pieces g size (drop size bs)))) (le-leb (length bs) size h)

-- more pieces are left where bytes are
left : (n size l : ℕ) → 1 ≤ l → l ≤ (255 - n) * size → n < 255
left n size l h k = elim (cases_lt n 255) [
  | inl lt ↦ lt
  | inr ge ↦ let none : 255 - n ≡ 0 = omega arith in let few : l ≤ 0 * size = rw none at k in absurd (omega arith)
]

left_more : (n size l : ℕ) → size < l → l ≤ (255 - n) * size → suc n < 255
left_more n size l h k = elim (cases_lt (suc n) 255) [
  | inl lt ↦ lt
  | inr ge ↦ absurd (at_most_one (255 - n) (omega arith) k)
]
  where
    at_most_one : (f : ℕ) → f ≤ 1 → l ≤ f * size → ⊥
    at_most_one zero hf few = omega arith
    at_most_one (suc zero) hf few = omega arith
    at_most_one (suc (suc f)) hf few = absurd (omega arith)

-- a unit more
pub record IsMore (p : Contents) (size : ℕ) (us : List LduValue) (rest : List ℕ) (total : List LduValue) : Type 0 where
  pub units : us ++ rest_of p size (length us) rest ≡ total
  pub some : 1 ≤ length rest
  pub most : length rest ≤ (255 - length us) * size

pub unit_more : (p : Contents) (size : ℕ) (done us total : List LduValue) (rest piece later : List ℕ) (u : LduValue)
    → size < length rest → length rest ≤ (255 - length done) * size → piece ≡ take size rest → later ≡ drop size rest
    → u ≡ unit_of p piece 0 → us ≡ done ++ u ∷ [] →
    done ++ rest_of p size (length done) rest ≡ total → IsMore p size us later total
unit_more p size done us total rest piece later u h most ep el eu eus e = rw (eus, el) (record {
  units = append_assoc done (u ∷ []) _ ∙ ap (λ us. done ++ us) (sym step) ∙ e;
  some = omega (arith, length-drop size rest);
  most = less;
})
  where
    n : ℕ
    n = length done

    count : length (done ++ u ∷ []) ≡ suc n
    count = length-append done (u ∷ []) ∙ omega arith

    below : suc n < 255
    below = left_more n size (length rest) h most

    step : rest_of p size n rest ≡ u ∷ rest_of p size (length (done ++ u ∷ [])) (drop size rest)
    step = units_more p (255 - n) (255 - suc n) size rest (omega (arith, below)) (omega (arith, below)) h
        ∙ ap (λ v. v ∷ units_in p (pieces (255 - suc n) size (drop size rest))) (sym (eu ∙ ap (λ bs. unit_of p bs 0) ep))
        ∙ ap (λ k. u ∷ units_in p (pieces (255 - k) size (drop size rest))) (sym count)

    one : (255 - n) * size ≡ (255 - suc n) * size + size
    one = let e : 255 - n ≡ suc (255 - suc n) = omega (arith, below) in rw e (omega arith)

    less : length (drop size rest) ≤ (255 - length (done ++ u ∷ [])) * size
    less = rw count (omega (arith, length-drop size rest, one))

-- the last unit
pub unit_last : (p : Contents) (size : ℕ) (done us total : List LduValue) (rest : List ℕ) (u : LduValue) (flag : ℕ)
    → length rest ≤ size → 1 ≤ length rest → length rest ≤ (255 - length done) * size → flag ≡ final_flag p.codes → u ≡ unit_of p rest flag
    → us ≡ done ++ u ∷ [] →
    done ++ rest_of p size (length done) rest ≡ total → us ≡ total
unit_last p size done us total rest u flag h some most ef eu eus e =
    let below = left (length done) size (length rest) some most in
    eus ∙ ap (λ v. done ++ v ∷ []) (eu ∙ ap (unit_of p rest) ef)
    ∙ ap (λ us. done ++ us) (sym (units_end p (255 - length done) (254 - length done) size rest (omega arith) h)) ∙ e
