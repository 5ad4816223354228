-- Lines whose records need no reader: three plain fields, or nothing but carriage returns.
use Rattle.std.proofs.Common.{◌≡◌, ◌∙◌, ◌==◌, ◌≤◌, ℕ, List, [], ◌∷◌, ◌++◌, length, Bool, true, false, Some, None, Option, arith, ap, refl, inl, inr, nat_lt, IsSome}
use Rattle.std.proofs.lemmas.Bool.{and_parts}
use Rattle.std.proofs.lemmas.Bool.Decides.{nat_tests}
use Rattle.std.specs.List.{list_all, list_any}
use Rattle.std.specs.Char.{digit_value}
use Rattle.csv.specs.Machine.{Read, next_record}
use Rattle.csv.specs.Reading.{default_config, strip_bom}
use Rattle.csv.specs.Writing.{default_writer, needs_byte}
use Rattle.csv.specs.declared.parser.State.TheVariants as st
use Rattle.csv.proofs.RoundTrip.{plain-run, start-same, record-same}
use Rattle.a429_word.specs.declared.bus.Bus.{Bus}
use Rattle.a429_record.specs.declared.entry.Entry.{Entry}
use Rattle.a429_record.specs.Ends.{HasNoEnd}
use Rattle.a429_record.specs.Row.{records_of, all_digits, time_in, bus_in, word_in, entry_in, entry_with}
use Rattle.a429_record.specs.Line.{line_entries}
use Rattle.a429_record.specs.Plain.{IsLineEnd}
use Rattle.a429_record.proofs.LineRecords.{records-none, records-one}

-- ---- plain fields

-- each byte is from 48 on, and so no mark of the format
abbrev pub AllHigh : List ℕ → Type 0
AllHigh [] = Unit {0}
AllHigh (b ∷ bs) = (48 ≤ b) × AllHigh bs

pub high : (b : ℕ) → 48 ≤ b → ((b == 44) ≡ false) × ((b == 34) ≡ false) × ((b == 13) ≡ false) × ((b == 10) ≡ false)
high b h = (grind (arith, nat_tests), grind (arith, nat_tests), grind (arith, nat_tests), grind (arith, nat_tests))

pub plain : (xs : List ℕ) → AllHigh xs → list_any (needs_byte default_writer) xs ≡ false
plain [] h = refl
plain (b ∷ bs) h = let q = high b h.0 in rw (q.0, q.1, q.2, q.3) (plain bs h.1)

pub high_ends : (xs : List ℕ) → AllHigh xs → HasNoEnd xs
high_ends [] h = tt
high_ends (x ∷ xs) h = ((high x h.0).3, high_ends xs h.1)

-- a field of such bytes, from its start
field : (fields : List (List ℕ)) (b : ℕ) (bs tail : List ℕ) → AllHigh (b ∷ bs)
    → next_record default_config st.StartField fields [] ((b ∷ bs) ++ tail) ≡ next_record default_config st.InField fields (b ∷ bs) tail
field fields b bs tail h = start-same fields [] b (bs ++ tail) (high b h.0).1 ∙ plain-run fields [] (b ∷ bs) tail (plain (b ∷ bs) h)

comma : (fields : List (List ℕ)) (x u : List ℕ)
    → next_record default_config st.InField fields x (44 ∷ u) ≡ next_record default_config st.StartField (fields ++ (x ∷ [])) [] u
unfolding next_record
comma fields x u = refl

-- the read of three fields, up to the end of the last
three_fields : (a : ℕ) (t : List ℕ) (b : ℕ) (u : List ℕ) (c : ℕ) (v tail : List ℕ) → AllHigh (a ∷ t) → AllHigh (b ∷ u) → AllHigh (c ∷ v)
    → next_record default_config st.StartRecord [] [] ((a ∷ t) ++ (44 ∷ ((b ∷ u) ++ (44 ∷ ((c ∷ v) ++ tail)))))
    ≡ next_record default_config st.InField ((a ∷ t) ∷ (b ∷ u) ∷ []) (c ∷ v) tail
three_fields a t b u c v tail ha hb hc =
    let m = high a ha.0 in
    record-same [] [] a _ m.2 m.3
    ∙ field [] a t _ ha ∙ comma [] (a ∷ t) _
    ∙ field ((a ∷ t) ∷ []) b u _ hb ∙ comma ((a ∷ t) ∷ []) (b ∷ u) _
    ∙ field ((a ∷ t) ∷ (b ∷ u) ∷ []) c v tail hc

-- ---- fields that make an entry are plain

digit_high : (base b : ℕ) → base ≤ 16 → nat_lt (digit_value b) base ≡ true → 48 ≤ b
digit_high base b small h = grind (arith, nat_tests)

pub digits_high : (base : ℕ) (t : List ℕ) → base ≤ 16 → all_digits base t ≡ true → AllHigh t
digits_high base [] small h = tt
digits_high base (b ∷ bs) small h =
    let (here, more) = and_parts (nat_lt (digit_value b) base) (list_all (λ c. nat_lt (digit_value c) base) bs) h in
    (digit_high base b small here, digits_high base bs small more)

-- a decimal digit starts no byte order mark
first_digit : (b : ℕ) → nat_lt (digit_value b) 10 ≡ true → b ≤ 57
first_digit b h = grind (arith, nat_tests)

pub no_mark : (a : ℕ) (rest : List ℕ) → a ≤ 57 → strip_bom (a ∷ rest) ≡ a ∷ rest
unfolding strip_bom
no_mark a [] h = refl
no_mark a (b ∷ []) h = refl
no_mark a (b ∷ c ∷ rest) h = let n : (a == 239) ≡ false = grind (arith, nat_tests) in rw n refl

pub whole : (o : Option ℕ) (p : Option Bus) (q : Option ℕ) (e : Entry) → entry_with o p q ≡ Some e → IsSome o × IsSome p × IsSome q
whole (Some t) (Some b) (Some w) e h = (refl, refl, refl)
whole (Some t) (Some b) None e h = cc h
whole (Some t) None q e h = cc h
whole None p q e h = cc h

pub time_plain : (t : List ℕ) → IsSome (time_in t) → (1 ≤ length t) × (all_digits 10 t ≡ true)
time_plain t h = grind (arith, nat_tests)

pub bus_plain : (x : List ℕ) → IsSome (bus_in x) → (1 ≤ length x) × AllHigh x
bus_plain [] h = cc h
bus_plain (b ∷ []) h = (one, (grind (arith, nat_tests), tt)) where
  one : 1 ≤ length (b ∷ [])
  one = omega arith
bus_plain (b ∷ c ∷ u) h = cc h

pub word_plain : (w : List ℕ) → IsSome (word_in w) → (length w ≡ 8) × (all_digits 16 w ≡ true)
word_plain w h = grind (arith, nat_tests)

-- ---- their line

ended : (fields : List (List ℕ)) (x tail : List ℕ) → IsLineEnd tail
    → (p : Read) × (next_record default_config st.InField fields x tail ≡ Some p) × (p.0 ≡ fields ++ (x ∷ []))
    × (next_record default_config p.1 [] [] p.2 ≡ None)
unfolding next_record
ended fields x tail (inl none) = ((fields ++ (x ∷ []), st.StartRecord, []), rw none refl, refl, refl)
ended fields x tail (inr one) = ((fields ++ (x ∷ []), st.AfterCr, []), rw one refl, refl, refl)

one_record : (t x w tail : List ℕ)
    → 1 ≤ length t → all_digits 10 t ≡ true → 1 ≤ length x → AllHigh x → 1 ≤ length w → AllHigh w → IsLineEnd tail
    → records_of (t ++ (44 ∷ (x ++ (44 ∷ (w ++ tail))))) ≡ (t ∷ x ∷ w ∷ []) ∷ []
one_record [] x w tail lt dt lx hx lw hw end = absurd (omega arith)
one_record t [] w tail lt dt lx hx lw hw end = absurd (omega arith)
one_record t x [] tail lt dt lx hx lw hw end = absurd (omega arith)
one_record (a ∷ t) (b ∷ u) (c ∷ v) tail lt dt lx hx lw hw end =
    let (here, more) = and_parts (nat_lt (digit_value a) 10) (list_all (λ c. nat_lt (digit_value c) 10) t) dt in
    let stop = ended ((a ∷ t) ∷ (b ∷ u) ∷ []) (c ∷ v) tail end in
    let read = three_fields a t b u c v tail (digits_high 10 (a ∷ t) (omega arith) dt) hx hw in
    rw (no_mark a (t ++ (44 ∷ ((b ∷ u) ++ (44 ∷ ((c ∷ v) ++ tail))))) (first_digit a here))
    (records-one ((a ∷ t) ++ (44 ∷ ((b ∷ u) ++ (44 ∷ ((c ∷ v) ++ tail))))) stop.0 (read ∙ stop.1) stop.3
    ∙ ap (λ (f : List (List ℕ)). f ∷ []) stop.2)

-- the entry of three fields is that of their line
pub plain_line : (t x w tail : List ℕ) (e : Entry) → entry_in (Some (t ∷ x ∷ w ∷ [])) ≡ Some e → IsLineEnd tail
    → line_entries (t ++ (44 ∷ (x ++ (44 ∷ (w ++ tail))))) ≡ Some e ∷ []
plain_line t x w tail e h end =
    let (st, sx, sw) = whole (time_in t) (bus_in x) (word_in w) e h in
    let (lt, dt) = time_plain t st in
    let (lx, hx) = bus_plain x sx in
    let (lw, dw) = word_plain w sw in
    rw (one_record t x w tail lt dt lx hx (omega arith) (digits_high 16 w (omega arith) dw) end, h) refl

-- ---- carriage returns alone

abbrev pub all_returns : List ℕ → Bool
all_returns xs = list_all (λ b. b == 13) xs

skipped : (xs : List ℕ) → all_returns xs ≡ true → next_record default_config st.StartRecord [] [] xs ≡ None
unfolding next_record
skipped [] h = refl
skipped (b ∷ bs) h =
    let (here, more) = and_parts (b == 13) (all_returns bs) h in
    rw here (skipped bs more)

-- a line of nothing else, behind a byte order mark or none
pub blank_line : (line : List ℕ) → all_returns (strip_bom line) ≡ true → records_of line ≡ []
blank_line line h = records-none (strip_bom line) (skipped (strip_bom line) h)
