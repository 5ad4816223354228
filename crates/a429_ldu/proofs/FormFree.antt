-- Free words, by tests; and that the words of the table are none of them.
use Rattle.std.proofs.Common.{◌≡◌, ℕ, zero, suc, ◌%◌, ◌<◌, inl, inr, Bool, true, false, not, nat_eq, ◌&&◌, ◌||◌, ◌==◌, List, [], ◌∷◌, length, Contains, refl, sym, ap, ◌∙◌, subst, arith, slice_index_or, None}
use Rattle.std.specs.Bool.{Decides}
use Rattle.std.specs.List.{list_any}
use Rattle.std.proofs.lemmas.Bool.{eq-eqb, eqb-true, or_cases, or_left, or_right, or_from, and_left, and_right, not_from_true}
use Rattle.std.proofs.lemmas.Bool.Decides.{Decides-eqb, Decides-not, Decides-or, Decides-and}
use Rattle.a429_word.specs.Word.{number_at, label_of, count_of_ones, HasOddParity}
use Rattle.a429_word.specs.declared.bus.Bus.{Bus}
use Rattle.a429_profile.specs.declared.codes.Codes.{Codes}
use Rattle.a429_ldu.specs.declared.forms.Form.{Form}
use Rattle.a429_ldu.specs.declared.forms.Form.TheVariants.{Rts, Cts, Ack, Nak, Sot, Part, Eot}
use Rattle.a429_ldu.specs.Form.{Fields, fields_of, row, data_row, IsInRange, address_of, IsForm, IsFree, is_free, form_of}
use Rattle.a429_ldu.specs.Semis.{AreSemis}
use Rattle.a429_ldu.proofs.FormDistinct.{AreDistinct, IsNone}
use Rattle.a429_ldu.proofs.FormTests.{turned}

-- a word that is free has no form
pub free_none : (c : Codes) (b : Bus) (w : ℕ) → is_free c b w ≡ true → form_of c b w ≡ None
free_none c b w e = rw e refl

-- ---- the tests decide

contained : (n : ℕ) (ms : List ℕ) → list_any (λ m. m == n) ms ≡ true → Contains ms n
contained n [] h = absurd (cc)
contained n (m ∷ ms) h = elim (or_cases (m == n) (list_any (λ m. m == n) ms) h) [
  | inl e ↦ (zero, omega arith, eqb-true m n e)
  | inr e ↦ let p = contained n ms e in (suc p.0, omega (arith, p.1), p.2)
]

found : (n : ℕ) (ms : List ℕ) (k : ℕ) → k < length ms → slice_index_or ms k n ≡ n → list_any (λ m. m == n) ms ≡ true
found n [] k h e = absurd (omega arith)
found n (m ∷ ms) zero h e = or_left (m == n) (list_any (λ m. m == n) ms) (eq-eqb m n e)
found n (m ∷ ms) (suc k) h e = or_right (m == n) (list_any (λ m. m == n) ms) (found n ms k (omega arith) e)

pub Decides-contains : (n : ℕ) (ms : List ℕ) → Decides (list_any (λ m. m == n) ms) (Contains ms n)
Decides-contains n ms = (contained n ms, λ h. found n ms h.0 h.1 h.2)

pub is_free-decides : (c : Codes) (b : Bus) (w : ℕ) → Decides (is_free c b w) (IsFree c b w)
is_free-decides c b w =
    let kind = number_at w 29 3 in
    let upper = number_at w 25 4 in
    Decides-or _ _ (Decides-not _ (Decides-eqb (count_of_ones w % 2) 1))
    (Decides-or _ _ (Decides-not _ (Decides-eqb (label_of w) (address_of c b)))
    (Decides-or _ _ (Decides-contains kind c.ignored_types)
    (Decides-and _ _ (Decides-eqb kind c.protocol) (Decides-contains upper c.ignored_codes))))

-- ---- a word of the table is not free

none_any : (n : ℕ) (ms : List ℕ) → IsNone n ms → list_any (λ m. m == n) ms ≡ false
none_any n [] h = refl
none_any n (m ∷ ms) h = or_from (m == n) (list_any (λ m. m == n) ms) (turned n m h.0) (none_any n ms h.1)

-- whether a row's type or code is ignored
abbrev is_ignored : Codes → Fields → Bool
is_ignored c f = list_any (λ n. n == f.kind) c.ignored_types || (f.kind == c.protocol && list_any (λ n. n == f.upper) c.ignored_codes)

type_kept : (c : Codes) (f : Fields) → IsNone f.kind c.ignored_types → nat_eq f.kind c.protocol ≡ false → is_ignored c f ≡ false
type_kept c f none other =
    or_from (list_any (λ n. n == f.kind) c.ignored_types) _ (none_any f.kind c.ignored_types none) (and_left (f.kind == c.protocol) _ other)

code_kept : (c : Codes) (f : Fields) → IsNone f.kind c.ignored_types → IsNone f.upper c.ignored_codes → is_ignored c f ≡ false
code_kept c f kind code =
    or_from (list_any (λ n. n == f.kind) c.ignored_types) _ (none_any f.kind c.ignored_types kind)
    (and_right (f.kind == c.protocol) _ (none_any f.upper c.ignored_codes code))

data_kept : (c : Codes) → AreDistinct c → (semis : List ℕ) → AreSemis semis → is_ignored c (data_row c semis) ≡ false
data_kept c d [] h = absurd (omega (arith, h.0))
data_kept c d (p ∷ []) h = type_kept c (data_row c (p ∷ [])) d.partial_kept d.partial_protocol
data_kept c d (p ∷ q ∷ []) h = type_kept c (data_row c (p ∷ q ∷ [])) d.partial_kept d.partial_protocol
data_kept c d (p ∷ q ∷ r ∷ []) h = type_kept c (data_row c (p ∷ q ∷ r ∷ [])) d.partial_kept d.partial_protocol
data_kept c d (p ∷ q ∷ r ∷ s ∷ []) h = type_kept c (data_row c (p ∷ q ∷ r ∷ s ∷ [])) d.partial_kept d.partial_protocol
data_kept c d (p ∷ q ∷ r ∷ s ∷ t ∷ []) h = type_kept c (data_row c (p ∷ q ∷ r ∷ s ∷ t ∷ [])) d.full_kept d.full_protocol
data_kept c d (p ∷ q ∷ r ∷ s ∷ t ∷ u ∷ rest) h = absurd (omega (arith, h.1))

row_kept : (c : Codes) → AreDistinct c → (x : Form) → IsInRange x → is_ignored c (row c x) ≡ false
row_kept c d (Rts count) h = code_kept c (row c (Rts count)) d.protocol_kept d.rts_kept
row_kept c d (Cts count) h = code_kept c (row c (Cts count)) d.protocol_kept d.cts_kept
row_kept c d (Ack file ldu) h = code_kept c (row c (Ack file ldu)) d.protocol_kept d.ack_kept
row_kept c d (Nak bits) h = code_kept c (row c (Nak bits)) d.protocol_kept d.nak_kept
row_kept c d (Sot gfi file ldu) h = type_kept c (row c (Sot gfi file ldu)) d.sot_kept (turned c.protocol c.sot d.protocol_sot)
row_kept c d (Part semis) h = data_kept c d semis h
row_kept c d (Eot flags check) h = type_kept c (row c (Eot flags check)) d.eot_kept (turned c.protocol c.eot d.protocol_eot)

-- a word of good parity with the label of its bus is not free where it is not ignored
not_free : (c : Codes) (b : Bus) (w : ℕ) (f : Fields)
    → HasOddParity w → label_of w ≡ address_of c b → fields_of w ≡ f → is_ignored c f ≡ false → is_free c b w ≡ false
not_free c b w f parity label fields kept =
    or_from (not (count_of_ones w % 2 == 1)) _ (not_from_true _ (eq-eqb (count_of_ones w % 2) 1 parity))
    (or_from (not (label_of w == address_of c b)) _ (not_from_true _ (eq-eqb (label_of w) (address_of c b) label))
    (ap (is_ignored c) fields ∙ kept))

pub form_not_free : (c : Codes) (b : Bus) (w : ℕ) (x : Form) → AreDistinct c → IsForm c b w x → is_free c b w ≡ false
form_not_free c b w x d h = not_free c b w (row c x) h.parity h.label h.fields (row_kept c d x h.range)

-- a full word is not free
pub full_not_free : (c : Codes) (b : Bus) (w : ℕ) (f : Fields)
    → AreDistinct c → HasOddParity w → label_of w ≡ address_of c b → fields_of w ≡ f → f.kind ≡ c.full → is_free c b w ≡ false
full_not_free c b w f d parity label fields kind =
    not_free c b w f parity label fields
    (type_kept c f (subst (λ (n : ℕ). IsNone n c.ignored_types) (sym kind) d.full_kept)
    (ap (λ n. nat_eq n c.protocol) kind ∙ d.full_protocol))
