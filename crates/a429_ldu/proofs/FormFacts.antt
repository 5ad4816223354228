-- Words and their forms, both ways, for the codes of a profile.
use Rattle.std.proofs.Common.{◌≡◌, ◌↔◌, ℕ, ◌+◌, ◌*◌, ◌%◌, ◌^◌, ◌<◌, ◌≤◌, Bool, true, false, cond, not, ◌||◌, ◌==◌, nat_le, List, [], ◌∷◌, slice_index, Option, Some, None, refl, sym, ap, ◌∙◌, arith}
use Rattle.std.proofs.lemmas.Bool.{or_parts, or_from, eqb-true, leb-false, lt-leb, not-false}
use Rattle.std.proofs.lemmas.Option.{same_Some}
use Rattle.a429_word.specs.Word.{label_of, count_of_ones, HasOddParity}
use Rattle.a429_word.specs.declared.bus.Bus.{Bus}
use Rattle.a429_word.specs.declared.bus.Bus.TheVariants as bus
use Rattle.a429_profile.specs.declared.codes.Codes.{Codes}
use Rattle.a429_profile.specs.Profile.{Contents, IsProfile, AreInRange}
use Rattle.a429_profile.proofs.ProfileRanges.{in_range}
use Rattle.a429_ldu.specs.declared.forms.Form.{Form}
use Rattle.a429_ldu.specs.declared.forms.Form.TheVariants.{Rts, Cts, Ack, Nak, Sot, Part, Eot}
use Rattle.a429_ldu.specs.Semis.{AreSemis}
use Rattle.a429_ldu.specs.Form.{Fields, fields_of, row, data_row, IsInRange, bus_of, address_of, IsForm, IsFree, is_free, form_on, form_of, word_number}
use Rattle.a429_ldu.proofs.FormDistinct.{AreDistinct, distinct}
use Rattle.a429_ldu.proofs.FormTests.{AreSmall, row_told, told_row}
use Rattle.a429_ldu.proofs.FormFree.{is_free-decides, form_not_free}
use Rattle.a429_ldu.proofs.FormMade.{small_fields, HasPut, put, one_put}

-- ---- rows are small

byte_small : (p q : ℕ) → p < 16 → q < 16 → p + 16 * q < 256
byte_small p q hp hq = omega arith

code_small : (p : Contents) → AreInRange p → (i : ℕ) → i < 4 → slice_index p.codes.partial_codes i < 16
code_small p r i h = let at = r.partial_codes i 0 (omega (arith, r.partial_count)) in omega arith

data_small : (p : Contents) → AreInRange p → (semis : List ℕ) → AreSemis semis → AreSmall (data_row p.codes semis)
data_small p r [] h = absurd (omega (arith, h.0))
data_small p r (a ∷ []) h =
    record { kind = omega (arith, r.partial); upper = code_small p r 0 (omega arith); middle = omega arith; lower = omega (arith, h.2.0) }
data_small p r (a ∷ b ∷ []) h = record {
  kind = omega (arith, r.partial);
  upper = code_small p r 1 (omega arith);
  middle = omega arith;
  lower = byte_small a b h.2.0 h.2.1.0;
}
data_small p r (a ∷ b ∷ c ∷ []) h = record {
  kind = omega (arith, r.partial);
  upper = code_small p r 2 (omega arith);
  middle = omega (arith, h.2.1.1.0);
  lower = byte_small a b h.2.0 h.2.1.0;
}
data_small p r (a ∷ b ∷ c ∷ d ∷ []) h = record {
  kind = omega (arith, r.partial);
  upper = code_small p r 3 (omega arith);
  middle = byte_small c d h.2.1.1.0 h.2.1.1.1.0;
  lower = byte_small a b h.2.0 h.2.1.0;
}
data_small p r (a ∷ b ∷ c ∷ d ∷ e ∷ []) h = record {
  kind = omega (arith, r.full);
  upper = h.2.1.1.1.1.0;
  middle = byte_small c d h.2.1.1.0 h.2.1.1.1.0;
  lower = byte_small a b h.2.0 h.2.1.0;
}
data_small p r (a ∷ b ∷ c ∷ d ∷ e ∷ f ∷ rest) h = absurd (omega (arith, h.1))

row_small : (p : Contents) → AreInRange p → (x : Form) → IsInRange x → AreSmall (row p.codes x)
row_small p r (Rts count) h = record {
  kind = omega (arith, r.protocol);
  upper = omega (arith, r.rts);
  middle = omega (arith, r.destination);
  lower = omega (arith, h.1);
}
row_small p r (Cts count) h = record {
  kind = omega (arith, r.protocol);
  upper = omega (arith, r.cts);
  middle = omega (arith, r.destination);
  lower = omega (arith, h.1);
}
row_small p r (Ack file ldu) h =
    record { kind = omega (arith, r.protocol); upper = omega (arith, r.ack); middle = omega (arith, h.0); lower = omega (arith, h.1) }
row_small p r (Nak bits) h =
    record { kind = omega (arith, r.protocol); upper = omega (arith, r.nak); middle = omega (arith, h); lower = omega arith }
row_small p r (Sot gfi file ldu) h =
    record { kind = omega (arith, r.sot); upper = omega (arith, h.0); middle = omega (arith, h.1); lower = omega (arith, h.2) }
row_small p r (Part semis) h = data_small p r semis h
row_small p r (Eot flags check) h =
    record { kind = omega (arith, r.eot); upper = omega (arith, h.0); middle = omega (arith, h.1); lower = omega arith }

address_small : (p : Contents) → AreInRange p → (b : Bus) → address_of p.codes b < 256
address_small p r bus.A = omega (arith, r.to_sink)
address_small p r bus.B = omega (arith, r.to_source)

-- type and code of a row, as a body knows them
pub kind_small : (p : Contents) → IsProfile p → (c : Codes) → c ≡ p.codes → (x : Form) → IsInRange x → (k : ℕ) → (row c x).kind ≡ k → k ≤ 7
kind_small p is c e x h k ek =
    let small = (row_small p (in_range p is) x h).kind in
    let same : (row p.codes x).kind ≡ k = ap (λ d. (row d x).kind) (sym e) ∙ ek in
    omega arith

pub upper_small : (p : Contents)
    → IsProfile p → (c : Codes) → c ≡ p.codes → (x : Form) → IsInRange x → (u : ℕ) → (row c x).upper ≡ u → u ≤ 15
upper_small p is c e x h u eu =
    let small = (row_small p (in_range p is) x h).upper in
    let same : (row p.codes x).upper ≡ u = ap (λ d. (row d x).upper) (sym e) ∙ eu in
    omega arith

-- ---- the word of a form has this form, and no other word has it

pub form_of_put : (c : Codes) (w : ℕ) (x : Form) → IsInRange x → HasPut w (address_of c (bus_of x)) (row c x) → IsForm c (bus_of x) w x
form_of_put c w x h is = record { bus = refl; range = h; fields = is.fields; label = is.label; parity = is.parity; word = is.word }

put_of_form : (c : Codes) (b : Bus) (w : ℕ) (x : Form) → IsForm c b w x → HasPut w (address_of c (bus_of x)) (row c x)
put_of_form c b w x is = record { label = is.label ∙ ap (address_of c) is.bus; fields = is.fields; parity = is.parity; word = is.word }

pub word_number-is : (p : Contents) → IsProfile p → (x : Form) → IsInRange x → IsForm p.codes (bus_of x) (word_number p.codes x) x
word_number-is p is x h =
    let r = in_range p is in
    form_of_put p.codes (word_number p.codes x) x h
    (put (address_of p.codes (bus_of x)) (row p.codes x) (address_small p r (bus_of x)) (row_small p r x h))

pub one_word : (c : Codes) (b : Bus) (v w : ℕ) (x : Form) → IsForm c b v x → IsForm c b w x → v ≡ w
one_word c b v w x hv hw = one_put v w (address_of c (bus_of x)) (row c x) (put_of_form c b v x hv) (put_of_form c b w x hw)

-- a word with the label and the row of a form
pub made_number : (p : Contents) → IsProfile p → (c : Codes) → c ≡ p.codes → (x : Form) → IsInRange x → (w l : ℕ) (f : Fields) → row c x ≡ f
    → l ≡ address_of c (bus_of x) → label_of w ≡ l → fields_of w ≡ f → HasOddParity w → w < 2 ^ 32 → w ≡ word_number p.codes x
made_number p is c e x h w l f er el label fields parity word =
    one_word p.codes (bus_of x) w (word_number p.codes x) x
    (record {
      bus = refl;
      range = h;
      fields = fields ∙ sym er ∙ ap (λ d. row d x) e;
      label = label ∙ el ∙ ap (λ d. address_of d (bus_of x)) e;
      parity = parity;
      word = word;
    })
    (word_number-is p is x h)

-- ---- the tests on a word find its form

pub form_on-found : (c : Codes) (b : Bus) (w : ℕ) (x : Form) → AreDistinct c → IsForm c b w x → form_on c b (fields_of w) ≡ Some x
form_on-found c b w x d is = ap (λ o. form_on c o (fields_of w)) is.bus ∙ ap (form_on c (bus_of x)) is.fields ∙ row_told c d x is.range

pub one_form : (p : Contents) → IsProfile p → (b : Bus) (w : ℕ) (x y : Form) → IsForm p.codes b w x → IsForm p.codes b w y → x ≡ y
one_form p is b w x y hx hy =
    let d = distinct p is in same_Some _ _ (sym (form_on-found p.codes b w x d hx) ∙ form_on-found p.codes b w y d hy)

-- the form that is found in a word of good parity with the label of its bus
pub told_form : (c : Codes) (b : Bus) (w : ℕ) (x : Form)
    → HasOddParity w × (label_of w ≡ address_of c b) → w < 2 ^ 32 → form_on c b (fields_of w) ≡ Some x → IsForm c b w x
told_form c b w x at word e =
    let told = told_row c b (fields_of w) x (small_fields w) e in
    record { bus = told.0; range = told.1; fields = told.2; label = at.1; parity = at.0; word = word }

-- what is found in a word that is not free
pub found_form : (c : Codes) (b : Bus) (w : ℕ) (x : Form)
    → is_free c b w ≡ false → w < 2 ^ 32 → form_on c b (fields_of w) ≡ Some x → IsForm c b w x
found_form c b w x free word e =
    let parity = or_parts (not (count_of_ones w % 2 == 1)) _ free in
    let label = or_parts (not (label_of w == address_of c b)) _ parity.1 in
    told_form c b w x
    (eqb-true (count_of_ones w % 2) 1 (not-false _ parity.0), eqb-true (label_of w) (address_of c b) (not-false _ label.0)) word e

some_else : (t : Bool) (o : Option Form) (x : Form) → cond t None o ≡ Some x → (t ≡ false) × (o ≡ Some x)
some_else true o x e = absurd (cc)
some_else false o x e = (refl, e)

form_of-to : (c : Codes) (b : Bus) (w : ℕ) (x : Form) → form_of c b w ≡ Some x → (is_free c b w ≡ false) × IsForm c b w x
form_of-to c b w x e =
    let parts = some_else (is_free c b w || nat_le (2 ^ 32) w) (form_on c b (fields_of w)) x e in
    let tests = or_parts (is_free c b w) (nat_le (2 ^ 32) w) parts.0 in
    (tests.0, found_form c b w x tests.0 (leb-false (2 ^ 32) w tests.1) parts.1)

form_of-from : (c : Codes) (b : Bus) (w : ℕ) (x : Form) → AreDistinct c → IsForm c b w x → form_of c b w ≡ Some x
form_of-from c b w x d is =
    let none : (is_free c b w || nat_le (2 ^ 32) w) ≡ false =
    or_from (is_free c b w) (nat_le (2 ^ 32) w) (form_not_free c b w x d is) (lt-leb (2 ^ 32) w is.word) in
    rw none (form_on-found c b w x d is)

-- ---- for a profile

free_not : (c : Codes) (b : Bus) (w : ℕ) → is_free c b w ≡ false → ¬ IsFree c b w
free_not c b w e free = absurd (let t = (is_free-decides c b w).1 free in cc)

-- a word of the table is not free
pub form_is_not_free : (p : Contents) → IsProfile p → (b : Bus) (w : ℕ) (x : Form) → IsForm p.codes b w x → ¬ IsFree p.codes b w
form_is_not_free p is b w x h = free_not p.codes b w (form_not_free p.codes b w x (distinct p is) h)

pub form_of-is : (p : Contents)
    → IsProfile p → (b : Bus) (w : ℕ) (x : Form) → (form_of p.codes b w ≡ Some x) ↔ ((¬ IsFree p.codes b w) × IsForm p.codes b w x)
form_of-is p is b w x = (
  λ e. let h = form_of-to p.codes b w x e in (free_not p.codes b w h.0, h.1),
  λ h. form_of-from p.codes b w x (distinct p is) h.1,
)

pub form_of-word_number : (p : Contents)
    → IsProfile p → (x : Form) → IsInRange x → form_of p.codes (bus_of x) (word_number p.codes x) ≡ Some x
form_of-word_number p is x h = form_of-from p.codes (bus_of x) (word_number p.codes x) x (distinct p is) (word_number-is p is x h)
