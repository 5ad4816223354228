-- What the tests on the fields of a word find: the form whose row the fields are, and no other.
use Rattle.std.proofs.Common.{◌≡◌, ℕ, ◌+◌, ◌*◌, ◌/◌, ◌%◌, ◌<◌, ◌≤◌, Bool, true, false, cond, nat_eq, nat_le, ◌&&◌, ◌==◌, List, [], ◌∷◌, slice_index, Option, Some, None, refl, arith, subst}
use Rattle.std.proofs.lemmas.Bool.{eq-eqb, eqb-true, le-leb, leb-true, and_parts}
use Rattle.std.proofs.lemmas.Bool.Decides.{nat_tests}
use Rattle.a429_word.specs.declared.bus.Bus.{Bus}
use Rattle.a429_word.specs.declared.bus.Bus.TheVariants as bus
use Rattle.a429_profile.specs.declared.codes.Codes.{Codes}
use Rattle.a429_ldu.specs.declared.forms.Form.{Form}
use Rattle.a429_ldu.specs.declared.forms.Form.TheVariants.{Rts, Cts, Ack, Nak, Sot, Part, Eot}
use Rattle.a429_ldu.specs.Semis.{AreSemis}
use Rattle.a429_ldu.specs.Form.{Fields, row, data_row, IsInRange, bus_of, partial_on, form_on}
use Rattle.a429_ldu.proofs.FormDistinct.{AreDistinct}

-- ---- a row is told

pub yes : (n : ℕ) → nat_eq n n ≡ true
yes n = eq-eqb n n refl

pub turned : (m n : ℕ) → nat_eq m n ≡ false → nat_eq n m ≡ false
turned m n h = grind (arith, nat_tests)

-- two semi-octets in a byte, and each of them again
abbrev Split : ℕ → ℕ → Type 0
Split p q = ((p + 16 * q) % 16 ≡ p) × ((p + 16 * q) / 16 ≡ q)

split : (p q : ℕ) → p < 16 → Split p q
split p q h = (omega arith, omega arith)

below : (n : ℕ) → n < 16 → nat_le n 15 ≡ true
below n h = le-leb n 15 (omega arith)

joined_bytes : (n : ℕ) → n / 256 * 256 + n % 256 ≡ n
joined_bytes n = omega arith

data_told : (c : Codes) → AreDistinct c → (semis : List ℕ) → AreSemis semis → form_on c bus.A (data_row c semis) ≡ Some (Part semis)
data_told c d [] h = absurd (omega (arith, h.0))
data_told c d (p ∷ []) h =
    rw (
      d.partial_protocol,
      d.partial_sot,
      d.partial_eot,
      turned c.full c.partial d.full_partial,
      yes c.partial,
      yes (slice_index c.partial_codes 0),
      below p h.2.0,
    ) refl
data_told c d (p ∷ q ∷ []) h =
    let low = split p q h.2.0 in
    rw (
      d.partial_protocol,
      d.partial_sot,
      d.partial_eot,
      turned c.full c.partial d.full_partial,
      yes c.partial,
      turned (slice_index c.partial_codes 0) (slice_index c.partial_codes 1) d.one_two,
      yes (slice_index c.partial_codes 1),
      low.0,
      low.1,
    ) refl
data_told c d (p ∷ q ∷ r ∷ []) h =
    let low = split p q h.2.0 in
    rw (
      d.partial_protocol,
      d.partial_sot,
      d.partial_eot,
      turned c.full c.partial d.full_partial,
      yes c.partial,
      turned (slice_index c.partial_codes 0) (slice_index c.partial_codes 2) d.one_three,
      turned (slice_index c.partial_codes 1) (slice_index c.partial_codes 2) d.two_three,
      yes (slice_index c.partial_codes 2),
      below r h.2.1.1.0,
      low.0,
      low.1,
    ) refl
data_told c d (p ∷ q ∷ r ∷ s ∷ []) h =
    let low = split p q h.2.0 in
    let high = split r s h.2.1.1.0 in
    rw (
      d.partial_protocol,
      d.partial_sot,
      d.partial_eot,
      turned c.full c.partial d.full_partial,
      yes c.partial,
      turned (slice_index c.partial_codes 0) (slice_index c.partial_codes 3) d.one_four,
      turned (slice_index c.partial_codes 1) (slice_index c.partial_codes 3) d.two_four,
      turned (slice_index c.partial_codes 2) (slice_index c.partial_codes 3) d.three_four,
      yes (slice_index c.partial_codes 3),
      low.0,
      low.1,
      high.0,
      high.1,
    ) refl
data_told c d (p ∷ q ∷ r ∷ s ∷ t ∷ []) h =
    let low = split p q h.2.0 in
    let high = split r s h.2.1.1.0 in
    rw (d.full_protocol, d.full_sot, d.full_eot, yes c.full, low.0, low.1, high.0, high.1) refl
data_told c d (p ∷ q ∷ r ∷ s ∷ t ∷ u ∷ rest) h = absurd (omega (arith, h.1))

pub row_told : (c : Codes) → AreDistinct c → (x : Form) → IsInRange x → form_on c (bus_of x) (row c x) ≡ Some x
row_told c d (Rts count) h = rw (yes c.protocol, yes c.rts, yes c.destination, le-leb 3 count h.0) refl
row_told c d (Cts count) h = rw (yes c.protocol, yes c.cts, yes c.destination, le-leb 3 count h.0) refl
row_told c d (Ack file ldu) h = rw (yes c.protocol, turned c.cts c.ack d.cts_ack, yes c.ack) refl
row_told c d (Nak bits) h =
    rw (yes c.protocol, turned c.cts c.nak d.cts_nak, turned c.ack c.nak d.ack_nak, yes c.nak, joined_bytes bits) refl
row_told c d (Sot gfi file ldu) h = rw (turned c.protocol c.sot d.protocol_sot, yes c.sot) refl
row_told c d (Part semis) h = data_told c d semis h
row_told c d (Eot flags check) h =
    rw (turned c.protocol c.eot d.protocol_eot, turned c.sot c.eot d.sot_eot, yes c.eot, joined_bytes check) refl

-- ---- what is told is a row

pub record AreSmall (f : Fields) : Type 0 where
  pub kind : f.kind < 8
  pub upper : f.upper < 16
  pub middle : f.middle < 256
  pub lower : f.lower < 256

abbrev Tells : Codes → Bus → Fields → Option Form → Type 0
Tells c b f None = Unit {0}
Tells c b f (Some x) = (b ≡ bus_of x) × IsInRange x × (f ≡ row c x)

if_tells : (c : Codes) (b : Bus) (f : Fields) (t : Bool) (x y : Option Form)
    → (t ≡ true → Tells c b f x) → (t ≡ false → Tells c b f y) → Tells c b f (cond t x y)
if_tells c b f true x y h k = h refl
if_tells c b f false x y h k = k refl

pub alike : (k k' u u' m m' l l' : ℕ) → k ≡ k' → u ≡ u' → m ≡ m' → l ≡ l' →
    ◌≡◌ {A = Fields} (record { kind = k; upper = u; middle = m; lower = l }) (record { kind = k'; upper = u'; middle = m'; lower = l' })
alike k k' u u' m m' l l' ek eu em el = cc

same : (f g : Fields) → f.kind ≡ g.kind → f.upper ≡ g.upper → f.middle ≡ g.middle → f.lower ≡ g.lower → f ≡ g
same f g k u m l = alike f.kind g.kind f.upper g.upper f.middle g.middle f.lower g.lower k u m l

-- partial words, by their codes
one_tells : (c : Codes) (f : Fields)
    → AreSmall f → f.kind ≡ c.partial → (f.upper == slice_index c.partial_codes 0 && (f.middle == 0 && nat_le f.lower 15)) ≡ true
    → Tells c bus.A f (Some (Part (f.lower ∷ [])))
one_tells c f small k t =
    let u = and_parts (f.upper == slice_index c.partial_codes 0) _ t in
    let m = and_parts (f.middle == 0) (nat_le f.lower 15) u.1 in
    let low : f.lower ≤ 15 = leb-true f.lower 15 m.1 in
    (refl, (omega arith, omega arith, (omega arith, tt)), same f (row c (Part (f.lower ∷ []))) k (eqb-true _ _ u.0) (eqb-true _ _ m.0) refl)

two_tells : (c : Codes) (f : Fields) → AreSmall f → f.kind ≡ c.partial → (f.upper == slice_index c.partial_codes 1 && f.middle == 0) ≡ true
    → Tells c bus.A f (Some (Part (f.lower % 16 ∷ f.lower / 16 ∷ [])))
two_tells c f small k t =
    let u = and_parts (f.upper == slice_index c.partial_codes 1) (f.middle == 0) t in (
      refl,
      (omega arith, omega arith, (omega arith, (omega (arith, small.lower), tt))),
      same f (row c (Part (f.lower % 16 ∷ f.lower / 16 ∷ []))) k (eqb-true _ _ u.0) (eqb-true _ _ u.1) (omega arith),
    )

three_tells : (c : Codes) (f : Fields)
    → AreSmall f → f.kind ≡ c.partial → (f.upper == slice_index c.partial_codes 2 && nat_le f.middle 15) ≡ true
    → Tells c bus.A f (Some (Part (f.lower % 16 ∷ f.lower / 16 ∷ f.middle ∷ [])))
three_tells c f small k t =
    let u = and_parts (f.upper == slice_index c.partial_codes 2) (nat_le f.middle 15) t in
    let mid : f.middle ≤ 15 = leb-true f.middle 15 u.1 in (
      refl,
      (omega arith, omega arith, (omega arith, (omega (arith, small.lower), (omega arith, tt)))),
      same f (row c (Part (f.lower % 16 ∷ f.lower / 16 ∷ f.middle ∷ []))) k (eqb-true _ _ u.0) refl (omega arith),
    )

four_tells : (c : Codes) (f : Fields) → AreSmall f → f.kind ≡ c.partial → (f.upper == slice_index c.partial_codes 3) ≡ true
    → Tells c bus.A f (Some (Part (f.lower % 16 ∷ f.lower / 16 ∷ f.middle % 16 ∷ f.middle / 16 ∷ [])))
four_tells c f small k t = (
  refl,
  (omega arith, omega arith, (omega arith, (omega (arith, small.lower), (omega arith, (omega (arith, small.middle), tt))))),
  same f (row c (Part (f.lower % 16 ∷ f.lower / 16 ∷ f.middle % 16 ∷ f.middle / 16 ∷ []))) k (eqb-true _ _ t) (omega arith) (omega arith),
)

partial_tells : (c : Codes) (f : Fields) → AreSmall f → f.kind ≡ c.partial → Tells c bus.A f (partial_on c f)
partial_tells c f small k =
    if_tells c bus.A f _ _ _ (one_tells c f small k)
    (λ _. if_tells c bus.A f _ _ _ (two_tells c f small k)
    (λ _. if_tells c bus.A f _ _ _ (three_tells c f small k)
    (λ _. if_tells c bus.A f _ _ _ (four_tells c f small k) (λ _. tt))))

tells_a : (c : Codes) (f : Fields) → AreSmall f → Tells c bus.A f (form_on c bus.A f)
tells_a c f small =
    if_tells c bus.A f (f.kind == c.protocol) _ _ (λ k. if_tells c bus.A f _ _ _ (λ t.
    let u = and_parts (f.upper == c.rts) _ t in
    let m = and_parts (f.middle == c.destination) (nat_le 3 f.lower) u.1 in (
      refl,
      (leb-true 3 f.lower m.1, omega (arith, small.lower)),
      same f (row c (Rts f.lower)) (eqb-true _ _ k) (eqb-true _ _ u.0) (eqb-true _ _ m.0) refl,
    )) (λ _. tt))
    (λ _. if_tells c bus.A f (f.kind == c.sot) _ _ (λ k. (
      refl,
      (omega (arith, small.upper), omega (arith, small.middle), omega (arith, small.lower)),
      same f (row c (Sot f.upper f.middle f.lower)) (eqb-true _ _ k) refl refl refl,
    ))
    (λ _. if_tells c bus.A f (f.kind == c.eot) _ _ (λ k. (
      refl,
      (omega (arith, small.upper), omega (arith, small.middle, small.lower)),
      same f (row c (Eot f.upper (f.middle * 256 + f.lower))) (eqb-true _ _ k) refl (omega (arith, small.lower))
          (omega (arith, small.lower)),
    ))
    (λ _. if_tells c bus.A f (f.kind == c.full) _ _ (λ k. (
      refl,
      (
        omega arith,
        omega arith,
        (omega arith, (omega (arith, small.lower), (omega arith, (omega (arith, small.middle), (small.upper, tt))))),
      ),
      same f (row c (Part (f.lower % 16 ∷ f.lower / 16 ∷ f.middle % 16 ∷ f.middle / 16 ∷ f.upper ∷ []))) (eqb-true _ _ k) refl (omega arith)
          (omega arith),
    ))
    (λ _. if_tells c bus.A f (f.kind == c.partial) _ _ (λ k. partial_tells c f small (eqb-true _ _ k)) (λ _. tt)))))

tells_b : (c : Codes) (f : Fields) → AreSmall f → Tells c bus.B f (form_on c bus.B f)
tells_b c f small =
    if_tells c bus.B f (f.kind == c.protocol) _ _ (λ k. if_tells c bus.B f _ _ _ (λ t.
    let u = and_parts (f.upper == c.cts) _ t in
    let m = and_parts (f.middle == c.destination) (nat_le 3 f.lower) u.1 in (
      refl,
      (leb-true 3 f.lower m.1, omega (arith, small.lower)),
      same f (row c (Cts f.lower)) (eqb-true _ _ k) (eqb-true _ _ u.0) (eqb-true _ _ m.0) refl,
    ))
    (λ _. if_tells c bus.B f (f.upper == c.ack) _ _ (λ u. (
      refl,
      (omega (arith, small.middle), omega (arith, small.lower)),
      same f (row c (Ack f.middle f.lower)) (eqb-true _ _ k) (eqb-true _ _ u) refl refl,
    ))
    (λ _. if_tells c bus.B f (f.upper == c.nak) _ _ (λ u. (
      refl,
      omega (arith, small.middle, small.lower),
      same f (row c (Nak (f.middle * 256 + f.lower))) (eqb-true _ _ k) (eqb-true _ _ u) (omega (arith, small.lower))
          (omega (arith, small.lower)),
    )) (λ _. tt))))
    (λ _. tt)

tells : (c : Codes) (b : Bus) (f : Fields) → AreSmall f → Tells c b f (form_on c b f)
tells c bus.A f small = tells_a c f small
tells c bus.B f small = tells_b c f small

pub told_row : (c : Codes) (b : Bus) (f : Fields) (x : Form)
    → AreSmall f → form_on c b f ≡ Some x → (b ≡ bus_of x) × IsInRange x × (f ≡ row c x)
told_row c b f x small e = subst (λ (r : Option Form). Tells c b f r) e (tells c b f small)
