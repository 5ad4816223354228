-- How a source comes from one standing to the next.
use Rattle.std.proofs.lemmas.Bool.{cases_order}
use Rattle.std.proofs.Common.{◌≡◌, ℕ, zero, suc, ◌+◌, ◌-◌, ◌%◌, ◌<◌, ◌≤◌, Bool, true, false, Option, Some, None, IfSome, refl, sym, ap, ◌∙◌, subst, inl, inr, arith}
use Rattle.a429_link.specs.declared.number.UnitNumber.{UnitNumber}
use Rattle.a429_link.proofs.NumberFacts.{number_from}
use Rattle.a429_search.specs.declared.standing.Standing.{Standing}
use Rattle.a429_search.specs.Standing.{CanBe, CanComeTo, CanStand, IsAt, IsGivenUp, IsInRange, IsRegular, MayGoOn, MayStand, MayStandLater, Stands, StandsLater, all_give_ups, past}

-- so many files past one that is past another
pub further : (first : ℕ) (n m m' : UnitNumber) (d e : ℕ)
    → 1 ≤ e → m ≡ past first n d → m'.file ≡ (m.file + e) % 256 → m'.ldu ≡ first → m' ≡ past first n (d + e)
further first n m m' d zero some is f l = absurd (omega (arith, some))
further first n m m' zero (suc e) some is f l =
    let same : m.file ≡ n.file = ap (λ (x : UnitNumber). x.file) is in
    let sum : suc e ≡ 0 + suc e = omega arith in
    subst (λ (k : ℕ). m' ≡ past first n k) sum
    (number_from m' (record { file = (n.file + suc e) % 256; ldu = first }) (omega (arith, f, same)) l)
further first n m m' (suc d) (suc e) some is f l =
    let same : m.file ≡ (n.file + suc d) % 256 = ap (λ (x : UnitNumber). x.file) is in
    let sum : suc (d + suc e) ≡ suc d + suc e = omega arith in
    subst (λ (k : ℕ). m' ≡ past first n k) sum
    (number_from m' (record { file = (n.file + suc (d + suc e)) % 256; ldu = first }) (omega (arith, f, same)) l)

-- ---- an attempt with a start word

-- at the number of the start word
pub at_stands : (first : ℕ) (s : Standing) (n m : UnitNumber) (g : ℕ) → IsAt n s → n ≡ m → s.give_ups ≤ g → Stands first s m g
at_stands first s n m g at same few =
    subst (λ (x : Bool). MayStand first s.known x s m g) (sym at.started)
    (subst (λ (o : Option UnitNumber). MayStand first o true s m g) (sym at.known) (at.since, sym same, few))

-- ---- with fewer files given up

fewer_by : (first : ℕ) (n : UnitNumber) (gave more least m_gave : ℕ) (m : UnitNumber)
    → gave ≤ more → MayGoOn first n more least m m_gave → MayGoOn first n gave least m m_gave
fewer_by first n gave more least g m few (d, low, is, all) = (d, low, is, omega (arith, all, few))

-- one that is at the same number with fewer files given up leaves no more out
pub fewer_stands : (first : ℕ) (n m : UnitNumber) (s t : Standing) (g : ℕ)
    → IsAt n s → IsAt n t → t.give_ups ≤ s.give_ups → Stands first s m g → Stands first t m g
fewer_stands first n m s t g at there few h =
    let old =
    subst (λ (x : Bool). MayStand first (Some n) x s m g) at.started
    (subst (λ (o : Option UnitNumber). MayStand first o s.is_started s m g) at.known h) in
    at_stands first t n m g there (sym old.1) (omega (arith, few, old.2))

pub fewer_later : (first : ℕ) (n m : UnitNumber) (s t : Standing) (g : ℕ)
    → IsAt n s → IsAt n t → t.give_ups ≤ s.give_ups → StandsLater first s m g → StandsLater first t m g
fewer_later first n m s t g at there few h =
    let old = subst (λ (o : Option UnitNumber). MayStandLater first o s m g) at.known h in
    let more = fewer_by first n t.give_ups s.give_ups (s.since + 1) g m few old in
    subst (λ (o : Option UnitNumber). MayStandLater first o t m g) (sym there.known)
    (subst (λ (k : ℕ). MayGoOn first n t.give_ups (k + 1) m g) (at.since ∙ sym there.since) more)

-- ---- that nothing is made up

-- at the number of a start word
pub at_can : (first : ℕ) (s : Standing) (n m : UnitNumber) (g : ℕ) → IsAt n s → CanStand first s m g → (m ≡ n) × (g ≡ s.give_ups)
at_can first s n m g at h =
    subst (λ (x : Bool). CanBe first (Some n) x s m g) at.started
    (subst (λ (o : Option UnitNumber). CanBe first o s.is_started s m g) at.known h)

pub at_regular : (first : ℕ) (s : Standing) (n : UnitNumber)
    → IsAt n s → n.file ≤ 255 → n.ldu ≤ first + 254 → s.give_ups ≤ 127 → IsRegular first s true
at_regular first s n at file ldu few = record {
  started = λ e. (at.since, refl);
  file = subst (λ (o : Option UnitNumber). IfSome o (λ x. x.file ≤ 255)) (sym at.known) file;
  loaded = λ e z. subst (λ (o : Option UnitNumber). IfSome o (λ x. x.ldu ≤ first + 254)) (sym at.known) ldu;
  few = omega (arith, at.since, few);
}

-- it is at the first number of some file, or comes from another one
pub can_first : (first : ℕ) (s : Standing) (m : UnitNumber) (g : ℕ)
    → s.known ≡ None → m.ldu ≡ first → all_give_ups s ≤ g → CanStand first s m g
can_first first s m g none ldu all = subst (λ (o : Option UnitNumber). CanBe first o s.is_started s m g) (sym none) (ldu, all)

pub come_first : (first : ℕ) (s : Standing) (m : UnitNumber) (g : ℕ)
    → s.known ≡ None → IsInRange first m g → m.ldu ≡ first → all_give_ups s + 1 ≤ g → CanComeTo first s m g
come_first first s m g none r ldu all =
    let file = r.file in
    let give_ups = r.give_ups in
    record {
      number = record { file = (m.file + 255) % 256; ldu = first };
      give_ups = g - 1;
      range = record { file = omega arith; ldu = omega arith; give_ups = omega (arith, give_ups) };
      stands = can_first first s (record { file = (m.file + 255) % 256; ldu = first }) (g - 1) none refl (omega (arith, all));
      files = 1;
      some = omega arith;
      file = omega (arith, file);
      ldu = ldu;
      all = omega (arith, all);
    }

-- it has come to a number that is known
module _ (first : ℕ) (s : Standing) (n : UnitNumber) (known : s.known ≡ Some n) (r : IsRegular first s true) where
  pub can_now : (b : Bool) → s.is_started ≡ b → CanBe first (Some n) b s (past first n s.since) (s.give_ups + s.since)
  can_now true e =
      let z = (r.started e).0 in
      (ap (past first n) z, omega (arith, z))
  can_now false e = (s.since, omega arith, refl, refl)

  pub range_now : (k : ℕ) → s.since ≡ k → IsInRange first (past first n k) (s.give_ups + s.since)
  range_now zero z = record {
    file = subst (λ (o : Option UnitNumber). IfSome o (λ x. x.file ≤ 255)) known r.file;
    ldu = subst (λ (o : Option UnitNumber). IfSome o (λ x. x.ldu ≤ first + 254)) known (r.loaded refl z);
    give_ups = r.few;
  }
  range_now (suc k) z = record { file = omega arith; ldu = omega arith; give_ups = r.few }

  file_now : (k d : ℕ) → k < suc d → (n.file + suc d) % 256 ≡ ((past first n k).file + (suc d - k)) % 256
  file_now zero d l = omega arith
  file_now (suc k) d l = omega (arith, l)

  pub come_known : (m : UnitNumber) (g d : ℕ) → s.since < d → m ≡ past first n d → g ≡ s.give_ups + d → CanComeTo first s m g
  come_known m g zero more is all = absurd (omega (arith, more))
  come_known m g (suc d) more is all = record {
    number = past first n s.since;
    give_ups = s.give_ups + s.since;
    range = range_now s.since refl;
    stands =
        subst (λ (o : Option UnitNumber). CanBe first o s.is_started s (past first n s.since) (s.give_ups + s.since)) (sym known)
        (can_now s.is_started refl);
    files = suc d - s.since;
    some = omega (arith, more);
    file = ap (λ (x : UnitNumber). x.file) is ∙ file_now s.since d more;
    ldu = ap (λ (x : UnitNumber). x.ldu) is;
    all = omega (arith, all, more);
  }

-- one file more is given up
pub given_up_from : (first : ℕ) (s b : Standing) (m : UnitNumber) (g : ℕ)
    → IsRegular first s true → b.known ≡ s.known → b.is_started ≡ false → b.give_ups ≡ s.give_ups → b.since ≡ s.since + 1
    → IsInRange first m g → CanStand first b m g → CanComeTo first s m g
given_up_from first s b m g r known started gave since range h =
    by s.known refl (subst (λ (o : Option UnitNumber). CanBe first o b.is_started b m g) known h)
  where
    by : (o : Option UnitNumber) → s.known ≡ o → CanBe first o b.is_started b m g → CanComeTo first s m g
    by None e (ldu, all) = come_first first s m g e range ldu (omega (arith, all, gave, since))
    by (Some n) e h =
        let k = subst (λ (x : Bool). CanBe first (Some n) x b m g) started h in
        come_known first s n e r m g k.0 (omega (arith, k.1, since)) k.2 (omega (arith, k.3, gave))

-- the standing of an attempt that begins a group so
pub begun_later : (first : ℕ) (s : Standing) (begin : Option (ℕ × Standing)) → IsRegular first s true → IsGivenUp s begin
    → IfSome begin
    (λ b. ((m : UnitNumber) (g : ℕ) → IsInRange first m g → CanStand first b.1 m g → CanComeTo first s m g) × IsRegular first b.1 true)
begun_later first s None r h = tt
begun_later first s (Some b) r h =
    let i = h.some in
    let since = i.4 in (
      (λ m g range k. given_up_from first s b.1 m g r i.1 i.2 i.3 since range k),
      record {
        started = λ e. absurd (cc (e, i.2));
        file = subst (λ (o : Option UnitNumber). IfSome o (λ n. n.file ≤ 255)) (sym i.1) r.file;
        loaded = λ e z. absurd (omega (arith, since, z));
        few = i.5;
      },
    )

-- the number of a later file's first link data unit is so many files past
pub number_past : (first : ℕ) (n k : UnitNumber) (d : ℕ)
    → d ≡ (n.file + (256 - k.file)) % 256 → (d ≡ 0 → ⊥) → n.file ≤ 255 → k.file ≤ 255 → n.ldu ≡ first → n ≡ past first k d
number_past first n k zero is some byte known ldu = absurd (some refl)
number_past first n k (suc d) is some byte known ldu =
    number_from n (record { file = (k.file + suc d) % 256; ldu = first }) (omega (arith, is, byte, known)) ldu

-- where a source that has no group may be
pub can_later : (first : ℕ) (s : Standing) (n m : UnitNumber) (g d : ℕ)
    → IsRegular first s false → s.known ≡ Some n → s.since ≤ d → m ≡ past first n d → g ≡ s.give_ups + d → CanStand first s m g
can_later first s n m g d r known low is all =
    subst (λ (o : Option UnitNumber). CanBe first o s.is_started s m g) (sym known) (by s.is_started refl)
  where
    by : (b : Bool) → s.is_started ≡ b → CanBe first (Some n) b s m g
    by false e = (d, low, is, all)
    by true e = let group = (r.started e).1 in absurd (cc group)

pub less : (a d : ℕ) → a ≤ d → (d ≡ a → ⊥) → a < d
less a d low other = elim (cases_order a d) [
  | inl same ↦ absurd (other (sym same))
  | inr (inl below) ↦ below
  | inr (inr above) ↦ absurd (omega (arith, low, above))
]
