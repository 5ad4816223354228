-- What a word is, as its relation to forms says and as it is computed.
use Rattle.std.proofs.Common.{◌≡◌, ◌↔◌, ◌⊎◌, inl, inr, ℕ, ◌^◌, ◌/◌, ◌%◌, ◌<◌, Bool, true, false, cond, ◌||◌, nat_le, List, [], ◌∷◌, Contains, Option, Some, None, refl, sym, ap, ◌∙◌, subst, arith}
use Rattle.std.specs.Bool.{Decides}
use Rattle.std.proofs.lemmas.Bool.{lt-leb}
use Rattle.std.proofs.lemmas.Bool.Decides.{same_from_decides}
use Rattle.a429_word.specs.Word.{label_of, HasOddParity}
use Rattle.a429_word.specs.declared.bus.Bus.{Bus}
use Rattle.a429_word.specs.declared.bus.Bus.TheVariants as bus
use Rattle.a429_profile.specs.Profile.{Contents, IsProfile}
use Rattle.a429_profile.specs.declared.codes.Codes.{Codes}
use Rattle.a429_ldu.specs.declared.forms.Form.{Form}
use Rattle.a429_ldu.specs.declared.forms.Form.TheVariants.{Part}
use Rattle.a429_ldu.specs.declared.sight.Sight.{Sight}
use Rattle.a429_ldu.specs.declared.sight.Sight.TheVariants as sight
use Rattle.a429_ldu.specs.Form.{Fields, fields_of, address_of, IsForm, IsFree, is_free, form_on, form_of}
use Rattle.a429_ldu.specs.Sight.{sight_in, sight_of, form_in}
use Rattle.a429_ldu.specs.Semis.{five_of}
use Rattle.a429_ldu.specs.Carried.{semis_in}
use Rattle.a429_ldu.proofs.FormDistinct.{AreDistinct, distinct}
use Rattle.a429_ldu.proofs.FormTests.{yes}
use Rattle.a429_ldu.proofs.FormFree.{is_free-decides, form_not_free, full_not_free}
use Rattle.a429_ldu.proofs.FormFacts.{told_form, form_of-is, form_is_not_free}

-- its form, from what it is
form_in-sight_in : (o : Option Form) → form_in (sight_in o) ≡ o
form_in-sight_in (Some x) = refl
form_in-sight_in None = refl

pub form_of-sight : (c : Codes) (b : Bus) (w : ℕ) → form_in (sight_of c b w) ≡ form_of c b w
form_of-sight c b w = by_test (is_free c b w)
  where
    by_test : (t : Bool)
        → form_in (cond t sight.Free (sight_in (cond (t || nat_le (2 ^ 32) w) None (form_on c b (fields_of w)))))
        ≡ cond (t || nat_le (2 ^ 32) w) None (form_on c b (fields_of w))
    by_test true = refl
    by_test false = form_in-sight_in _

-- what `form` promises
pub record Sees (p : Contents) (b : Bus) (w : ℕ) (r : Sight) : Type 0 where
  pub free : (r ≡ sight.Free) ↔ IsFree p.codes b w
  pub found : (x : Form) → r ≡ sight.Form x → IsForm p.codes b w x
  pub only : (x : Form) → IsForm p.codes b w x → r ≡ sight.Form x
  pub computed : r ≡ sight_of p.codes b w

abbrev told : Bool → Option Form → Sight
told t o = cond t sight.Free (sight_in o)

told-free : (t : Bool) (o : Option Form) → told t o ≡ sight.Free → t ≡ true
told-free true o e = refl
told-free false (Some x) e = absurd (cc)
told-free false None e = absurd (cc)

told-form : (t : Bool) (o : Option Form) (x : Form) → told t o ≡ sight.Form x → o ≡ Some x
told-form true o x e = absurd (cc)
told-form false (Some y) x e = cc
told-form false None x e = absurd (cc)

pub sees : (p : Contents) → IsProfile p → (b : Bus) (w : ℕ) → Sees p b w (sight_of p.codes b w)
sees p is b w =
    let t = is_free p.codes b w in
    let o = form_of p.codes b w in
    let decides = is_free-decides p.codes b w in
    record {
      free = (λ e. decides.0 (told-free t o e), λ free. ap (λ u. told u o) (decides.1 free));
      found = λ x e. ((form_of-is p is b w x).0 (told-form t o x e)).1;
      only = λ x h. (
          let kept = form_is_not_free p is b w x h in
          let some = (form_of-is p is b w x).1 (kept, h) in
          ap (told t) some ∙ ap (λ u. told u (Some x)) (closed t (λ e. kept (decides.0 e))));
      computed = refl;
    }
  where
    closed : (t : Bool) → (t ≡ true → ⊥) → t ≡ false
    closed true h = absurd (h refl)
    closed false h = refl

pub sees_of : (p : Contents) → IsProfile p → (b : Bus) (w : ℕ) (c : Codes) (r : Sight) → c ≡ p.codes → r ≡ sight_of c b w → Sees p b w r
sees_of p is b w c r ec er = subst (λ (s : Sight). Sees p b w s) (sym (er ∙ ap (λ d. sight_of d b w) ec)) (sees p is b w)

-- a word is what the tests on it say
sight_tested : (c : Codes) (b : Bus) (w : ℕ) (f : Fields) (t : Bool)
    → w < 2 ^ 32 → fields_of w ≡ f → Decides t (IsFree c b w) → cond t sight.Free (sight_in (form_on c b f)) ≡ sight_of c b w
sight_tested c b w f t word fields decides =
    rw (← fields, ← same_from_decides (is_free c b w) t (is_free-decides c b w) decides) (by_test (is_free c b w))
  where
    by_test : (u : Bool) → told u (form_on c b (fields_of w)) ≡ told u (cond (u || nat_le (2 ^ 32) w) None (form_on c b (fields_of w)))
    by_test true = refl
    by_test false = rw (lt-leb (2 ^ 32) w word) refl

pub seen_free : (c : Codes) (b : Bus) (w : ℕ) (f : Fields) (t : Bool)
    → w < 2 ^ 32 → fields_of w ≡ f → Decides t (IsFree c b w) → t ≡ true → sight.Free ≡ sight_of c b w
seen_free c b w f t word fields decides e = sym (ap (λ u. told u (form_on c b f)) e) ∙ sight_tested c b w f t word fields decides

pub seen_told : (c : Codes) (b : Bus) (w : ℕ) (f : Fields) (t : Bool) (o : Option Form)
    → w < 2 ^ 32 → fields_of w ≡ f → Decides t (IsFree c b w) → t ≡ false → o ≡ form_on c b f → sight_in o ≡ sight_of c b w
seen_told c b w f t o word fields decides e eo =
    ap sight_in eo ∙ sym (ap (λ u. told u (form_on c b f)) e) ∙ sight_tested c b w f t word fields decides

pub form_of_kept : (c : Codes) (b : Bus) (w : ℕ) → w < 2 ^ 32 → is_free c b w ≡ false → form_of c b w ≡ form_on c b (fields_of w)
form_of_kept c b w word free = rw (free, lt-leb (2 ^ 32) w word) refl

-- a word of good parity with the label of its bus that has a form is not ignored
pub seen_form : (p : Contents) → IsProfile p → (c : Codes) → c ≡ p.codes → (b : Bus) (w : ℕ) (f : Fields) (x : Form)
    → HasOddParity w × (label_of w ≡ address_of c b) → w < 2 ^ 32 → fields_of w ≡ f → form_on c b f ≡ Some x → sight.Form x ≡ sight_of c b w
seen_form p is c ec b w f x at word fields e =
    let found = ap (form_on c b) fields ∙ e in
    let free = form_not_free c b w x (subst AreDistinct (sym ec) (distinct p is)) (told_form c b w x at word found) in
    ap sight_in (sym (form_of_kept c b w word free ∙ found)) ∙ sym (ap (λ u. told u (form_of c b w)) free)

-- ---- full words

-- the semi-octets of a full word
abbrev pub five : Fields → List ℕ
five f = f.lower % 16 ∷ f.lower / 16 ∷ f.middle % 16 ∷ f.middle / 16 ∷ f.upper ∷ []

full_on_a : (c : Codes) (f : Fields) → AreDistinct c → f.kind ≡ c.full → form_on c bus.A f ≡ Some (Part (five f))
full_on_a c f d kind = rw (kind, d.full_protocol, d.full_sot, d.full_eot, yes c.full) refl

full_on_b : (c : Codes) (f : Fields) → AreDistinct c → f.kind ≡ c.full → form_on c bus.B f ≡ None
full_on_b c f d kind = rw (kind, d.full_protocol) refl

-- what a full word says
pub record IsFull (p : Contents) (c : Codes) (b : Bus) (w : ℕ) (f : Fields) : Type 0 where
  pub profile : IsProfile p
  pub codes : c ≡ p.codes
  pub parity : HasOddParity w
  pub label : label_of w ≡ address_of c b
  pub word : w < 2 ^ 32
  pub fields : fields_of w ≡ f
  pub kind : f.kind ≡ c.full

full_distinct : (p : Contents) (c : Codes) (b : Bus) (w : ℕ) (f : Fields) → IsFull p c b w f → AreDistinct c
full_distinct p c b w f is = subst AreDistinct (sym is.codes) (distinct p is.profile)

full_free : (p : Contents) (c : Codes) (b : Bus) (w : ℕ) (f : Fields) → IsFull p c b w f → is_free c b w ≡ false
full_free p c b w f is = full_not_free c b w f (full_distinct p c b w f is) is.parity is.label is.fields is.kind

full_form_of : (p : Contents) (c : Codes) (b : Bus) (w : ℕ) (f : Fields) → IsFull p c b w f → form_of c b w ≡ form_on c b f
full_form_of p c b w f is = form_of_kept c b w is.word (full_free p c b w f is) ∙ ap (form_on c b) is.fields

full_sight : (p : Contents) (c : Codes) (b : Bus) (w : ℕ) (f : Fields) → IsFull p c b w f → sight_in (form_on c b f) ≡ sight_of p.codes b w
full_sight p c b w f is =
    ap sight_in (sym (full_form_of p c b w f is)) ∙ sym (ap (λ u. told u (form_of c b w)) (full_free p c b w f is))
    ∙ ap (λ k. sight_of k b w) is.codes

pub seen_full_a : (p : Contents) (c : Codes) (b : Bus) (w : ℕ) (f : Fields)
    → IsFull p c b w f → b ≡ bus.A → sight.Form (Part (five f)) ≡ sight_of p.codes b w
seen_full_a p c b w f is e =
    ap sight_in (sym (full_on_a c f (full_distinct p c b w f is) is.kind)) ∙ ap (λ a. sight_in (form_on c a f)) (sym e)
    ∙ full_sight p c b w f is

pub seen_full_b : (p : Contents) (c : Codes) (b : Bus) (w : ℕ) (f : Fields)
    → IsFull p c b w f → b ≡ bus.B → sight.NoForm ≡ sight_of p.codes b w
seen_full_b p c b w f is e =
    ap sight_in (sym (full_on_b c f (full_distinct p c b w f is) is.kind)) ∙ ap (λ a. sight_in (form_on c a f)) (sym e)
    ∙ full_sight p c b w f is

-- the semi-octets of a full word, from its bits 9 to 28
five-same : (n : ℕ) → n < 2 ^ 20 → five (record { kind = 0; upper = n / 65536; middle = n / 256 % 256; lower = n % 256 }) ≡ five_of n
five-same n h =
    let low : n % 256 % 16 ≡ n % 16 = omega arith in
    let second : n % 256 / 16 ≡ n / 16 % 16 = omega arith in
    let third : n / 256 % 256 % 16 ≡ n / 256 % 16 = omega arith in
    let fourth : n / 256 % 256 / 16 ≡ n / 4096 % 16 = omega arith in
    let last : n / 65536 ≡ n / 65536 % 16 = omega arith in
    rw (low, second, third, fourth, ← last) refl

pub full_semis : (p : Contents) (c : Codes) (w n : ℕ)
    → n < 2 ^ 20 → IsFull p c bus.A w (record { kind = c.full; upper = n / 65536; middle = n / 256 % 256; lower = n % 256 })
    → semis_in (form_of p.codes bus.A w) ≡ Some (five_of n)
full_semis p c w n h is =
    ap (λ k. semis_in (form_of k bus.A w)) (sym is.codes) ∙ ap semis_in (full_form_of p c bus.A w _ is)
    ∙ ap semis_in (full_on_a c _ (full_distinct p c bus.A w _ is) is.kind) ∙ ap Some (five-same n h)

-- ---- other words

-- a word of good parity with the label of its bus is free where its type or its code is ignored
abbrev pub IsIgnored : Codes → Fields → Type 0
IsIgnored c f = Contains c.ignored_types f.kind ⊎ ((f.kind ≡ c.protocol) × Contains c.ignored_codes f.upper)

pub ignored_free : (c : Codes) (b : Bus) (w : ℕ) (f : Fields) (t : Bool)
    → HasOddParity w × (label_of w ≡ address_of c b) → fields_of w ≡ f → Decides t (IsIgnored c f) → Decides t (IsFree c b w)
ignored_free c b w f t at fields decides =
    let here = subst (λ (g : Fields). Decides t (IsIgnored c g)) (sym fields) decides in (
      λ e. inr (inr (here.0 e)),
      λ free. elim free [
        | inl odd ↦ absurd (odd at.0)
        | inr (inl label) ↦ absurd (label at.1)
        | inr (inr ignored) ↦ here.1 ignored
      ],
    )
