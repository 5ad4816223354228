-- Why a word is free, by tests on it.
use Rattle.std.proofs.Common.{◌≡◌, ◌≢◌, ◌↔◌, ℕ, ◌%◌, Bool, true, false, cond, not, ◌&&◌, ◌||◌, ◌==◌, Contains, Option, Some, None, refl, sym, subst}
use Rattle.std.specs.Bool.{Decides}
use Rattle.std.specs.List.{list_any}
use Rattle.std.proofs.lemmas.Bool.{eq-eqb}
use Rattle.std.proofs.lemmas.Bool.Decides.{Decides-eqb, Decides-and, same_from_decides}
use Rattle.a429_word.specs.Word.{number_at, label_of, count_of_ones, HasOddParity}
use Rattle.a429_word.specs.declared.bus.Bus.{Bus}
use Rattle.a429_profile.specs.declared.codes.Codes.{Codes}
use Rattle.a429_ldu.specs.declared.freedom.Freedom.{Freedom}
use Rattle.a429_ldu.specs.declared.freedom.Freedom.TheVariants.{BadParity, OtherLabel, IgnoredType, IgnoredCode}
use Rattle.a429_ldu.specs.Form.{Fields, fields_of, address_of, IsFree}
use Rattle.a429_ldu.specs.Freedom.{freedom_of}
use Rattle.a429_ldu.proofs.FormFree.{Decides-contains, is_free-decides}

-- the first of four tests that holds
abbrev first_of : Bool → Bool → Bool → Bool → Option Freedom
first_of parity label kind code =
    cond parity (Some BadParity) (cond label (Some OtherLabel) (cond kind (Some IgnoredType) (cond code (Some IgnoredCode) None)))

some_of : (parity label kind code : Bool) → first_of parity label kind code ≢ None ↔ ((parity || (label || (kind || code))) ≡ true)
some_of true label kind code = (λ h. refl, λ h e. absurd (cc))
some_of false true kind code = (λ h. refl, λ h e. absurd (cc))
some_of false false true code = (λ h. refl, λ h e. absurd (cc))
some_of false false false true = (λ h. refl, λ h e. absurd (cc))
some_of false false false false = (λ h. absurd (h refl), λ h. absurd (cc))

-- there is a reason exactly where a word is free
pub some_where_free : (c : Codes) (b : Bus) (w : ℕ) → freedom_of c b w ≢ None ↔ IsFree c b w
some_where_free c b w =
    let some =
    some_of (not (count_of_ones w % 2 == 1)) (not (label_of w == address_of c b)) (list_any (λ n. n == number_at w 29 3) c.ignored_types)
    (number_at w 29 3 == c.protocol && list_any (λ n. n == number_at w 25 4) c.ignored_codes) in
    let decides = is_free-decides c b w in
    (λ h. decides.0 (some.0 h), λ h. some.1 (decides.1 h))

-- ---- the reason, once the tests before it have found nothing

-- the tests on a word of odd parity with the label of its bus, whose numbers are these
pub record IsAddressed (c : Codes) (b : Bus) (w : ℕ) (f : Fields) : Type 0 where
  pub parity : HasOddParity w
  pub label : label_of w ≡ address_of c b
  pub fields : fields_of w ≡ f

-- whether its type or its code is ignored
abbrev IsOfType : Codes → Fields → Type 0
IsOfType c f = Contains c.ignored_types f.kind

abbrev IsOfCode : Codes → Fields → Type 0
IsOfCode c f = (f.kind ≡ c.protocol) × Contains c.ignored_codes f.upper

pub reason : (c : Codes) (b : Bus) (w : ℕ) (f : Fields) (kind code : Bool)
    → IsAddressed c b w f → Decides kind (IsOfType c f) → Decides code (IsOfCode c f)
    → cond kind (Some IgnoredType) (cond code (Some IgnoredCode) None) ≡ freedom_of c b w
reason c b w f kind code is types codes =
    let here = number_at w 29 3 in
    let upper = number_at w 25 4 in
    let of_type : (list_any (λ n. n == here) c.ignored_types) ≡ kind =
    same_from_decides _ kind (Decides-contains here c.ignored_types)
    (subst (λ (g : Fields). Decides kind (IsOfType c g)) (sym is.fields) types) in
    let of_code : (here == c.protocol && list_any (λ n. n == upper) c.ignored_codes) ≡ code =
    same_from_decides _ code (Decides-and _ _ (Decides-eqb here c.protocol) (Decides-contains upper c.ignored_codes))
    (subst (λ (g : Fields). Decides code (IsOfCode c g)) (sym is.fields) codes) in
    rw (eq-eqb (count_of_ones w % 2) 1 is.parity, eq-eqb (label_of w) (address_of c b) is.label, of_type, of_code) refl
