-- Full data words, and that no other word has the form of one.
use Rattle.std.proofs.Common.{◌≡◌, ℕ, List, [], ◌∷◌, Option, Some, None, refl, sym, ap, ◌∙◌, subst, arith}
use Rattle.a429_word.specs.Word.{label_of, HasOddParity}
use Rattle.a429_word.specs.declared.bus.Bus.{Bus}
use Rattle.a429_word.specs.declared.bus.Bus.TheVariants as bus
use Rattle.a429_profile.specs.Profile.{Contents, IsProfile}
use Rattle.a429_profile.specs.declared.codes.Codes.{Codes}
use Rattle.a429_ldu.specs.declared.forms.Form.{Form}
use Rattle.a429_ldu.specs.declared.forms.Form.TheVariants.{Rts, Cts, Ack, Nak, Sot, Part, Eot}
use Rattle.a429_ldu.specs.Form.{Fields, fields_of, address_of, IsForm, form_of}
use Rattle.a429_ldu.specs.Sight.{form_in, full_in}
use Rattle.a429_ldu.specs.declared.sight.Sight.{Sight}
use Rattle.a429_ldu.proofs.FormFacts.{form_of-is}
use Rattle.a429_ldu.proofs.SightFacts.{IsFull, five, form_of-sight, seen_full_a}

-- a word of this form is one of bus A, has the type of full words, and is addressed to the sink
abbrev IsFullOn : Codes → Bus → ℕ → Type 0
IsFullOn c b w = (b ≡ bus.A) × ((fields_of w).kind ≡ c.full) × (HasOddParity w × (label_of w ≡ address_of c bus.A))

five_are_full : (c : Codes) (b : Bus) (w : ℕ) (semis : List ℕ)
    → (IsFullOn c b w → ⊥) → IsForm c b w (Part semis) → full_in (Some (Part semis)) ≡ None
five_are_full c b w [] other is = refl
five_are_full c b w (p ∷ []) other is = refl
five_are_full c b w (p ∷ q ∷ []) other is = refl
five_are_full c b w (p ∷ q ∷ r ∷ []) other is = refl
five_are_full c b w (p ∷ q ∷ r ∷ s ∷ []) other is = refl
five_are_full c b w (p ∷ q ∷ r ∷ s ∷ t ∷ []) other is =
    absurd (other (is.bus, ap (λ (f : Fields). f.kind) is.fields, (is.parity, is.label ∙ ap (address_of c) is.bus)))
five_are_full c b w (p ∷ q ∷ r ∷ s ∷ t ∷ u ∷ semis) other is = absurd (omega (arith, is.range.1))

other_form : (c : Codes) (b : Bus) (w : ℕ) (x : Form) → (IsFullOn c b w → ⊥) → IsForm c b w x → full_in (Some x) ≡ None
other_form c b w (Rts n) other is = refl
other_form c b w (Cts n) other is = refl
other_form c b w (Ack file ldu) other is = refl
other_form c b w (Nak bits) other is = refl
other_form c b w (Sot gfi file ldu) other is = refl
other_form c b w (Part semis) other is = five_are_full c b w semis other is
other_form c b w (Eot flags check) other is = refl

pub other_word : (p : Contents)
    → IsProfile p → (c : Codes) → c ≡ p.codes → (b : Bus) (w : ℕ) → (IsFullOn c b w → ⊥) → None ≡ full_in (form_of p.codes b w)
other_word p sound c codes b w other = by_form (form_of p.codes b w) refl
  where
    by_form : (o : Option Form) → form_of p.codes b w ≡ o → None ≡ full_in o
    by_form None e = refl
    by_form (Some x) e = sym (other_form p.codes b w x (subst (λ k. IsFullOn k b w → ⊥) codes other) ((form_of-is p sound b w x).0 e).1)

pub full_word : (p : Contents) (c : Codes) (b : Bus) (w : ℕ) (f : Fields)
    → IsFull p c b w f → b ≡ bus.A → Some (Part (five f)) ≡ full_in (form_of p.codes b w)
full_word p c b w f is e = ap (λ (s : Sight). full_in (form_in s)) (seen_full_a p c b w f is e) ∙ ap full_in (form_of-sight p.codes b w)

pub of_bus_a : (b : Bus) → (b ≡ bus.B → ⊥) → b ≡ bus.A
of_bus_a bus.A other = refl
of_bus_a bus.B other = absurd (other refl)
