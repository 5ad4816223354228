-- The form that a word has in the other direction.
use Rattle.std.proofs.Common.{◌≡◌, ℕ, ◌<◌, ◌^◌, true, false, Bool, Option, refl, sym, ap, ◌∙◌}
use Rattle.a429_word.specs.declared.bus.Bus.{Bus}
use Rattle.a429_word.specs.declared.bus.Bus.TheVariants as bus
use Rattle.a429_profile.specs.declared.codes.Codes.{Codes}
use Rattle.a429_ldu.specs.declared.forms.Form.{Form}
use Rattle.a429_ldu.specs.Across.{across, form_across, other_line, with_destination}
use Rattle.a429_ldu.specs.Form.{Fields, IsFree, fields_of, form_on, is_free}
use Rattle.a429_ldu.proofs.FormFree.{is_free-decides}
use Rattle.a429_ldu.proofs.SightFacts.{form_of_kept}

-- a word is free in both directions or in none
free_across : (c : Codes) (b : Bus) (w : ℕ) → is_free (across c w) (other_line b) w ≡ is_free c b w
free_across c bus.A w = refl
free_across c bus.B w = refl

-- labels say nothing of the numbers
on_across : (c : Codes) (w : ℕ) (d : ℕ) (b : Bus) (f : Fields)
    → (fields_of w).middle ≡ d → form_on (with_destination d c) b f ≡ form_on (across c w) b f
on_across c w d bus.A f e = ap (λ (n : ℕ). form_on (with_destination n c) bus.A f) (sym e)
on_across c w d bus.B f e = ap (λ (n : ℕ). form_on (with_destination n c) bus.B f) (sym e)

pub some_across : (c : Codes) (b : Bus) (w : ℕ) (f : Fields) (o : Option Form)
    → w < 2 ^ 32 → (IsFree c b w → ⊥) → fields_of w ≡ f → o ≡ form_on (with_destination f.middle c) (other_line b) f → o ≡ form_across c b w
some_across c b w f o word kept fields e =
    e ∙ on_across c w f.middle (other_line b) f (ap (λ (g : Fields). g.middle) fields)
    ∙ ap (form_on (across c w) (other_line b)) (sym fields)
    ∙ sym (form_of_kept (across c w) (other_line b) w word
    (free_across c b w ∙ closed (is_free c b w) (λ t. kept ((is_free-decides c b w).0 t))))
  where
    closed : (t : Bool) → (t ≡ true → ⊥) → t ≡ false
    closed true h = absurd (h refl)
    closed false h = refl
