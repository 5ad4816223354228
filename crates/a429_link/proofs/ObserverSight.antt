-- What the observer allows, by what a word is.
use Rattle.std.proofs.Common.{◌≡◌, ◌↔◌, ◌⊎◌, ◌∙◌, Bool, true, false, cond, Option, Some, None, refl, sym, ap, subst, inl, inr}
use Rattle.a429_word.specs.declared.bus.Bus.{Bus}
use Rattle.a429_profile.specs.Profile.{Contents}
use Rattle.a429_ldu.specs.declared.forms.Form.{Form}
use Rattle.a429_ldu.specs.declared.sight.Sight.{Sight}
use Rattle.a429_ldu.specs.declared.sight.Sight.TheVariants as sight
use Rattle.a429_ldu.specs.Form.{is_free, form_of}
use Rattle.a429_ldu.specs.Sight.{sight_of, sight_in, form_in}
use Rattle.a429_ldu.proofs.SightFacts.{form_of-sight}
use Rattle.a429_link.specs.declared.seen.Seen.{Seen}
use Rattle.a429_link.specs.Observer.{Observer, Allows, AllowsForm, sees, sees_form}

-- a free word always, a word without form never, and another where its form is allowed
abbrev pub AllowsSight : Observer → Bus → Sight → Type 0
AllowsSight o b sight.Free = Unit {0}
AllowsSight o b sight.NoForm = ⊥
AllowsSight o b (sight.Form x) = AllowsForm o b (Some x)

pub allows_sight : (p : Contents) (o : Observer) (i : Seen) (s : Sight)
    → s ≡ sight_of p.codes i.bus i.word → Allows p o i ↔ AllowsSight o i.bus s
allows_sight p o i s e =
    subst (λ (q : Sight). Allows p o i ↔ AllowsSight o i.bus q) (sym e) (by (is_free p.codes i.bus i.word) (form_of p.codes i.bus i.word))
  where
    by : (t : Bool) (x : Option Form) → ((t ≡ true) ⊎ AllowsForm o i.bus x) ↔ AllowsSight o i.bus (cond t sight.Free (sight_in x))
    by true x = (λ a. tt, λ a. inl refl)
    by false None = (λ a. elim a [ inl f ↦ cc f | inr h ↦ h ], λ h. absurd h)
    by false (Some x) = (λ a. elim a [ inl f ↦ cc f | inr h ↦ h ], λ h. inr h)

-- a word that has a form is seen as it
pub sees_sight : (p : Contents) (o : Observer) (i : Seen) (s : Sight)
    → s ≡ sight_of p.codes i.bus i.word → sees p i o ≡ sees_form p i.bus i.word (form_in s) o
sees_sight p o i s e = ap (λ (x : Option Form). sees_form p i.bus i.word x o) (sym (ap form_in e ∙ form_of-sight p.codes i.bus i.word))
