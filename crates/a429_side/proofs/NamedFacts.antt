-- Which direction a word belongs to, by its type and its code.
use Rattle.std.proofs.Common.{◌≡◌, ℕ, Bool, true, false, cond, Option, Some, None, refl, sym, ap, ◌∙◌}
use Rattle.a429_word.specs.declared.bus.Bus.{Bus}
use Rattle.a429_word.specs.declared.bus.Bus.TheVariants as bus
use Rattle.a429_profile.specs.declared.codes.Codes.{Codes}
use Rattle.a429_profile.specs.Profile.{Contents, IsProfile}
use Rattle.a429_ldu.specs.declared.forms.Form.{Form}
use Rattle.a429_ldu.specs.declared.sight.Sight.TheVariants as sight
use Rattle.a429_ldu.specs.Form.{form_of, is_free}
use Rattle.a429_ldu.specs.Sight.{form_in, sight_in, sight_of}
use Rattle.a429_ldu.proofs.SightFacts.{form_of-sight}
use Rattle.a429_link.specs.declared.seen.Seen.{Seen}
use Rattle.a429_side.specs.declared.direction.Direction.{Direction}
use Rattle.a429_side.specs.declared.direction.Direction.TheVariants.{Free, Neither, Other, This}
use Rattle.a429_ldu.specs.Across.{mirrored, other_line}
use Rattle.a429_side.specs.Direction.{IsMirror, direction_in, turned}
use Rattle.a429_side.proofs.DirectionFacts.{apart, form_belongs, free_belongs}

-- ---- the direction, by tests

abbrev pub by_tests : Bool → Bool → Bool → Direction
by_tests theirs ours free = cond theirs Other (cond ours This (cond free Free Neither))

mirror_free : (c : Codes) (b : Bus) (w : ℕ) → is_free (mirrored c) (other_line b) w ≡ is_free c b w
mirror_free c bus.A w = refl
mirror_free c bus.B w = refl

-- a free word
free_by : (theirs ours free : Bool) → theirs ≡ false → ours ≡ false → free ≡ true → by_tests theirs ours free ≡ Free
free_by false false true e f g = refl
free_by true ours free e f g = absurd (cc e)
free_by false true free e f g = absurd (cc f)
free_by false false false e f g = absurd (cc g)

pub free_in : (c : Codes) (i : Seen) → is_free c i.bus i.word ≡ true → direction_in c i ≡ Free
free_in c i e = free_by _ _ _ (free_belongs (mirrored c) (turned i) (mirror_free c i.bus i.word ∙ e)) (free_belongs c i e) e

-- a word with a form
this_by : (theirs ours free : Bool) → (theirs ≡ true → ⊥) → ours ≡ true → by_tests theirs ours free ≡ This
this_by true ours free e f = absurd (e refl)
this_by false true free e f = refl
this_by false false free e f = absurd (cc f)

is_mirror : (c : Codes) → IsMirror c (mirrored c)
is_mirror c = record {
  to_sink = refl;
  to_source = refl;
  full = refl;
  partial = refl;
  protocol = refl;
  sot = refl;
  eot = refl;
  rts = refl;
  cts = refl;
  ack = refl;
  nak = refl;
  ignored_types = refl;
  ignored_codes = refl;
}

formed_in : (p : Contents) → IsProfile p → (i : Seen) (x : Form) → form_of p.codes i.bus i.word ≡ Some x → direction_in p.codes i ≡ This
formed_in p is i x e =
    let ours = form_belongs p.codes i x e in
    this_by _ _ _ (λ theirs. apart p (mirrored p.codes) is (is_mirror p.codes) i ours theirs) ours

-- ---- by what the word is

sight_free : (free : Bool) (o : Option Form) → cond free sight.Free (sight_in o) ≡ sight.Free → free ≡ true
sight_free true o e = refl
sight_free false None e = absurd (cc e)
sight_free false (Some x) e = absurd (cc e)

sight_formless : (free : Bool) (o : Option Form) → cond free sight.Free (sight_in o) ≡ sight.NoForm → free ≡ false
sight_formless false o e = refl
sight_formless true o e = absurd (cc e)

pub sees_free : (c : Codes) (i : Seen) → sight_of c i.bus i.word ≡ sight.Free → direction_in c i ≡ Free
sees_free c i e = free_in c i (sight_free _ _ e)

pub sees_form : (p : Contents)
    → IsProfile p → (i : Seen) (x : Form) → sight_of p.codes i.bus i.word ≡ sight.Form x → direction_in p.codes i ≡ This
sees_form p is i x e = formed_in p is i x (sym (form_of-sight p.codes i.bus i.word) ∙ ap form_in e)

pub sees_no_form : (c : Codes) (i : Seen) → sight_of c i.bus i.word ≡ sight.NoForm → is_free c i.bus i.word ≡ false
sees_no_form c i e = sight_formless _ _ e
