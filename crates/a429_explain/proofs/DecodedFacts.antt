-- What was decoded of a recording, word by word.
use Rattle.std.proofs.Common.{None, Some, IfSome, slice_get, drop, ◌≡◌, ℕ, zero, suc, ◌+◌, List, [], ◌∷◌, Option, refl, ap, sym, ◌∙◌, arith}
use Rattle.a429_profile.specs.declared.codes.Codes.{Codes}
use Rattle.a429_profile.specs.Profile.{Contents, IsProfile}
use Rattle.a429_ldu.specs.declared.forms.Form.{Form}
use Rattle.a429_ldu.specs.declared.sight.Sight.{Sight}
use Rattle.a429_ldu.specs.Form.{IsInRange, form_of}
use Rattle.a429_ldu.specs.Sight.{form_in}
use Rattle.a429_ldu.proofs.SightFacts.{form_of-sight}
use Rattle.a429_ldu.proofs.FormFacts.{form_of-is}
use Rattle.a429_word.specs.declared.bus.Bus.{Bus}
use Rattle.a429_link.specs.declared.seen.Seen.{Seen}
use Rattle.a429_explain.specs.declared.decoded.DecodedWord.{DecodedWord}
use Rattle.a429_explain.specs.Decoded.{sight_at, IsHeardAt, forms_of}

-- ---- the form of a word

pub heard_here : (c : Codes) (items : List Seen) (n : ℕ) (i : Seen) (s : Sight) (o : Option Form) → slice_get items n ≡ Some i
    → s ≡ sight_at c (slice_get items n) → o ≡ form_in s → IsHeardAt c items n (record { word = i.word; form = o })
heard_here c items n i s o is said form = record {
  item = i;
  is = is;
  form_is = sym (form_of-sight c i.bus i.word) ∙ sym (form ∙ ap form_in (said ∙ ap (sight_at c) is));
  word_is = refl;
}

-- its numbers are in their ranges
pub formed_range : (p : Contents) → IsProfile p → (b : Bus) (w : ℕ) (o : Option Form) → o ≡ form_of p.codes b w → IfSome o IsInRange
formed_range p is b w None e = tt
formed_range p is b w (Some x) e = ((form_of-is p is b w x).0 (sym e)).1.range

pub heard_range : (p : Contents)
    → IsProfile p → (items : List Seen) (n : ℕ) (h : DecodedWord) → IsHeardAt p.codes items n h → IfSome h.form IsInRange
heard_range p is items n h k = formed_range p is k.item.bus k.item.word h.form (sym k.form_is)

-- ---- the forms of all words

-- those from a word on
pub forms_from : (c : Codes) (items : List Seen) (n : ℕ) (h : DecodedWord)
    → IsHeardAt c items n h → drop n (forms_of c items) ≡ h.form ∷ drop (n + 1) (forms_of c items)
forms_from c items n h k =
    let one : n + 1 ≡ suc n = omega arith in
    rw one (by items n k.is)
  where
    by : (items : List Seen) (n : ℕ)
        → slice_get items n ≡ Some k.item → drop n (forms_of c items) ≡ h.form ∷ drop (suc n) (forms_of c items)
    by [] n e = absurd (cc e)
    by (i ∷ items) zero e = ap (λ (x : Option Form). x ∷ forms_of c items) (ap (λ (o : Option Seen). form_at o) e ∙ k.form_is)
      where
        form_at : Option Seen → Option Form
        form_at None = None
        form_at (Some j) = form_of c j.bus j.word
    by (i ∷ items) (suc n) e = by items n e
