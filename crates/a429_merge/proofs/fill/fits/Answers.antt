use Rattle.std.proofs.Common.{◌≡◌, ℕ, Option, Some, Vec, Global, option_map, sym, ap, ◌∙◌, subst}
use Rattle.std.proofs.lemmas.Bool.{eqb-true, eq-eqb}
use Rattle.a429_profile.specs.declared.codes.Check.{Check}
use Rattle.a429_ldu.specs.Carried.{bytes_carried}
use Rattle.a429_ldu.specs.CheckWord.{check_of}
use Rattle.a429_merge.specs.Fill.{Fits}
use Rattle.a429_merge.proofs.FillFacts.{fits_checked}
use Rattle.a429_merge.proofs.fill.fits.Goals as goal

pub returns-in-Some-wanted : goal.returns-in-Some-wanted
returns-in-Some-wanted c =
    let p = c.args.profile.now in
    let words = c.args.words.now in
    let bytes = c.in-Some.bytes.items in
    let k = c.in-Some-wanted.check in
    let carried : bytes_carried p.codes words ≡ Some bytes =
    sym c.in_ok-bytes.ensures.computed ∙ ap (option_map (λ (v : Vec ℕ Global). v.items)) c.in-Some.is in
    let made : c.check_word_by.result ≡ check_of p.check bytes = c.check_word_by.ensures
    ∙ ap (λ (r : Check). check_of r c.deref.result.now) c.check_tables.ensures ∙ ap (check_of p.check) c.deref.ensures.value in
    let both = fits_checked p words bytes k carried in (
      (λ h. subst (λ (o : Option ℕ). Fits p o words) (sym c.in-Some-wanted.is) (both.0 (eqb-true k c.check_word_by.result h ∙ made))),
      (λ f. eq-eqb k c.check_word_by.result (both.1 (subst (λ (o : Option ℕ). Fits p o words) c.in-Some-wanted.is f) ∙ sym made)),
    )
