use Rattle.std.proofs.Common.{◌≡◌, ◌∷◌, ℕ, List, Option, IfSome, refl, sym, ap, ◌∙◌, subst}
use Rattle.a429_merge.specs.Fill.{Fits, IsFilled, rest_filled}
use Rattle.a429_merge.proofs.FillFacts.{word_before, filled}
use Rattle.a429_merge.proofs.fill.fill.Goals as goal

pub returns-clause-some : goal.returns-clause-some
returns-clause-some c =
    let p = c.args.profile.now in
    let recorded = c.args.recorded.now in
    let count = c.args.wanted.count in
    let wanted = c.args.wanted.check in
    let w = c.in-Some.word in
    let rest : c.in_ok-rest.rest.items ≡ rest_filled p.codes count recorded = c.in_ok-rest.ensures in
    let fits : Fits p wanted (w ∷ c.deref.result.now) =
    subst (λ (o : Option ℕ). IfSome o (λ w. Fits p wanted (w ∷ c.deref.result.now))) c.in-Some.is c.in_ok-word.ensures.some in
    let fitting = subst (λ (l : List ℕ). Fits p wanted (w ∷ l)) (c.deref.ensures.value ∙ rest) fits in
    let words =
    word_before c.in_ok-words.words.items c.push.new.self.items c.extend_from_slice.new.self.items c.extend_from_slice.new.self.items
    c.deref-2.result.now w c.in_ok-words.ensures.items c.in_ok-push.ensures.items c.in_ok-extend_from_slice.ensures.items refl in
    subst (λ (l : List ℕ). IsFilled p count wanted recorded l) (sym (words ∙ ap (λ (l : List ℕ). w ∷ l) (c.deref-2.ensures.value ∙ rest)))
    (filled p wanted count w recorded c.requires fitting)
