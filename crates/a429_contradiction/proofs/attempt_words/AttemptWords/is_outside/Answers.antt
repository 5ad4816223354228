use Rattle.std.proofs.Common.{◌≡◌, ◌↔◌, ◌∷◌, ◌++◌, [], ◌∙◌, Bool, List, ℕ, Option, Some, None, IsTrue, if◌then◌else◌, sym, ap, subst}
use Rattle.a429_link.specs.Contradiction.{AreOther}
use Rattle.a429_contradiction.specs.SoFar.{WordsSoFar}
use Rattle.a429_contradiction.proofs.AttemptWordsFacts.{is_outside}
use Rattle.a429_contradiction.proofs.attempt_words.AttemptWords.is_outside.Goals as goal

pub returns-then-self : goal.returns-then-self
returns-then-self c =
    let s = c.self.inside in
    let block : c.args.self.now.block ≡ Some s.block.items =
    sym (ap (λ (v : WordsSoFar). v.block) c.self.view_is) ∙ ap (λ (t : Bool). if t then Some s.block.items else None) c.if-self.true in
    subst (λ (o : Option (List ℕ)). IsTrue c.is_none.result ↔ AreOther (c.args.self.now.words ++ c.args.word ∷ []) o) (sym block)
    (is_outside c.passed_with.result c.is_none.result (c.args.self.now.words ++ c.args.word ∷ []) s.block.items
    (c.passed_with.ensures s.block.items block) c.is_none.ensures)
