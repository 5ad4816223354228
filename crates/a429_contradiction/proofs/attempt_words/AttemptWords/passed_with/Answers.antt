use Rattle.std.proofs.Common.{◌≡◌, ◌∷◌, ◌++◌, [], Some, subst}
use Rattle.a429_contradiction.specs.SoFar.{IsPassedWith, WordsSoFar}
use Rattle.a429_contradiction.proofs.AttemptWordsFacts.{passed_known}
use Rattle.a429_contradiction.proofs.attempt_words.AttemptWords.passed_with.Goals as goal

pub returns-in-Some : goal.returns-in-Some
returns-in-Some c = λ block.
    let s = c.self.inside in
    subst (λ (v : WordsSoFar). v.block ≡ Some block → IsPassedWith (v.words ++ c.args.word ∷ []) c.passed_after.result block) c.self.view_is
    (passed_known s.is_known s.words.items s.block.items c.as_slice.result.now block c.args.word c.in-Some.passed s.passed
    c.passed_after.result c.self.invariant c.in-Some.is c.as_slice.ensures.value c.passed_after.ensures.some c.passed_after.ensures.none)
