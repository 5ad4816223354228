use Rattle.std.proofs.Common.{ap, ◌∙◌, ◌++◌, List, ℕ, length}
use Rattle.a429_contradiction.proofs.AttemptWordsFacts.{passed_whole}
use Rattle.a429_contradiction.proofs.attempt_words.AttemptWords.keep.Goals as goal

pub invariant_of-self-2 : goal.invariant_of-self-2
invariant_of-self-2 c = λ is.
    passed_whole c.self.inside.words.items c.extend_from_slice.new.self.items _
    (c.in_ok-extend_from_slice.ensures.items ∙ ap (λ (l : List ℕ). l ++ c.deref.result.now) c.clear.ensures.items ∙ c.deref.ensures.value)
    (ap length c.as_slice.ensures.value)
