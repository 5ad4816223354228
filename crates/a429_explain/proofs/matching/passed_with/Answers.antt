use Rattle.std.proofs.Common.{ℕ, ◌<◌, sym, subst, ◌∙◌}
use Rattle.a429_ldu.specs.Ldu.{count_of}
use Rattle.a429_explain.specs.Matching.{is_word}
use Rattle.a429_explain.proofs.MatchingFacts.{passed_on}
use Rattle.a429_explain.proofs.matching.passed_with.Goals as goal

pub loop-k-preserved : goal.loop-k-preserved
loop-k-preserved c =
    let inside : c.loop-k.k < count_of c.args.unit.now = subst (λ (n : ℕ). c.loop-k.k < n) c.count-k-end.ensures.value c.loop-k-test.true in
    c.loop-k.invariant ∙ passed_on (is_word c.args.profile.now.codes c.args.unit.now c.args.place c.args.word) c.loop-k.k
    (count_of c.args.unit.now) inside (sym c.is_word.ensures ∙ c.if-is_word.false)
