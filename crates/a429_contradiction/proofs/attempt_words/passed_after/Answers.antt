use Rattle.std.proofs.Common.{◌≡◌, sym, ◌∙◌, get_or}
use Rattle.std.proofs.lemmas.Bool.{eqb-true}
use Rattle.std.proofs.lemmas.List.{get_or_read}
use Rattle.a429_contradiction.proofs.AttemptWordsFacts.{found}
use Rattle.a429_contradiction.proofs.attempt_words.passed_after.Goals as goal

pub returns-then-eq-clause-some : goal.returns-then-eq-clause-some
returns-then-eq-clause-some c =
    let ws = c.args.words.now in
    let n = c.loop-at.at in
    let same : get_or ws n 0 ≡ c.args.word = sym (get_or_read ws n c.index-words-at.result c.loop-at-test.true c.index-words-at.is 0)
    ∙ eqb-true c.index-words-at.result c.args.word (sym c.eq.ensures ∙ c.if-eq.true) in
    found c.args.word ws c.args.passed n c.loop-at-test.true same c.loop-at.invariant
