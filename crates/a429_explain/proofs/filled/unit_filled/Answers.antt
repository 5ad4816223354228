use Rattle.std.proofs.Common.{◌≡◌, ℕ, IfOk, Some, ap, ◌∙◌, subst}
use Rattle.a429_profile.specs.declared.codes.Check.{Check}
use Rattle.a429_ldu.specs.CheckWord.{check_of}
use Rattle.a429_explain.specs.Whole.{ends_with, unit_made}
use Rattle.a429_explain.proofs.FilledFacts.{check_in}
use Rattle.a429_explain.proofs.filled.unit_filled.Goals as goal

pub returns-clause-exact : goal.returns-clause-exact
returns-clause-exact c =
    let carried = rw c.in-Some.is at c.in_ok-bytes.ensures.computed in
    let check = c.check_word_by.ensures ∙ ap (λ (k : Check). check_of k c.as_slice.result.now) c.check_tables.ensures
    ∙ ap (check_of c.args.profile.now.check) c.as_slice.ensures.value in
    subst (λ (k : ℕ).
    IfOk c.unit_with.result (λ found. found ≡ unit_made c.args.profile.now c.args.count (ends_with (Some c.args.gfi) 0 k) c.args.words.now))
    (check_in c.args.profile.now c.args.words.now c.in-Some.bytes.items c.check_word_by.result carried check) c.unit_with.ensures.made
