use Rattle.std.proofs.Common.{◌∙◌, ◌++◌, ◌∷◌, [], ap, sym}
use Rattle.a429_c.proofs.MakeFacts.{entry_at, timed-more}
use Rattle.a429_c.proofs.make.entries_of.Goals as goal

pub loop-i-preserved : goal.loop-i-preserved
loop-i-preserved c =
    let i = c.loop-i.i in
    let seen = c.index-words-i.result in
    c.in_ok-push.ensures.items ∙ ap (λ es. es ++ entry_at i seen ∷ []) c.loop-i.invariant
    ∙ sym (timed-more c.args.words.now i seen c.loop-i-test.true c.index-words-i.is)
