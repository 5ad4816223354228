use Rattle.std.proofs.Common.{◌∙◌, sym}
use Rattle.a429_word.proofs.CountFacts.{counted_yes}
use Rattle.a429_side.proofs.counts.with.Goals as goal

pub returns-then-more : goal.returns-then-more
returns-then-more c =
    λ is lots lot few more h.
    counted_yes is lots lot c.saturating_add.result c.args.count (sym more ∙ c.if-more.true) c.saturating_add.ensures few h
