use Rattle.std.proofs.Common.{List, subst}
use Rattle.a429_record.specs.declared.entry.Entry.{Entry}
use Rattle.a429_explain.specs.Screening.{AreAnswers}
use Rattle.a429_explain.proofs.ScreeningFacts.{window_is}
use Rattle.a429_explain.proofs.screening.answers_from.Goals as goal

pub returns : goal.returns
returns c =
    subst (λ (es : List Entry). AreAnswers c.args.label es c.screen_entries.result)
    (window_is c.args.entries.now c.args.from c.min.result c.min.ensures) c.screen_entries.ensures
