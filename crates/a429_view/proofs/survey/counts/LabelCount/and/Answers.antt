use Rattle.std.proofs.Common.{refl}
use Rattle.a429_view.proofs.SurveyFacts.{label_more}
use Rattle.a429_view.proofs.survey.counts.LabelCount.and.Goals as goal

pub returns-then-even : goal.returns-then-even
returns-then-even c = λ xs x few is h.
    label_more c.args.self (record { count = c.saturating_add.result; even = c.saturating_add-then-even.result }) xs x
    c.saturating_add.ensures (λ _. c.saturating_add-then-even.ensures) (λ odd. absurd (cc (c.if-even.true, is, odd))) few h

pub returns-else-even : goal.returns-else-even
returns-else-even c = λ xs x few is h.
    label_more c.args.self (record { count = c.saturating_add.result; even = c.args.self.even }) xs x c.saturating_add.ensures
    (λ yes. absurd (cc (c.if-even.false, is, yes))) (λ _. refl) few h
