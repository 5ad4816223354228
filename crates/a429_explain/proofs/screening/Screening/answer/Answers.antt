use Rattle.std.proofs.Common.{◌≡◌, ◌<◌, ◌-◌, length, get_or, slice_get, IfSome, sym, subst, arith}
use Rattle.a429_word.specs.Screening.{screened}
use Rattle.a429_explain.specs.Screening.{ScreenedEntries}
use Rattle.a429_explain.proofs.ScreeningFacts.{answer_at, first_answer}
use Rattle.a429_explain.proofs.screening.Screening.answer.Goals as goal

pub returns-then-at-self-lt-SCREENED-clause-answer : goal.returns-then-at-self-lt-SCREENED-clause-answer
returns-then-at-self-lt-SCREENED-clause-answer c =
    let s = c.self.inside in
    let at = c.args.at in
    let inside : at < length s.entries.now = subst (λ (v : ScreenedEntries). at < length v.entries) (sym c.self.view_is) c.requires in
    subst (λ (v : ScreenedEntries). IfSome (slice_get v.entries at) (λ e. get_or s.answers (at - s.from) 0 ≡ screened v.label e.word))
    c.self.view_is
    (answer_at s.label s.entries.now s.answers s.from at (omega (arith, c.if-self-at.true))
    (omega (arith, c.if-at-self-lt-SCREENED.true)) inside c.self.invariant)

pub returns-clause-answer : goal.returns-clause-answer
returns-clause-answer c =
    let s = c.self.inside in
    let at = c.args.at in
    let answers = c.answers_from-self-inside.result in
    let inside : at < length s.entries.now = subst (λ (v : ScreenedEntries). at < length v.entries) (sym c.self.view_is) c.requires in
    subst (λ (v : ScreenedEntries). IfSome (slice_get v.entries at) (λ e. get_or answers 0 0 ≡ screened v.label e.word)) c.self.view_is
    (first_answer s.label s.entries.now answers at inside c.answers_from-self-inside.ensures)
