use Rattle.std.proofs.Common.{◌≡◌, arith, subst}
use Rattle.a429_word.specs.Sheet.{Says}
use Rattle.a429_word.proofs.SheetFacts.{◌▹◌, says_nothing}
use Rattle.a429_view.specs.Survey.{counted_labels}
use Rattle.a429_view.proofs.SurveyFacts.{counted_none, counted_more}
use Rattle.a429_view.proofs.survey.text.put_labels.Goals as goal

pub loop-label-init : goal.loop-label-init
loop-label-init g c = rw (counted_none c.args.bus c.args.count.now.labels) (says_nothing _ _)

pub loop-label-preserved : goal.loop-label-preserved
loop-label-preserved g c =
    rw (counted_more c.args.bus c.loop-label.label c.args.count.now.labels)
    (c.loop-label.invariant ▹ (rw c.label.ensures at c.put_label.ensures))

pub returns : goal.returns
returns g c =
    let all : c.loop-label.label ≡ 256 = omega (arith, c.loop-label-test.false, c.loop-label.auto.label-end) in
    subst (λ n. Says g.W.Write.contents c.args.sheet.now c.loop-label.sheet (counted_labels c.args.bus n c.args.count.now.labels)) all
    c.loop-label.invariant
