use Rattle.std.proofs.Common.{◌≡◌, arith, subst}
use Rattle.a429_word.specs.Sheet.{Says}
use Rattle.a429_word.proofs.SheetFacts.{◌▹◌, says_nothing}
use Rattle.a429_side.specs.Counts.{destination_lines}
use Rattle.a429_side.proofs.CountsFacts.{lines_more, lines_none}
use Rattle.a429_side.proofs.counts.put_destinations.Goals as goal

pub loop-code-init : goal.loop-code-init
loop-code-init g c = rw (lines_none c.args.counts.now) (says_nothing _ _)

pub loop-code-preserved : goal.loop-code-preserved
loop-code-preserved g c = rw (lines_more c.loop-code.code c.args.counts.now) (c.loop-code.invariant ▹ c.put_destination.ensures)

pub returns : goal.returns
returns g c =
    let all : c.loop-code.code ≡ 256 = omega (arith, c.loop-code-test.false, c.loop-code.auto.code-end) in
    subst (λ n. Says g.W.Write.contents c.args.sheet.now c.loop-code.sheet (destination_lines n c.args.counts.now)) all
    c.loop-code.invariant
