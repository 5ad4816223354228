use Rattle.std.proofs.Common.{◌≡◌, ◌++◌, [], sym, ◌∙◌, refl, append-nil, arith}
use Rattle.a429_word.proofs.SheetFacts.{◌▹◌, says_nothing}
use Rattle.a429_explain.specs.Note.{likely_lines}
use Rattle.a429_explain.proofs.NextFacts.{likely_some}
use Rattle.a429_explain.proofs.note.put_likely.Goals as goal

pub loop-left-init : goal.loop-left-init
loop-left-init g c = record { said = []; says = says_nothing _ c.args.sheet.now; to_go = refl }

pub loop-left-preserved : goal.loop-left-preserved
loop-left-preserved g c = record {
  said = c.loop-left.invariant.said ++ likely_lines c.loop-left.line c.put_some-put.result.lines;
  says = c.loop-left.invariant.says ▹ c.put_some-put.ensures.text;
  to_go =
      likely_some c.loop-left.invariant.said (likely_lines c.args.first c.args.more) c.loop-left.line c.put_some-put.result.last
      c.loop-left.left c.put_some-put.result.lines c.put_some-put.ensures.few c.put_some-put.ensures.last c.loop-left.invariant.to_go;
}

pub returns : goal.returns
returns g c =
    let none : c.loop-left.left ≡ 0 = omega (arith, c.loop-left-test.false) in
    let all = sym (append-nil c.loop-left.invariant.said) ∙ (rw none at c.loop-left.invariant.to_go) in
    rw all at c.loop-left.invariant.says
