use Rattle.std.proofs.Common.{◌≡◌, ◌++◌, [], sym, ◌∙◌, refl, append-nil, arith}
use Rattle.a429_word.specs.Digits.{hex_text}
use Rattle.a429_word.proofs.SheetFacts.{◌▹◌, says_nothing}
use Rattle.a429_cert.specs.Field.{field}
use Rattle.a429_explain.specs.Note.{same_fields}
use Rattle.a429_explain.proofs.NoteFacts.{same_first}
use Rattle.a429_explain.proofs.note.put_words.Goals as goal

pub loop-left-init : goal.loop-left-init
loop-left-init g c = record { said = []; says = says_nothing _ c.args.sheet.now; to_go = refl }

pub loop-left-preserved : goal.loop-left-preserved
loop-left-preserved g c = record {
  said = c.loop-left.invariant.said ++ field (hex_text c.args.word);
  says = c.loop-left.invariant.says ▹ c.put_word.ensures;
  to_go =
      same_first c.loop-left.invariant.said
      (same_fields c.args.word c.args.times) c.args.word c.loop-left.left c.loop-left-test.true c.loop-left.invariant.to_go;
}

pub returns : goal.returns
returns g c =
    let none : c.loop-left.left ≡ 0 = omega (arith, c.loop-left-test.false) in
    let all = sym (append-nil c.loop-left.invariant.said) ∙ (rw none at c.loop-left.invariant.to_go) in
    rw all at c.loop-left.invariant.says
