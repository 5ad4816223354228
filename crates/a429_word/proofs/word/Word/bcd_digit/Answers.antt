use Rattle.std.proofs.Common.{arith}
use Rattle.std.proofs.lemmas.Bool.Decides.{nat_tests}
use Rattle.a429_word.proofs.BcdDigits.{digit-first, digit-more}
use Rattle.a429_word.proofs.word.Word.bcd_digit.Goals as goal
use Rattle.a429_word.proofs.word.Word.bcd_digit.Goals.{then-place-eq1, else-place-eq1}

pub returns : goal.returns
returns c =
    let i = c.args.place in
    let n = c.to_u32.result in
    rw (← c.to_u32.ensures) (elim c.if-place-eq1.branch [
      | then-place-eq1 w ↦ rw w.mask-is (digit-first n i w.if-place-eq1.true)
      | else-place-eq1 w ↦ rw w.mask-is (digit-more n i (omega arith) (grind (arith, nat_tests)))
    ])
