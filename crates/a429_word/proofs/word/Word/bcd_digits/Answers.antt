use Rattle.std.proofs.Common.{arith}
use Rattle.a429_word.proofs.BcdDigits.{read-none, read-more}
use Rattle.a429_word.proofs.word.Word.bcd_digits.Goals as goal

pub loop-before-init : goal.loop-before-init
loop-before-init c = read-none c.args.self

pub loop-before-preserved : goal.loop-before-preserved
loop-before-preserved c =
    read-more c.args.self c.loop-before.before c.loop-before.value c.bcd_digit-digit.result c.loop-before.invariant
    c.bcd_digit-digit.ensures (omega arith)
