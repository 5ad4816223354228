use Rattle.a429_word.proofs.BcdDigits.{IsRead}
use Rattle.a429_word.proofs.word.Word.bcd_digits.Given as goal

abbrev pub invariant-loop-before : goal.invariant-loop-before
invariant-loop-before l = IsRead l.self l.before l.value
