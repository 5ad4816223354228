use Rattle.std.proofs.Common.{◌≡◌, ◌<◌, length, arith}
use Rattle.std.proofs.lemmas.Bool.Decides.{nat_tests}
use Rattle.std.proofs.lemmas.List.{take_rest}
use Rattle.a429_import.proofs.FieldsFacts.{no_word, word_here}
use Rattle.a429_import.proofs.fields.first_word.Goals as goal

pub returns-then-is_empty-clause-none : goal.returns-then-is_empty-clause-none
returns-then-is_empty-clause-none c =
    let none : length c.without_first_blanks-text.result.now ≡ 0 = grind (arith, nat_tests) in
    no_word c.args.text.now c.without_first_blanks-text.result.now c.without_first_blanks-text.ensures none

pub returns-clause-some : goal.returns-clause-some
returns-clause-some c =
    let rest = c.without_first_blanks-text.result.now in
    let some : 0 < length c.without_first_blanks-text.result.now = grind (arith, nat_tests) in
    rw (take_rest rest c.word_end-end.result, c.word_end-end.ensures.length)
    (word_here c.args.text.now rest c.without_first_blanks-text.ensures some)
