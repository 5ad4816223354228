use Rattle.std.proofs.Common.{sym, arith}
use Rattle.a429_commands.proofs.MakeCounted.{words-one}
use Rattle.a429_commands.proofs.engines.make.words_of_file.Goals as goal

pub returns-clause-count : goal.returns-clause-count
returns-clause-count c =
    λ bytes size p file. rw (c.words_of_unit.ensures, c.words_of_unit-2.ensures)
    (words-one p file bytes c.args.len (sym size) (omega (arith, c.if-len-eq0.false)) (omega (arith, c.if-len.false)))
