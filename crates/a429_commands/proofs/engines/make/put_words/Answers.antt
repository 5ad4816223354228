use Rattle.std.proofs.lemmas.List.{take_all}
use Rattle.a429_word.proofs.SheetFacts.{◌▹◌}
use Rattle.a429_commands.proofs.MakeTimed.{lines-more}
use Rattle.a429_commands.proofs.engines.make.put_words.Goals as goal

pub loop-i-preserved : goal.loop-i-preserved
loop-i-preserved g c =
    rw (lines-more c.args.first c.args.words.now c.loop-i.i c.index-words-i.result c.loop-i-test.true c.index-words-i.is)
    (c.loop-i.invariant ▹ c.put_line.ensures)

pub returns : goal.returns
returns g c = rw (take_all c.loop-i.i c.args.words.now c.loop-i-test.false) at c.loop-i.invariant
