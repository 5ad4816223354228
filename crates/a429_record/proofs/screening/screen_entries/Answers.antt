use Rattle.std.proofs.Common.{arith, rules}
use Rattle.a429_record.proofs.ScreeningFacts.{words-more, answers-are}
use Rattle.a429_record.proofs.screening.screen_entries.Goals as goal

pub loop-i-preserved : goal.loop-i-preserved
loop-i-preserved c = (
  search rules,
  words-more c.args.entries.now c.loop-i.words c.loop-i.i c.to_u32.result c.index-entries-i.result c.loop-i-test.true
      (omega arith) c.to_u32.ensures c.loop-i.invariant.1,
)

pub returns : goal.returns
returns c =
    answers-are c.args.label c.args.entries.now c.loop-i.words c.screen.new.out _ c.loop-i.i
    (omega arith) c.loop-i.invariant.1 c.screen.ensures
