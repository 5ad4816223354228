use Rattle.std.proofs.Common.{◌∙◌}
use Rattle.a429_explain.proofs.FilledFacts.{data_next, data_heard}
use Rattle.a429_explain.proofs.filled.last_data.Goals as goal

pub loop-at-preserved : goal.loop-at-preserved
loop-at-preserved c = record {
  exact = c.loop-at.invariant.exact
      ∙ data_next c.args.decoded.now.profile.codes c.args.decoded.now.items c.loop-at.at c.args.group.to c.word.result c.loop-at.last
      c.take.new.self c.loop-at-test.true c.word.ensures.is c.in_ok-take.ensures;
  sound =
      data_heard c.args.decoded.now.profile c.profile-profile.ensures.sound c.args.decoded.now.items c.loop-at.at c.word.result
      c.loop-at.last c.take.new.self c.word.ensures.is c.in_ok-take.ensures c.loop-at.invariant.sound;
}
