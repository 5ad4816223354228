use Rattle.a429_ldu.specs.Filling.{data_words}
use Rattle.a429_ldu.proofs.FillingWords.{two_more, most_left}
use Rattle.a429_ldu.proofs.filling.data_words.Goals as goal

pub loop-rest-preserved : goal.loop-rest-preserved
loop-rest-preserved c = record {
  words =
      two_more c.args.profile.now.codes c.loop-rest.words.items c.push.new.self.items c.push-in-len5-up.new.self.items c.loop-rest.rest.now
      c.two_words.result (data_words c.args.profile.now.codes c.args.bytes.now) c.index-two_words-0.result c.index-two_words-1.result
      c.in-len5-up.len_at_least (c.two_words.ensures c.args.profile.now.codes c.full_frame-frame.ensures.value) c.in_ok-push.ensures.items
      c.in_ok-push-2.ensures.items c.loop-rest.invariant.words;
  most = most_left c.loop-rest.rest.now c.loop-rest.invariant.most;
}
