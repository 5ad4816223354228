use Rattle.std.proofs.Common.{◌++◌, arith}
use Rattle.a429_ldu.specs.Filling.{data_words}
use Rattle.a429_ldu.proofs.FillingDigits.{word_more, words_end}
use Rattle.a429_ldu.proofs.filling.add_words.Goals as goal

pub loop-at-preserved : goal.loop-at-preserved
loop-at-preserved c = record {
  words =
      word_more c.args.profile.now.codes c.args.bytes.now c.loop-at.words.items c.push.new.self.items c.semis_at.result
      (c.args.words.now.items ++ data_words c.args.profile.now.codes c.args.bytes.now) c.loop-at.at c.word_of.result c.loop-at-test.true
      c.semis_at.ensures c.word_of.ensures.number c.in_ok-push.ensures.items c.loop-at.invariant.words;
  at = omega arith;
}

pub returns : goal.returns
returns c =
    words_end c.args.profile.now.codes c.args.bytes.now c.loop-at.words.items
    (c.args.words.now.items ++ data_words c.args.profile.now.codes c.args.bytes.now) c.loop-at.at c.loop-at-test.false
    c.loop-at.invariant.words
