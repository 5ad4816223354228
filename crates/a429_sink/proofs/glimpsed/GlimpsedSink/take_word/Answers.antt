use Rattle.std.proofs.Common.{option_map, ◌∙◌}
use Rattle.a429_link.specs.Sink.{latest_number, number_in}
use Rattle.a429_sink.specs.Glimpsed.{assumed_at_end}
use Rattle.a429_sink.proofs.GlimpsedFacts.{word_taken}
use Rattle.a429_sink.proofs.glimpsed.GlimpsedSink.take_word.Goals as goal
use Rattle.a429_sink.proofs.glimpsed.GlimpsedSink.take_word.Goals.{in-Eot, in_default}

pub returns-clause-follows : goal.returns-clause-follows
returns-clause-follows c =
    let p = c.args.profile.now in
    let s = c.args.self.now in
    elim c.match-form.branch [
      | in-Eot w ↦
          word_taken p c.args.word c.args.form.now (assumed_at_end (option_map latest_number s.last) (number_in s.implied.sink.phase)) s
          c.match-form.self _ (w.self-is ∙ w.assume_for_end.ensures) c.take_allowed.ensures c.requires.known c.requires.allowed
      | in_default w ↦
          word_taken p c.args.word c.args.form.now s.implied.sink.last s c.match-form.self _ w.self-is c.take_allowed.ensures
          c.requires.known c.requires.allowed
    ]
