use Rattle.std.proofs.Common.{Some, IfOk, sym, subst}
use Rattle.std.proofs.lemmas.Result.{IfOk-weaker}
use Rattle.a429_word.specs.declared.bus.Bus.{Bus}
use Rattle.a429_sink.specs.Glimpsed.{FollowsForm}
use Rattle.a429_sink.proofs.glimpsed.GlimpsedSink.take.Goals as goal

pub returns-in-B-clause-follows : goal.returns-in-B-clause-follows
returns-in-B-clause-follows c =
    subst (λ (b : Bus). IfOk c.take_answer.result
    (FollowsForm c.args.profile.now b c.args.seen.word (Some c.args.form.now) c.args.self.now c.take_answer.new.self))
    (sym c.in-B.is)
    (IfOk-weaker c.take_answer.result _ _ (λ said h. h c.args.seen.word) c.take_answer.ensures.follows)
