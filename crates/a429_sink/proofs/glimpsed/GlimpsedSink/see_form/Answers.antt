use Rattle.a429_sink.proofs.glimpsed.GlimpsedSink.see_form.Goals as goal

pub returns-then-not-self-clause-follows : goal.returns-then-not-self-clause-follows
returns-then-not-self-clause-follows c = c.begin.ensures.follows c.args.seen.word
