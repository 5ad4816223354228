use Rattle.a429_commands.proofs.engines.trace.TracingRelay.put.Goals as goal

pub put_steps-requires : goal.put_steps-requires
put_steps-requires g c = c.new-trace.ensures c.args.profile.now
