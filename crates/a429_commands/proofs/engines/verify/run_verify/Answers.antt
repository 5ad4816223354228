use Rattle.a429_commands.proofs.engines.verify.run_verify.Goals as goal

pub returns : goal.returns
returns g c = c.run_extract.ensures.ends
