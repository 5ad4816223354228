use Rattle.a429_explain.proofs.ScribeFacts.{load_written}
use Rattle.std.proofs.Common.{refl}
use Rattle.a429_explain.proofs.scribe.Scribe.load.Goals as goal

pub returns-in-Ok-clause-written : goal.returns-in-Ok-clause-written
returns-in-Ok-clause-written c =
    load_written c.apply.result c.args.self.now (record (c.args.self.now) { link = c.apply.new.self; lines = c.put_load.new.self })
    c.args.unit c.requires c.apply.ensures.allowed c.apply.ensures.done refl c.in-Ok.ensures.ok c.in-Ok.ensures.held
