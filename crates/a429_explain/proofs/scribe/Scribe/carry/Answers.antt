use Rattle.std.proofs.Common.{refl}
use Rattle.a429_explain.proofs.ScribeFacts.{carry_written}
use Rattle.a429_explain.proofs.scribe.Scribe.carry.Goals as goal

pub returns-in-Ok-clause-written : goal.returns-in-Ok-clause-written
returns-in-Ok-clause-written c =
    carry_written c.args.self.now (record (c.args.self.now) { link = c.carry.new.self; lines = c.put_word_lines.new.self }) c.args.next
    c.requires c.carry.ensures.done refl c.in-Ok.ensures
