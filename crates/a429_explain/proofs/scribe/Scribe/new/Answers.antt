use Rattle.std.proofs.Common.{arith}
use Rattle.a429_explain.proofs.ScribeFacts.{written_first}
use Rattle.a429_explain.proofs.scribe.Scribe.new.Goals as goal

pub returns-clause-written : goal.returns-clause-written
returns-clause-written c =
    written_first c.args.first_file c.args.profile.now c.new.result c.start.result
    (omega (arith, c.ranges.first_file.fits)) c.new.ensures c.start.ensures.begins
