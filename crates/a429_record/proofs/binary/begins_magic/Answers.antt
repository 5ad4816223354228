use Rattle.std.proofs.Common.{rules}
use Rattle.a429_record.proofs.binary.begins_magic.Goals as goal

pub returns : goal.returns
returns c = search rules
