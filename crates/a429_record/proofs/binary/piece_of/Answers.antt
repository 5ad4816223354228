use Rattle.std.proofs.Common.{rules}
use Rattle.a429_record.proofs.binary.piece_of.Goals as goal

pub returns : goal.returns
returns c = search rules
