use Rattle.std.proofs.Common.{arith}
use Rattle.a429_view.proofs.LineFacts.{within}
use Rattle.a429_view.proofs.line.Line.put_count.Goals as goal

pub returns-then-count-lt256 : goal.returns-then-count-lt256
returns-then-count-lt256 c = within 20 c.put_byte.ensures (omega arith)
