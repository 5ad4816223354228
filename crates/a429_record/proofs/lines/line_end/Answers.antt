use Rattle.a429_record.proofs.LinesFacts.{end_found, no_end}
use Rattle.a429_record.proofs.lines.line_end.Goals as goal

pub returns : goal.returns
returns c = record {
  found = end_found c.args.bytes.now c.memchr.result c.memchr.ensures;
  none = no_end c.args.bytes.now c.memchr.result c.memchr.ensures;
}
