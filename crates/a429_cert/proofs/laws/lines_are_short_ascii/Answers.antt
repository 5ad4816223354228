use Rattle.a429_cert.proofs.LineShape.{line-visible, line-short}
use Rattle.a429_cert.proofs.laws.lines_are_short_ascii.Goals as goal

pub returns : goal.returns
returns c = record { ascii = line-visible; short = line-short }
