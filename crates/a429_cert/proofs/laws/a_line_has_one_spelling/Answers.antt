use Rattle.a429_cert.proofs.ReadingFacts.{one-text, one-line}
use Rattle.a429_cert.proofs.laws.a_line_has_one_spelling.Goals as goal

pub returns : goal.returns
returns c = record { text = one-text; line = one-line }
