use Rattle.a429_record.proofs.WritingFacts.{entry_line, header_line}
use Rattle.a429_record.proofs.laws.lines_are_those_of_csv.Goals as goal

pub returns : goal.returns
returns c = record { header = header_line; entry = entry_line }
