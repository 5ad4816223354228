use Rattle.a429_import.proofs.LawFacts.{all_lines}
use Rattle.a429_import.proofs.laws.each_line_counts.Goals as goal

pub returns : goal.returns
returns c = all_lines
