use Rattle.a429_parts.proofs.PartRuns.{first_part, next_part}
use Rattle.a429_parts.proofs.laws.each_part_has_a_run.Goals as goal

pub returns : goal.returns
returns c = record { first = first_part; next = next_part }
