use Rattle.a429_view.proofs.BlockFilesFacts.{rows_are_delivered, rows_are_files}
use Rattle.a429_view.proofs.laws.acknowledged_rows_name_the_files.Goals as goal

pub returns : goal.returns
returns c = record { sink = rows_are_files; run = rows_are_delivered }
