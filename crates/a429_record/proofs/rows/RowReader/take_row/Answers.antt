use Rattle.std.proofs.Common.{rules}
use Rattle.a429_record.proofs.rows.RowReader.take_row.Goals as goal

pub returns-then-is_full-clause-gives : goal.returns-then-is_full-clause-gives
returns-then-is_full-clause-gives c = search rules

pub returns-then-is_full-clause-entry : goal.returns-then-is_full-clause-entry
returns-then-is_full-clause-entry c = search rules

pub returns-then-entry-self-clause-gives : goal.returns-then-entry-self-clause-gives
returns-then-entry-self-clause-gives c = search rules

pub returns-in_default-clause-gives : goal.returns-in_default-clause-gives
returns-in_default-clause-gives c = search rules

pub returns-clause-gives : goal.returns-clause-gives
returns-clause-gives c = search rules

pub returns-clause-follows : goal.returns-clause-follows
returns-clause-follows c = search rules
