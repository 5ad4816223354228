use Rattle.std.proofs.Common.{rules}
use Rattle.a429_record.proofs.reading.Reading.next.Goals as goal

pub returns-in-Begins-clause-before : goal.returns-in-Begins-clause-before
returns-in-Begins-clause-before g c failed = rw c.in-Begins.is (c.first-answer.ensures.before failed)

pub returns-in-Failed-clause-gives : goal.returns-in-Failed-clause-gives
returns-in-Failed-clause-gives g c = search rules

pub returns-in-Failed-clause-answers : goal.returns-in-Failed-clause-answers
returns-in-Failed-clause-answers g c = search rules

pub returns-in-Failed-clause-stage : goal.returns-in-Failed-clause-stage
returns-in-Failed-clause-stage g c = search rules

pub returns-in-Rows-clause-gives : goal.returns-in-Rows-clause-gives
returns-in-Rows-clause-gives g c = search rules

pub returns-in-Rows-clause-format : goal.returns-in-Rows-clause-format
returns-in-Rows-clause-format g c = search rules

pub returns-in-Rows-clause-lines : goal.returns-in-Rows-clause-lines
returns-in-Rows-clause-lines g c = search rules

pub returns-in-Rows-clause-before : goal.returns-in-Rows-clause-before
returns-in-Rows-clause-before g c = search rules
