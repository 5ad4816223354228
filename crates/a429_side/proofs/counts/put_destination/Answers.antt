use Rattle.a429_word.proofs.SheetFacts.{◌▹◌}
use Rattle.a429_side.proofs.CountsFacts.{some_line}
use Rattle.a429_side.proofs.counts.put_destination.Goals as goal

pub returns : goal.returns
returns g c =
    rw (some_line c.args.code c.args.count c.if-count-eq0.false)
    (c.put.ensures ▹ c.put_code.ensures ▹ c.put-2.ensures ▹ c.put_number.ensures ▹ c.put-3.ensures ▹ c.put_number-2.ensures
    ▹ c.put-4.ensures)
