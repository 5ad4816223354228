use Rattle.a429_word.proofs.SheetFacts.{◌▹◌}
use Rattle.a429_import.proofs.counts.put_counts.Goals as goal

pub returns : goal.returns
returns g c =
    c.put_count.ensures ▹ c.put_count-2.ensures ▹ c.put_count-3.ensures ▹ c.put_count-4.ensures
    ▹ c.put_some.ensures ▹ c.put_some-2.ensures ▹ c.put_some-3.ensures ▹ c.put_some-4.ensures ▹ c.put_some-5.ensures ▹ c.put_some-6.ensures
    ▹ c.put_some-7.ensures ▹ c.put_some-8.ensures ▹ c.put_some-9.ensures ▹ c.put_some-10.ensures
    ▹ c.put_turned.ensures ▹ c.put_turned-2.ensures ▹ c.put_lifted.ensures ▹ c.put_made.ensures
