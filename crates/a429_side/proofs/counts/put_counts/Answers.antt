use Rattle.a429_word.proofs.SheetFacts.{◌▹◌}
use Rattle.a429_side.proofs.counts.put_counts.Goals as goal

pub returns : goal.returns
returns g c = c.put_count.ensures ▹ c.put_count-2.ensures ▹ c.put_count-3.ensures ▹ c.put_count-4.ensures ▹ c.put_destinations.ensures
    ▹ c.put_renamed.ensures
