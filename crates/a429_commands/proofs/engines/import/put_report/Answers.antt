use Rattle.a429_word.proofs.SheetFacts.{says_both}
use Rattle.a429_commands.proofs.engines.import.put_report.Goals as goal

pub returns : goal.returns
returns g c =
    let said = rw c.as_slice.ensures.value at c.put_places.ensures in
    says_both said c.put_counts.ensures
