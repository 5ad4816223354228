use Rattle.std.proofs.Common.{◌∙◌}
use Rattle.a429_word.proofs.SheetFacts.{◌▹◌}
use Rattle.a429_view.proofs.labels.put_entry.Goals as goal

pub returns : goal.returns
returns g c =
    let name = rw (c.as_bytes.ensures.value ∙ c.as_str.ensures) at c.put-3.ensures in
    c.put_address.ensures ▹ c.put.ensures ▹ c.put_kind.ensures ▹ c.put-2.ensures ▹ name ▹ c.put-4.ensures
