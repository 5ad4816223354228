use Rattle.a429_word.proofs.SheetFacts.{says_both}
use Rattle.a429_view.proofs.LineFacts.{◌▹◌}
use Rattle.a429_view.proofs.trace.text.put_refused.Goals as goal

pub returns : goal.returns
returns g c =
    let text = c.add_form_or_other.ensures ▹ c.put.ensures ▹ c.add_next.ensures ▹ c.put-2.ensures in
    says_both c.put_head.ensures (rw (c.as_slice.ensures, text.added, c.new-line.ensures) at c.put-3.ensures)
