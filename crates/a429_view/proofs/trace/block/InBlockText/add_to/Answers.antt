use Rattle.a429_view.proofs.LineFacts.{◌▹◌}
use Rattle.a429_view.proofs.trace.block.InBlockText.add_to.Goals as goal

pub returns : goal.returns
returns c =
    let block = c.renew.new.self in
    let start = rw (c.renew.ensures.file, c.renew.ensures.ldu) at block.before_is in
    let end = rw c.renew.ensures.asked at block.after_is in
    rw (start, end) at (c.put_short.ensures ▹ c.put_count.ensures ▹ c.put_short-2.ensures)
