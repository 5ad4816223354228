use Rattle.a429_view.proofs.LineFacts.{◌▹◌}
use Rattle.a429_view.proofs.trace.text.add_words.Goals as goal

pub returns : goal.returns
returns c = c.put_count.ensures ▹ c.put.ensures ▹ c.put_byte.ensures ▹ c.put-2.ensures
