use Rattle.a429_parts.proofs.KeptFacts.{left_out, put_in}
use Rattle.a429_parts.proofs.laws.free_words_change_nothing.Goals as goal

pub returns : goal.returns
returns c = record { left_out = left_out; put_in = put_in }
