use Rattle.a429_explain.specs.Note.{number_in}
use Rattle.a429_explain.proofs.note.ShortWord.number.Goals as goal

pub returns : goal.returns
unfolding number_in
returns c = c.from_le_bytes.ensures
