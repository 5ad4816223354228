use Rattle.a429_explain.proofs.note.put_word.Goals as goal

pub returns : goal.returns
returns g c = rw c.word_field.ensures at c.put.ensures
