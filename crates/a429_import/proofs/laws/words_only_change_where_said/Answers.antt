use Rattle.a429_import.proofs.WordsFacts.{row_words}
use Rattle.a429_import.proofs.laws.words_only_change_where_said.Goals as goal

pub returns : goal.returns
returns c = row_words
