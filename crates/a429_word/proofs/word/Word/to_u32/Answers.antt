use Rattle.std.proofs.Common.{rules}
use Rattle.a429_word.proofs.word.Word.to_u32.Goals as goal

pub returns : goal.returns
returns c = search rules
