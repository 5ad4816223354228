use Rattle.std.proofs.Common.{◌≡◌, ◌++◌, List, ℕ}
use Rattle.a429_word.specs.Sheet.{Says}
use Rattle.a429_explain.specs.Note.{same_fields}
use Rattle.a429_explain.proofs.note.put_words.Given as goal

abbrev pub invariant-loop-left : goal.invariant-loop-left
invariant-loop-left g l = record {
  said : List ℕ;
  says : Says g.W.Write.contents l.fn.sheet l.sheet said;
  to_go : said ++ same_fields l.word l.left ≡ same_fields l.word l.times;
}

abbrev pub decreases-loop-left : goal.decreases-loop-left
decreases-loop-left g l = l.left
