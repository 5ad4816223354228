use Rattle.std.proofs.Common.{◌≡◌, ◌++◌, List, ℕ}
use Rattle.a429_word.specs.Sheet.{Says}
use Rattle.a429_explain.specs.Note.{likely_lines}
use Rattle.a429_explain.proofs.note.put_likely.Given as goal

abbrev pub invariant-loop-left : goal.invariant-loop-left
invariant-loop-left g l = record {
  said : List ℕ;
  says : Says g.W.Write.contents l.fn.sheet l.sheet said;
  to_go : said ++ likely_lines l.line l.left ≡ likely_lines l.fn.first l.more;
}

abbrev pub decreases-loop-left : goal.decreases-loop-left
decreases-loop-left g l = l.left
