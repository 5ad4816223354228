use Rattle.std.proofs.Common.{◌≡◌, ◌++◌, ◌-◌, List, ℕ}
use Rattle.a429_word.specs.Sheet.{Says}
use Rattle.a429_explain.specs.Note.{rest_lines}
use Rattle.a429_explain.proofs.note.put_losses.Given as goal

abbrev pub invariant-loop-sent : goal.invariant-loop-sent
invariant-loop-sent g l = record {
  said : List ℕ;
  says : Says g.W.Write.contents l.fn.sheet l.sheet said;
  to_go : said ++ rest_lines l.at l.sent (l.end - l.sent) ≡ rest_lines l.at l.first (l.end - l.first);
}

abbrev pub decreases-loop-sent : goal.decreases-loop-sent
decreases-loop-sent g l = l.end - l.sent
