use Rattle.a429_view.proofs.ShowOneLine.{one_line, same_lines}
use Rattle.a429_view.proofs.laws.what_is_shown_has_one_text.Goals as goal

pub returns : goal.returns
returns c = record { line = one_line; text = same_lines }
